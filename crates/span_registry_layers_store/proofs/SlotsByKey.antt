-- What is written under a key leaves what stands under any other.
use Rattle.std.proofs.Common.{◌≡◌, ℕ, List, [], ◌∷◌, map, filter, Bool, true, false, ◌==◌, ◌&&◌, if◌then◌else◌, Option, Some, None, Result}
use Rattle.std.proofs.Common.{Ok, Err, refl, ap, sym, ◌∙◌, subst, arith}
use Rattle.std.proofs.lemmas.Bool.Decides.{nat_tests}
use Rattle.span_registry_layers_store.specs.SlotIndependence.{SameButKeys, SlotsKeepToTheirKey, keys_equal, own_slots}
use Rattle.span_registry_layers_store.specs.SlotCalls.{ChangesSlots, with_places, with_slots}
use Rattle.span_registry_layers_store.specs.Registries.{PlainSpan, RegistryValue, kin_in}
use Rattle.span_registry_layers_store.specs.Slots.{InsertGives, PlainPlace, PlainSlot, RemoveGives, ReplaceGives, inserted, is_at}
use Rattle.span_registry_layers_store.specs.Slots.{is_before, is_same_tag, put_by, slot_at, with_slot, without_slot}
use Rattle.span_registry_layers_store.specs.Spans.{changed, found}
use Rattle.span_registry_layers_store.specs.declared.slot.InsertError.{InsertError}
use Rattle.span_registry_layers_store.specs.declared.slot.InsertError.TheVariants.{Present, OutOfMemory, UnknownSpan}
use Rattle.span_registry_layers_store.specs.declared.slot.Slot.{Slot}
use Rattle.span_registry_layers_store.specs.declared.slot.Tag.{Tag}
use Rattle.span_registry_layers_store.proofs.SlotIndependence.{written_aside}

-- the slots under a key
abbrev own : ℕ → List PlainPlace → List PlainPlace
own key ps = filter (λ (p : PlainPlace). p.key == key) ps

both_true : (a b : Bool) → (a && b) ≡ true → a ≡ true
both_true true b e = refl
both_true false b e = absurd (cc)

other_key : (p key other : ℕ) → (p == key) ≡ true → (other == key) ≡ false → (p == other) ≡ false
other_key p key other is not = grind (arith, nat_tests, is, not)

no_other : (key other : ℕ) → (other == key) ≡ false → (key == other) ≡ false
no_other key other not = grind (arith, nat_tests, not)

-- a slot that isn't under the key counts for nothing there
passed_over : (b : Bool) (p : PlainPlace) (ps : List PlainPlace) → b ≡ false → (if b then p ∷ ps else ps) ≡ ps
passed_over true p ps e = absurd (cc)
passed_over false p ps e = refl

put_if : (b : Bool) (p : PlainPlace) (ps later : List PlainPlace) (key other : ℕ) (t : Tag) (slot : PlainSlot) → is_at key t p ≡ b →
    (other == key) ≡ false → own other later ≡ own other ps →
    own other (if b then (record p { slot = slot }) ∷ ps else p ∷ later) ≡ own other (p ∷ ps)
put_if true p ps later key other t slot is not same =
    let away = other_key p.key key other (both_true (p.key == key) (is_same_tag p.tag t) is) not in
    passed_over (p.key == other) (record p { slot = slot }) (own other ps) away ∙ sym (passed_over (p.key == other) p (own other ps) away)
put_if false p ps later key other t slot is not same = ap (λ (rest : List PlainPlace). if p.key == other then p ∷ rest else rest) same

put_other : (ps : List PlainPlace) (key other : ℕ) (t : Tag) (slot : PlainSlot) → (other == key) ≡ false →
    own other (with_slot ps key t slot) ≡ own other ps
put_other [] key other t slot not = refl
put_other (p ∷ ps) key other t slot not = put_if (is_at key t p) p ps (with_slot ps key t slot) key other t slot refl not
    (put_other ps key other t slot not)

new_if : (b : Bool) (n p : PlainPlace) (ps later : List PlainPlace) (other : ℕ) → (n.key == other) ≡ false →
    own other later ≡ own other ps → own other (if b then n ∷ p ∷ ps else p ∷ later) ≡ own other (p ∷ ps)
new_if true n p ps later other away same = passed_over (n.key == other) n (own other (p ∷ ps)) away
new_if false n p ps later other away same = ap (λ (rest : List PlainPlace). if p.key == other then p ∷ rest else rest) same

new_other : (n : PlainPlace) (ps : List PlainPlace) (other : ℕ) → (n.key == other) ≡ false → own other (inserted n ps) ≡ own other ps
new_other n [] other away = passed_over (n.key == other) n [] away
new_other n (p ∷ ps) other away = new_if (is_before n.key n.tag p) n p ps (inserted n ps) other away (new_other n ps other away)

either_other : (o : Option PlainSlot) (ps : List PlainPlace) (key other : ℕ) (t : Tag) (slot : PlainSlot) → (other == key) ≡ false →
    own other (put_by o ps key t slot) ≡ own other ps
either_other None ps key other t slot not = new_other (record { key = key; tag = t; slot = slot }) ps other (no_other key other not)
either_other (Some before) ps key other t slot not = put_other ps key other t slot not

taken_if : (b : Bool) (p : PlainPlace) (ps later : List PlainPlace) (key other : ℕ) (t : Tag) → is_at key t p ≡ b → (other == key) ≡ false →
    own other later ≡ own other ps → own other (if b then ps else p ∷ later) ≡ own other (p ∷ ps)
taken_if true p ps later key other t is not same =
    sym (passed_over (p.key == other) p (own other ps) (other_key p.key key other (both_true (p.key == key) (is_same_tag p.tag t) is) not))
taken_if false p ps later key other t is not same = ap (λ (rest : List PlainPlace). if p.key == other then p ∷ rest else rest) same

taken_other : (ps : List PlainPlace) (key other : ℕ) (t : Tag) → (other == key) ≡ false → own other (without_slot ps key t) ≡ own other ps
taken_other [] key other t not = refl
taken_other (p ∷ ps) key other t not = taken_if (is_at key t p) p ps (without_slot ps key t) key other t refl not
    (taken_other ps key other t not)

-- other slots of a span, which are the same under a key
written_if : (b : Bool) (key : ℕ) (places : List PlainPlace) (x s : PlainSpan) (xs later : List PlainSpan) (o : Option PlainSpan) →
    (if b then Some x else o) ≡ Some s → own key places ≡ own key s.slots →
    (o ≡ Some s → map (own_slots key) later ≡ map (own_slots key) xs) →
    map (own_slots key) (if b then with_places places x ∷ xs else x ∷ later) ≡ map (own_slots key) (x ∷ xs)
written_if true key places x s xs later o is same rest =
    let one : x ≡ s = cc in
    ap (λ (slots : List PlainPlace). record x { slots = slots } ∷ map (own_slots key) xs)
    (same ∙ ap (λ (z : PlainSpan). own key z.slots) (sym one))
written_if false key places x s xs later o is same rest = ap (λ (ss : List PlainSpan). own_slots key x ∷ ss) (rest is)

written_spans : (key : ℕ) (places : List PlainPlace) (xs : List PlainSpan) (id : ℕ) (s : PlainSpan) → found kin_in xs id ≡ Some s →
    own key places ≡ own key s.slots → map (own_slots key) (changed kin_in (with_places places) xs id) ≡ map (own_slots key) xs
written_spans key places [] id s is same = refl
written_spans key places (x ∷ xs) id s is same =
    written_if (x.kin.id == id) key places x s xs (changed kin_in (with_places places) xs id) (found kin_in xs id) is same
    (λ there. written_spans key places xs id s there same)

-- slots of a span are written that are the same under all keys but some
pub written_under : (x : RegistryValue) (id : ℕ) (keys : ℕ → Bool) (s : PlainSpan) (places : List PlainPlace) →
    found kin_in x.spans id ≡ Some s → ((key : ℕ) → keys key ≡ false → own key places ≡ own key s.slots) →
    SameButKeys keys x (with_slots x id places)
written_under x id keys s places is same = (
  written_aside x id places,
  λ key none. ap (λ (ss : List PlainSpan). record x { spans = ss })
      (written_spans key places x.spans id s is (same key none)),
)

pub insert_keeps : (ps qs : List PlainPlace) (key other : ℕ) (t : Tag) (slot : PlainSlot) (r : Result (Unit {0}) InsertError) →
    (other == key) ≡ false → InsertGives ps key t slot r qs → own other qs ≡ own other ps
insert_keeps ps qs key other t slot (Ok done) not w = ap (own other) w.1 ∙ new_other (record { key = key; tag = t; slot = slot }) ps other
    (no_other key other not)
insert_keeps ps qs key other t slot (Err (Present back)) not w = ap (own other) w.2
insert_keeps ps qs key other t slot (Err (OutOfMemory back)) not w = ap (own other) w.2
insert_keeps ps qs key other t slot (Err (UnknownSpan back)) not w = absurd w

pub replace_keeps : (ps qs : List PlainPlace) (key other : ℕ) (t : Tag) (slot : PlainSlot) (r : Result (Option Slot) Slot) →
    (other == key) ≡ false → ReplaceGives ps key t slot r qs → own other qs ≡ own other ps
replace_keeps ps qs key other t slot (Ok before) not w = ap (own other) w.1 ∙ either_other (slot_at ps key t) ps key other t slot not
replace_keeps ps qs key other t slot (Err back) not w = ap (own other) w.2

pub remove_keeps : (ps qs : List PlainPlace) (key other : ℕ) (t : Tag) (r : Option Slot) → (other == key) ≡ false →
    RemoveGives ps key t r qs → own other qs ≡ own other ps
remove_keeps ps qs key other t r not w = ap (own other) w.1 ∙ taken_other ps key other t not

-- a call on the slots of a span, where it is open
kept_by : {R : Type 0} (o : Option PlainSpan) (x : RegistryValue) (id : ℕ) (keys : ℕ → Bool) (gives : List PlainPlace → R →
    List PlainPlace → Type 0) (refuses : R → Type 0) (r : R) (y : RegistryValue) → found kin_in x.spans id ≡ o →
    ((ps qs : List PlainPlace) (key : ℕ) → keys key ≡ false → gives ps r qs → own key qs ≡ own key ps) →
    ChangesSlots o x id gives refuses r y → SameButKeys keys x y
kept_by None x id keys gives refuses r y is f w = keys_equal keys x y w.1
kept_by (Some s) x id keys gives refuses r y is f w =
    subst (SameButKeys keys x) (sym w.2) (written_under x id keys s w.0 is (λ key none. f s.slots w.0 key none w.1))

pub keeps_to_key : SlotsKeepToTheirKey
keeps_to_key x y id key t = record {
  inserted = λ slot r w. kept_by (found kin_in x.spans id) x id (λ k. k == key) _ _ r y refl
      (λ ps qs other not given. insert_keeps ps qs key other t slot r not given) w;
  replaced = λ slot r w. kept_by (found kin_in x.spans id) x id (λ k. k == key) _ _ r y refl
      (λ ps qs other not given. replace_keeps ps qs key other t slot r not given) w;
  removed = λ r w. kept_by (found kin_in x.spans id) x id (λ k. k == key) _ _ r y refl
      (λ ps qs other not given. remove_keeps ps qs key other t r not given) w;
}
