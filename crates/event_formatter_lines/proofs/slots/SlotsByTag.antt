-- The slots of one output, as calls on slots leave them.
use Rattle.std.proofs.Common.{◌≡◌, ℕ, ◌==◌, List, [], ◌∷◌, filter, not, Bool, true, false, ◌&&◌, if◌then◌else◌, Option, Some, None, Result}
use Rattle.std.proofs.Common.{Ok, Err, is_ok, is_some, refl, ap, sym, ◌∙◌, arith}
use Rattle.std.proofs.lemmas.Bool.Decides.{nat_tests}
use Rattle.std.specs.Option.{option_map}
use Rattle.span_registry_layers_store.specs.Slots.{AreInOrder, PlainPlace, PlainSlot, Text, Words, RemoveGives, ReplaceGives, inserted}
use Rattle.span_registry_layers_store.specs.Slots.{is_at, is_before, is_same_tag, plain_slot, put_by, put_slot, rank, slot_at, with_slot}
use Rattle.span_registry_layers_store.specs.Slots.{without_slot}
use Rattle.span_registry_layers_store.specs.declared.slot.Slot.{Slot}
use Rattle.span_registry_layers_store.specs.declared.slot.Tag.{Tag}
use Rattle.span_registry_layers_store.specs.declared.slot.Tag.TheVariants as tag
use Rattle.event_formatter_lines.proofs.slots.DistinctSlots.{none_behind}
use Rattle.event_formatter_lines.specs.slots.SlotsByTag.{Puts, SlotsByTag, TakesText, TakesWords, by_tag, slot_under, with_under}
use Rattle.event_formatter_lines.specs.slots.FieldsAndTimings.{text_by, words_by}

-- two tags are one
same_key : (a : ℕ) → (a == a) ≡ true
same_key a = grind (arith, nat_tests)

same_tag : (t : Tag) → is_same_tag t t ≡ true
same_tag tag.Text = refl
same_tag tag.Timings = refl
same_tag tag.Number = refl
same_tag tag.Words = refl

not_twice : (a b c : ℕ) → (a == b) ≡ true → (b == c) ≡ false → (a == c) ≡ false
not_twice a b c e f = grind (arith, nat_tests, e, f)

not_both : (a b c : Bool) → (a && b) ≡ true → (b ≡ true → c ≡ false) → (a && c) ≡ false
not_both true true c e f = f refl
not_both true false c e f = absurd (cc)
not_both false b c e f = refl

-- a slot under another tag is another
module _ (key : ℕ) (t u : Tag) (apart : is_same_tag t u ≡ false) where
  away : (p : PlainPlace) → is_at key t p ≡ true → is_at key u p ≡ false
  away p e = not_both (p.key == key) (is_same_tag p.tag t) (is_same_tag p.tag u) e
      (λ same. not_twice (rank p.tag) (rank t) (rank u) same apart)

  new_away : (s : PlainSlot) → is_at key u (record { key = key; tag = t; slot = s }) ≡ false
  new_away s = rw (same_key key) apart

  with_other_if : (b : Bool) (p : PlainPlace) (s : PlainSlot) (ps later : List PlainPlace) → is_at key t p ≡ b →
      slot_at later key u ≡ slot_at ps key u →
      slot_at (if b then (record p { slot = s }) ∷ ps else p ∷ later) key u ≡ slot_at (p ∷ ps) key u
  with_other_if true p s ps later e same = rw (away p e) refl
  with_other_if false p s ps later e same = ap (λ o. if is_at key u p then Some p.slot else o) same

  with_other : (ps : List PlainPlace) (s : PlainSlot) → slot_at (with_slot ps key t s) key u ≡ slot_at ps key u
  with_other [] s = refl
  with_other (p ∷ ps) s = with_other_if (is_at key t p) p s ps (with_slot ps key t s) refl (with_other ps s)

  new_other_if : (b : Bool) (p : PlainPlace) (s : PlainSlot) (ps later : List PlainPlace) → slot_at later key u ≡ slot_at ps key u →
      slot_at (if b then (record { key = key; tag = t; slot = s }) ∷ p ∷ ps else p ∷ later) key u ≡ slot_at (p ∷ ps) key u
  new_other_if true p s ps later same = rw (new_away s) refl
  new_other_if false p s ps later same = ap (λ o. if is_at key u p then Some p.slot else o) same

  new_other : (ps : List PlainPlace) (s : PlainSlot) → slot_at (inserted (record { key = key; tag = t; slot = s }) ps) key u ≡ slot_at ps
      key u
  new_other [] s = rw (new_away s) refl
  new_other (p ∷ ps) s = new_other_if (is_before key t p) p s ps (inserted (record { key = key; tag = t; slot = s }) ps) (new_other ps s)

  put_other_by : (o : Option PlainSlot) (ps : List PlainPlace) (s : PlainSlot) → slot_at (put_by o ps key t s) key u ≡ slot_at ps key u
  put_other_by None ps s = new_other ps s
  put_other_by (Some before) ps s = with_other ps s

  put_other : (ps : List PlainPlace) (s : PlainSlot) → slot_at (put_slot ps key t s) key u ≡ slot_at ps key u
  put_other ps s = put_other_by (slot_at ps key t) ps s

  without_other_if : (b : Bool) (p : PlainPlace) (ps later : List PlainPlace) → is_at key t p ≡ b → slot_at later key u ≡ slot_at ps key u →
      slot_at (if b then ps else p ∷ later) key u ≡ slot_at (p ∷ ps) key u
  without_other_if true p ps later e same = rw (away p e) refl
  without_other_if false p ps later e same = ap (λ o. if is_at key u p then Some p.slot else o) same

  without_other : (ps : List PlainPlace) → slot_at (without_slot ps key t) key u ≡ slot_at ps key u
  without_other [] = refl
  without_other (p ∷ ps) = without_other_if (is_at key t p) p ps (without_slot ps key t) refl (without_other ps)

-- the slot itself
module _ (key : ℕ) (t : Tag) where
  with_same_if : (b : Bool) (p : PlainPlace) (s before : PlainSlot) (ps later : List PlainPlace) → is_at key t p ≡ b →
      (if b then Some p.slot else slot_at ps key t) ≡ Some before → (slot_at ps key t ≡ Some before → slot_at later key t ≡ Some s) →
      slot_at (if b then (record p { slot = s }) ∷ ps else p ∷ later) key t ≡ Some s
  with_same_if true p s before ps later e there rest = rw e refl
  with_same_if false p s before ps later e there rest = rw e (rest there)

  with_same : (ps : List PlainPlace) (s before : PlainSlot) → slot_at ps key t ≡ Some before → slot_at (with_slot ps key t s) key t ≡ Some s
  with_same [] s before there = absurd (cc)
  with_same (p ∷ ps) s before there = with_same_if (is_at key t p) p s before ps (with_slot ps key t s) refl there (with_same ps s before)

  new_there : (s : PlainSlot) → is_at key t (record { key = key; tag = t; slot = s }) ≡ true
  new_there s = rw (same_key key) (same_tag t)

  not_at : (b : Bool) (s : PlainSlot) (o : Option PlainSlot) → (if b then Some s else o) ≡ None → (b ≡ false) × (o ≡ None)
  not_at true s o e = absurd (cc)
  not_at false s o e = (refl, e)

  new_same_if : (b : Bool) (p : PlainPlace) (s : PlainSlot) (ps later : List PlainPlace) → is_at key t p ≡ false →
      slot_at later key t ≡ Some s →
      slot_at (if b then (record { key = key; tag = t; slot = s }) ∷ p ∷ ps else p ∷ later) key t ≡ Some s
  new_same_if true p s ps later e same = rw (new_there s) refl
  new_same_if false p s ps later e same = rw e same

  new_same : (ps : List PlainPlace) (s : PlainSlot) → slot_at ps key t ≡ None →
      slot_at (inserted (record { key = key; tag = t; slot = s }) ps) key t ≡ Some s
  new_same [] s none = rw (new_there s) refl
  new_same (p ∷ ps) s none =
      let both = not_at (is_at key t p) p.slot (slot_at ps key t) none in
      new_same_if (is_before key t p) p s ps (inserted (record { key = key; tag = t; slot = s }) ps) both.0 (new_same ps s both.1)

  put_same_by : (o : Option PlainSlot) (ps : List PlainPlace) (s : PlainSlot) → slot_at ps key t ≡ o →
      slot_at (put_by o ps key t s) key t ≡ Some s
  put_same_by None ps s none = new_same ps s none
  put_same_by (Some before) ps s there = with_same ps s before there

  put_same : (ps : List PlainPlace) (s : PlainSlot) → slot_at (put_slot ps key t s) key t ≡ Some s
  put_same ps s = put_same_by (slot_at ps key t) ps s refl

  without_same_if : (b : Bool) (p : PlainPlace) (ps later : List PlainPlace) → is_at key t p ≡ b → AreInOrder (p ∷ ps) →
      slot_at later key t ≡ None → slot_at (if b then ps else p ∷ later) key t ≡ None
  without_same_if true p ps later e order none = none_behind key t p ps e order
  without_same_if false p ps later e order none = rw e none

  without_same : (ps : List PlainPlace) → AreInOrder ps → slot_at (without_slot ps key t) key t ≡ None
  without_same [] order = refl
  without_same (p ∷ ps) order = without_same_if (is_at key t p) p ps (without_slot ps key t) refl order (without_same ps order.1)

-- the slots of others
abbrev others : ℕ → List PlainPlace → List PlainPlace
others key ps = filter (λ (p : PlainPlace). not (p.key == key)) ps

passed_over : (b : Bool) (p : PlainPlace) (ps : List PlainPlace) → b ≡ true → (if not b then p ∷ ps else ps) ≡ ps
passed_over true p ps e = refl
passed_over false p ps e = absurd (cc)

left_true : (a b : Bool) → (a && b) ≡ true → a ≡ true
left_true true b e = refl
left_true false b e = absurd (cc)

module _ (key : ℕ) (t : Tag) where
  own_key : (p : PlainPlace) → is_at key t p ≡ true → (p.key == key) ≡ true
  own_key p e = left_true (p.key == key) (is_same_tag p.tag t) e

  with_others_if : (b : Bool) (p : PlainPlace) (s : PlainSlot) (ps later : List PlainPlace) → is_at key t p ≡ b →
      others key later ≡ others key ps →
      others key (if b then (record p { slot = s }) ∷ ps else p ∷ later) ≡ others key (p ∷ ps)
  with_others_if true p s ps later e same =
      passed_over (p.key == key) (record p { slot = s }) (others key ps) (own_key p e) ∙
      sym (passed_over (p.key == key) p (others key ps) (own_key p e))
  with_others_if false p s ps later e same = ap (λ (rest : List PlainPlace). if not (p.key == key) then p ∷ rest else rest) same

  with_others : (ps : List PlainPlace) (s : PlainSlot) → others key (with_slot ps key t s) ≡ others key ps
  with_others [] s = refl
  with_others (p ∷ ps) s = with_others_if (is_at key t p) p s ps (with_slot ps key t s) refl (with_others ps s)

  new_others_if : (b : Bool) (p : PlainPlace) (s : PlainSlot) (ps later : List PlainPlace) → others key later ≡ others key ps →
      others key (if b then (record { key = key; tag = t; slot = s }) ∷ p ∷ ps else p ∷ later) ≡ others key (p ∷ ps)
  new_others_if true p s ps later same = passed_over (key == key) (record { key = key; tag = t; slot = s }) (others key (p ∷ ps))
      (same_key key)
  new_others_if false p s ps later same = ap (λ (rest : List PlainPlace). if not (p.key == key) then p ∷ rest else rest) same

  new_others : (ps : List PlainPlace) (s : PlainSlot) → others key (inserted (record { key = key; tag = t; slot = s }) ps) ≡ others key ps
  new_others [] s = passed_over (key == key) (record { key = key; tag = t; slot = s }) [] (same_key key)
  new_others (p ∷ ps) s = new_others_if (is_before key t p) p s ps (inserted (record { key = key; tag = t; slot = s }) ps) (new_others ps s)

  put_others_by : (o : Option PlainSlot) (ps : List PlainPlace) (s : PlainSlot) → others key (put_by o ps key t s) ≡ others key ps
  put_others_by None ps s = new_others ps s
  put_others_by (Some before) ps s = with_others ps s

  put_others : (ps : List PlainPlace) (s : PlainSlot) → others key (put_slot ps key t s) ≡ others key ps
  put_others ps s = put_others_by (slot_at ps key t) ps s

  without_others_if : (b : Bool) (p : PlainPlace) (ps later : List PlainPlace) → is_at key t p ≡ b → others key later ≡ others key ps →
      others key (if b then ps else p ∷ later) ≡ others key (p ∷ ps)
  without_others_if true p ps later e same = sym (passed_over (p.key == key) p (others key ps) (own_key p e))
  without_others_if false p ps later e same = ap (λ (rest : List PlainPlace). if not (p.key == key) then p ∷ rest else rest) same

  without_others : (ps : List PlainPlace) → others key (without_slot ps key t) ≡ others key ps
  without_others [] = refl
  without_others (p ∷ ps) = without_others_if (is_at key t p) p ps (without_slot ps key t) refl (without_others ps)

-- all of them at once
abbrev slots_of : Option PlainSlot → Option PlainSlot → Option PlainSlot → Option PlainSlot → List PlainPlace → SlotsByTag
slots_of a b c d e = record { text = a; timings = b; number = c; words = d; others = e }

fields_same : (a a' b b' c c' d d' : Option PlainSlot) (e e' : List PlainPlace) → a ≡ a' → b ≡ b' → c ≡ c' → d ≡ d' → e ≡ e' →
    slots_of a b c d e ≡ slots_of a' b' c' d' e'
fields_same a a' b b' c c' d d' e e' p q r s u =
    ap (λ (v : Option PlainSlot). slots_of v b c d e) p
    ∙ ap (λ (v : Option PlainSlot). slots_of a' v c d e) q
    ∙ ap (λ (v : Option PlainSlot). slots_of a' b' v d e) r
    ∙ ap (λ (v : Option PlainSlot). slots_of a' b' c' v e) s
    ∙ ap (λ (v : List PlainPlace). slots_of a' b' c' d' v) u

pub put_by_tag : (key : ℕ) (t : Tag) (ps : List PlainPlace) (s : PlainSlot) →
    by_tag key (put_slot ps key t s) ≡ with_under t (Some s) (by_tag key ps)
unfolding by_tag
put_by_tag key tag.Text ps s =
    fields_same _ _ _ _ _ _ _ _ _ _ (put_same key tag.Text ps s) (put_other key tag.Text tag.Timings refl ps s)
    (put_other key tag.Text tag.Number refl ps s) (put_other key tag.Text tag.Words refl ps s) (put_others key tag.Text ps s)
put_by_tag key tag.Timings ps s =
    fields_same _ _ _ _ _ _ _ _ _ _ (put_other key tag.Timings tag.Text refl ps s) (put_same key tag.Timings ps s)
    (put_other key tag.Timings tag.Number refl ps s) (put_other key tag.Timings tag.Words refl ps s) (put_others key tag.Timings ps s)
put_by_tag key tag.Number ps s =
    fields_same _ _ _ _ _ _ _ _ _ _ (put_other key tag.Number tag.Text refl ps s) (put_other key tag.Number tag.Timings refl ps s)
    (put_same key tag.Number ps s) (put_other key tag.Number tag.Words refl ps s) (put_others key tag.Number ps s)
put_by_tag key tag.Words ps s =
    fields_same _ _ _ _ _ _ _ _ _ _ (put_other key tag.Words tag.Text refl ps s) (put_other key tag.Words tag.Timings refl ps s)
    (put_other key tag.Words tag.Number refl ps s) (put_same key tag.Words ps s) (put_others key tag.Words ps s)

without_by_tag : (key : ℕ) (t : Tag) (ps : List PlainPlace) → AreInOrder ps →
    by_tag key (without_slot ps key t) ≡ with_under t None (by_tag key ps)
unfolding by_tag
without_by_tag key tag.Text ps order =
    fields_same _ _ _ _ _ _ _ _ _ _ (without_same key tag.Text ps order) (without_other key tag.Text tag.Timings refl ps)
    (without_other key tag.Text tag.Number refl ps) (without_other key tag.Text tag.Words refl ps) (without_others key tag.Text ps)
without_by_tag key tag.Timings ps order =
    fields_same _ _ _ _ _ _ _ _ _ _ (without_other key tag.Timings tag.Text refl ps) (without_same key tag.Timings ps order)
    (without_other key tag.Timings tag.Number refl ps) (without_other key tag.Timings tag.Words refl ps)
    (without_others key tag.Timings ps)
without_by_tag key tag.Number ps order =
    fields_same _ _ _ _ _ _ _ _ _ _ (without_other key tag.Number tag.Text refl ps) (without_other key tag.Number tag.Timings refl ps)
    (without_same key tag.Number ps order) (without_other key tag.Number tag.Words refl ps) (without_others key tag.Number ps)
without_by_tag key tag.Words ps order =
    fields_same _ _ _ _ _ _ _ _ _ _ (without_other key tag.Words tag.Text refl ps) (without_other key tag.Words tag.Timings refl ps)
    (without_other key tag.Words tag.Number refl ps) (without_same key tag.Words ps order) (without_others key tag.Words ps)

pub slot_by_tag : (key : ℕ) (t : Tag) (ps : List PlainPlace) → slot_under t (by_tag key ps) ≡ slot_at ps key t
unfolding by_tag
slot_by_tag key tag.Text ps = refl
slot_by_tag key tag.Timings ps = refl
slot_by_tag key tag.Number ps = refl
slot_by_tag key tag.Words ps = refl

none_by_tag : (t : Tag) (slots : SlotsByTag) → slot_under t slots ≡ None → slots ≡ with_under t None slots
none_by_tag tag.Text slots none = ap (λ (v : Option PlainSlot). record slots { text = v }) none
none_by_tag tag.Timings slots none = ap (λ (v : Option PlainSlot). record slots { timings = v }) none
none_by_tag tag.Number slots none = ap (λ (v : Option PlainSlot). record slots { number = v }) none
none_by_tag tag.Words slots none = ap (λ (v : Option PlainSlot). record slots { words = v }) none

-- what calls on slots give
puts_by : (key : ℕ) (t : Tag) (ps qs : List PlainPlace) (s : PlainSlot) (r : Result (Option Slot) Slot) → ReplaceGives ps key t s r qs →
    Puts t s (by_tag key ps) (is_ok r) (by_tag key qs)
puts_by key t ps qs s (Ok before) gives = ap (by_tag key) gives.1 ∙ put_by_tag key t ps s
puts_by key t ps qs s (Err back) gives = (slot_by_tag key t ps ∙ gives.0, ap (by_tag key) gives.2)

pub replace_puts : (key : ℕ) (t : Tag) (ps qs : List PlainPlace) (s : PlainSlot) (r : Result (Option Slot) Slot) (b : Bool) → b ≡ is_ok r →
    ReplaceGives ps key t s r qs → Puts t s (by_tag key ps) b (by_tag key qs)
replace_puts key t ps qs s r b is gives = rw is (puts_by key t ps qs s r gives)

pub remove_takes : (key : ℕ) (t : Tag) (ps qs : List PlainPlace) (before : Option Slot) → AreInOrder ps → RemoveGives ps key t before qs →
    by_tag key qs ≡ with_under t None (by_tag key ps)
remove_takes key t ps qs before order gives = ap (by_tag key) gives.1 ∙ without_by_tag key t ps order

pub none_takes : (key : ℕ) (t : Tag) (ps : List PlainPlace) → slot_at ps key t ≡ None → by_tag key ps ≡ with_under t None (by_tag key ps)
none_takes key t ps none = none_by_tag t (by_tag key ps) (slot_by_tag key t ps ∙ none)

taken_by : (key : ℕ) (ps qs : List PlainPlace) (o there : Option (List ℕ)) → o ≡ there → is_some there ≡ true →
    text_by (by_tag key ps).text ≡ there → by_tag key qs ≡ record (by_tag key ps) { text = Some (Text []) } →
    TakesText (by_tag key ps) o (by_tag key qs)
taken_by key ps qs None there is some e after = absurd (cc)
taken_by key ps qs (Some text) there is some e after = (e ∙ sym is, after)

pub text_taken : (key : ℕ) (ps qs : List PlainPlace) (o : Option (List ℕ)) (bytes : List ℕ) (before : Option Slot) → bytes ≡ [] →
    is_some (text_by (by_tag key ps).text) ≡ true → o ≡ text_by (option_map plain_slot before) →
    ReplaceGives ps key tag.Text (Text bytes) (Ok before) qs →
    TakesText (by_tag key ps) o (by_tag key qs)
text_taken key ps qs o bytes before empty some is gives =
    let same : text_by (by_tag key ps).text ≡ text_by (option_map plain_slot before) =
    ap text_by (slot_by_tag key tag.Text ps ∙ sym gives.0) in
    taken_by key ps qs o (text_by (option_map plain_slot before)) is (ap is_some (sym same) ∙ some) same
    (ap (by_tag key) gives.1 ∙ put_by_tag key tag.Text ps (Text bytes) ∙
    ap (λ (b : List ℕ). record (by_tag key ps) { text = Some (Text b) }) empty)

-- a text that is there is replaced without memory
pub text_there : (key : ℕ) (ps : List PlainPlace) → is_some (text_by (by_tag key ps).text) ≡ true → slot_at ps key tag.Text ≡ None → ⊥
text_there key ps some none = let e : (by_tag key ps).text ≡ None = slot_by_tag key tag.Text ps ∙ none in
    let f : is_some (text_by None) ≡ true = (ap (λ o. is_some (text_by o)) (sym e) ∙ some) in absurd (cc)

pub words_taken : (key : ℕ) (ps qs : List PlainPlace) (words given : List (List ℕ)) (before : Option Slot) → given ≡ [] →
    words ≡ words_by (option_map plain_slot before) → ReplaceGives ps key tag.Words (Words given) (Ok before) qs →
    TakesWords (by_tag key ps) (Some words) (by_tag key qs)
words_taken key ps qs words given before empty is gives = (
  ap words_by (slot_by_tag key tag.Words ps ∙ sym gives.0) ∙ sym is,
  ap (by_tag key) gives.1 ∙ put_by_tag key tag.Words ps (Words given) ∙
      ap (λ (b : List (List ℕ)). record (by_tag key ps) { words = Some (Words b) }) empty,
)
