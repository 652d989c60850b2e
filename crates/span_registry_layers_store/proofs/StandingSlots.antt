-- Spans that stand in slots, in the order of the index.
use Rattle.std.proofs.Common.{◌≡◌, ℕ, zero, suc, ◌+◌, ◌<◌, ◌≤◌, ◌==◌, ◌&&◌, List, [], ◌∷◌, ◌++◌, length, Bool, true, false, if◌then◌else◌}
use Rattle.std.proofs.Common.{slice_get, get_or, IfSome, Option, Some, None, refl, sym, ap, ◌∙◌, subst, arith, append_assoc}
use Rattle.std.specs.List.{AllByRecursion}
use Rattle.std.proofs.lemmas.Bool.{eqb-true, false≢true}
use Rattle.span_registry_layers_store.specs.SpanSlots.{AreIndexed, IsEntryPlace, IsSlotOf, OnlyIn, entry_at, entry_kin, gone, holds}
use Rattle.span_registry_layers_store.specs.SpanSlots.{holds_in, if_holds, leads}
use Rattle.span_registry_layers_store.specs.SpanSlots.{slot_kin, standing}
use Rattle.span_registry_layers_store.specs.Spans.{Rises, changed, found}
use Rattle.span_registry_layers_store.specs.declared.index.Entry.{Entry}
use Rattle.span_registry_layers_store.specs.declared.span_slot.SpanSlot.{SpanSlot}
use Rattle.span_registry_layers_store.proofs.IndexOrder.{none_above, only_in, same_test}
use Rattle.span_registry_layers_store.proofs.Lists.{get_at}
use Rattle.span_registry_layers_store.proofs.SpanPlaces.{differs}

held_if : (b : Bool) (id : ℕ) (s : SpanSlot) → s.is_open ≡ b → (b && (s.span.kin.id == id)) ≡ true → (s.is_open ≡ true) ×
    (s.span.kin.id ≡ id)
held_if true id s is_open is = (is_open, eqb-true s.span.kin.id id is)
held_if false id s is_open is = absurd (false≢true is)

-- what a slot holds is open, and has the id
pub held : (id : ℕ) (s : SpanSlot) → holds id s ≡ true → (s.is_open ≡ true) × (s.span.kin.id ≡ id)
held id s is = held_if s.is_open id s refl is

pub held_test : (id : ℕ) (s : SpanSlot) → holds id s ≡ true → (s.span.kin.id == id) ≡ true
held_test id s is = same_test s.span.kin.id id ((held id s is).1)

other_test : (j id : ℕ) (s : SpanSlot) → holds j s ≡ true → (j == id) ≡ false → (s.span.kin.id == id) ≡ false
other_test j id s is other = ap (λ n. n == id) ((held j s is).1) ∙ other

-- an entry of another id is passed over
skip_found_if : (b : Bool) (j id : ℕ) (s : SpanSlot) (xs : List SpanSlot) → holds j s ≡ b → (j == id) ≡ false →
    found slot_kin ((if b then s ∷ [] else []) ++ xs) id ≡ found slot_kin xs id
skip_found_if true j id s xs is other = rw (other_test j id s is other) refl
skip_found_if false j id s xs is other = refl

pub skip_found : (j id : ℕ) (o : Option SpanSlot) (xs : List SpanSlot) → (j == id) ≡ false → found slot_kin (if_holds j o ++ xs) id ≡
    found slot_kin xs id
skip_found j id None xs other = refl
skip_found j id (Some s) xs other = skip_found_if (holds j s) j id s xs refl other

skip_changed_if : (b : Bool) (f : SpanSlot → SpanSlot) (j id : ℕ) (s : SpanSlot) (xs : List SpanSlot) → holds j s ≡ b → (j == id) ≡ false →
    changed slot_kin f ((if b then s ∷ [] else []) ++ xs) id ≡ (if b then s ∷ [] else []) ++ changed slot_kin f xs id
skip_changed_if true f j id s xs is other = rw (other_test j id s is other) refl
skip_changed_if false f j id s xs is other = refl

skip_changed : (f : SpanSlot → SpanSlot) (j id : ℕ) (o : Option SpanSlot) (xs : List SpanSlot) → (j == id) ≡ false →
    changed slot_kin f (if_holds j o ++ xs) id ≡ if_holds j o ++ changed slot_kin f xs id
skip_changed f j id None xs other = refl
skip_changed f j id (Some s) xs other = skip_changed_if (holds j s) f j id s xs refl other

skip_gone_if : (b : Bool) (j id : ℕ) (s : SpanSlot) (xs : List SpanSlot) → holds j s ≡ b → (j == id) ≡ false →
    gone ((if b then s ∷ [] else []) ++ xs) id ≡ (if b then s ∷ [] else []) ++ gone xs id
skip_gone_if true j id s xs is other = rw (other_test j id s is other) refl
skip_gone_if false j id s xs is other = refl

skip_gone : (j id : ℕ) (o : Option SpanSlot) (xs : List SpanSlot) → (j == id) ≡ false → gone (if_holds j o ++ xs) id ≡ if_holds j o ++
    gone xs id
skip_gone j id None xs other = refl
skip_gone j id (Some s) xs other = skip_gone_if (holds j s) j id s xs refl other

-- what isn't in the index isn't open
not_listed_if : (b : Bool) (slots : List SpanSlot) (e : Entry) (es : List Entry) (id : ℕ) → (e.id == id) ≡ b →
    (if b then Some e else found entry_kin es id) ≡ None → (found entry_kin es id ≡ None → found slot_kin (standing slots es) id ≡ None) →
    found slot_kin (standing slots (e ∷ es)) id ≡ None
not_listed_if true slots e es id test is_none later = cc
not_listed_if false slots e es id test is_none later = skip_found e.id id (slice_get slots e.slot) (standing slots es) test ∙ later is_none

pub not_listed : (slots : List SpanSlot) (es : List Entry) (id : ℕ) → found entry_kin es id ≡ None →
    found slot_kin (standing slots es) id ≡ None
not_listed slots [] id is_none = refl
not_listed slots (e ∷ es) id is_none = not_listed_if (e.id == id) slots e es id refl is_none (not_listed slots es id)

abbrev if_led : ℕ → Option SpanSlot → Option SpanSlot
if_led id None = None
if_led id (Some s) = if holds id s then Some s else None

-- the slot that an entry leads to
abbrev pub led : List SpanSlot → Option Entry → Option SpanSlot
led slots None = None
led slots (Some e) = if_led e.id (slice_get slots e.slot)

here_found_if : (b : Bool) (j id : ℕ) (s : SpanSlot) (xs : List SpanSlot) → holds j s ≡ b → j ≡ id → found slot_kin xs id ≡ None →
    found slot_kin ((if b then s ∷ [] else []) ++ xs) id ≡ (if b then Some s else None)
here_found_if true j id s xs is same none_later = rw (same_test s.span.kin.id id ((held j s is).1 ∙ same)) refl
here_found_if false j id s xs is same none_later = none_later

here_found : (j id : ℕ) (o : Option SpanSlot) (xs : List SpanSlot) → j ≡ id → found slot_kin xs id ≡ None →
    found slot_kin (if_holds j o ++ xs) id ≡ if_led j o
here_found j id None xs same none_later = none_later
here_found j id (Some s) xs same none_later = here_found_if (holds j s) j id s xs refl same none_later

found_if : (b : Bool) (slots : List SpanSlot) (e : Entry) (es : List Entry) (id : ℕ) → (e.id == id) ≡ b → Rises entry_kin (e.id + 1) es →
    found slot_kin (standing slots es) id ≡ led slots (found entry_kin es id) →
    found slot_kin (standing slots (e ∷ es)) id ≡ led slots (if b then Some e else found entry_kin es id)
found_if true slots e es id test rise later =
    let same : e.id ≡ id = eqb-true e.id id test in
    here_found e.id id (slice_get slots e.slot) (standing slots es) same
    (not_listed slots es id (none_above (e.id + 1) id es (omega (arith, same)) rise))
found_if false slots e es id test rise later = skip_found e.id id (slice_get slots e.slot) (standing slots es) test ∙ later

-- a span is found through the entry of its id
pub found_led : (least : ℕ) (slots : List SpanSlot) (es : List Entry) (id : ℕ) → Rises entry_kin least es →
    found slot_kin (standing slots es) id ≡ led slots (found entry_kin es id)
found_led least slots [] id rise = refl
found_led least slots (e ∷ es) id rise = found_if (e.id == id) slots e es id refl rise.1 (found_led (e.id + 1) slots es id rise.1)

-- the slots differ in what they hold of one id alone
abbrev pub Beside : ℕ → List SpanSlot → List SpanSlot → Type 0
Beside id slots later = (j m : ℕ) → (j == id) ≡ false → if_holds j (slice_get later m) ≡ if_holds j (slice_get slots m)

-- ids above it stand as they did
pub above_same : (least id : ℕ) (slots later : List SpanSlot) (es : List Entry) → Beside id slots later → id < least →
    Rises entry_kin least es → standing later es ≡ standing slots es
above_same least id slots later [] beside above rise = refl
above_same least id slots later (e ∷ es) beside above rise =
    ap (λ xs. xs ++ standing later es) (beside e.id e.slot (differs e.id id (λ same. omega (arith, above, same, rise.0))))
    ∙ ap (λ ys. if_holds e.id (slice_get slots e.slot) ++ ys)
    (above_same (e.id + 1) id slots later es beside (omega (arith, above, rise.0)) rise.1)

module _ (slots later : List SpanSlot) (id k : ℕ) (s t : SpanSlot) (beside : Beside id slots later) (before : slice_get slots k ≡ Some s)
    (after : slice_get later k ≡ Some t) (stood : holds id s ≡ true) where
  -- the slot of a span holds another value of it
  put_if : (b : Bool) (e : Entry) (es : List Entry) (f : SpanSlot → SpanSlot) → f s ≡ t → holds id t ≡ true → (e.id == id) ≡ b →
      Rises entry_kin (e.id + 1) es → (e.id ≡ id → e.slot ≡ k) → standing later es ≡ changed slot_kin f (standing slots es) id →
      standing later (e ∷ es) ≡ changed slot_kin f (standing slots (e ∷ es)) id
  put_if true e es f gives stands test rise only rest =
      let same : e.id ≡ id = eqb-true e.id id test in
      let there : e.slot ≡ k = only same in
      let others = above_same (e.id + 1) id slots later es beside (omega (arith, same)) rise in
      rw (same, there, before, after, stood, stands, held_test id s stood, gives, others) refl
  put_if false e es f gives stands test rise only rest =
      ap (λ xs. xs ++ standing later es) (beside e.id e.slot test) ∙ ap (λ ys. if_holds e.id (slice_get slots e.slot) ++ ys) rest ∙
      sym (skip_changed f e.id id (slice_get slots e.slot) (standing slots es) test)

  pub put : (least : ℕ) (es : List Entry) (f : SpanSlot → SpanSlot) → f s ≡ t → holds id t ≡ true → Rises entry_kin least es →
      OnlyIn id k es → standing later es ≡ changed slot_kin f (standing slots es) id
  put least [] f gives stands rise only = refl
  put least (e ∷ es) f gives stands rise only =
      put_if (e.id == id) e es f gives stands refl rise.1 only.0 (put (e.id + 1) es f gives stands rise.1 only.1)

  -- it holds no open span any more
  let_go_if : (b : Bool) (e : Entry) (es : List Entry) → holds id t ≡ false → (e.id == id) ≡ b → Rises entry_kin (e.id + 1) es →
      (e.id ≡ id → e.slot ≡ k) → standing later es ≡ gone (standing slots es) id → standing later (e ∷ es) ≡
      gone (standing slots (e ∷ es)) id
  let_go_if true e es left test rise only rest =
      let same : e.id ≡ id = eqb-true e.id id test in
      let there : e.slot ≡ k = only same in
      let others = above_same (e.id + 1) id slots later es beside (omega (arith, same)) rise in
      rw (same, there, before, after, stood, left, held_test id s stood, others) refl
  let_go_if false e es left test rise only rest =
      ap (λ xs. xs ++ standing later es) (beside e.id e.slot test) ∙ ap (λ ys. if_holds e.id (slice_get slots e.slot) ++ ys) rest ∙
      sym (skip_gone e.id id (slice_get slots e.slot) (standing slots es) test)

  pub let_go_at : (least : ℕ) (es : List Entry) → holds id t ≡ false → Rises entry_kin least es → OnlyIn id k es → standing later es ≡
      gone (standing slots es) id
  let_go_at least [] left rise only = refl
  let_go_at least (e ∷ es) left rise only = let_go_if (e.id == id) e es left refl rise.1 only.0 (let_go_at (e.id + 1) es left rise.1 only.1)

-- one more entry, whose id no earlier one has
pub put_last : (slots later : List SpanSlot) (id k : ℕ) (t : SpanSlot) (es : List Entry) → Beside id slots later → slice_get later k ≡
    Some t → holds id t ≡ true → AllByRecursion (λ (e : Entry). e.id < id) es →
    standing later (es ++ (record { id = id; slot = k }) ∷ []) ≡ standing slots es ++ t ∷ []
put_last slots later id k t [] beside after stands below = rw (after, stands) refl
put_last slots later id k t (e ∷ es) beside after stands below =
    ap (λ xs. xs ++ standing later (es ++ (record { id = id; slot = k }) ∷ []))
    (beside e.id e.slot (differs e.id id (λ same. omega (arith, same, below.0))))
    ∙ ap (λ ys. if_holds e.id (slice_get slots e.slot) ++ ys) (put_last slots later id k t es beside after stands below.1)
    ∙ sym (append_assoc (if_holds e.id (slice_get slots e.slot)) (standing slots es) (t ∷ []))

slots_from : (low least : ℕ) (xs : List SpanSlot) → low ≤ least → Rises slot_kin least xs → Rises slot_kin low xs
slots_from low least [] le rise = tt
slots_from low least (x ∷ xs) le rise = (omega (arith, le, rise.0), rise.1)

rise_if : (b : Bool) (j : ℕ) (s : SpanSlot) (xs : List SpanSlot) → holds j s ≡ b → Rises slot_kin (j + 1) xs →
    Rises slot_kin j ((if b then s ∷ [] else []) ++ xs)
rise_if true j s xs is rise = let same : s.span.kin.id ≡ j = (held j s is).1 in rw same (omega arith, rise)
rise_if false j s xs is rise = slots_from j (j + 1) xs (omega arith) rise

rise_in : (j : ℕ) (o : Option SpanSlot) (xs : List SpanSlot) → Rises slot_kin (j + 1) xs → Rises slot_kin j (if_holds j o ++ xs)
rise_in j None xs rise = slots_from j (j + 1) xs (omega arith) rise
rise_in j (Some s) xs rise = rise_if (holds j s) j s xs refl rise

-- the ids of open spans rise
pub standing_rise : (least : ℕ) (slots : List SpanSlot) (es : List Entry) → Rises entry_kin least es →
    Rises slot_kin least (standing slots es)
standing_rise least slots [] rise = tt
standing_rise least slots (e ∷ es) rise =
    slots_from least e.id (standing slots (e ∷ es)) rise.0
    (rise_in e.id (slice_get slots e.slot) (standing slots es) (standing_rise (e.id + 1) slots es rise.1))

pub within_slots : (slots : List SpanSlot) (j k : ℕ) → holds_in j (slice_get slots k) ≡ true → k < length slots
within_slots [] j k is = absurd (false≢true is)
within_slots (s ∷ ss) j zero is = omega arith
within_slots (s ∷ ss) j (suc k) is = let below = within_slots ss j k is in omega (arith, below)

stands_of : (id : ℕ) (o : Option SpanSlot) → holds_in id o ≡ true → IfSome o (λ (s : SpanSlot). holds id s ≡ true)
stands_of id None is = absurd (false≢true is)
stands_of id (Some s) is = is

led_there : (j : ℕ) (o : Option SpanSlot) → holds_in j o ≡ true → if_led j o ≡ o
led_there j None is = refl
led_there j (Some s) is = rw is refl

led_nowhere : (j : ℕ) (o : Option SpanSlot) → holds_in j o ≡ false → if_led j o ≡ None
led_nowhere j None is = refl
led_nowhere j (Some s) is = rw is refl

module _ (slots : List SpanSlot) (index : List Entry) (id place : ℕ) (e : Entry) (rise : Rises entry_kin 0 index)
    (p : IsEntryPlace index id place) (read : e ≡ get_or index place e) where
  entry_id : e.id ≡ id
  entry_id = ap (λ (f : Entry). f.id) read ∙ p.same e

  entry_found : found entry_kin index id ≡ Some e
  entry_found = p.here ∙ get_at index place e p.within read

  -- the slot that the entry of an id leads to
  pub slot_there : leads slots e ≡ true → IsSlotOf slots index id e.slot
  slot_there is = record {
    within = within_slots slots e.id e.slot is;
    only = only_in 0 index id e rise entry_found;
    stands = subst (λ (j : ℕ). IfSome (slice_get slots e.slot) (λ (s : SpanSlot). holds j s ≡ true)) entry_id
        (stands_of e.id (slice_get slots e.slot) is);
    here = found_led 0 slots index id rise ∙ ap (led slots) entry_found ∙ led_there e.id (slice_get slots e.slot) is;
  }

  pub slot_left : leads slots e ≡ false → found slot_kin (standing slots index) id ≡ None
  slot_left is = found_led 0 slots index id rise ∙ ap (led slots) entry_found ∙ led_nowhere e.id (slice_get slots e.slot) is

shown_entry : (o : Option SpanSlot) (slots : List SpanSlot) (index : List Entry) (id k : ℕ) → slice_get slots k ≡ o →
    AreIndexed slots index → holds_in id o ≡ true → found entry_kin index id ≡ Some (entry_at id k)
shown_entry None slots index id k here indexed is = absurd (false≢true is)
shown_entry (Some s) slots index id k here indexed is =
    let was = held id s is in
    subst (λ (j : ℕ). found entry_kin index j ≡ Some (entry_at j k)) was.1 (indexed.entry k s here was.0)

-- the slot that holds the span of an id
pub slot_shown : (slots : List SpanSlot) (index : List Entry) (id k : ℕ) → Rises entry_kin 0 index → AreIndexed slots index →
    holds_in id (slice_get slots k) ≡ true → IsSlotOf slots index id k
slot_shown slots index id k rise indexed is =
    let here = shown_entry (slice_get slots k) slots index id k refl indexed is in
    record {
      within = within_slots slots id k is;
      only = only_in 0 index id (entry_at id k) rise here;
      stands = stands_of id (slice_get slots k) is;
      here = found_led 0 slots index id rise ∙ ap (led slots) here ∙ led_there id (slice_get slots k) is;
    }
