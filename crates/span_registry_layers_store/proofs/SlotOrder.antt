-- Slots stay in order.
use Rattle.std.proofs.Common.{◌≡◌, ◌<◌, ◌⊎◌, inl, inr, ℕ, ◌==◌, nat_lt, List, [], ◌∷◌, Bool, true, false, ◌&&◌, ◌||◌, if◌then◌else◌, Option}
use Rattle.std.proofs.Common.{Some, None, Result, Ok, Err, map, slice_get, slice_set, refl, sym, ◌∙◌, subst, arith, true≢false}
use Rattle.std.proofs.lemmas.Bool.{cases_lt}
use Rattle.std.proofs.lemmas.Bool.Decides.{nat_tests}
use Rattle.std.proofs.lemmas.Option.{none-some}
use Rattle.span_registry_layers_store.specs.SlotLoans.{IsSlotToLend}
use Rattle.span_registry_layers_store.specs.Slots.{AreInOrder, InsertGives, PlainPlace, PlainSlot, RemoveGives, ReplaceGives, StandsFirst}
use Rattle.span_registry_layers_store.specs.Slots.{inserted, is_at, is_before, plain_place, plain_slot, put_by, rank, slot_at, with_slot}
use Rattle.span_registry_layers_store.specs.Slots.{without_slot}
use Rattle.span_registry_layers_store.specs.declared.slot.InsertError.{InsertError}
use Rattle.span_registry_layers_store.specs.declared.slot.InsertError.TheVariants.{Present, OutOfMemory, UnknownSpan}
use Rattle.span_registry_layers_store.specs.declared.slot.Place.{Place}
use Rattle.span_registry_layers_store.specs.declared.slot.Slot.{Slot}
use Rattle.span_registry_layers_store.specs.declared.slot.Tag.{Tag}

-- what the test says, of numbers
abbrev Before : ℕ → ℕ → ℕ → ℕ → Type 0
Before a x b y = (a < b) ⊎ ((a ≡ b) × (x < y))

abbrev before : ℕ → ℕ → ℕ → ℕ → Bool
before a x b y = nat_lt a b || ((a == b) && nat_lt x y)

or_right : (p q : Bool) → q ≡ true → (p || q) ≡ true
or_right true q e = refl
or_right false q e = e

either_true : (p q : Bool) → (p || q) ≡ true → (p ≡ true) ⊎ (q ≡ true)
either_true true q e = inl refl
either_true false q e = inr e

both_true : (p q : Bool) → (p && q) ≡ true → (p ≡ true) × (q ≡ true)
both_true true q e = (refl, e)
both_true false q e = absurd (cc)

below : (a b : ℕ) → nat_lt a b ≡ true → a < b
below a b e = grind (arith, nat_tests, e)

equal : (a b : ℕ) → (a == b) ≡ true → a ≡ b
equal a b e = grind (arith, nat_tests, e)

is_below : (a b : ℕ) → a < b → nat_lt a b ≡ true
is_below a b e = grind (arith, nat_tests, e)

is_equal : (a b : ℕ) → a ≡ b → (a == b) ≡ true
is_equal a b e = grind (arith, nat_tests, e)

said : (a x b y : ℕ) → Before a x b y → before a x b y ≡ true
said a x b y (inl lt) = rw (is_below a b lt) refl
said a x b y (inr same) = or_right (nat_lt a b) ((a == b) && nat_lt x y) (rw (is_equal a b same.0, is_below x y same.1) refl)

meant : (a x b y : ℕ) → before a x b y ≡ true → Before a x b y
meant a x b y e = elim (either_true (nat_lt a b) ((a == b) && nat_lt x y) e) [
  | inl lt ↦ inl (below a b lt)
  | inr same ↦ let both = both_true (a == b) (nat_lt x y) same in inr (equal a b both.0, below x y both.1)
]

-- where one doesn't stand before another, and isn't there, the other stands before it
turned : (a x b y : ℕ) → (Before a x b y → ⊥) → ((b ≡ a) → (y ≡ x) → ⊥) → Before b y a x
turned a x b y not other = elim (cases_lt b a) [
  | inl lt ↦ inl lt
  | inr ge ↦
      let above : a < b → ⊥ = λ lt. not (inl lt) in
      let same : b ≡ a = omega (arith, ge, above) in
      let later : x < y → ⊥ = λ lt. not (inr (sym same, lt)) in
      let differ : (y ≡ x) → ⊥ = other same in
      inr (same, omega (arith, later, differ))
]

then_before : (a x b y c z : ℕ) → Before a x b y → Before b y c z → Before a x c z
then_before a x b y c z (inl p) (inl q) = inl (omega (arith, p, q))
then_before a x b y c z (inl p) (inr q) = let e = q.0 in inl (omega (arith, p, e))
then_before a x b y c z (inr p) (inl q) = let e = p.0 in inl (omega (arith, q, e))
then_before a x b y c z (inr p) (inr q) = let l = p.1 in let m = q.1 in inr (p.0 ∙ q.0, omega (arith, l, m))

not_both : (a b x y : ℕ) → ((a == b) && (x == y)) ≡ false → a ≡ b → x ≡ y → ⊥
not_both a b x y e f g = true≢false (sym (rw (is_equal a b f, is_equal x y g) refl) ∙ e)

-- of what is no slot under the key and tag
stands_later : (n p : PlainPlace) → is_before n.key n.tag p ≡ false → is_at n.key n.tag p ≡ false → is_before p.key p.tag n ≡ true
stands_later n p not other =
    said p.key (rank p.tag) n.key (rank n.tag)
    (turned n.key (rank n.tag) p.key (rank p.tag) (λ w. true≢false (sym (said n.key (rank n.tag) p.key (rank p.tag) w) ∙ not))
    (λ e f. not_both p.key n.key (rank p.tag) (rank n.tag) other e f))

-- with a slot more
first_if : (b : Bool) (p n q : PlainPlace) (qs later : List PlainPlace) → is_before p.key p.tag n ≡ true → is_before p.key p.tag q ≡ true →
    StandsFirst p (if b then n ∷ q ∷ qs else q ∷ later)
first_if true p n q qs later e f = e
first_if false p n q qs later e f = f

first_inserted : (p n : PlainPlace) (ps : List PlainPlace) → is_before p.key p.tag n ≡ true → StandsFirst p ps →
    StandsFirst p (inserted n ps)
first_inserted p n [] e w = e
first_inserted p n (q ∷ qs) e w = first_if (is_before n.key n.tag q) p n q qs (inserted n qs) e w

not_there : (b : Bool) (s : PlainSlot) (o : Option PlainSlot) → (if b then Some s else o) ≡ None → (b ≡ false) × (o ≡ None)
not_there true s o e = absurd (none-some s (sym e))
not_there false s o e = (refl, e)

inserted_if : (b : Bool) (n p : PlainPlace) (ps later : List PlainPlace) → is_before n.key n.tag p ≡ b → AreInOrder (p ∷ ps) →
    (b ≡ false → StandsFirst p later × AreInOrder later) → AreInOrder (if b then n ∷ p ∷ ps else p ∷ later)
inserted_if true n p ps later e w f = (e, w)
inserted_if false n p ps later e w f = f refl

inserted_order : (n : PlainPlace) (ps : List PlainPlace) → slot_at ps n.key n.tag ≡ None → AreInOrder ps → AreInOrder (inserted n ps)
inserted_order n [] none w = (tt, tt)
inserted_order n (p ∷ ps) none w =
    let other = not_there (is_at n.key n.tag p) p.slot (slot_at ps n.key n.tag) none in
    inserted_if (is_before n.key n.tag p) n p ps (inserted n ps) refl w
    (λ later. (first_inserted p n ps (stands_later n p later other.0) w.0, inserted_order n ps other.1 w.1))

-- with another slot there
same_first : (p : PlainPlace) (s : PlainSlot) (ps : List PlainPlace) → StandsFirst p ps → StandsFirst (record p { slot = s }) ps
same_first p s [] w = w
same_first p s (q ∷ qs) w = w

first_with_if : (b : Bool) (p q : PlainPlace) (s : PlainSlot) (qs later : List PlainPlace) → is_before p.key p.tag q ≡ true →
    StandsFirst p (if b then (record q { slot = s }) ∷ qs else q ∷ later)
first_with_if true p q s qs later w = w
first_with_if false p q s qs later w = w

with_if : (b : Bool) (p : PlainPlace) (s : PlainSlot) (ps later : List PlainPlace) → AreInOrder (p ∷ ps) → StandsFirst p later →
    AreInOrder later → AreInOrder (if b then (record p { slot = s }) ∷ ps else p ∷ later)
with_if true p s ps later w f k = (same_first p s ps w.0, w.1)
with_if false p s ps later w f k = (f, k)

module _ (key : ℕ) (t : Tag) where
  first_with : (p : PlainPlace) (s : PlainSlot) (ps : List PlainPlace) → StandsFirst p ps → StandsFirst p (with_slot ps key t s)
  first_with p s [] w = tt
  first_with p s (q ∷ qs) w = first_with_if (is_at key t q) p q s qs (with_slot qs key t s) w

  pub with_order : (s : PlainSlot) (ps : List PlainPlace) → AreInOrder ps → AreInOrder (with_slot ps key t s)
  with_order s [] w = tt
  with_order s (p ∷ ps) w = with_if (is_at key t p) p s ps (with_slot ps key t s) w (first_with p s ps w.0) (with_order s ps w.1)

  -- another slot where there is one, lent for writing
  pub lent_order : (slice places : List Place) (place : ℕ) (p : Place) (w : Slot) → slice ≡ places → IsSlotToLend slice key t place →
      slice_get places place ≡ Some p → AreInOrder (map plain_place places) →
      AreInOrder (map plain_place (slice_set places place (record p { slot = w })))
  lent_order slice places place p w same lends here order =
      let there : IsSlotToLend places key t place = subst (λ ps. IsSlotToLend ps key t place) same lends in
      subst AreInOrder (there.1 w p here) (with_order (plain_slot w) (map plain_place places) order)

  put_order : (o : Option PlainSlot) (s : PlainSlot) (ps : List PlainPlace) → slot_at ps key t ≡ o → AreInOrder ps →
      AreInOrder (put_by o ps key t s)
  put_order None s ps none w = inserted_order (record { key = key; tag = t; slot = s }) ps none w
  put_order (Some before) s ps there w = with_order s ps w

  -- without one
  first_past : (p q : PlainPlace) (qs : List PlainPlace) → is_before p.key p.tag q ≡ true → StandsFirst q qs → StandsFirst p qs
  first_past p q [] e w = tt
  first_past p q (r ∷ rs) e w =
      said p.key (rank p.tag) r.key (rank r.tag)
      (then_before p.key (rank p.tag) q.key (rank q.tag) r.key (rank r.tag) (meant p.key (rank p.tag) q.key (rank q.tag) e)
      (meant q.key (rank q.tag) r.key (rank r.tag) w))

  first_without_if : (b : Bool) (p q : PlainPlace) (qs later : List PlainPlace) → is_before p.key p.tag q ≡ true → StandsFirst q qs →
      StandsFirst p (if b then qs else q ∷ later)
  first_without_if true p q qs later e w = first_past p q qs e w
  first_without_if false p q qs later e w = e

  first_without : (p : PlainPlace) (ps : List PlainPlace) → StandsFirst p ps → AreInOrder ps → StandsFirst p (without_slot ps key t)
  first_without p [] w k = tt
  first_without p (q ∷ qs) w k = first_without_if (is_at key t q) p q qs (without_slot qs key t) w k.0

  without_if : (b : Bool) (p : PlainPlace) (ps later : List PlainPlace) → AreInOrder ps → StandsFirst p later → AreInOrder later →
      AreInOrder (if b then ps else p ∷ later)
  without_if true p ps later w f k = w
  without_if false p ps later w f k = (f, k)

  without_order : (ps : List PlainPlace) → AreInOrder ps → AreInOrder (without_slot ps key t)
  without_order [] w = tt
  without_order (p ∷ ps) w = without_if (is_at key t p) p ps (without_slot ps key t) w.1 (first_without p ps w.0 w.1) (without_order ps w.1)

  pub insert_order : (ps qs : List PlainPlace) (s : PlainSlot) (r : Result (Unit {0}) InsertError) → AreInOrder ps →
      InsertGives ps key t s r qs → AreInOrder qs
  insert_order ps qs s (Ok done) w given =
      subst AreInOrder (sym given.1) (inserted_order (record { key = key; tag = t; slot = s }) ps given.0 w)
  insert_order ps qs s (Err (Present back)) w given = subst AreInOrder (sym given.2) w
  insert_order ps qs s (Err (OutOfMemory back)) w given = subst AreInOrder (sym given.2) w
  insert_order ps qs s (Err (UnknownSpan back)) w given = absurd given

  pub replace_order : (ps qs : List PlainPlace) (s : PlainSlot) (r : Result (Option Slot) Slot) → AreInOrder ps →
      ReplaceGives ps key t s r qs → AreInOrder qs
  replace_order ps qs s (Ok before) w given = subst AreInOrder (sym given.1) (put_order (slot_at ps key t) s ps refl w)
  replace_order ps qs s (Err back) w given = subst AreInOrder (sym given.2) w

  pub remove_order : (ps qs : List PlainPlace) (r : Option Slot) → AreInOrder ps → RemoveGives ps key t r qs → AreInOrder qs
  remove_order ps qs r w given = subst AreInOrder (sym given.1) (without_order ps w)
