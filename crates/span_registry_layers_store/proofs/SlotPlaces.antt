-- The place of a slot, found from the front.
use Rattle.std.proofs.Common.{◌≡◌, ℕ, zero, suc, ◌<◌, ◌≤◌, ◌+◌, List, [], ◌∷◌, length, map, drop, get_or, Bool, true, false, if◌then◌else◌}
use Rattle.std.proofs.Common.{Option, Some, None, refl, sym, ap, ◌∙◌, subst, arith, slice_set}
use Rattle.std.proofs.Math.ListN.{drop_of_length-le}
use Rattle.std.proofs.lemmas.List.{map-set}
use Rattle.std.proofs.lemmas.Option.{none-some, same_Some}
use Rattle.span_registry_layers_store.specs.Slots.{IsPlaceFor, IsSlotPlace, PlainPlace, PlainSlot, inserted, is_at, is_before, plain_place}
use Rattle.span_registry_layers_store.specs.Slots.{plain_slot, put_by, put_slot, slot_at, with_slot, without_slot}
use Rattle.span_registry_layers_store.specs.declared.slot.OutputKey.{OutputKey}
use Rattle.span_registry_layers_store.specs.declared.slot.Place.{Place}
use Rattle.span_registry_layers_store.specs.declared.slot.Slot.{Slot}
use Rattle.span_registry_layers_store.specs.declared.slot.Tag.{Tag}
use Rattle.span_registry_layers_store.proofs.Lists.{get_at}

drop_at : (ps : List Place) (n : ℕ) (p : Place) → n < length ps → p ≡ get_or ps n p → drop n ps ≡ p ∷ drop (suc n) ps
drop_at [] n p h e = absurd (omega arith)
drop_at (x ∷ xs) zero p h e = ap (λ y. y ∷ xs) (sym e)
drop_at (x ∷ xs) (suc n) p h e = drop_at xs n p (omega arith) e

-- what holds of a place of what is left holds of that place of all
pub shift_by : (P : List Place → ℕ → Type 0) (ps : List Place) (n m : ℕ) (p : Place) → m ≡ suc n → n < length ps → p ≡ get_or ps n p →
    ((k : ℕ) → P (drop (suc n) ps) k → P (p ∷ drop (suc n) ps) (suc k)) → ((k : ℕ) → P (drop n ps) k → P ps (n + k)) →
    (k : ℕ) → P (drop m ps) k → P ps (m + k)
shift_by P ps n m p em h e later shift k i =
    let same : n + suc k ≡ m + k = omega arith in
    let here : P (drop n ps) (suc k) = subst (λ xs. P xs (suc k)) (sym (drop_at ps n p h e))
    (later k (subst (λ j. P (drop j ps) k) em i)) in
    subst (λ j. P ps j) same (shift (suc k) here)

pub stands_at : (P : List Place → ℕ → Type 0) (ps : List Place) (n : ℕ) (p : Place) → n < length ps → p ≡ get_or ps n p →
    P (p ∷ drop (suc n) ps) 0 → ((k : ℕ) → P (drop n ps) k → P ps (n + k)) → P ps n
stands_at P ps n p h e first shift =
    let none : n + 0 ≡ n = omega arith in
    subst (λ j. P ps j) none (shift 0 (subst (λ xs. P xs 0) (sym (drop_at ps n p h e)) first))

pub shift_none : (P : List Place → ℕ → Type 0) (ps : List Place) (k : ℕ) → P ps k → P ps (0 + k)
shift_none P ps k i = let same : k ≡ 0 + k = omega arith in subst (λ j. P ps j) same i

module _ (key : ℕ) (t : Tag) where
  abbrev pub place_in : List Place → ℕ → Type 0
  place_in ps place = IsSlotPlace ps key t place

  abbrev pub there_in : List Place → Option PlainSlot
  there_in ps = slot_at (map plain_place ps) key t

  slot_here : (p : Place) (ps : List Place) → is_at key t (plain_place p) ≡ true → place_in (p ∷ ps) 0
  slot_here p ps h =
      record {
        within = omega arith;
        some = rw h refl;
        there = λ q e. rw h (ap (λ (x : Place). Some (plain_slot x.slot)) (same_Some p q e));
        put = λ s q e. rw h (ap (λ (x : Place). record (plain_place x) { slot = s } ∷ map plain_place ps) (same_Some p q e));
        taken = rw h refl;
      }

  slot_later : (p : Place) (ps : List Place) (place : ℕ) → is_at key t (plain_place p) ≡ false → place_in ps place →
      place_in (p ∷ ps) (suc place)
  slot_later p ps place h i =
      record {
        within = let w = i.within in omega arith;
        some = rw h i.some;
        there = λ q e. rw h (i.there q e);
        put = λ s q e. rw h (ap (λ xs. plain_place p ∷ xs) (i.put s q e));
        taken = rw h (ap (λ xs. plain_place p ∷ xs) i.taken);
      }

  pub there_turn : (ps : List Place) (n m : ℕ) (p : Place) → m ≡ suc n → n < length ps → p ≡ get_or ps n p →
      is_at key t (plain_place p) ≡ false → there_in (drop n ps) ≡ there_in ps → there_in (drop m ps) ≡ there_in ps
  there_turn ps n m p em h e other same =
      ap (λ k. there_in (drop k ps)) em ∙ sym (ap there_in (drop_at ps n p h e) ∙ rw other refl) ∙ same

  pub shift_turn : (ps : List Place) (n m : ℕ) (p : Place) → m ≡ suc n → n < length ps → p ≡ get_or ps n p →
      is_at key t (plain_place p) ≡ false → ((k : ℕ) → place_in (drop n ps) k → place_in ps (n + k)) → (k : ℕ) → place_in (drop m ps) k →
      place_in ps (m + k)
  shift_turn ps n m p em h e other shift = shift_by place_in ps n m p em h e (λ k i. slot_later p (drop (suc n) ps) k other i) shift

  pub place_at : (ps : List Place) (n : ℕ) (p : Place) → n < length ps → p ≡ get_or ps n p → is_at key t (plain_place p) ≡ true →
      ((k : ℕ) → place_in (drop n ps) k → place_in ps (n + k)) → place_in ps n
  place_at ps n p h e same shift = stands_at place_in ps n p h e (slot_here p (drop (suc n) ps) same) shift

  pub nothing_left : (ps : List Place) (n : ℕ) → length ps ≤ n → there_in (drop n ps) ≡ there_in ps → there_in ps ≡ None
  nothing_left ps n h same = sym same ∙ ap there_in (drop_of_length-le ps h)

  take_none : (b : Bool) (p : PlainPlace) (ps qs : List PlainPlace) (o : Option PlainSlot) → (if b then Some p.slot else o) ≡ None →
      (o ≡ None → qs ≡ ps) → (if b then ps else p ∷ qs) ≡ p ∷ ps
  take_none true p ps qs o h k = absurd (none-some p.slot (sym h))
  take_none false p ps qs o h k = ap (λ xs. p ∷ xs) (k h)

  -- taking out what isn't there changes nothing
  pub taken_none : (ps : List PlainPlace) → slot_at ps key t ≡ None → without_slot ps key t ≡ ps
  taken_none [] h = refl
  taken_none (p ∷ ps) h = take_none (is_at key t p) p ps (without_slot ps key t) (slot_at ps key t) h (taken_none ps)

  -- a slot is put where there is none, and where there is one
  pub put_none : (ps : List PlainPlace) (s : PlainSlot) → slot_at ps key t ≡ None →
      inserted (record { key = key; tag = t; slot = s }) ps ≡ put_slot ps key t s
  put_none ps s none = ap (λ o. put_by o ps key t s) (sym none)

  pub put_some : (ps : List PlainPlace) (s before : PlainSlot) → Some before ≡ slot_at ps key t → with_slot ps key t s ≡ put_slot ps key t s
  put_some ps s before there = ap (λ o. put_by o ps key t s) there

  -- another slot at its place
  pub put_there : (ps : List Place) (place : ℕ) (p : Place) (s : Slot) → place_in ps place → p ≡ get_or ps place p →
      map plain_place (slice_set ps place (record p { slot = s })) ≡ with_slot (map plain_place ps) key t (plain_slot s)
  put_there ps place p s i e = map-set plain_place ps place (record p { slot = s }) ∙
      sym (i.put (plain_slot s) p (get_at ps place p i.within e))

  pub was_there : (ps : List Place) (place : ℕ) (p : Place) → place_in ps place → p ≡ get_or ps place p →
      Some (plain_slot p.slot) ≡ slot_at (map plain_place ps) key t
  was_there ps place p i e = sym (i.there p (get_at ps place p i.within e))

-- where a slot goes that isn't there yet
module _ (key : OutputKey) (t : Tag) where
  abbrev pub place_for_in : List Place → ℕ → Type 0
  place_for_in ps place = IsPlaceFor ps key t place

  for_here : (p : Place) (ps : List Place) → is_before key.0 t (plain_place p) ≡ true → place_for_in (p ∷ ps) 0
  for_here p ps h = (omega arith, λ s. rw h refl)

  for_later : (p : Place) (ps : List Place) (place : ℕ) → is_before key.0 t (plain_place p) ≡ false → place_for_in ps place →
      place_for_in (p ∷ ps) (suc place)
  for_later p ps place h i = (let w = i.0 in omega arith, λ s. rw h (ap (λ xs. plain_place p ∷ xs) (i.1 s)))

  pub for_turn : (ps : List Place) (n m : ℕ) (p : Place) → m ≡ suc n → n < length ps → p ≡ get_or ps n p →
      is_before key.0 t (plain_place p) ≡ false → ((k : ℕ) → place_for_in (drop n ps) k → place_for_in ps (n + k)) → (k : ℕ) →
      place_for_in (drop m ps) k → place_for_in ps (m + k)
  for_turn ps n m p em h e not shift = shift_by place_for_in ps n m p em h e (λ k i. for_later p (drop (suc n) ps) k not i) shift

  pub for_found : (ps : List Place) (n : ℕ) (p : Place) → n < length ps → p ≡ get_or ps n p → is_before key.0 t (plain_place p) ≡ true →
      ((k : ℕ) → place_for_in (drop n ps) k → place_for_in ps (n + k)) → place_for_in ps n
  for_found ps n p h e before shift = stands_at place_for_in ps n p h e (for_here p (drop (suc n) ps) before) shift

  for_none : place_for_in [] 0
  for_none = (omega arith, λ s. refl)

  at_end : (ps : List Place) (n m : ℕ) → length ps ≤ n → m ≡ n → place_for_in ps m → place_for_in ps (length ps)
  at_end ps n m past e i = let same : m ≡ length ps = (let w = i.0 in omega (arith, e, past, w)) in subst (λ j. place_for_in ps j) same i

  pub for_end : (ps : List Place) (n : ℕ) → length ps ≤ n → ((k : ℕ) → place_for_in (drop n ps) k → place_for_in ps (n + k)) →
      place_for_in ps (length ps)
  for_end ps n past shift = at_end ps n (n + 0) past (omega arith)
      (shift 0 (subst (λ xs. place_for_in xs 0) (sym (drop_of_length-le ps past)) for_none))
