-- The texts of a list's elements with a separator between each two.
use Rattle.std.proofs.Common.{arith, ◌≡◌, ◌<◌, ◌+◌, ◌-◌, ℕ, zero, suc, Bool, true, nat_eq, List, [], ◌∷◌, ◌++◌, length, take, get_or, Some}
use Rattle.std.proofs.Common.{None, refl, sym, ap, ◌∙◌, append_assoc, add-one}
use Rattle.std.proofs.Math.Seq.{take-suc}
use Rattle.std.proofs.lemmas.Bool.Decides.{nat_tests}
use Rattle.std.proofs.lemmas.List.{append-nil, take_all}
use Rattle.std.proofs.lemmas.Grind.{flat_map-append}
use Rattle.std.specs.List.{flat_map, join_by, last_or}
use Rattle.event_formatter_text.specs.MemberChains.{is_still_first}
use Rattle.event_formatter_text.specs.Lists.{further}

module _ {X : Type 0} (f : X → List ℕ) (separator : List ℕ) where
  one_more : (xs : List X) (x : X) → join_by f separator (xs ++ (x ∷ [])) ≡ join_by f separator xs ++
      further separator (is_still_first true xs) (f x)
  one_more [] x = append-nil (f x)
  one_more (y ∷ ys) x =
      ap (λ (t : List ℕ). f y ++ t) (flat_map-append (λ z. separator ++ f z) ys (x ∷ []) ∙
      ap (λ (t : List ℕ). flat_map (λ z. separator ++ f z) ys ++ t) (append-nil (separator ++ f x)))
      ∙ sym (append_assoc (f y) (flat_map (λ z. separator ++ f z) ys) (separator ++ f x))

  at_start : (xs : List X) (index : ℕ) → index < length xs → is_still_first true (take index xs) ≡ nat_eq index 0
  at_start [] index below = absurd (omega arith)
  at_start (x ∷ xs) zero below = refl
  at_start (x ∷ xs) (suc i) below = grind (arith, nat_tests)

  -- a turn of a loop over the elements
  pub turned : (xs : List X) (index : ℕ) (d : X) (old mid new : List ℕ) → index < length xs → mid ≡ old ++
      join_by f separator (take index xs) → new ≡ mid ++ further separator (nat_eq index 0) (f (get_or xs index d)) →
      new ≡ old ++ join_by f separator (take (index + 1) xs)
  turned xs index d old mid new below m n =
      let piece : Bool → List ℕ = λ first. further separator first (f (get_or xs index d)) in
      n ∙ ap (λ (t : List ℕ). t ++ piece (nat_eq index 0)) m ∙ append_assoc old (join_by f separator (take index xs))
      (piece (nat_eq index 0))
      ∙ ap (λ (t : List ℕ). old ++ t) (ap (λ (b : Bool). join_by f separator (take index xs) ++ piece b) (sym (at_start xs index below)) ∙
      sym (one_more (take index xs) (get_or xs index d))
      ∙ ap (join_by f separator) (sym (take-suc xs index d below)) ∙ ap (λ (j : ℕ). join_by f separator (take j xs)) (sym (add-one index)))

-- the last element
last_is : {X : Type 0} (x : X) (xs : List X) (d : X) → last_or (Some x) xs ≡ Some (get_or (x ∷ xs) (length xs) d)
last_is x [] d = refl
last_is x (y ∷ ys) d = last_is y ys d

pub last_at : {X : Type 0} (xs : List X) (count : ℕ) (d : X) → count ≡ length xs → 0 < count →
    last_or None xs ≡ Some (get_or xs (count - 1) d)
last_at [] count d is some = absurd (omega arith)
last_at (x ∷ xs) count d is some = last_is x xs d ∙ ap (λ (j : ℕ). Some (get_or (x ∷ xs) j d)) (omega arith)

-- the same with elements that come by themselves
module _ {X : Type 0} (f : X → List ℕ) (separator : List ℕ) where
  pub turned_with : (xs : List X) (index : ℕ) (d x : X) (old mid new : List ℕ) → index < length xs → x ≡ get_or xs index d → mid ≡ old ++
      join_by f separator (take index xs) →
      new ≡ mid ++ further separator (nat_eq index 0) (f x) → new ≡ old ++ join_by f separator (take (index + 1) xs)
  turned_with xs index d x old mid new below is m n =
      turned f separator xs index d old mid new below m (n ∙ ap (λ (y : X). mid ++ further separator (nat_eq index 0) (f y)) is)

  -- up to the last one
  pub all_turned : (xs : List X) (place : ℕ) (d x : X) (old mid new : List ℕ) → place + 1 ≡ length xs → x ≡ get_or xs place d → mid ≡ old ++
      join_by f separator (take place xs) →
      new ≡ mid ++ further separator (nat_eq place 0) (f x) → new ≡ old ++ join_by f separator xs
  all_turned xs place d x old mid new count is m n =
      turned_with xs place d x old mid new (omega arith) is m n ∙ ap (λ (ys : List X). old ++ join_by f separator ys)
      (take_all (place + 1) xs (omega arith))
