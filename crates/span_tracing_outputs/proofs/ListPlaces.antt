-- Places of a list, one of which gets another value.
use Rattle.std.proofs.Common.{◌≡◌, ◌∙◌, ◌<◌, ◌==◌, ℕ, Bool, zero, suc, List, [], ◌∷◌, length, map, true, false, Some, arith, refl, ap}
use Rattle.std.proofs.Common.{slice_get, slice_set}

pub by_bool : (b : Bool) {P : Type 0} → (b ≡ true → P) → (b ≡ false → P) → P
by_bool true first second = first refl
by_bool false first second = second refl

pub set_own : {A : Type 0} (xs : List A) (i : ℕ) (x : A) → i < length xs → slice_get (slice_set xs i x) i ≡ Some x
set_own [] i x inside = absurd (omega arith)
set_own (y ∷ ys) zero x inside = refl
set_own (y ∷ ys) (suc i) x inside = set_own ys i x (omega arith)

pub set_other : {A : Type 0} (xs : List A) (i j : ℕ) (x : A) → (j == i) ≡ false → slice_get (slice_set xs i x) j ≡ slice_get xs j
set_other [] i j x apart = refl
set_other (y ∷ ys) zero zero x apart = absurd (cc)
set_other (y ∷ ys) zero (suc j) x apart = refl
set_other (y ∷ ys) (suc i) zero x apart = refl
set_other (y ∷ ys) (suc i) (suc j) x apart = set_other ys i j x (grind arith)

-- what stands at a place stands within the list
pub stands_within : {A : Type 0} (xs : List A) (i : ℕ) (x : A) → slice_get xs i ≡ Some x → i < length xs
stands_within [] i x is = absurd (cc)
stands_within (y ∷ ys) zero x is = omega arith
stands_within (y ∷ ys) (suc i) x is = let below = stands_within ys i x is in omega (arith, below)

-- a value that counts as the one before
pub same_set : {A : Type 0} (f : A → ℕ) (xs : List A) (i : ℕ) (x y : A) → slice_get xs i ≡ Some x → f y ≡ f x →
    map f (slice_set xs i y) ≡ map f xs
same_set f [] i x y is same = refl
same_set f (z ∷ zs) zero x y is same =
    let it : z ≡ x = cc in ap (λ (k : ℕ). k ∷ map f zs) (same ∙ ap f (it_back it))
  where
    it_back : {A : Type 0} {a b : A} → a ≡ b → b ≡ a
    it_back e = cc
same_set f (z ∷ zs) (suc i) x y is same = ap (λ ks. f z ∷ ks) (same_set f zs i x y is same)
