-- Loops that change each element in turn.
use Rattle.std.proofs.Common.{◌≡◌, ◌≤◌, ℕ, zero, suc, ◌+◌, ◌<◌, List, ◌∷◌, [], length, get_or, set, take, drop, map, refl, ap, sym, subst}
use Rattle.std.proofs.Common.{arith, add-one}
use Rattle.span_registry_layers.specs.OutputSlots.{EachBecomes}

heads : {A : Type 0} (x y : A) (xs ys : List A) → x ∷ xs ≡ y ∷ ys → x ≡ y
heads x y xs ys e = cc

tails : {A : Type 0} (x y : A) (xs ys : List A) → x ∷ xs ≡ y ∷ ys → xs ≡ ys
tails x y xs ys e = cc

module _ {A : Type 0} (R : A → A → Type 0) where
  step : (old cur : List A) (i : ℕ) (d y : A) → i < length old → i < length cur → EachBecomes R (take i old) (take i cur) →
      drop i cur ≡ drop i old → R (get_or cur i d) y → EachBecomes R (take (suc i) old) (take (suc i) (set cur i y)) ×
      (drop (suc i) (set cur i y) ≡ drop (suc i) old)
  step [] cur i d y inside within done left r = absurd (omega arith)
  step (x ∷ xs) [] i d y inside within done left r = absurd (omega arith)
  step (x ∷ xs) (z ∷ zs) zero d y inside within done left r = ((subst (λ a. R a y) (heads z x zs xs left) r, tt), tails z x zs xs left)
  step (x ∷ xs) (z ∷ zs) (suc i) d y inside within done left r =
      let later = step xs zs i d y (omega arith) (omega arith) done.1 left r in
      ((done.0, later.0), later.1)

  pub becomes_next : (old cur : List A) (i : ℕ) (d y : A) → i < length old → i < length cur → EachBecomes R (take i old) (take i cur) →
      drop i cur ≡ drop i old → R (get_or cur i d) y → EachBecomes R (take (i + 1) old) (take (i + 1) (set cur i y)) ×
      (drop (i + 1) (set cur i y) ≡ drop (i + 1) old)
  becomes_next old cur i d y inside within done left r = rw add-one (step old cur i d y inside within done left r)

  pub becomes_end : (old cur : List A) (i : ℕ) → length old ≤ i → length cur ≤ i → EachBecomes R (take i old) (take i cur) →
      EachBecomes R old cur
  becomes_end [] [] zero h n done = tt
  becomes_end [] [] (suc i) h n done = tt
  becomes_end [] (z ∷ zs) zero h n done = absurd (omega arith)
  becomes_end [] (z ∷ zs) (suc i) h n done = done
  becomes_end (x ∷ xs) cur zero h n done = absurd (omega arith)
  becomes_end (x ∷ xs) [] (suc i) h n done = done
  becomes_end (x ∷ xs) (z ∷ zs) (suc i) h n done = (done.0, becomes_end xs zs i (omega arith) (omega arith) done.1)

-- s with its first i elements changed
abbrev pub so_far : {A : Type 0} → (A → A) → ℕ → List A → List A
so_far f i [] = []
so_far f zero (x ∷ xs) = x ∷ xs
so_far f (suc i) (x ∷ xs) = f x ∷ so_far f i xs

pub so_far-zero : {A : Type 0} (f : A → A) (s : List A) → so_far f 0 s ≡ s
so_far-zero f [] = refl
so_far-zero f (x ∷ xs) = refl

pub so_far-all : {A : Type 0} (f : A → A) (s : List A) → so_far f (length s) s ≡ map f s
so_far-all f [] = refl
so_far-all f (x ∷ xs) = ap (λ r. f x ∷ r) (so_far-all f xs)

pub so_far-at : {A : Type 0} (f : A → A) (s : List A) (i : ℕ) (d : A) → get_or (so_far f i s) i d ≡ get_or s i d
so_far-at f [] i d = refl
so_far-at f (x ∷ xs) zero d = refl
so_far-at f (x ∷ xs) (suc i) d = so_far-at f xs i d

pub so_far-more : {A : Type 0} (f : A → A) (s : List A) (i : ℕ) (d : A) → i < length s →
    set (so_far f i s) i (f (get_or s i d)) ≡ so_far f (suc i) s
so_far-more f [] i d h = refl
so_far-more f (x ∷ xs) zero d h = ap (λ r. f x ∷ r) (sym (so_far-zero f xs))
so_far-more f (x ∷ xs) (suc i) d h = ap (λ r. f x ∷ r) (so_far-more f xs i d (omega arith))

pub so_far-next : {A : Type 0} (f : A → A) (s t : List A) (i : ℕ) (d y : A) → i < length s → t ≡ so_far f i s → y ≡ f (get_or t i d) →
    set t i y ≡ so_far f (i + 1) s
so_far-next f s t i d y h e k =
    rw (add-one, e, k, e, so_far-at f s i d) (so_far-more f s i d h)
