-- Loops that change each element in turn, and gather from each.
use Rattle.std.proofs.Common.{◌≡◌, ℕ, zero, suc, ◌+◌, ◌<◌, ◌≤◌, List, ◌∷◌, [], length, get_or, set, take, drop, refl, subst, arith, add-one}
use Rattle.tracing_core.specs.InterestsAndHints.{Each}

heads : {A : Type 0} (x y : A) (xs ys : List A) → x ∷ xs ≡ y ∷ ys → x ≡ y
heads x y xs ys e = cc

tails : {A : Type 0} (x y : A) (xs ys : List A) → x ∷ xs ≡ y ∷ ys → xs ≡ ys
tails x y xs ys e = cc

module _ {K A : Type 0} (R : K → A → A → K → Type 0) where
  step : (k acc next : K) (old cur : List A) (i : ℕ) (d y : A) → i < length old → i < length cur → Each R k (take i old) (take i cur) acc →
      drop i cur ≡ drop i old → R acc (get_or cur i d) y next → Each R k (take (suc i) old) (take (suc i) (set cur i y)) next ×
      (drop (suc i) (set cur i y) ≡ drop (suc i) old)
  step k acc next [] cur i d y inside within done left r = absurd (omega arith)
  step k acc next (x ∷ xs) [] i d y inside within done left r = absurd (omega arith)
  step k acc next (x ∷ xs) (z ∷ zs) zero d y inside within done left r =
      let s : R k x y next = subst (λ a. R a x y next) done (subst (λ a. R acc a y next) (heads z x zs xs left) r) in
      ((next, s, refl), tails z x zs xs left)
  step k acc next (x ∷ xs) (z ∷ zs) (suc i) d y inside within done left r =
      let later = step done.0 acc next xs zs i d y (omega arith) (omega arith) done.2 left r in
      ((done.0, done.1, later.0), later.1)

  pub each_next : (k acc next : K) (old cur : List A) (i : ℕ) (d y : A) → i < length old → i < length cur →
      Each R k (take i old) (take i cur) acc → drop i cur ≡ drop i old → R acc (get_or cur i d) y next →
      Each R k (take (i + 1) old) (take (i + 1) (set cur i y)) next × (drop (i + 1) (set cur i y) ≡ drop (i + 1) old)
  each_next k acc next old cur i d y inside within done left r = rw add-one (step k acc next old cur i d y inside within done left r)

  pub each_start : (k : K) (old : List A) → Each R k (take 0 old) (take 0 old) k
  each_start k [] = refl
  each_start k (x ∷ xs) = refl

  pub each_end : (k last : K) (old cur : List A) (i : ℕ) → length old ≤ i → length cur ≤ i → Each R k (take i old) (take i cur) last →
      Each R k old cur last
  each_end k last [] [] zero h n done = done
  each_end k last [] [] (suc i) h n done = done
  each_end k last [] (z ∷ zs) zero h n done = absurd (omega arith)
  each_end k last [] (z ∷ zs) (suc i) h n done = done
  each_end k last (x ∷ xs) cur zero h n done = absurd (omega arith)
  each_end k last (x ∷ xs) [] (suc i) h n done = done
  each_end k last (x ∷ xs) (z ∷ zs) (suc i) h n done = (done.0, done.1, each_end done.0 last xs zs i (omega arith) (omega arith) done.2)
