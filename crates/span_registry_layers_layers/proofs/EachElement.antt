-- Loops that change each element in turn.
use Rattle.std.proofs.Common.{◌≡◌, ◌≤◌, ℕ, zero, suc, ◌+◌, ◌<◌, List, ◌∷◌, [], length, get_or, set, take, drop, refl, subst, arith, add-one}
use Rattle.span_registry_layers_layers.specs.Several.{EachInTurn}

heads : {A : Type 0} (x y : A) (xs ys : List A) → x ∷ xs ≡ y ∷ ys → x ≡ y
heads x y xs ys e = cc

tails : {A : Type 0} (x y : A) (xs ys : List A) → x ∷ xs ≡ y ∷ ys → xs ≡ ys
tails x y xs ys e = cc

module _ {S A : Type 0} (R : S → A → S → A → Type 0) where
  turn : (x z y : S) (old cur : List A) (i : ℕ) (d b : A) → i < length old → i < length cur → EachInTurn R x (take i old) z (take i cur) →
      drop i cur ≡ drop i old → R z (get_or cur i d) y b → EachInTurn R x (take (suc i) old) y (take (suc i) (set cur i b)) ×
      (drop (suc i) (set cur i b) ≡ drop (suc i) old)
  turn x z y [] cur i d b inside within done left r = absurd (omega arith)
  turn x z y (l ∷ ls) [] i d b inside within done left r = absurd (omega arith)
  turn x z y (l ∷ ls) (m ∷ ms) zero d b inside within done left r =
      ((y, subst (λ w. R w l y b) done (subst (λ e. R z e y b) (heads m l ms ls left) r), refl), tails m l ms ls left)
  turn x z y (l ∷ ls) (m ∷ ms) (suc i) d b inside within done left r =
      let later = turn done.0 z y ls ms i d b (omega arith) (omega arith) done.2 left r in
      ((done.0, done.1, later.0), later.1)

  pub turn_next : (x z y : S) (old cur : List A) (i : ℕ) (d b : A) → i < length old → i < length cur →
      EachInTurn R x (take i old) z (take i cur) → drop i cur ≡ drop i old → R z (get_or cur i d) y b →
      EachInTurn R x (take (i + 1) old) y (take (i + 1) (set cur i b)) × (drop (i + 1) (set cur i b) ≡ drop (i + 1) old)
  turn_next x z y old cur i d b inside within done left r = rw add-one (turn x z y old cur i d b inside within done left r)

  pub turns_end : (x y : S) (old cur : List A) (i : ℕ) → length old ≤ i → length cur ≤ i → EachInTurn R x (take i old) y (take i cur) →
      EachInTurn R x old y cur
  turns_end x y [] [] zero h n done = done
  turns_end x y [] [] (suc i) h n done = done
  turns_end x y [] (m ∷ ms) zero h n done = absurd (omega arith)
  turns_end x y [] (m ∷ ms) (suc i) h n done = done
  turns_end x y (l ∷ ls) cur zero h n done = absurd (omega arith)
  turns_end x y (l ∷ ls) [] (suc i) h n done = done
  turns_end x y (l ∷ ls) (m ∷ ms) (suc i) h n done = (done.0, done.1, turns_end done.0 y ls ms i (omega arith) (omega arith) done.2)
