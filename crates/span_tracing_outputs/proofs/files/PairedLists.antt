-- Lists whose elements stand to one another place by place.
use Rattle.std.proofs.Common.{◌≡◌, List, [], ◌∷◌, ◌++◌, length, refl}
use Rattle.span_tracing_outputs.specs.files.OpenedStack.{Pairs}

module _ {A B : Type 0} (r : A → B → Type 0) where
  pub pairs_more : (xs : List A) (ys : List B) (x : A) (y : B) → Pairs r xs ys → r x y → Pairs r (xs ++ x ∷ []) (ys ++ y ∷ [])
  pairs_more [] [] x y pairs last = (last, tt)
  pairs_more [] (z ∷ zs) x y pairs last = absurd pairs
  pairs_more (z ∷ zs) [] x y pairs last = absurd pairs
  pairs_more (a ∷ xs) (b ∷ ys) x y pairs last = (pairs.0, pairs_more xs ys x y pairs.1 last)

  pub same_length : (xs : List A) (ys : List B) → Pairs r xs ys → length ys ≡ length xs
  same_length [] [] pairs = refl
  same_length [] (y ∷ ys) pairs = absurd pairs
  same_length (x ∷ xs) [] pairs = absurd pairs
  same_length (x ∷ xs) (y ∷ ys) pairs = let later = same_length xs ys pairs.1 in cc
