-- One more of the same at the end.
use Rattle.std.proofs.Common.{◌≡◌, ℕ, zero, suc, ◌+◌, List, [], ◌∷◌, ◌++◌, refl, sym, ap, ◌∙◌, add-one, append_assoc}
use Rattle.std.proofs.Math.ListN.{replicate}

one_behind : (n x : ℕ) → replicate n x ++ (x ∷ []) ≡ replicate (suc n) x
one_behind zero x = refl
one_behind (suc n) x = ap (λ (xs : List ℕ). x ∷ xs) (one_behind n x)

pub one_more : (old mid new : List ℕ) (n : ℕ) → mid ≡ old ++ replicate n 32 → new ≡ mid ++ (32 ∷ []) → new ≡ old ++ replicate (n + 1) 32
one_more old mid new n m e =
    e ∙ ap (λ (t : List ℕ). t ++ (32 ∷ [])) m ∙ append_assoc old (replicate n 32) (32 ∷ []) ∙
    ap (λ (t : List ℕ). old ++ t) (one_behind n 32)
    ∙ ap (λ (k : ℕ). old ++ replicate k 32) (sym (add-one n))
