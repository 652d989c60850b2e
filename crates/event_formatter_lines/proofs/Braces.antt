-- What stands between braces.
use Rattle.std.proofs.Common.{arith, ◌≡◌, ◌-◌, ℕ, true, nat_eq, List, [], ◌∷◌, ◌++◌, codes, length, take, Some, refl, ap, ◌∙◌}
use Rattle.std.proofs.Common.{length-append}
use Rattle.std.proofs.Math.Seq.{take-append_seam}
use Rattle.std.proofs.lemmas.Bool.Decides.{Decides-eqb}
use Rattle.std.proofs.lemmas.Slice.Eq.{ends_is}
use Rattle.std.specs.List.{ends_with}
use Rattle.event_formatter_lines.specs.Json.{inside_braces}

-- a text between braces
pub inside : (y : List ℕ) → inside_braces (123 ∷ (y ++ (125 ∷ []))) ≡ Some y
inside y =
    let ends : ends_with nat_eq (123 ∷ (y ++ (125 ∷ []))) (codes "}") ≡ true =
    (ends_is Decides-eqb (123 ∷ (y ++ (125 ∷ []))) (125 ∷ []) (ends_with nat_eq (123 ∷ (y ++ (125 ∷ []))) (codes "}")) refl).1 (123 ∷ y)
    refl in
    let less : length (123 ∷ (y ++ (125 ∷ []))) - 1 - 1 ≡ length y = let sum = length-append y (125 ∷ []) in omega arith in
    rw ends (ap Some (ap (λ (n : ℕ). take n (y ++ (125 ∷ []))) less ∙ take-append_seam y (125 ∷ [])))
