-- The first of several refusals.
use Rattle.std.proofs.Common.{◌≡◌, Option, Some, None, refl}
use Rattle.span_tracing_skeleton.specs.Refusing.{first}
use Rattle.span_tracing_skeleton.specs.declared.refusal.Refusal.{Refusal}

pub first_then : (a b c : Option Refusal) → first (first a b) c ≡ first a (first b c)
first_then None b c = refl
first_then (Some refusal) b c = refl

-- the first of four, and then of the others
pub first_of_four : (a b c d e : Option Refusal) → first (first a (first b (first c d))) e ≡ first a (first b (first c (first d e)))
first_of_four None None None d e = refl
first_of_four None None (Some refusal) d e = refl
first_of_four None (Some refusal) c d e = refl
first_of_four (Some refusal) b c d e = refl
