-- A layer that does nothing.
use Rattle.std.specs.Prelude.{◌≡◌, true, None}
use Rattle.std.proofs.Common.{sym, subst}
use Rattle.tracing_core_fields.specs.declared.requests.interest.InterestInner.TheVariants.{Always}
use Rattle.tracing_core_fields.specs.requests.Steady.{InterestFits}
use Rattle.span_registry_layers_layers.specs.Honesty.{Fair}

-- it passes all, and says so
pub idle_fair : Fair (λ m v b. b ≡ true) (λ m k. k ≡ Always) None
idle_fair = record { interest = λ m v b i a s. subst (λ j. InterestFits j b) (sym s) a; below = λ m v b a. tt }
