-- A filter as a layer.
use Rattle.std.specs.Prelude.{◌≡◌}
use Rattle.std.proofs.Common.{subst, sym}
use Rattle.tracing_core_fields.specs.requests.Steady.{SameWord}
use Rattle.span_registry_layers_layers.specs.Combined.{same_word}
use Rattle.span_registry_layers_layers.specs.Honesty.{Fair}
use Rattle.span_registry_layers_layers.specs.declared.filter.Filter.{Ghosts}

-- no notice changes it
pub veto_stays : {F : Type 0} (g : Ghosts F) (x y : F) → y ≡ x → Fair (g.answers x) (g.says x) (g.hint x) →
    Fair (g.answers y) (g.says y) (g.hint y) × SameWord (g.says x) (g.says y) (g.hint x) (g.hint y)
veto_stays g x y same k = subst (λ z. Fair (g.answers z) (g.says z) (g.hint z) × SameWord (g.says x) (g.says z) (g.hint x) (g.hint z))
    (sym same) (k, same_word (g.says x) (g.hint x))
