-- The layer that an output machine agrees with.
use Rattle.std.proofs.Common.{◌≡◌, ℕ, zero, suc, List, [], ◌∷◌, Option, Some, subst}
use Rattle.std.specs.Prelude.{slice_get}
use Rattle.tracing_core_fields.specs.requests.PlainRequests.{PlainEvent}
use Rattle.span_registry_layers_store.specs.Registries.{RegistryValue}
use Rattle.span_registry_layers_layers.specs.declared.filter.Filter.{Ghosts as FilterGhosts}
use Rattle.event_formatter_text.specs.declared.format_fields.FormatFields.{Ghosts}
use Rattle.event_formatter_text.specs.declared.settings.Settings.{Settings}
use Rattle.event_formatter.specs.formats.Contexts.{PlainContext}
use Rattle.span_tracing_outputs.specs.LayerAgreement.{Matches}
use Rattle.span_tracing_outputs.specs.OutputFolds.{EachAgrees, Numbered}
use Rattle.span_tracing_outputs.specs.Turns.{Lined, own}

module _ {N E F : Type 0} (n : Ghosts N) (line_of : E → Settings → PlainContext → PlainEvent → Option (List ℕ)) (g : FilterGhosts F) where
  -- the machine at a place is that of the layer there
  pub matches : (y : RegistryValue) (rows : List (Lined N E F)) (outs : List (Numbered N)) (place : ℕ) (row : Lined N E F)
      (o : Numbered N) → EachAgrees n line_of g y rows outs → slice_get rows place ≡ Some row → slice_get outs place ≡ Some o →
      Matches n line_of own row.output.layer o.out
  matches y [] outs place row o agrees at also = absurd (cc)
  matches y (r ∷ rows) [] place row o agrees at also = absurd agrees
  matches y (r ∷ rows) (q ∷ outs) zero row o agrees at also =
      let same : r ≡ row = cc in
      let also_same : q ≡ o = cc in
      subst (λ (z : Numbered N). Matches n line_of own row.output.layer z.out) also_same
      (subst (λ (z : Lined N E F). Matches n line_of own z.output.layer q.out) same agrees.0.1.0)
  matches y (r ∷ rows) (q ∷ outs) (suc place) row o agrees at also = matches y rows outs place row o agrees.1 at also
