use Rattle.std.proofs.Common.{◌≡◌, Bool, List, false, length}
use Rattle.tracing_core_fields.specs.Metadata.{plain_metadata}
use Rattle.span_registry_layers_store.specs.Verdicts.{all_pass}
use Rattle.span_registry_layers.specs.CommonAnswers.{AsksFrom}
use Rattle.span_registry_layers.proofs.output_slots.ask_span.Given as goal

abbrev pub invariant-loop-rest : goal.invariant-loop-rest
invariant-loop-rest g l =
    record {
      rest : (verdicts : List Bool) (some : Bool) → AsksFrom g.F.Filter g.L.Layer (plain_metadata l.metadata) l.at l.fn.registry
          l.verdicts.passed l.some l.rest verdicts some →
          AsksFrom g.F.Filter g.L.Layer (plain_metadata l.metadata) l.at l.fn.registry all_pass false l.fn.rows verdicts some;
      same : l.registry ≡ l.fn.registry;
    }

abbrev pub decreases-loop-rest : goal.decreases-loop-rest
decreases-loop-rest g l = length l.rest
