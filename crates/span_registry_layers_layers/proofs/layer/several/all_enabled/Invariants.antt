use Rattle.std.proofs.Common.{length, Bool}
use Rattle.tracing_core_fields.specs.Metadata.{plain_metadata}
use Rattle.span_registry_layers_layers.specs.FilterViews.{view}
use Rattle.span_registry_layers_layers.specs.Several.{AllAnswer}
use Rattle.span_registry_layers_layers.proofs.layer.several.all_enabled.Given as goal

abbrev pub invariant-loop-rest : goal.invariant-loop-rest
invariant-loop-rest g l = (b : Bool) → AllAnswer g.L.Layer l.rest (plain_metadata l.metadata) (view l.context) b →
    AllAnswer g.L.Layer l.fn.layers (plain_metadata l.metadata) (view l.context) b

abbrev pub decreases-loop-rest : goal.decreases-loop-rest
decreases-loop-rest g l = length l.rest
