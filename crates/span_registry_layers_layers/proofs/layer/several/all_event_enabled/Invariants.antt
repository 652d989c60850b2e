use Rattle.std.proofs.Common.{length, Bool}
use Rattle.tracing_core_fields.specs.requests.PlainRequests.{plain_event}
use Rattle.span_registry_layers_layers.specs.FilterViews.{view}
use Rattle.span_registry_layers_layers.specs.Several.{AllAnswerEvents}
use Rattle.span_registry_layers_layers.proofs.layer.several.all_event_enabled.Given as goal

abbrev pub invariant-loop-rest : goal.invariant-loop-rest
invariant-loop-rest g l = (b : Bool) → AllAnswerEvents g.L.Layer l.rest (plain_event l.event) (view l.context) b →
    AllAnswerEvents g.L.Layer l.fn.layers (plain_event l.event) (view l.context) b

abbrev pub decreases-loop-rest : goal.decreases-loop-rest
decreases-loop-rest g l = length l.rest
