use Rattle.span_registry_layers.proofs.Numbers.{span_dropped}
use Rattle.span_registry_layers.proofs.laws.dropped_spans_tell_nobody.Goals as goal

pub returns : goal.returns
returns g c = span_dropped g.F.Filter g.L.Layer
