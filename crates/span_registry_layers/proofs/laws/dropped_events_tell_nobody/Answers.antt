use Rattle.span_registry_layers.proofs.Numbers.{nobody_told}
use Rattle.span_registry_layers.proofs.laws.dropped_events_tell_nobody.Goals as goal

pub returns : goal.returns
returns g c = nobody_told g.F.Filter g.L.Layer
