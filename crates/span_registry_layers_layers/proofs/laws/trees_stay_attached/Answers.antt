use Rattle.span_registry_layers_layers.specs.TreeConsistency.{stay_attached}
use Rattle.span_registry_layers_layers.proofs.laws.trees_stay_attached.Goals as goal

pub returns : goal.returns
returns g c = stay_attached g.L.Layer
