use Rattle.span_registry_layers.proofs.Numbers.{numbers_same}
use Rattle.span_registry_layers.proofs.laws.numbers_stay.Goals as goal

pub returns : goal.returns
returns g c = numbers_same g.F.Filter g.L.Layer
