use Rattle.span_registry_layers.proofs.Numbers.{verdicts_own}
use Rattle.span_registry_layers.proofs.laws.verdicts_are_own.Goals as goal

pub returns : goal.returns
returns g c = verdicts_own g.F.Filter g.L.Layer
