use Rattle.span_registry_layers.proofs.OneOutputDecides.{one_decides}
use Rattle.span_registry_layers.proofs.laws.one_output_decides.Goals as goal

pub returns : goal.returns
returns g c = one_decides g.F.Filter g.L.Layer
