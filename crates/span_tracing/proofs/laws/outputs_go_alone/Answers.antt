use Rattle.span_tracing.proofs.OutputIndependence.{outputs_go_alone}
use Rattle.span_tracing.proofs.laws.outputs_go_alone.Goals as goal

pub returns : goal.returns
returns g c = outputs_go_alone g.N.FormatFields
