use Rattle.span_tracing_outputs.proofs.OutputFolds.{folded}
use Rattle.span_tracing_outputs.proofs.laws.outputs_fold.Goals as goal

pub returns : goal.returns
returns g c = folded g.N.FormatFields g.E.FormatEvent.line_of g.F.Filter
