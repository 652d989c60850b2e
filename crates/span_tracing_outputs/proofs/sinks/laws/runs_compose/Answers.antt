use Rattle.span_tracing_outputs.proofs.sinks.Runs.{runs_compose}
use Rattle.span_tracing_outputs.proofs.sinks.laws.runs_compose.Goals as goal

pub returns : goal.returns
returns g c = runs_compose g.S.LineSink.takes
