use Rattle.span_tracing_outputs.proofs.sinks.OutputRuns.{each_composes}
use Rattle.span_tracing_outputs.proofs.sinks.laws.each_sink_has_its_run.Goals as goal

pub returns : goal.returns
returns g c = each_composes g.S.LineSink.takes
