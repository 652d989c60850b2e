use Rattle.span_tracing_laws.proofs.harmless.Runs.{outputs_run}
use Rattle.span_tracing_laws.proofs.harmless.harmless_outputs_run.Goals as goal

pub returns : goal.returns
returns g c = outputs_run g.N.FormatFields c.outputs_stay_harmless.ensures
