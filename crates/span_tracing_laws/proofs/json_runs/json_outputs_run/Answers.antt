use Rattle.span_tracing_laws.proofs.json_runs.Outputs.{outputs_run}
use Rattle.span_tracing_laws.proofs.json_runs.json_outputs_run.Goals as goal

pub returns : goal.returns
returns g c = outputs_run g.N.FormatFields c.json_outputs_offer_objects.ensures
