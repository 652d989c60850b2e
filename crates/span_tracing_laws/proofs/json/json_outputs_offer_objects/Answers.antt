use Rattle.span_tracing_laws.proofs.json.Runs.{json_runs}
use Rattle.span_tracing_laws.proofs.json.json_outputs_offer_objects.Goals as goal

pub returns : goal.returns
returns g c = json_runs g.N.FormatFields c.json_fields_keep_objects.ensures.shown
