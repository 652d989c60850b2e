use Rattle.span_tracing_outputs.proofs.sinks.Fates.{told}
use Rattle.span_tracing_outputs.proofs.sinks.laws.runs_are_told.Goals as goal

pub returns : goal.returns
returns g c = told g.D.Folder.contents g.D.Folder.failed
