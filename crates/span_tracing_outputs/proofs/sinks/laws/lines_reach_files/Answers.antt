use Rattle.span_tracing_outputs.proofs.sinks.Fates.{lines_reach}
use Rattle.span_tracing_outputs.proofs.sinks.laws.lines_reach_files.Goals as goal

pub returns : goal.returns
returns g c = lines_reach g.D.Folder.contents g.D.Folder.failed
