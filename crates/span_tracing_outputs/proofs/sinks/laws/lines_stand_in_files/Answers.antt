use Rattle.span_tracing_outputs.proofs.sinks.LinesInFiles.{lines_stand}
use Rattle.span_tracing_outputs.proofs.sinks.laws.lines_stand_in_files.Goals as goal

pub returns : goal.returns
returns g c = lines_stand g.D.Folder.contents g.D.Folder.failed
