use Rattle.span_tracing_outputs.proofs.sinks.QueueFiles.{queues_stand}
use Rattle.span_tracing_outputs.proofs.sinks.laws.queued_lines_stand_in_files.Goals as goal

pub returns : goal.returns
returns g c = queues_stand g.D.Folder.contents g.D.Folder.failed c.drops_are_exact.ensures
