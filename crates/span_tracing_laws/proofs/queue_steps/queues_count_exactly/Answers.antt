use Rattle.span_tracing_laws.proofs.queue_steps.QueueCounts.{queues_count}
use Rattle.span_tracing_laws.proofs.queue_steps.queues_count_exactly.Goals as goal

pub returns : goal.returns
returns g c = queues_count g.D.Folder.contents g.D.Folder.failed c.drops_are_exact.ensures
