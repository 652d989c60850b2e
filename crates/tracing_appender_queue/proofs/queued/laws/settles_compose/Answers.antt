use Rattle.tracing_appender_queue.proofs.queued.ExactCounts.{compose}
use Rattle.tracing_appender_queue.proofs.queued.laws.settles_compose.Goals as goal

pub returns : goal.returns
returns c = compose
