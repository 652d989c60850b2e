use Rattle.tracing_appender_queue.proofs.queued.ExactCounts.{exact}
use Rattle.tracing_appender_queue.proofs.queued.laws.drops_are_exact.Goals as goal

pub returns : goal.returns
returns c = exact
