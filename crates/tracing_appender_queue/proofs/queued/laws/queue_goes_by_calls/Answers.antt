use Rattle.tracing_appender_queue.proofs.queued.QueueCalls.{goes}
use Rattle.tracing_appender_queue.proofs.queued.laws.queue_goes_by_calls.Goals as goal

pub returns : goal.returns
returns c = goes
