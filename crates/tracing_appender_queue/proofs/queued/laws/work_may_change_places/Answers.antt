use Rattle.tracing_appender_queue.proofs.queued.QueuedWork.{work_swapped}
use Rattle.tracing_appender_queue.proofs.queued.laws.work_may_change_places.Goals as goal

pub returns : goal.returns
returns c = work_swapped
