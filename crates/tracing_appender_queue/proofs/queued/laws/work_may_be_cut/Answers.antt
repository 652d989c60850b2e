use Rattle.tracing_appender_queue.proofs.queued.QueuedWork.{work_cut}
use Rattle.tracing_appender_queue.proofs.queued.laws.work_may_be_cut.Goals as goal

pub returns : goal.returns
returns c = work_cut
