use Rattle.tracing_appender_queue.proofs.worker.Workers.{steps_cut}
use Rattle.tracing_appender_queue.proofs.worker.laws.steps_may_be_cut.Goals as goal

pub returns : goal.returns
returns c = steps_cut
