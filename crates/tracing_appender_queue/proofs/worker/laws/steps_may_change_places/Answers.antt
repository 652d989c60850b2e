use Rattle.tracing_appender_queue.proofs.worker.Workers.{steps_swapped}
use Rattle.tracing_appender_queue.proofs.worker.laws.steps_may_change_places.Goals as goal

pub returns : goal.returns
returns c = steps_swapped
