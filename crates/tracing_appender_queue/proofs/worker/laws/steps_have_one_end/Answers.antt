use Rattle.tracing_appender_queue.proofs.worker.StepDeterminism.{steps_once}
use Rattle.tracing_appender_queue.proofs.worker.laws.steps_have_one_end.Goals as goal

pub returns : goal.returns
returns c = steps_once
