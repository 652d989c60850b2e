use Rattle.tracing_appender_queue.proofs.worker.CutSteps.{first_lines}
use Rattle.tracing_appender_queue.proofs.worker.laws.first_lines_are_taken.Goals as goal

pub returns : goal.returns
returns c = first_lines
