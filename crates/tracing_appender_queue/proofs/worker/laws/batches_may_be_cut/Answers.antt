use Rattle.tracing_appender_queue.proofs.worker.CutSteps.{cut, sinks_cut}
use Rattle.tracing_appender_queue.proofs.worker.FolderAfterSteps.{folders_cut}
use Rattle.tracing_appender_queue.proofs.worker.laws.batches_may_be_cut.Goals as goal

pub returns-clause-lines : goal.returns-clause-lines
returns-clause-lines c = cut

pub returns-clause-sinks : goal.returns-clause-sinks
returns-clause-sinks c = sinks_cut

pub returns-clause-folders : goal.returns-clause-folders
returns-clause-folders c = folders_cut
