use Rattle.span_tracing_laws.proofs.queue_steps.TraceCuts.{traces_cut}
use Rattle.span_tracing_laws.proofs.queue_steps.work_may_be_cut.Goals as goal

pub returns : goal.returns
returns g c = traces_cut _ g.D.Folder.contents g.D.Folder.failed _ _ _ c.work_may_be_cut.ensures
