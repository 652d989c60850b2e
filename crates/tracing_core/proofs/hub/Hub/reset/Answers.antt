use Rattle.tracing_core.proofs.CachePreservation.{reset_keeps}
use Rattle.tracing_core.proofs.hub.Hub.reset.Goals as goal

pub returns-clause-keeps : goal.returns-clause-keeps
returns-clause-keeps g c = reset_keeps g.S.Subscriber g.C.Callsite c.args.self.now _ c.args.lane c.args.guard c.restore.result
    c.restore.ensures
