use Rattle.tracing_core.proofs.CachePreservation.{default_keeps}
use Rattle.tracing_core.proofs.hub.Hub.set_default.Goals as goal

pub returns-clause-keeps : goal.returns-clause-keeps
returns-clause-keeps g c = default_keeps g.S.Subscriber g.C.Callsite c.args.self.now _ c.args.lane c.args.dispatch.now
    c.set_own.ensures.state
