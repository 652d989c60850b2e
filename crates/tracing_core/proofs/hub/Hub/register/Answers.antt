use Rattle.tracing_core.proofs.CachePreservation.{register_keeps}
use Rattle.tracing_core.proofs.hub.Hub.register.Goals as goal

pub returns-clause-keeps : goal.returns-clause-keeps
returns-clause-keeps g c = register_keeps g.S.Subscriber g.C.Callsite c.args.self.now _ c.args.callsite c.take_once.result
    c.take_once.ensures
