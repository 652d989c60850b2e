use Rattle.tracing_core.proofs.CachePreservation.{global_keeps}
use Rattle.tracing_core.proofs.hub.Hub.set_global_default.Goals as goal

pub returns-clause-keeps : goal.returns-clause-keeps
returns-clause-keeps g c = global_keeps g.S.Subscriber g.C.Callsite c.args.self.now _ c.args.dispatch.now c.set_global.ensures.state
