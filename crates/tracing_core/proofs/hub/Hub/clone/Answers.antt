use Rattle.tracing_core.proofs.CachePreservation.{hold_keeps}
use Rattle.tracing_core.proofs.hub.Hub.clone.Goals as goal

pub returns-clause-keeps : goal.returns-clause-keeps
returns-clause-keeps g c = hold_keeps g.S.Subscriber g.C.Callsite c.args.self.now _ c.args.dispatch.now c.take_another.ensures.state
