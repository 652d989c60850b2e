use Rattle.tracing_core.proofs.CachePreservation.{release_keeps}
use Rattle.tracing_core.proofs.hub.Hub.release.Goals as goal

pub returns-clause-keeps : goal.returns-clause-keeps
returns-clause-keeps g c = release_keeps g.S.Subscriber g.C.Callsite c.args.self.now _ c.args.dispatch c.let_go.ensures.state
