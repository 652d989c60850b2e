use Rattle.tracing_core.proofs.CachePreservation.{end_keeps}
use Rattle.tracing_core.proofs.hub.Hub.end_thread.Goals as goal

pub returns-clause-keeps : goal.returns-clause-keeps
returns-clause-keeps g c = end_keeps g.S.Subscriber g.C.Callsite c.args.self.now _ c.args.lane c.end_lane.result c.end_lane.ensures
