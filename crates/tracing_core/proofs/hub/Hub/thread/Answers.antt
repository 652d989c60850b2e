use Rattle.tracing_core.proofs.CachePreservation.{lanes_keep}
use Rattle.tracing_core.proofs.hub.Hub.thread.Goals as goal

pub returns-clause-keeps : goal.returns-clause-keeps
returns-clause-keeps g c = lanes_keep g.S.Subscriber g.C.Callsite c.add_lane.result c.args.self.now _ _ _ c.add_lane.ensures.added
    c.add_lane.ensures.refused
