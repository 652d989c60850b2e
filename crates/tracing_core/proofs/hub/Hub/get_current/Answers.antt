use Rattle.tracing_core.specs.CachePreservation.{PreservesCaches, PreservesLivingCaches}
use Rattle.tracing_core.proofs.Scopes.{current_leaves, marks_keep, marks_living}
use Rattle.tracing_core.proofs.CachePreservation.{itself_keeps, itself_living, keeps_then, living_then}
use Rattle.tracing_core.proofs.hub.Hub.get_current.Goals as goal

pub returns-clause-keeps : goal.returns-clause-keeps
returns-clause-keeps g c leaves =
    current_leaves g.F.FnOnce c.args.f (PreservesCaches g.S.Subscriber g.C.Callsite) (marks_keep g.S.Subscriber g.C.Callsite)
    (itself_keeps g.S.Subscriber g.C.Callsite) (keeps_then g.S.Subscriber g.C.Callsite) leaves
    c.args.self.now _ c.args.lane c.lend_current.result c.lend_current.ensures

pub returns-clause-living : goal.returns-clause-living
returns-clause-living g c leaves =
    current_leaves g.F.FnOnce c.args.f (PreservesLivingCaches g.S.Subscriber g.C.Callsite) (marks_living g.S.Subscriber g.C.Callsite)
    (itself_living g.S.Subscriber g.C.Callsite) (living_then g.S.Subscriber g.C.Callsite) leaves
    c.args.self.now _ c.args.lane c.lend_current.result c.lend_current.ensures
