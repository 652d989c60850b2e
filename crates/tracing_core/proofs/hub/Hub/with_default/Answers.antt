use Rattle.tracing_core.proofs.Scopes.{with_default_living}
use Rattle.tracing_core.proofs.hub.Hub.with_default.Goals as goal

pub returns-clause-living : goal.returns-clause-living
returns-clause-living g c leaves =
    with_default_living g.S.Subscriber g.C.Callsite g.F.FnOnce c.args.body c.args.self.now _ c.args.lane c.args.dispatch.now
    c.give_default.result leaves c.give_default.ensures
