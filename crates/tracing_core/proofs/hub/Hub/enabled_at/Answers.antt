use Rattle.std.specs.Prelude.{slice_get}
use Rattle.tracing_core.proofs.IndexedRequests.{asked_at_keeps}
use Rattle.tracing_core.proofs.hub.Hub.enabled_at.Goals as goal

pub returns-clause-keeps : goal.returns-clause-keeps
returns-clause-keeps g c = asked_at_keeps g.S.Subscriber g.C.Callsite (slice_get c.args.self.now.callsites c.args.index.0) c.args.at
    c.args.dispatch.now c.args.self.now c.ask_at.result c.ask_at.new.self c.ask_at.ensures
