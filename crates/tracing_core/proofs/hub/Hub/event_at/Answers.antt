use Rattle.std.specs.Prelude.{slice_get}
use Rattle.tracing_core.proofs.IndexedRequests.{event_keeps}
use Rattle.tracing_core.proofs.hub.Hub.event_at.Goals as goal

pub returns-clause-keeps : goal.returns-clause-keeps
returns-clause-keeps g c = event_keeps g.S.Subscriber g.C.Callsite (slice_get c.args.self.now.callsites c.args.index.0) c.args.values
    c.args.parent c.args.at c.args.dispatch.now c.args.self.now c.hand_event.result c.hand_event.new.self c.hand_event.ensures
