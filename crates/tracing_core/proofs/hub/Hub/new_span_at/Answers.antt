use Rattle.std.specs.Prelude.{slice_get}
use Rattle.tracing_core.proofs.IndexedRequests.{span_keeps}
use Rattle.tracing_core.proofs.hub.Hub.new_span_at.Goals as goal

pub returns-clause-keeps : goal.returns-clause-keeps
returns-clause-keeps g c = span_keeps g.S.Subscriber g.C.Callsite (slice_get c.args.self.now.callsites c.args.index.0) c.args.values
    c.args.parent c.args.at c.args.dispatch.now c.args.self.now c.hand_span.result c.hand_span.new.self c.hand_span.ensures
