use Rattle.std.specs.Prelude.{slice_get}
use Rattle.tracing_core.proofs.IndexedRequests.{record_keeps}
use Rattle.tracing_core.proofs.hub.Hub.record_at.Goals as goal

pub returns-clause-keeps : goal.returns-clause-keeps
returns-clause-keeps g c = record_keeps g.S.Subscriber g.C.Callsite (slice_get c.args.self.now.callsites c.args.index.0) c.args.span.now
    c.args.values c.args.at c.args.dispatch.now c.args.self.now c.hand_values.result c.hand_values.new.self c.hand_values.ensures
