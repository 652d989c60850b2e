use Rattle.std.proofs.Common.{arith}
use Rattle.std.proofs.lemmas.List.{with_items_is}
use Rattle.tracing_core_fields.specs.requests.Calls.{Cloned}
use Rattle.tracing_core.proofs.CachePreservation.{handed_keeps}
use Rattle.tracing_core.proofs.hub.Hub.clone_span.Goals as goal

pub returns-clause-keeps : goal.returns-clause-keeps
returns-clause-keeps g c =
    handed_keeps g.S.Subscriber g.C.Callsite (Cloned c.args.span.now c.args.at) c.clone_span_at.result c.serial_of.ensures c.self.view_is
    c.deref_mut.ensures.value
    (with_items_is c.self.inside.subscribers c.clone_span_at.new.subscribers (omega arith)) c.clone_span_at.ensures
