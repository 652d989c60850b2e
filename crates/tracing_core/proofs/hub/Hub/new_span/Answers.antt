use Rattle.std.proofs.Common.{arith}
use Rattle.std.proofs.lemmas.List.{with_items_is}
use Rattle.tracing_core_fields.specs.requests.Calls.{SpanMade}
use Rattle.tracing_core_fields.specs.requests.PlainRequests.{plain_attributes}
use Rattle.tracing_core.proofs.CachePreservation.{handed_keeps}
use Rattle.tracing_core.proofs.hub.Hub.new_span.Goals as goal

pub returns-clause-keeps : goal.returns-clause-keeps
returns-clause-keeps g c =
    handed_keeps g.S.Subscriber g.C.Callsite (SpanMade (plain_attributes c.args.attributes.now) c.args.at) c.new_span_at.result
    c.serial_of.ensures c.self.view_is c.deref_mut.ensures.value
    (with_items_is c.self.inside.subscribers c.new_span_at.new.subscribers (omega arith)) c.new_span_at.ensures
