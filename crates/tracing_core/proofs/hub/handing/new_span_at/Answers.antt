use Rattle.std.proofs.Common.{refl}
use Rattle.tracing_core_fields.specs.requests.Calls.{SpanMade}
use Rattle.tracing_core_fields.specs.requests.PlainRequests.{plain_attributes}
use Rattle.tracing_core.proofs.HandleCalls.{to_opened}
use Rattle.tracing_core.proofs.hub.handing.new_span_at.Goals as goal

pub returns-then-index-subscribers : goal.returns-then-index-subscribers
returns-then-index-subscribers g c =
    to_opened g.S.Subscriber (SpanMade (plain_attributes c.args.attributes.now) c.args.at) c.args.serial c.args.subscribers.now
    c.index_or_end-index.result c.index_or_end-index.ensures
    c.if-index-subscribers.true c.index-subscribers-index.result _ _ c.new_span.result c.registered.view_is refl c.new_span.ensures
