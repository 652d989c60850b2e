use Rattle.std.proofs.Common.{ap, ◌∙◌, subst}
use Rattle.tracing_core_fields.specs.Metadata.{plain_metadata}
use Rattle.tracing_core_fields.specs.requests.Calls.{EventDispatched}
use Rattle.tracing_core_fields.specs.requests.PlainRequests.{PlainRequest, PlainValues}
use Rattle.tracing_core.specs.HandleCalls.{CallGives}
use Rattle.tracing_core.specs.IndexedRequests.{plain_parent}
use Rattle.tracing_core.proofs.IndexedRequests.{values_are}
use Rattle.tracing_core.proofs.hub.indexed.tell_event.Goals as goal

pub returns : goal.returns
returns g c =
    let m = plain_metadata c.args.metadata.now in
    let values = values_are c.value_set_indexed.result c.fields.result.now m c.args.values c.value_set_indexed.ensures.entries
    c.value_set_indexed.ensures.fields c.fields.ensures.names c.fields.ensures.callsite in
    subst (λ (e : PlainRequest). CallGives g.S.Subscriber (EventDispatched e c.args.at) c.args.serial c.args.subscribers.now
    c.event_at.result c.event_at.new.subscribers)
    (c.event_of-event.ensures ∙ ap (λ (v : PlainValues). record { metadata = m; values = v; parent = plain_parent c.args.parent }) values)
    c.event_at.ensures
