use Rattle.std.proofs.Common.{ap, sym, ◌∙◌, subst}
use Rattle.tracing_core_fields.specs.Metadata.{plain_metadata}
use Rattle.tracing_core_fields.specs.requests.Calls.{SpanMade}
use Rattle.tracing_core_fields.specs.requests.PlainRequests.{PlainRequest, PlainValues}
use Rattle.tracing_core_fields.specs.declared.requests.arguments.parent.Parent.TheVariants.{Current, Explicit, Root}
use Rattle.tracing_core.specs.HandleCalls.{CallGives}
use Rattle.tracing_core.specs.IndexedRequests.{request_at}
use Rattle.tracing_core.specs.declared.hub.indexed.RequestParent.{RequestParent}
use Rattle.tracing_core.proofs.IndexedRequests.{values_are}
use Rattle.tracing_core.proofs.hub.indexed.make_span.Goals as goal

pub returns-in-Contextual : goal.returns-in-Contextual
returns-in-Contextual g c =
    let m = plain_metadata c.args.metadata.now in
    let values = values_are c.value_set_indexed-values.result c.fields.result.now m c.args.values
    c.value_set_indexed-values.ensures.entries c.value_set_indexed-values.ensures.fields c.fields.ensures.names
    c.fields.ensures.callsite in
    subst (λ (e : PlainRequest). CallGives g.S.Subscriber (SpanMade e c.args.at) c.args.serial c.args.subscribers.now c.new_span_at.result
    c.new_span_at.new.subscribers)
    (c.new.ensures.plain ∙ ap (λ (v : PlainValues). record { metadata = m; values = v; parent = Current }) values ∙
    ap (λ (p : RequestParent). request_at m c.args.values p) (sym c.in-Contextual.is)) c.new_span_at.ensures

pub returns-in-Root : goal.returns-in-Root
returns-in-Root g c =
    let m = plain_metadata c.args.metadata.now in
    let values = values_are c.value_set_indexed-values.result c.fields.result.now m c.args.values
    c.value_set_indexed-values.ensures.entries c.value_set_indexed-values.ensures.fields c.fields.ensures.names
    c.fields.ensures.callsite in
    subst (λ (e : PlainRequest). CallGives g.S.Subscriber (SpanMade e c.args.at) c.args.serial c.args.subscribers.now
    c.new_span_at-in-Root.result c.new_span_at-in-Root.new.subscribers)
    (c.new_root-attributes.ensures.plain ∙ ap (λ (v : PlainValues). record { metadata = m; values = v; parent = Root }) values ∙
    ap (λ (p : RequestParent). request_at m c.args.values p) (sym c.in-Root.is)) c.new_span_at-in-Root.ensures

pub returns-in-Explicit : goal.returns-in-Explicit
returns-in-Explicit g c =
    let m = plain_metadata c.args.metadata.now in
    let values = values_are c.value_set_indexed-values.result c.fields.result.now m c.args.values
    c.value_set_indexed-values.ensures.entries c.value_set_indexed-values.ensures.fields c.fields.ensures.names
    c.fields.ensures.callsite in
    subst (λ (e : PlainRequest). CallGives g.S.Subscriber (SpanMade e c.args.at) c.args.serial c.args.subscribers.now
    c.new_span_at-in-Explicit.result c.new_span_at-in-Explicit.new.subscribers)
    (c.child_of-attributes.ensures.plain ∙ ap (λ (v : PlainValues). record { metadata = m; values = v; parent = Explicit c.in-Explicit.id })
    values ∙ ap (λ (p : RequestParent). request_at m c.args.values p) (sym c.in-Explicit.is)) c.new_span_at-in-Explicit.ensures
