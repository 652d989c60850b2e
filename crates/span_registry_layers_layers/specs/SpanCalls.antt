-- What filters are told of spans, as hooks.
use Rattle.tracing_core_fields.specs.requests.PlainRequests.{plain_attributes, plain_record}
use Rattle.span_registry_layers_layers.specs.FilterViews.{Closed, Entered, Exited, Hook, Recorded, SpanMade, View}
use Rattle.span_registry_layers_layers.specs.declared.filter.span_call.SpanCall.{SpanCall}
use Rattle.span_registry_layers_layers.specs.declared.filter.span_call.SpanCall.TheVariants as call

-- by what is seen
abbrev pub hook : SpanCall → View → Hook
hook (call.NewSpan span attributes) = SpanMade (plain_attributes attributes.now) span.now
hook (call.Record span values) = Recorded span.now (plain_record values.now)
hook (call.Enter span) = Entered span.now
hook (call.Exit span) = Exited span.now
hook (call.Close span) = Closed span.now
