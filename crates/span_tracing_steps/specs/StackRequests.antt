-- Requests as the stack is told of them.
use Rattle.std.specs.Prelude.{ℕ, nat_lt, List, length, filter, Option, Some, None}
use Rattle.tracing_core_fields.specs.PlainMetadata.{PlainMetadata}
use Rattle.tracing_core_fields.specs.PlainValue.{PlainValue}
use Rattle.tracing_core_fields.specs.requests.PlainRequests.{PlainRequest, PlainValues}
use Rattle.tracing_core_moments.specs.declared.at.At.{At}
use Rattle.tracing_core_moments.specs.declared.moment.Moment.{Moment}
use Rattle.span_tracing_skeleton.specs.Acting.{told_parent}
use Rattle.span_tracing_skeleton.specs.PlainData.{Request}
use Rattle.span_tracing_skeleton.specs.declared.call.SpanName.{SpanName}
use Rattle.span_tracing_skeleton.specs.SpanNames.{name_of}

-- where and when
abbrev pub place_at : ℕ → Moment → At
place_at lane moment = record { lane = lane; seconds = moment.seconds; nanoseconds = moment.nanoseconds }

-- the values of fields that a callsite has
abbrev pub own_entries : ℕ → List (ℕ × PlainValue) → List (ℕ × PlainValue)
own_entries count values = filter (λ (v : ℕ × PlainValue). nat_lt v.0 count) values

abbrev pub own_values : PlainMetadata → List (ℕ × PlainValue) → PlainValues
own_values m values = record { callsite = m.callsite; names = m.field_names; entries = own_entries (length m.field_names) values }

-- an event or a new span at a callsite
abbrev pub request_of : PlainMetadata → Request → PlainRequest
request_of m r = record { metadata = m; values = own_values m r.values; parent = told_parent r.parent }

-- the name of a span of the stack with a number
abbrev pub named_as : ℕ → Option ℕ → Option SpanName
named_as stack None = None
named_as stack (Some id) = Some (name_of stack id)
