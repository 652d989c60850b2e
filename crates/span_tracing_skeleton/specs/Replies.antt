-- Replies as results.
use Rattle.std.specs.Prelude.{ℕ, Bool, false, Option, Some, None, Result, Ok, Err}
use Rattle.span_tracing_skeleton.specs.declared.call.Reply.{Reply}
use Rattle.span_tracing_skeleton.specs.declared.call.Reply.TheVariants.{Closed, Done, Enabled, Guard, Handle, Refused, Span, Worked}
use Rattle.span_tracing_skeleton.specs.declared.call.SpanName.{SpanName}
use Rattle.span_tracing_skeleton.specs.declared.call_error.CallError.{CallError}
use Rattle.span_tracing_skeleton.specs.declared.call_error.CallError.TheVariants as error

abbrev pub as_done : Reply → Result (Unit {0}) CallError
as_done Done = Ok tt
as_done (Enabled wanted) = Ok tt
as_done (Span span) = Ok tt
as_done (Closed closed) = Ok tt
as_done (Handle handle) = Ok tt
as_done (Guard guard) = Ok tt
as_done (Worked lines) = Ok tt
as_done (Refused refusal) = Err (error.Refused refusal)

-- the span that was made
abbrev pub as_span : Reply → Result (Option SpanName) CallError
as_span Done = Ok None
as_span (Enabled wanted) = Ok None
as_span (Span span) = Ok span
as_span (Closed closed) = Ok None
as_span (Handle handle) = Ok None
as_span (Guard guard) = Ok None
as_span (Worked lines) = Ok None
as_span (Refused refusal) = Err (error.Refused refusal)

-- whether a span closed
abbrev pub as_closed : Reply → Result Bool CallError
as_closed Done = Ok false
as_closed (Enabled wanted) = Ok false
as_closed (Span span) = Ok false
as_closed (Closed closed) = Ok closed
as_closed (Handle handle) = Ok false
as_closed (Guard guard) = Ok false
as_closed (Worked lines) = Ok false
as_closed (Refused refusal) = Err (error.Refused refusal)

-- the handle that was given
abbrev pub as_handle : Reply → Result (Option ℕ) CallError
as_handle Done = Ok None
as_handle (Enabled wanted) = Ok None
as_handle (Span span) = Ok None
as_handle (Closed closed) = Ok None
as_handle (Handle handle) = Ok (Some handle)
as_handle (Guard guard) = Ok None
as_handle (Worked lines) = Ok None
as_handle (Refused refusal) = Err (error.Refused refusal)

-- the guard that was given
abbrev pub as_guard : Reply → Result (Option ℕ) CallError
as_guard Done = Ok None
as_guard (Enabled wanted) = Ok None
as_guard (Span span) = Ok None
as_guard (Closed closed) = Ok None
as_guard (Handle handle) = Ok None
as_guard (Guard guard) = Ok (Some guard)
as_guard (Worked lines) = Ok None
as_guard (Refused refusal) = Err (error.Refused refusal)

-- how many lines a step of a worker took
abbrev pub as_worked : Reply → Result (Option ℕ) CallError
as_worked Done = Ok None
as_worked (Enabled wanted) = Ok None
as_worked (Span span) = Ok None
as_worked (Closed closed) = Ok None
as_worked (Handle handle) = Ok None
as_worked (Guard guard) = Ok None
as_worked (Worked lines) = Ok (Some lines)
as_worked (Refused refusal) = Err (error.Refused refusal)
