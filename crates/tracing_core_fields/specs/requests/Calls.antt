-- The calls of a subscriber, with plain arguments, and what each answers.
use Rattle.std.specs.Prelude.{ℕ, Bool, Option, Result}
use Rattle.tracing_core_fields.specs.PlainMetadata.{PlainMetadata}
use Rattle.tracing_core_fields.specs.requests.Interests.{PlainInterest}
use Rattle.tracing_core_fields.specs.requests.PlainRequests.{PlainAttributes, PlainEvent, PlainValues}
use Rattle.tracing_core_moments.specs.declared.at.At.{At}
use Rattle.tracing_core_fields.specs.declared.requests.refusal.RequestError.{RequestError}
use Rattle.tracing_core_fields.specs.declared.requests.current_span.CurrentSpan.{CurrentSpan}

pub data Call : Type 0 where
  -- the subscriber is that of the handle with this number
  DispatchRegistered : Option ℕ → Call
  CallsiteRegistered : PlainMetadata → Call
  Asked : PlainMetadata → At → Call
  HintAsked : Call
  SpanMade : PlainAttributes → At → Call
  Recorded : ℕ → PlainValues → At → Call
  FollowsRecorded : ℕ → ℕ → At → Call
  EventAsked : PlainEvent → At → Call
  EventDispatched : PlainEvent → At → Call
  Entered : ℕ → At → Call
  Exited : ℕ → At → Call
  Cloned : ℕ → At → Call
  Dropped : ℕ → At → Call
  CloseTried : ℕ → At → Call
  CurrentAsked : At → Call

-- what the call answers
abbrev pub ReplyTo : Call → Type 0
ReplyTo (DispatchRegistered dispatch) = Unit {0}
ReplyTo (CallsiteRegistered metadata) = PlainInterest
ReplyTo (Asked metadata at) = Bool
ReplyTo HintAsked = Option ℕ
ReplyTo (SpanMade attributes at) = Result (Option ℕ) RequestError
ReplyTo (Recorded span values at) = Result (Unit {0}) RequestError
ReplyTo (FollowsRecorded span follows at) = Result (Unit {0}) RequestError
ReplyTo (EventAsked event at) = Bool
ReplyTo (EventDispatched event at) = Result (Unit {0}) RequestError
ReplyTo (Entered span at) = Result (Unit {0}) RequestError
ReplyTo (Exited span at) = Unit {0}
ReplyTo (Cloned span at) = Result ℕ RequestError
ReplyTo (Dropped span at) = Unit {0}
ReplyTo (CloseTried span at) = Bool
ReplyTo (CurrentAsked at) = CurrentSpan
