-- What the subscriber that wants nothing answers.
use Rattle.std.specs.Prelude.{◌≡◌, Bool, true, false, Some, None, Ok, refl}
use Rattle.tracing_core_fields.specs.requests.Calls.{Call, ReplyTo, DispatchRegistered, CallsiteRegistered, Asked, HintAsked, SpanMade}
use Rattle.tracing_core_fields.specs.requests.Calls.{Recorded, FollowsRecorded, EventAsked, EventDispatched, Entered, Exited, Cloned}
use Rattle.tracing_core_fields.specs.requests.Calls.{Dropped, CloseTried, CurrentAsked}
use Rattle.tracing_core_fields.specs.requests.Interests.{PlainInterest}
use Rattle.tracing_core_fields.specs.requests.Steady.{Agrees, SameWord, InterestFits}
use Rattle.tracing_core_fields.specs.declared.requests.interest.InterestInner.TheVariants.{Never, Sometimes, Always}
use Rattle.tracing_core_fields.specs.declared.requests.current_span.CurrentSpan.TheVariants.{Unknown}

-- nothing is enabled, each span has the id 0xDEAD, and nothing is refused
abbrev pub no_reply : (c : Call) → ReplyTo c
no_reply (DispatchRegistered dispatch) = tt
no_reply (CallsiteRegistered metadata) = Never
no_reply (Asked metadata at) = false
no_reply HintAsked = None
no_reply (SpanMade attributes at) = Ok (Some 57005)
no_reply (Recorded span values at) = Ok tt
no_reply (FollowsRecorded span follows at) = Ok tt
no_reply (EventAsked event at) = true
no_reply (EventDispatched event at) = Ok tt
no_reply (Entered span at) = Ok tt
no_reply (Exited span at) = tt
no_reply (Cloned span at) = Ok span
no_reply (Dropped span at) = tt
no_reply (CloseTried span at) = false
no_reply (CurrentAsked at) = Unknown

fits : (b : Bool) (k : PlainInterest) → b ≡ false → k ≡ Never → InterestFits k b
fits b Never refused never = refused
fits b Sometimes refused never = tt
fits b Always refused never = absurd (cc)

pub is_fair : Agrees (λ m at b. b ≡ false) (λ m k. k ≡ Never) None
is_fair = record { interest = λ m at b k real e n. fits b k e n; below = λ m at b real e. tt }

pub same_word : SameWord (λ m k. k ≡ Never) (λ m k. k ≡ Never) None None
same_word = record { onward = λ m k e. e; back = λ m k e. e; same_hint = refl }
