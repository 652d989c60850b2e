-- The requests that are made of a stack, as one of its outputs knows them: with its own filter's verdicts, and without the others'.
use Rattle.std.specs.Prelude.{◌≡◌, ◌==◌, ℕ, Bool, true, false, if◌then◌else◌, List, [], ◌∷◌, ◌++◌, map, Option, Some, None, slice_get}
use Rattle.tracing_core_fields.specs.PlainMetadata.{PlainMetadata}
use Rattle.tracing_core_fields.specs.requests.PlainRequests.{PlainAttributes, PlainEvent, PlainValues}
use Rattle.tracing_core_moments.specs.declared.at.At.{At}
use Rattle.span_registry_layers_store.specs.Registries.{PlainSpan, RegistryValue, swept, under, with_entry, with_handle, with_span}
use Rattle.span_registry_layers_store.specs.Registries.{without_entry, without_handle}
use Rattle.span_registry_layers_store.specs.Verdicts.{passes_at}
use Rattle.event_formatter_text.specs.declared.format_fields.FormatFields.{Ghosts}
use Rattle.span_tracing_outputs.specs.OutputMachines.{Made, Recorded}
use Rattle.span_tracing_outputs.specs.OutputNotices.{close_told, enter_told, event_told, exit_told, heards, span_told}
use Rattle.span_tracing_outputs.specs.sinks.Routed.{Routed}
use Rattle.span_tracing_skeleton.specs.Looking.{callsite_of, known, output_in, reach}
use Rattle.span_tracing_skeleton.specs.Machine.{or_same}
use Rattle.span_tracing_skeleton.specs.Order.{refusal_of}
use Rattle.span_tracing_skeleton.specs.PlainData.{PlainStep, Request, RecordRequest, EventStep, SpanStep}
use Rattle.span_tracing_skeleton.specs.PlainData.{RecordStep, EnterStep, ExitStep, CloneStep, CloseStep}
use Rattle.span_tracing_skeleton.specs.Skeleton.{Skeleton, Answers, Heard as Answered, Passed}
use Rattle.span_tracing_skeleton.specs.declared.call.SpanName.{SpanName}
use Rattle.span_tracing_steps.specs.StackRequests.{own_values, place_at, request_of}
use Rattle.span_tracing_laws.specs.isolation.OutputTurns.{OutputTurn, calls_by, changes_by, hears_some, unreplied}
use Rattle.span_tracing_laws.specs.runs.Runs.{Drove, Plain, Starved, StepWithMask, Waited, Went, plain_after}
use Rattle.span_tracing_laws.specs.runs.StepSettings.{setting_of}

-- a span as the output with a filter of this number knows it: with its own verdict alone, and without what outputs keep with it
abbrev pub own_span : ℕ → PlainSpan → PlainSpan
own_span number s = record { kin = s.kin; metadata = s.metadata; passed = passes_at s.passed number ∷ []; slots = [] }

-- so of all spans of its stack; how many filters there are plays no part
abbrev pub own_registry : ℕ → RegistryValue → RegistryValue
own_registry number x = record { lanes = x.lanes; spans = map (own_span number) x.spans; next_id = x.next_id; filters = 0 }

-- a request that is made of a stack, with where and when: an event that the output passes; a span, and whether the output passes it; values
-- that are recorded; an entry, an exit; one handle more; and one that is given up
pub data OwnRequest : Type 0 where
  EventMade : At → PlainEvent → OwnRequest
  SpanMade : At → PlainAttributes → Bool → OwnRequest
  ValuesMade : At → ℕ → PlainValues → OwnRequest
  EntryMade : At → ℕ → OwnRequest
  ExitMade : At → ℕ → OwnRequest
  HandleMade : ℕ → OwnRequest
  CloseMade : At → ℕ → OwnRequest

-- with a span that is made, which the output passes or not
abbrev pub own_made : RegistryValue → At → PlainAttributes → Bool → RegistryValue
own_made x at a passed = with_span x a.metadata (under x at.lane a.parent) (passed ∷ [])

-- what a request leaves of the spans as the output knows them
abbrev pub own_after : RegistryValue → OwnRequest → RegistryValue
own_after x (EventMade at e) = x
own_after x (SpanMade at a passed) = own_made x at a passed
own_after x (ValuesMade at id values) = x
own_after x (EntryMade at id) = with_entry x at.lane id
own_after x (ExitMade at id) = swept (without_entry x at.lane id)
own_after x (HandleMade id) = with_handle x id
own_after x (CloseMade at id) = swept (without_handle x id)

-- and what the output hears of it: of a span and of a call on one where it passed the span, with the spans that it passed alone
abbrev pub own_hears : RegistryValue → OwnRequest → List OutputTurn
own_hears x (EventMade at e) = hears_some at (heards (event_told x at e true 0))
own_hears x (SpanMade at a passed) = hears_some at (heards (span_told (own_made x at a passed) at (Made a) x.next_id 0))
own_hears x (ValuesMade at id values) = hears_some at (heards (span_told x at (Recorded values) id 0))
own_hears x (EntryMade at id) = hears_some at (heards (enter_told x at id 0))
own_hears x (ExitMade at id) = hears_some at (heards (exit_told x at id 0))
own_hears x (HandleMade id) = []
own_hears x (CloseMade at id) = hears_some at (heards (close_told x at id 0))

-- what comes to a stack for an output: a request; or, for the output itself, a setting or a call on the queue of a sink
pub data OwnTurn : Type 0 where
  Asks : OwnRequest → OwnTurn
  Comes : OutputTurn → OwnTurn

-- what all that brings to the output
abbrev pub own_brings : RegistryValue → List OwnTurn → List OutputTurn
own_brings x [] = []
own_brings x (Asks r ∷ ts) = own_hears x r ++ own_brings (own_after x r) ts
own_brings x (Comes t ∷ ts) = t ∷ own_brings x ts

abbrev pub asks_if : Bool → OwnRequest → List OwnRequest
asks_if true r = r ∷ []
asks_if false r = []

abbrev pub is_told : Option Bool → Bool
is_told None = false
is_told (Some told) = told

module _ (stack place number : ℕ) where
  -- an event that reaches the stack, and that the output passes
  abbrev pub event_asks : Request → Option ℕ → Option PlainMetadata → Answers → List OwnRequest
  event_asks e (Some reached) (Some m) (Answered passed told) =
      if reached == stack then asks_if (is_told (slice_get told place)) (EventMade (place_at e.lane e.moment) (request_of m e)) else []
  event_asks e reached callsite a = []

  -- a span that is made in the stack
  abbrev pub span_asks : Request → Option ℕ → Option PlainMetadata → Answers → List OwnRequest
  span_asks n (Some reached) (Some m) (Passed passed) =
      asks_if (reached == stack) (SpanMade (place_at n.lane n.moment) (request_of m n) (passes_at passed number))
  span_asks n reached callsite a = []

  -- a call on a span of the stack
  abbrev pub call_asks : Option SpanName → (ℕ → OwnRequest) → List OwnRequest
  call_asks None r = []
  call_asks (Some name) r = asks_if (name.stack == stack) (r name.id.value)

  abbrev pub values_ask : RecordRequest → SpanName → Option PlainMetadata → List OwnRequest
  values_ask r name None = []
  values_ask r name (Some m) =
      asks_if (name.stack == stack) (ValuesMade (place_at r.lane r.moment) name.id.value (own_values m r.values))

  abbrev pub record_asks : Skeleton → RecordRequest → Option SpanName → List OwnRequest
  record_asks s r None = []
  record_asks s r (Some name) = values_ask r name (callsite_of s name)

  -- of a step that is not refused
  abbrev pub asked_by : Skeleton → PlainStep → Answers → List OwnRequest
  asked_by s (EventStep e) a = event_asks e (reach s e.lane) (known s e.callsite false) a
  asked_by s (SpanStep n) a = span_asks n (reach s n.lane) (known s n.callsite true) a
  asked_by s (RecordStep r) a = record_asks s r r.span
  asked_by s (EnterStep call) a = call_asks call.span (EntryMade (place_at call.lane call.moment))
  asked_by s (ExitStep call) a = call_asks call.span (ExitMade (place_at call.lane call.moment))
  asked_by s (CloneStep call) a = call_asks call.span HandleMade
  asked_by s (CloseStep call) a = call_asks call.span (CloseMade (place_at call.lane call.moment))
  asked_by s step a = []

  -- of any step: one that is refused makes no request
  abbrev pub asked_of : Skeleton → PlainStep → Answers → List OwnRequest
  asked_of s step a = or_same (refusal_of s step) [] (asked_by s step a)

module _ {N S : Type 0} (n : Ghosts N) (sinks : List (Routed S)) where
  -- what a turn brings to the stack for its output at a place, whose filter has this number
  abbrev pub turn_asks : Plain N → StepWithMask → ℕ → ℕ → ℕ → List OwnTurn
  turn_asks p (Went step a fates) stack place number =
      map Comes (changes_by stack place (setting_of p.skeleton step)) ++ map Asks (asked_of stack place number p.skeleton step a)
  turn_asks p (Starved step) stack place number = []
  turn_asks p (Waited step) stack place number = []
  turn_asks p (Drove ask answer) stack place number =
      map Comes (calls_by sinks stack place (output_in p.skeleton.sinks 0 ask.sink) ask.call answer)

  -- and what a run does
  abbrev pub run_asks : Plain N → List StepWithMask → ℕ → ℕ → ℕ → List OwnTurn
  run_asks p [] stack place number = []
  run_asks p (t ∷ ts) stack place number = turn_asks p t stack place number ++ run_asks (plain_after n p t) ts stack place number

-- a turn as a filter may see it: without what a queue answered
abbrev pub seen : OwnTurn → OwnTurn
seen (Asks r) = Asks r
seen (Comes t) = Comes (unreplied t)

-- and without what the output's filter said of a span
abbrev pub unanswered : OwnTurn → OwnTurn
unanswered (Asks (SpanMade at a passed)) = Asks (SpanMade at a false)
unanswered t = seen t

-- The filter says of each span what this function says of all that came before and of the request. So its answers, and what it keeps,
-- come from what the output knows alone.
abbrev pub SaysOne : (List OwnTurn → At → PlainAttributes → Bool) → List OwnTurn → OwnTurn → Type 0
SaysOne says before (Asks (SpanMade at a passed)) = passed ≡ says before at a
SaysOne says before t = Unit {0}

abbrev pub SaysBy : (List OwnTurn → At → PlainAttributes → Bool) → List OwnTurn → List OwnTurn → Type 0
SaysBy says before [] = Unit {0}
SaysBy says before (t ∷ ts) = SaysOne says before t × SaysBy says (before ++ seen t ∷ []) ts
