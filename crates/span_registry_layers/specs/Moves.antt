-- What a call of a stack may answer and leave.
use Rattle.std.specs.Prelude.{◌≡◌, Bool, true, Some}
use Rattle.tracing_core_fields.specs.requests.Calls.{Call, ReplyTo, DispatchRegistered, CallsiteRegistered, Asked, HintAsked, SpanMade}
use Rattle.tracing_core_fields.specs.requests.Calls.{Recorded, FollowsRecorded, EventAsked, EventDispatched, Entered, Exited, Cloned}
use Rattle.tracing_core_fields.specs.requests.Calls.{Dropped, CloseTried, CurrentAsked}
use Rattle.span_registry_layers_layers.specs.declared.filter.Filter.{Ghosts}
use Rattle.span_registry_layers_layers.specs.declared.filtered.Filtered.{Filtered}
use Rattle.span_registry_layers_layers.specs.declared.layer.Layer.{Ghosts as LayerGhosts}
use Rattle.span_registry_layers.specs.CommonAnswers.{CommonInterest, common_hint}
use Rattle.span_registry_layers.specs.Calls.{CloneGives, CloseGives, EnterGives, ExitGives, FollowsGives, RecordGives, SpanCached}
use Rattle.span_registry_layers.specs.Calls.{current_in}
use Rattle.span_registry_layers.specs.OutputSlots.{filters_of}
use Rattle.span_registry_layers.specs.SpanNotices.{TellsDispatch}
use Rattle.span_registry_layers.specs.Stacks.{EventCached, QuestionCached, Registers, RowsBecome, StackValue, with_hint}

module _ {L F : Type 0} (g : Ghosts F) (h : LayerGhosts L) where
  abbrev pub Moves : StackValue (Filtered L F) → (c : Call) → ReplyTo c → StackValue (Filtered L F) → Type 0
  Moves s (DispatchRegistered dispatch) r t = RowsBecome (TellsDispatch g h dispatch) s t
  Moves s (CallsiteRegistered m) k t = CommonInterest g m (filters_of s.rows) k × Registers m k s t
  Moves s (Asked m at) r t = QuestionCached g m at s r t
  Moves s HintAsked r t = (r ≡ common_hint g (Some 0) (filters_of s.rows)) × (t ≡ with_hint r s)
  Moves s (SpanMade a at) r t = SpanCached g h a at s r t
  Moves s (Recorded id values at) r t = RecordGives g h id values at s r t
  Moves s (FollowsRecorded id follows at) r t = FollowsGives g h id follows at s r t
  Moves s (EventAsked e at) r t = (r ≡ true) × (t ≡ s)
  Moves s (EventDispatched e at) r t = EventCached g h e at s r t
  Moves s (Entered id at) r t = EnterGives g h id at s r t
  Moves s (Exited id at) r t = ExitGives g h id at s t
  Moves s (Cloned id at) r t = CloneGives id s r t
  Moves s (Dropped id at) r t = (closed : Bool) × CloseGives g h id at s closed t
  Moves s (CloseTried id at) r t = CloseGives g h id at s r t
  Moves s (CurrentAsked at) r t = (r ≡ current_in s at.lane) × (t ≡ s)
