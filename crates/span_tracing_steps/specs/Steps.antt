-- What a step does: it is refused, or a stack takes a call, or what holds stacks changes, or a setting of an output.
use Rattle.std.specs.Prelude.{◌≡◌, ◌⊎◌, ℕ, [], ◌∷◌, ◌++◌, length, slice_get, slice_set, Bool, false, true, Option, Some, None, List}
use Rattle.std.specs.Prelude.{Result, Ok, Err}
use Rattle.tracing_core_fields.specs.PlainMetadata.{PlainMetadata}
use Rattle.tracing_core_fields.specs.requests.Calls.{Call, ReplyTo, Asked, SpanMade, Recorded, FollowsRecorded, EventDispatched, Entered}
use Rattle.tracing_core_fields.specs.requests.Calls.{Exited, Cloned, CloseTried}
use Rattle.tracing_core_fields.specs.declared.requests.refusal.RequestError.{RequestError}
use Rattle.tracing_core_fields.specs.declared.requests.refusal.RequestError.TheVariants as errors
use Rattle.tracing_core_fields.specs.declared.requests.subscriber.Subscriber.{Ghosts}
use Rattle.tracing_core.specs.Commands.{becomes}
use Rattle.tracing_core.specs.Defaults.{given_up, globally, guard_of, holding, locally}
use Rattle.tracing_core.specs.HandleCalls.{HubGives}
use Rattle.tracing_core.specs.Handles.{changed, given_back}
use Rattle.tracing_core.specs.Table.{chosen, own_setting}
use Rattle.tracing_core.specs.declared.guard.DefaultGuard.{DefaultGuard}
use Rattle.tracing_core.specs.declared.hub.parts.Lane.TheVariants.{Running}
use Rattle.span_registry_layers_store.specs.Registries.{RegistryValue}
use Rattle.span_tracing_skeleton.specs.Looking.{callsite_of, inner, known, named, output_in, reach}
use Rattle.span_tracing_skeleton.specs.Order.{refusal_of}
use Rattle.span_tracing_skeleton.specs.PlainData.{PlainStep, Request, RecordRequest, GlobalStep, EventStep, EnabledStep, SpanStep}
use Rattle.span_tracing_skeleton.specs.PlainData.{RecordStep, FollowsFromStep, EnterStep, ExitStep, CloneStep, CloseStep, DefaultStep}
use Rattle.span_tracing_skeleton.specs.PlainData.{ResetStep, CloneHandleStep, ReleaseStep, SetStep}
use Rattle.span_tracing_skeleton.specs.declared.call.EnabledCall.{EnabledCall}
use Rattle.span_tracing_skeleton.specs.declared.call.FollowsCall.{FollowsCall}
use Rattle.span_tracing_skeleton.specs.declared.call.Reply.{Reply}
use Rattle.span_tracing_skeleton.specs.declared.call.Reply.TheVariants.{Done, Enabled, Span, Closed, Handle, Guard, Refused}
use Rattle.span_tracing_skeleton.specs.declared.call.SpanCall.{SpanCall}
use Rattle.span_tracing_skeleton.specs.declared.call.SpanName.{SpanName}
use Rattle.span_tracing_skeleton.specs.declared.setting.OutputPlace.{OutputPlace}
use Rattle.span_tracing_skeleton.specs.declared.setting.Setting.{Setting}
use Rattle.span_tracing_skeleton.specs.declared.refusal.Refusal.{Refusal}
use Rattle.span_tracing_skeleton.specs.declared.refusal.Refusal.TheVariants.{IdsSpent, OutOfMemory}
use Rattle.span_tracing_steps.specs.States.{StateValue, behind, held_in, skeleton_of}
use Rattle.span_tracing_steps.specs.StackRequests.{named_as, own_values, place_at, request_of}

-- how the answer of the stack with a number to a new span is told: its parent was looked for, and that ids are left
abbrev pub span_reply : ℕ → Result (Option ℕ) RequestError → Reply
span_reply stack (Ok id) = Span (named_as stack id)
span_reply stack (Err errors.IdsSpent) = Refused IdsSpent
span_reply stack (Err errors.OutOfMemory) = Refused OutOfMemory
span_reply stack (Err errors.UnknownSpan) = Refused OutOfMemory
span_reply stack (Err errors.UnknownParent) = Refused OutOfMemory
span_reply stack (Err errors.TooManyHandles) = Refused OutOfMemory

-- how its answer to an entry is told: the span was looked for
abbrev pub enter_reply : Result (Unit {0}) RequestError → Reply
enter_reply (Ok done) = Done
enter_reply (Err error) = Refused OutOfMemory

module _ {T : Type 0} (g : Ghosts T) where
  -- the stack of the number took the call, and nothing else changed
  abbrev pub CallGoes : ℕ → StateValue T → (c : Call) → ReplyTo c → StateValue T → Type 0
  CallGoes stack v c r w = HubGives g c (Some stack) v.hub r w.hub × (w ≡ record v { hub = w.hub })

  -- an event, where a stack is reached
  abbrev pub EventGoes : Option ℕ → Option PlainMetadata → StateValue T → Request → StateValue T → Type 0
  EventGoes None callsite v e w = w ≡ v
  EventGoes (Some stack) None v e w = ⊥
  EventGoes (Some stack) (Some m) v e w = (r : Result (Unit {0}) RequestError) ×
      CallGoes stack v (EventDispatched (request_of m e) (place_at e.lane e.moment)) r w

  -- a question, where one is
  abbrev pub QuestionGoes : Option ℕ → Option PlainMetadata → StateValue T → EnabledCall → Reply → StateValue T → Type 0
  QuestionGoes None callsite v call reply w = (reply ≡ Enabled false) × (w ≡ v)
  QuestionGoes (Some stack) None v call reply w = ⊥
  QuestionGoes (Some stack) (Some m) v call reply w = (b : Bool) × CallGoes stack v (Asked m (place_at call.lane call.moment)) b w ×
      (reply ≡ Enabled b)

  -- a new span, where one is
  abbrev pub SpanGoes : Option ℕ → Option PlainMetadata → StateValue T → Request → Reply → StateValue T → Type 0
  SpanGoes None callsite v n reply w = (reply ≡ Span None) × (w ≡ v)
  SpanGoes (Some stack) None v n reply w = ⊥
  SpanGoes (Some stack) (Some m) v n reply w = (r : Result (Option ℕ) RequestError) ×
      CallGoes stack v (SpanMade (request_of m n) (place_at n.lane n.moment)) r w × (reply ≡ span_reply stack r)

  -- values for a span
  abbrev pub ValuesGo : SpanName → Option PlainMetadata → StateValue T → RecordRequest → StateValue T → Type 0
  ValuesGo name None v r w = w ≡ v
  ValuesGo name (Some m) v r w = (answer : Result (Unit {0}) RequestError) ×
      CallGoes name.stack v (Recorded name.id.value (own_values m r.values) (place_at r.lane r.moment)) answer w

  module _ (registry_of : T → RegistryValue) where
    -- values for a span, or for none
    abbrev pub RecordGoes : Option SpanName → StateValue T → RecordRequest → StateValue T → Type 0
    RecordGoes None v r w = w ≡ v
    RecordGoes (Some name) v r w = ValuesGo name (callsite_of (skeleton_of registry_of v) name) v r w

  -- a span follows another one, where both are named
  abbrev pub FollowsGoes : Option SpanName → Option SpanName → StateValue T → FollowsCall → StateValue T → Type 0
  FollowsGoes None follows v call w = w ≡ v
  FollowsGoes (Some name) None v call w = w ≡ v
  FollowsGoes (Some name) (Some followed) v call w = (r : Result (Unit {0}) RequestError) ×
      CallGoes name.stack v (FollowsRecorded name.id.value followed.id.value (place_at call.lane call.moment)) r w

  abbrev pub EnterGoes : Option SpanName → StateValue T → SpanCall → Reply → StateValue T → Type 0
  EnterGoes None v call reply w = (reply ≡ Done) × (w ≡ v)
  EnterGoes (Some name) v call reply w = (r : Result (Unit {0}) RequestError) ×
      CallGoes name.stack v (Entered name.id.value (place_at call.lane call.moment)) r w × (reply ≡ enter_reply r)

  abbrev pub ExitGoes : Option SpanName → StateValue T → SpanCall → StateValue T → Type 0
  ExitGoes None v call w = w ≡ v
  ExitGoes (Some name) v call w = CallGoes name.stack v (Exited name.id.value (place_at call.lane call.moment)) tt w

  abbrev pub CloneGoes : Option SpanName → StateValue T → SpanCall → StateValue T → Type 0
  CloneGoes None v call w = w ≡ v
  CloneGoes (Some name) v call w = (r : Result ℕ RequestError) ×
      CallGoes name.stack v (Cloned name.id.value (place_at call.lane call.moment)) r w

  abbrev pub CloseGoes : Option SpanName → StateValue T → SpanCall → Reply → StateValue T → Type 0
  CloseGoes None v call reply w = (reply ≡ Closed false) × (w ≡ v)
  CloseGoes (Some name) v call reply w = (r : Bool) ×
      CallGoes name.stack v (CloseTried name.id.value (place_at call.lane call.moment)) r w × (reply ≡ Closed r)

module _ {T : Type 0} where
  -- a stack that was released waits under its number
  abbrev pub put_away : Option ℕ → Option T → List (Option T) → List (Option T)
  put_away None released retired = retired
  put_away (Some stack) None retired = retired
  put_away (Some stack) (Some x) retired = slice_set retired stack (Some x)

  -- with the global default, which holds its stack
  abbrev pub with_global : StateValue T → Option ℕ → StateValue T
  with_global v dispatch = record v { hub = globally v.hub dispatch }

  -- what a default asks for, by a handle or none
  abbrev pub asked_for : StateValue T → Option ℕ → Option ℕ
  asked_for v None = None
  asked_for v (Some handle) = behind v handle

  -- with a lane's own default, which holds its stack, and a guard of what it was before
  abbrev pub with_default : StateValue T → ℕ → Option ℕ → StateValue T
  with_default v lane dispatch = record v { hub = locally v.hub lane dispatch; guards = v.guards ++ Some (guard_of v.hub lane) ∷ [] }

  -- the guard gives the lane what it keeps, and is spent; the lane's present default lets its stack go
  abbrev pub restored : StateValue T → ℕ → ℕ → Option DefaultGuard → StateValue T
  restored v lane number None = v
  restored v lane number (Some guard) =
      let present = own_setting (slice_get v.hub.lanes lane) in
      record v {
        hub = (given_up v.hub lane present (Running guard.before)).1;
        guards = slice_set v.guards number None;
        retired = put_away (chosen present) (given_up v.hub lane present (Running guard.before)).0 v.retired;
      }

  -- with a further handle
  abbrev pub with_handle : StateValue T → Option ℕ → StateValue T
  with_handle v dispatch = record v { hub = holding v.hub dispatch; handles = v.handles ++ Some dispatch ∷ [] }

  -- the handle is spent, and lets its stack go
  abbrev pub without_handle : StateValue T → ℕ → Option ℕ → StateValue T
  without_handle v handle dispatch = record v {
    hub = record v.hub { subscribers = (given_back dispatch v.hub.subscribers).1 };
    handles = slice_set v.handles handle None;
    retired = put_away dispatch (given_back dispatch v.hub.subscribers).0 v.retired;
  }

  -- with another value of the stack of a number that somebody holds
  abbrev pub becoming : ℕ → T → StateValue T → StateValue T
  becoming stack y v = record v { hub = record v.hub { subscribers = changed stack (becomes y) v.hub.subscribers } }

  -- with a setting of the output at a place, where somebody holds its stack
  abbrev pub set_in : (T → ℕ → Setting → T) → StateValue T → OutputPlace → Setting → Option T → StateValue T
  set_in set v at setting None = v
  set_in set v at setting (Some x) = becoming at.stack (set x at.place setting) v

  abbrev pub with_setting : (T → ℕ → Setting → T) → StateValue T → Option OutputPlace → Setting → StateValue T
  with_setting set v None setting = v
  with_setting set v (Some at) setting = set_in set v at setting (held_in v at.stack)

  -- this is answered and left; or there is no memory for a number more, and nothing changes
  abbrev pub OrStarved : StateValue T → Reply → StateValue T → Reply → StateValue T → Type 0
  OrStarved v made u reply w = ((reply ≡ made) × (w ≡ u)) ⊎ ((reply ≡ Refused OutOfMemory) × (w ≡ v))

module _ {T : Type 0} (g : Ghosts T) (registry_of : T → RegistryValue) (set : T → ℕ → Setting → T) where
  -- a step that is not refused by reading
  abbrev pub StepGoes : StateValue T → PlainStep → Reply → StateValue T → Type 0
  StepGoes v (GlobalStep handle) reply w = (reply ≡ Done) × (w ≡ with_global v (behind v handle))
  StepGoes v (EventStep e) reply w = (reply ≡ Done) × EventGoes g (reach (skeleton_of registry_of v) e.lane)
      (known (skeleton_of registry_of v) e.callsite false) v e w
  StepGoes v (EnabledStep call) reply w = QuestionGoes g (reach (skeleton_of registry_of v) call.lane)
      (named (skeleton_of registry_of v).callsites call.callsite.0) v call reply w
  StepGoes v (SpanStep n) reply w = SpanGoes g (reach (skeleton_of registry_of v) n.lane)
      (known (skeleton_of registry_of v) n.callsite true) v n reply w
  StepGoes v (RecordStep r) reply w = (reply ≡ Done) × RecordGoes g registry_of r.span v r w
  StepGoes v (FollowsFromStep call) reply w = (reply ≡ Done) × FollowsGoes g call.span call.follows v call w
  StepGoes v (EnterStep call) reply w = EnterGoes g call.span v call reply w
  StepGoes v (ExitStep call) reply w = (reply ≡ Done) × ExitGoes g call.span v call w
  StepGoes v (CloneStep call) reply w = (reply ≡ Done) × CloneGoes g call.span v call w
  StepGoes v (CloseStep call) reply w = CloseGoes g call.span v call reply w
  StepGoes v (DefaultStep call) reply w = OrStarved v (Guard (length v.guards)) (with_default v call.lane (asked_for v call.handle)) reply w
  StepGoes v (ResetStep call) reply w = (reply ≡ Done) × (w ≡ restored v call.lane call.guard (inner (slice_get v.guards call.guard)))
  StepGoes v (CloneHandleStep handle) reply w = OrStarved v (Handle (length v.handles)) (with_handle v (behind v handle)) reply w
  StepGoes v (ReleaseStep handle) reply w = (reply ≡ Done) × (w ≡ without_handle v handle (behind v handle))
  StepGoes v (SetStep call) reply w = (reply ≡ Done) × (w ≡ with_setting set v (output_in v.outputs 0 call.output) call.setting)

  abbrev pub StepUnless : Option Refusal → StateValue T → PlainStep → Reply → StateValue T → Type 0
  StepUnless (Some refusal) v step reply w = (reply ≡ Refused refusal) × (w ≡ v)
  StepUnless None v step reply w = StepGoes v step reply w

  -- a step: the first refusal that reading meets is answered, and leaves all as it was; else a stack takes its call, or who holds stacks
  -- changes, or a setting
  abbrev pub StepGives : StateValue T → PlainStep → Reply → StateValue T → Type 0
  StepGives v step reply w = StepUnless (refusal_of (skeleton_of registry_of v) step) v step reply w
