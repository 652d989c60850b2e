-- What the machine makes of a skeleton with two stacks. These rows compute: they show to which stack a step goes, who holds a stack, and
-- what is left where nobody does.
use Rattle.std.proofs.Common.{◌≡◌, ℕ, pos, true, false, not, List, [], ◌∷◌, Option, Some, None, refl}
use Rattle.tracing_core_fields.specs.PlainMetadata.{PlainMetadata}
use Rattle.tracing_core_moments.specs.declared.moment.Moment.{Moment}
use Rattle.span_registry_layers_store.specs.Registries.{RegistryValue, kin_in, new_registry, swept, with_entry, with_handle, with_span}
use Rattle.span_registry_layers_store.specs.Registries.{without_entry, without_handle}
use Rattle.span_registry_layers_store.specs.Spans.{is_open}
use Rattle.span_tracing_skeleton.specs.Acting.{cloned, entered, given_up, left, parent_id, with_made}
use Rattle.span_tracing_skeleton.specs.Looking.{callsite_of, handles_in, is_held, named, reach}
use Rattle.span_tracing_skeleton.specs.Machine.{after, is_closed, next_name, reply_of}
use Rattle.span_tracing_skeleton.specs.PlainData.{PlainStep, CloneHandleStep, DefaultStep, EnterStep, GlobalStep, ReleaseStep, Request}
use Rattle.span_tracing_skeleton.specs.PlainData.{ResetStep}
use Rattle.span_tracing_skeleton.specs.Skeleton.{Skeleton, HeldStack, Default, Unset, Nowhere, Own, Unasked}
use Rattle.span_tracing_skeleton.specs.SpanNames.{name_of}
use Rattle.span_tracing_skeleton.specs.declared.call.SpanName.{SpanName}
use Rattle.span_tracing_skeleton.specs.declared.call.Reply.{Reply}
use Rattle.span_tracing_skeleton.specs.declared.call.Reply.TheVariants.{Done, Guard, Handle, Refused}
use Rattle.span_tracing_skeleton.specs.declared.refusal.Refusal.TheVariants.{ReleasedStack, UnknownLane, UnknownStack, WrongLane}

module _ (m : PlainMetadata) where
  -- the span 1 is open, and the spans 1 and 2
  abbrev pub one_open : RegistryValue
  one_open = with_span new_registry m None []

  abbrev pub two_open : RegistryValue
  two_open = with_span one_open m None []

  -- so many hold it
  abbrev pub held_by : ℕ → ℕ → RegistryValue → HeldStack
  held_by holds number x = record { number = number; holds = holds; registry = x }

  -- one handle holds it
  abbrev pub stacked : ℕ → RegistryValue → HeldStack
  stacked number x = held_by 1 number x

  -- two lanes without a default of their own, two stacks with a handle each, of two outputs and of one, and this global default
  abbrev pub reaching : Default → Skeleton
  reaching default = record {
    callsites = m ∷ [];
    lanes = Unset ∷ Unset ∷ [];
    given = 2;
    outputs = 2 ∷ 1 ∷ [];
    sinks = 2 ∷ 1 ∷ [];
    stacks = stacked 0 one_open ∷ stacked 1 two_open ∷ [];
    handles = Some 0 ∷ Some 1 ∷ [];
    guards = [];
    default = default;
  }

  abbrev pub span : ℕ → ℕ → SpanName
  span stack id = name_of stack id

  -- a call on a span goes to the span's own stack, whichever lanes reach
  its_handles : handles_in (reaching (Own 0)) (span 1 2) ≡ 1
  its_handles = refl

  its_callsite : callsite_of (reaching (Own 0)) (span 1 2) ≡ named (m ∷ []) m.callsite
  its_callsite = refl

  enters : entered (reaching (Own 0)) 0 (Some (span 1 2)) ≡ record (reaching (Own 0))
      { stacks = stacked 0 one_open ∷ stacked 1 (with_entry two_open 0 2) ∷ [] }
  enters = refl

  leaves : left (reaching (Own 0)) 0 (Some (span 1 2)) ≡ record (reaching (Own 0))
      { stacks = stacked 0 one_open ∷ stacked 1 (swept (without_entry two_open 0 2)) ∷ [] }
  leaves = refl

  clones : cloned (reaching (Own 0)) (Some (span 1 2)) ≡ record (reaching (Own 0))
      { stacks = stacked 0 one_open ∷ stacked 1 (with_handle two_open 2) ∷ [] }
  clones = refl

  gives_up : given_up (reaching (Own 0)) (Some (span 1 2)) ≡ record (reaching (Own 0))
      { stacks = stacked 0 one_open ∷ stacked 1 (swept (without_handle two_open 2)) ∷ [] }
  gives_up = refl

  closes : is_closed (reaching (Own 0)) (Some (span 1 2)) ≡ not (is_open kin_in (swept (without_handle two_open 2)).spans 2)
  closes = refl

  -- a new span is of the stack that its lane reaches, and gets its next id; where nothing is reached there is none
  made_in_second : (n : Request) → with_made (reaching (Own 1)) (Some 1) n (Some m) [] ≡ record (reaching (Own 1))
      { stacks = stacked 0 one_open ∷ stacked 1 (with_span two_open m (parent_id two_open n.lane n.parent) []) ∷ [] }
  made_in_second n = refl

  made_nowhere : (n : Request) → with_made (reaching Unset) None n (Some m) [] ≡ reaching Unset
  made_nowhere n = refl

  named_by_second : next_name (reaching (Own 1)) (Some 1) ≡ Some (span 1 3)
  named_by_second = refl

  -- a moment in range
  abbrev pub now : Moment
  now = record { seconds = pos 1739786460; nanoseconds = 0 }

  abbrev pub choose : ℕ → Option ℕ → PlainStep
  choose lane handle = DefaultStep (record { lane = lane; handle = handle })

  abbrev pub reset : ℕ → ℕ → PlainStep
  reset lane guard = ResetStep (record { lane = lane; guard = guard })

  abbrev pub enter : SpanName → PlainStep
  enter name = EnterStep (record { lane = 0; moment = now; span = Some name })

  -- steps in order, of which nobody is asked: what they leave, and their replies
  abbrev pub following : Skeleton → List PlainStep → Skeleton
  following s [] = s
  following s (step ∷ steps) = following (after s step Unasked) steps

  abbrev pub replies : Skeleton → List PlainStep → List Reply
  replies s [] = []
  replies s (step ∷ steps) = reply_of s step Unasked ∷ replies (after s step Unasked) steps

  -- the global default holds its stack once more, and its handle stays
  sets_second : following (reaching Unset) (GlobalStep 1 ∷ []) ≡ record (reaching (Own 1))
      { stacks = stacked 0 one_open ∷ held_by 2 1 two_open ∷ [] }
  sets_second = refl

  -- a lane reaches the global default, until it has one of its own; that goes before, for this lane alone
  global_reached : reach (reaching (Own 1)) 0 ≡ Some 1
  global_reached = refl

  own_goes_before : reach (following (reaching (Own 0)) (choose 0 (Some 1) ∷ [])) 0 ≡ Some 1
  own_goes_before = refl

  other_lane_reaches_global : reach (following (reaching (Own 0)) (choose 0 (Some 1) ∷ [])) 1 ≡ Some 0
  other_lane_reaches_global = refl

  none_reaches_nothing : reach (following (reaching (Own 0)) (choose 0 None ∷ [])) 0 ≡ None
  none_reaches_nothing = refl

  -- a lane that was never given reaches nothing
  unknown_lane_reaches_nothing : reach (reaching (Own 0)) 9 ≡ None
  unknown_lane_reaches_nothing = refl

  -- the first guard has the number 0; a lane's own default holds its stack once more, and one of none holds nothing
  first_guard : replies (reaching Unset) (choose 0 (Some 1) ∷ []) ≡ Guard 0 ∷ []
  first_guard = refl

  own_default_holds : following (reaching Unset) (choose 0 (Some 1) ∷ []) ≡ record (reaching Unset) {
    stacks = stacked 0 one_open ∷ held_by 2 1 two_open ∷ [];
    lanes = Own 1 ∷ Unset ∷ [];
    guards = Some (record { lane = 0; restores = Unset }) ∷ [];
  }
  own_default_holds = refl

  none_holds_nothing : following (reaching Unset) (choose 0 None ∷ []) ≡ record (reaching Unset) {
    lanes = Nowhere ∷ Unset ∷ [];
    guards = Some (record { lane = 0; restores = Unset }) ∷ [];
  }
  none_holds_nothing = refl

  -- a guard gives back what was before, lets go of what the lane had, and is spent
  gives_back : following (reaching Unset) (choose 0 (Some 1) ∷ reset 0 0 ∷ []) ≡ record (reaching Unset) { guards = None ∷ [] }
  gives_back = refl

  -- guards are spent out of order: each gives back what it keeps, and holds it until then
  abbrev second_guard_left : Skeleton
  second_guard_left = following (reaching (Own 0)) (choose 0 (Some 1) ∷ choose 0 None ∷ reset 0 0 ∷ [])

  out_of_order : replies (reaching (Own 0)) (choose 0 (Some 1) ∷ choose 0 None ∷ reset 0 0 ∷ reset 0 1 ∷ [])
      ≡ Guard 0 ∷ Guard 1 ∷ Done ∷ Done ∷ []
  out_of_order = refl

  first_gives_back : reach second_guard_left 0 ≡ Some 0
  first_gives_back = refl

  second_gives_back : reach (following second_guard_left (reset 0 1 ∷ [])) 0 ≡ Some 1
  second_gives_back = refl

  second_keeps_its_stack : second_guard_left ≡ record (reaching (Own 0)) {
    stacks = stacked 0 one_open ∷ held_by 2 1 two_open ∷ [];
    guards = None ∷ Some (record { lane = 0; restores = Own 1 }) ∷ [];
  }
  second_keeps_its_stack = refl

  -- another lane's guard, a spent one, and one that was never given
  wrong_guards : replies (reaching Unset) (choose 0 (Some 1) ∷ reset 1 0 ∷ reset 0 0 ∷ reset 0 0 ∷ reset 0 7 ∷ [])
      ≡ Guard 0 ∷ Refused WrongLane ∷ Done ∷ Refused WrongLane ∷ Refused WrongLane ∷ []
  wrong_guards = refl

  unknown_lanes : replies (reaching Unset) (choose 9 (Some 1) ∷ choose 9 None ∷ reset 9 0 ∷ [])
      ≡ Refused UnknownLane ∷ Refused UnknownLane ∷ Refused UnknownLane ∷ []
  unknown_lanes = refl

  -- a new handle has the next number, and holds the stack of the one that it is taken of
  next_handle : replies (reaching Unset) (CloneHandleStep 1 ∷ CloneHandleStep 2 ∷ CloneHandleStep 0 ∷ [])
      ≡ Handle 2 ∷ Handle 3 ∷ Handle 4 ∷ []
  next_handle = refl

  handle_holds : following (reaching Unset) (CloneHandleStep 1 ∷ []) ≡ record (reaching Unset) {
    stacks = stacked 0 one_open ∷ held_by 2 1 two_open ∷ [];
    handles = Some 0 ∷ Some 1 ∷ Some 1 ∷ [];
  }
  handle_holds = refl

  -- a spent handle leads nowhere, for each step that takes one, while others of its stack still do
  spent_handle : replies (reaching Unset) (CloneHandleStep 1 ∷ ReleaseStep 1 ∷ ReleaseStep 1 ∷ CloneHandleStep 1 ∷ GlobalStep 1
      ∷ choose 0 (Some 1) ∷ CloneHandleStep 2 ∷ [])
      ≡ Handle 2 ∷ Done ∷ Refused ReleasedStack ∷ Refused ReleasedStack ∷ Refused ReleasedStack ∷ Refused ReleasedStack ∷ Handle 3 ∷ []
  spent_handle = refl

  no_such_handle : replies (reaching Unset) (ReleaseStep 7 ∷ CloneHandleStep 7 ∷ GlobalStep 7 ∷ choose 0 (Some 7) ∷ [])
      ≡ Refused UnknownStack ∷ Refused UnknownStack ∷ Refused UnknownStack ∷ Refused UnknownStack ∷ []
  no_such_handle = refl

  -- where the last handle is given up, the stack is released with its spans; its number is given to no other
  last_handle : following (reaching Unset) (ReleaseStep 1 ∷ []) ≡ record (reaching Unset) {
    stacks = stacked 0 one_open ∷ [];
    handles = Some 0 ∷ None ∷ [];
  }
  last_handle = refl

  released_span : replies (reaching Unset) (ReleaseStep 1 ∷ enter (span 1 2) ∷ enter (span 0 1) ∷ [])
      ≡ Done ∷ Refused ReleasedStack ∷ Done ∷ []
  released_span = refl

  -- a lane's own default holds its stack, until its guard is spent
  held_by_lane : replies (reaching Unset) (choose 0 (Some 1) ∷ ReleaseStep 1 ∷ enter (span 1 2) ∷ reset 0 0 ∷ enter (span 1 2) ∷ [])
      ≡ Guard 0 ∷ Done ∷ Done ∷ Done ∷ Refused ReleasedStack ∷ []
  held_by_lane = refl

  lane_reaches_it : reach (following (reaching Unset) (choose 0 (Some 1) ∷ ReleaseStep 1 ∷ [])) 0 ≡ Some 1
  lane_reaches_it = refl

  -- so does a guard that keeps it, and the global default, which is never given up
  held_by_guard : replies (reaching Unset)
      (choose 0 (Some 1) ∷ choose 0 (Some 0) ∷ ReleaseStep 1 ∷ enter (span 1 2) ∷ reset 0 1 ∷ enter (span 1 2) ∷ reset 0 0
      ∷ enter (span 1 2) ∷ [])
      ≡ Guard 0 ∷ Guard 1 ∷ Done ∷ Done ∷ Done ∷ Done ∷ Done ∷ Refused ReleasedStack ∷ []
  held_by_guard = refl

  held_by_global : replies (reaching Unset) (GlobalStep 1 ∷ ReleaseStep 1 ∷ enter (span 1 2) ∷ []) ≡ Done ∷ Done ∷ Done ∷ []
  held_by_global = refl

  global_still_reached : reach (following (reaching Unset) (GlobalStep 1 ∷ ReleaseStep 1 ∷ [])) 0 ≡ Some 1
  global_still_reached = refl

  -- one stack is released, and the other stays
  one_released : is_held (following (reaching Unset) (ReleaseStep 0 ∷ [])) 0 ≡ false
  one_released = refl

  one_left : is_held (following (reaching Unset) (ReleaseStep 0 ∷ [])) 1 ≡ true
  one_left = refl
