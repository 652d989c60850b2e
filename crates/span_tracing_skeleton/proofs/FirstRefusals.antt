-- Which of two refusals a step is told on a skeleton with two stacks, and where none comes. These rows compute.
use Rattle.std.proofs.Common.{◌≡◌, ℕ, negsuc, true, false, [], ◌∷◌, Some, None, refl}
use Rattle.tracing_core_fields.specs.PlainMetadata.{PlainMetadata}
use Rattle.tracing_core_moments.specs.declared.moment.Moment.{Moment}
use Rattle.span_tracing_skeleton.proofs.TwoStacks.{choose, enter, following, held_by, now, one_open, reaching, reset, span, stacked}
use Rattle.span_tracing_skeleton.proofs.TwoStacks.{two_open}
use Rattle.span_tracing_skeleton.specs.Looking.{output_at}
use Rattle.span_tracing_skeleton.specs.Order.{pair_refusal, refusal_of}
use Rattle.span_tracing_skeleton.specs.PlainData.{PlainStep, CloneHandleStep, EnterStep, EventStep, GlobalStep, ReleaseStep, Request}
use Rattle.span_tracing_skeleton.specs.PlainData.{SetStep, SpanStep}
use Rattle.span_tracing_skeleton.specs.Refusing.{ids_refusal, parent_refusal, span_refusal}
use Rattle.span_tracing_skeleton.specs.Skeleton.{Skeleton, HeldStack, Default, Unset, Nowhere, Own}
use Rattle.span_tracing_skeleton.specs.declared.call.Parent.{Parent}
use Rattle.span_tracing_skeleton.specs.declared.call.Parent.TheVariants.{Contextual, Explicit}
use Rattle.span_tracing_skeleton.specs.declared.call.SpanName.{SpanName}
use Rattle.span_tracing_skeleton.specs.declared.setting.Setting.TheVariants.{Ansi}
use Rattle.span_tracing_skeleton.specs.declared.refusal.Refusal.TheVariants.{BadMoment, ForeignParent, GlobalSet, IdsSpent, ReleasedStack}
use Rattle.span_tracing_skeleton.specs.declared.refusal.Refusal.TheVariants.{NoOutput, TooManyHandles, UnknownCallsite, UnknownLane, UnknownSpan}
use Rattle.span_tracing_skeleton.specs.declared.refusal.Refusal.TheVariants.{UnknownStack, WrongLane}

module _ (m : PlainMetadata) where
  -- the stack 1 was released, and the stack 0 is the global default
  abbrev without_second : Skeleton
  without_second = following m (reaching m (Own 0)) (ReleaseStep 1 ∷ [])

  -- a parent stands in the stack that its lane reaches, and is open; an unknown stack is told before a released one, that before a foreign
  -- parent, and that before an unknown span
  own_parent : parent_refusal (reaching m (Own 1)) 0 (Explicit (span m 1 2)) ≡ None
  own_parent = refl

  foreign_parent : parent_refusal (reaching m (Own 1)) 0 (Explicit (span m 0 1)) ≡ Some ForeignParent
  foreign_parent = refl

  foreign_and_closed : parent_refusal (reaching m (Own 0)) 0 (Explicit (span m 1 9)) ≡ Some ForeignParent
  foreign_and_closed = refl

  unknown_and_foreign : parent_refusal (reaching m (Own 0)) 0 (Explicit (span m 2 1)) ≡ Some UnknownStack
  unknown_and_foreign = refl

  released_and_foreign : parent_refusal without_second 0 (Explicit (span m 1 1)) ≡ Some ReleasedStack
  released_and_foreign = refl

  closed_parent : parent_refusal (reaching m (Own 1)) 0 (Explicit (span m 1 3)) ≡ Some UnknownSpan
  closed_parent = refl

  -- where nothing is reached each parent is foreign, and a released stack is told before that, too
  unreached_parent : parent_refusal (reaching m Unset) 0 (Explicit (span m 0 1)) ≡ Some ForeignParent
  unreached_parent = refl

  parent_of_none : parent_refusal (following m (reaching m (Own 0)) (choose m 0 None ∷ [])) 0 (Explicit (span m 0 1)) ≡ Some ForeignParent
  parent_of_none = refl

  unreached_and_released : parent_refusal (following m (reaching m Unset) (ReleaseStep 1 ∷ [])) 0 (Explicit (span m 1 1)) ≡
      Some ReleasedStack
  unreached_and_released = refl

  -- a lane's own default decides which parent is foreign
  own_default_parent : parent_refusal (following m (reaching m (Own 0)) (choose m 0 (Some 1) ∷ [])) 0 (Explicit (span m 1 1)) ≡ None
  own_default_parent = refl

  other_lanes_parent : parent_refusal (following m (reaching m (Own 0)) (choose m 0 (Some 1) ∷ [])) 1 (Explicit (span m 1 1)) ≡
      Some ForeignParent
  other_lanes_parent = refl

  -- a call on a span looks at the span's own stack, whichever lanes reach
  own_span : span_refusal (reaching m (Own 0)) (Some (span m 1 2)) ≡ None
  own_span = refl

  not_there : span_refusal (reaching m (Own 1)) (Some (span m 0 2)) ≡ Some UnknownSpan
  not_there = refl

  unknown_stack : span_refusal (reaching m (Own 1)) (Some (span m 2 1)) ≡ Some UnknownStack
  unknown_stack = refl

  released_stack : span_refusal without_second (Some (span m 1 9)) ≡ Some ReleasedStack
  released_stack = refl

  -- a span follows spans of its own stack; with either span none nothing is foreign
  own_follows : pair_refusal (reaching m (Own 0)) (Some (span m 1 1)) (Some (span m 1 2)) ≡ None
  own_follows = refl

  foreign_follows : pair_refusal (reaching m (Own 0)) (Some (span m 0 1)) (Some (span m 1 9)) ≡ Some ForeignParent
  foreign_follows = refl

  unknown_follows : pair_refusal (reaching m (Own 0)) (Some (span m 0 9)) (Some (span m 2 1)) ≡ Some UnknownStack
  unknown_follows = refl

  none_follows : pair_refusal (reaching m (Own 0)) None (Some (span m 1 1)) ≡ None
  none_follows = refl

  -- each number is looked for in both spans before the next one
  unknown_before_released : pair_refusal without_second (Some (span m 1 1)) (Some (span m 7 1)) ≡ Some UnknownStack
  unknown_before_released = refl

  released_before_foreign : pair_refusal without_second (Some (span m 0 1)) (Some (span m 1 1)) ≡ Some ReleasedStack
  released_before_foreign = refl

  released_before_closed : pair_refusal without_second (Some (span m 0 9)) (Some (span m 1 1)) ≡ Some ReleasedStack
  released_before_closed = refl

  -- no id is left to the stack 1
  abbrev second_spent : HeldStack
  second_spent = stacked m 1 (record (two_open m) { next_id = 18446744073709551616 })

  abbrev with_spent : Default → Skeleton
  with_spent default = record (reaching m default) { stacks = stacked m 0 (one_open m) ∷ second_spent ∷ [] }

  -- ids are asked for of the stack that the lane reaches, and of none where nothing is reached
  spent : ids_refusal (with_spent (Own 1)) 0 ≡ Some IdsSpent
  spent = refl

  spent_elsewhere : ids_refusal (with_spent (Own 0)) 0 ≡ None
  spent_elsewhere = refl

  spent_unreached : ids_refusal (with_spent Unset) 0 ≡ None
  spent_unreached = refl

  spent_of_none : ids_refusal (record (with_spent (Own 1)) { lanes = Nowhere ∷ Unset ∷ [] }) 0 ≡ None
  spent_of_none = refl

  -- a default is set once, to a stack that somebody holds
  may_be_set : refusal_of (reaching m Unset) (GlobalStep 1) ≡ None
  may_be_set = refl

  set_again : refusal_of (reaching m (Own 0)) (GlobalStep 1) ≡ Some GlobalSet
  set_again = refl

  set_again_to_the_same : refusal_of (reaching m (Own 0)) (GlobalStep 0) ≡ Some GlobalSet
  set_again_to_the_same = refl

  set_to_none : refusal_of (reaching m (Own 0)) (GlobalStep 2) ≡ Some UnknownStack
  set_to_none = refl

  set_to_released : refusal_of without_second (GlobalStep 1) ≡ Some ReleasedStack
  set_to_released = refl

  -- the stack 1 has as many holds as can be counted
  abbrev with_full : Default → Skeleton
  with_full default = record (reaching m default) {
    stacks = stacked m 0 (one_open m) ∷ held_by m 18446744073709551615 1 (two_open m) ∷ [];
  }

  -- nobody more holds it, whichever step asks for that; another stack may be held, it may be let go, and a default of none holds nothing
  no_further_handle : refusal_of (with_full Unset) (CloneHandleStep 1) ≡ Some TooManyHandles
  no_further_handle = refl

  no_further_lane : refusal_of (with_full Unset) (choose m 0 (Some 1)) ≡ Some TooManyHandles
  no_further_lane = refl

  no_further_default : refusal_of (with_full Unset) (GlobalStep 1) ≡ Some TooManyHandles
  no_further_default = refl

  other_handle : refusal_of (with_full Unset) (CloneHandleStep 0) ≡ None
  other_handle = refl

  full_is_let_go : refusal_of (with_full Unset) (ReleaseStep 1) ≡ None
  full_is_let_go = refl

  full_and_none : refusal_of (with_full Unset) (choose m 0 None) ≡ None
  full_and_none = refl

  -- that the default is set is told before
  set_and_full : refusal_of (with_full (Own 0)) (GlobalStep 1) ≡ Some GlobalSet
  set_and_full = refl

  -- an unknown lane is told before all: an unknown handle, a spent one, a hold too many, and a wrong guard
  lane_and_handle : refusal_of (reaching m Unset) (choose m 9 (Some 7)) ≡ Some UnknownLane
  lane_and_handle = refl

  lane_and_spent_handle : refusal_of without_second (choose m 9 (Some 1)) ≡ Some UnknownLane
  lane_and_spent_handle = refl

  lane_and_full : refusal_of (with_full Unset) (choose m 9 (Some 1)) ≡ Some UnknownLane
  lane_and_full = refl

  lane_and_guard : refusal_of (reaching m Unset) (reset m 9 9) ≡ Some UnknownLane
  lane_and_guard = refl

  wrong_guard : refusal_of (reaching m Unset) (reset m 0 9) ≡ Some WrongLane
  wrong_guard = refl

  -- a second before the first moment
  abbrev too_early : Moment
  too_early = record { seconds = negsuc 62135596800; nanoseconds = 0 }

  abbrev enter_at : ℕ → Moment → SpanName → PlainStep
  enter_at lane moment name = EnterStep (record { lane = lane; moment = moment; span = Some name })

  -- a moment out of range comes after an unknown lane, and before an unknown stack
  lane_and_moment : refusal_of (reaching m Unset) (enter_at 9 too_early (span m 0 1)) ≡ Some UnknownLane
  lane_and_moment = refl

  moment_and_stack : refusal_of (reaching m Unset) (enter_at 0 too_early (span m 7 1)) ≡ Some BadMoment
  moment_and_stack = refl

  may_be_entered : refusal_of (reaching m Unset) (enter m (span m 1 2)) ≡ None
  may_be_entered = refl

  -- a callsite with the number 7, which makes events and spans
  abbrev registered : PlainMetadata
  registered = record m { callsite = 7; kind = record m.kind { is_event = true; is_span = true } }

  abbrev at_callsite : Skeleton → Skeleton
  at_callsite s = record s { callsites = registered ∷ [] }

  abbrev request : Moment → ℕ → Parent → Request
  request moment callsite parent = record { lane = 0; moment = moment; callsite = callsite; parent = parent; values = [] }

  -- a moment out of range, an unknown callsite, what is wrong with a parent, and spent ids, in this order
  may_be_made : refusal_of (at_callsite (reaching m (Own 1))) (SpanStep (request (now m) 7 (Explicit (span m 1 1)))) ≡ None
  may_be_made = refl

  moment_and_callsite : refusal_of (at_callsite (reaching m (Own 1))) (EventStep (request too_early 8 Contextual)) ≡ Some BadMoment
  moment_and_callsite = refl

  callsite_and_parent : refusal_of (at_callsite (reaching m (Own 1))) (EventStep (request (now m) 8 (Explicit (span m 7 1)))) ≡
      Some UnknownCallsite
  callsite_and_parent = refl

  parent_and_ids : refusal_of (at_callsite (with_spent (Own 1))) (SpanStep (request (now m) 7 (Explicit (span m 1 9)))) ≡ Some UnknownSpan
  parent_and_ids = refl

  ids_at_last : refusal_of (at_callsite (with_spent (Own 1))) (SpanStep (request (now m) 7 (Explicit (span m 1 1)))) ≡ Some IdsSpent
  ids_at_last = refl

  -- outputs are numbered through all stacks; one that was never given is told of, and then that its stack was released
  abbrev plain_at : ℕ → PlainStep
  plain_at output = SetStep (record { output = output; setting = Ansi false })

  last_of_first : output_at (reaching m Unset) 1 ≡ Some (record { stack = 0; place = 1 })
  last_of_first = refl

  first_of_second : output_at (reaching m Unset) 2 ≡ Some (record { stack = 1; place = 0 })
  first_of_second = refl

  may_be_plain : refusal_of (reaching m Unset) (plain_at 2) ≡ None
  may_be_plain = refl

  no_such_output : refusal_of (reaching m Unset) (plain_at 3) ≡ Some NoOutput
  no_such_output = refl

  released_output : refusal_of without_second (plain_at 2) ≡ Some ReleasedStack
  released_output = refl

  released_and_none : refusal_of without_second (plain_at 3) ≡ Some NoOutput
  released_and_none = refl
