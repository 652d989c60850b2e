-- The machine answers neither that there is no memory, nor that a line is held.
use Rattle.std.proofs.Common.{◌≡◌, ℕ, ◌==◌, nat_le, nat_lt, not, length, slice_get, Bool, true, false, Option, Some, None, refl}
use Rattle.tracing_core_fields.specs.PlainMetadata.{PlainMetadata}
use Rattle.tracing_core_moments.specs.declared.moment.Moment.{Moment}
use Rattle.tracing_core_moments.specs.Moments.{is_moment}
use Rattle.span_tracing_skeleton.specs.Looking.{guard_at, handles_in, has_open, is_held, knows_stack, known, leads_to, named, output_at}
use Rattle.span_tracing_skeleton.specs.Looking.{reach, reached, stack_behind, stack_with, was_set}
use Rattle.span_tracing_skeleton.specs.Machine.{answered, or_refused, reply_of}
use Rattle.span_tracing_skeleton.specs.Order.{call_refusal, chosen_refusal, further_refusal, pair_refusal, refusal_of, request_refusal}
use Rattle.span_tracing_skeleton.specs.PlainData.{PlainStep, on_span, GlobalStep, EventStep, EnabledStep, SpanStep, RecordStep}
use Rattle.span_tracing_skeleton.specs.PlainData.{FollowsFromStep, EnterStep, ExitStep, CloneStep, CloseStep, DefaultStep, ResetStep}
use Rattle.span_tracing_skeleton.specs.PlainData.{CloneHandleStep, ReleaseStep, SetStep}
use Rattle.span_tracing_skeleton.specs.Refusing.{bare_refusal, callsite_refusal, closed_refusal, count_refusal, first, foreign_refusal}
use Rattle.span_tracing_skeleton.specs.Refusing.{full_refusal, guard_refusal_by, handle_refusal, handle_refusal_by}
use Rattle.span_tracing_skeleton.specs.Refusing.{hold_refusal, hold_refusal_by, lane_refusal, life_refusal, living_refusal}
use Rattle.span_tracing_skeleton.specs.Refusing.{moment_refusal, named_refusal, number_refusal, open_refusal}
use Rattle.span_tracing_skeleton.specs.Refusing.{output_refusal_by, parent_refusal, span_refusal, when}
use Rattle.span_tracing_skeleton.specs.Skeleton.{Skeleton, HeldStack, GuardValue, Answers}
use Rattle.span_tracing_skeleton.specs.declared.call.Parent.{Parent}
use Rattle.span_tracing_skeleton.specs.declared.call.Parent.TheVariants.{Contextual, Root, Explicit}
use Rattle.span_tracing_skeleton.specs.declared.call.Reply.{Reply}
use Rattle.span_tracing_skeleton.specs.declared.call.SpanCall.{SpanCall}
use Rattle.span_tracing_skeleton.specs.declared.call.SpanName.{SpanName}
use Rattle.span_tracing_skeleton.specs.declared.refusal.Refusal.{Refusal}
use Rattle.span_tracing_skeleton.specs.declared.refusal.Refusal.TheVariants.{UnknownStack, ForeignParent, BadMoment, UnknownLane}
use Rattle.span_tracing_skeleton.specs.declared.refusal.Refusal.TheVariants.{TooManyHandles, IdsSpent, ReleasedStack, UnknownSpan}
use Rattle.span_tracing_skeleton.specs.declared.refusal.Refusal.TheVariants.{GlobalSet, WrongLane}
use Rattle.span_tracing_skeleton.specs.declared.setting.OutputPlace.{OutputPlace}
use Rattle.span_tracing_shared.specs.Journals.{counts, is_taken}

abbrev counted : Option Refusal → Bool
counted None = true
counted (Some refusal) = is_taken refusal

-- what is refused, if anything, counts
record Counts (o : Option Refusal) : Type 0 where
  is : counted o ≡ true

firsts : (a b : Option Refusal) → Counts a → Counts b → Counts (first a b)
firsts None b x y = y
firsts (Some refusal) b x y = x

whens : (test : Bool) (refusal : Refusal) → is_taken refusal ≡ true → Counts (when test refusal)
whens true refusal is = record { is = is }
whens false refusal is = record { is = refl }

lane : (s : Skeleton) (l : ℕ) → Counts (lane_refusal s l)
lane s l = whens (nat_le (length s.lanes) l) UnknownLane refl

moment : (m : Moment) → Counts (moment_refusal m)
moment m = whens (not (is_moment m)) BadMoment refl

callsite : (found : Option PlainMetadata) → Counts (callsite_refusal found)
callsite None = record { is = refl }
callsite (Some m) = record { is = refl }

number : (s : Skeleton) (stack : ℕ) → Counts (number_refusal s stack)
number s stack = whens (not (knows_stack s stack)) UnknownStack refl

life : (s : Skeleton) (stack : ℕ) → Counts (life_refusal s stack)
life s stack = whens (not (is_held s stack)) ReleasedStack refl

closed : (s : Skeleton) (name : SpanName) → Counts (closed_refusal s name)
closed s name = whens (not (has_open s name)) UnknownSpan refl

parent : (s : Skeleton) (l : ℕ) (p : Parent) → Counts (parent_refusal s l p)
parent s l Contextual = record { is = refl }
parent s l Root = record { is = refl }
parent s l (Explicit name) =
    firsts _ _ (number s name.stack)
    (firsts _ _ (life s name.stack)
    (firsts _ _ (whens (not (leads_to (reach s l) name.stack)) ForeignParent refl) (closed s name)))

named_span : (s : Skeleton) (span : Option SpanName) → Counts (named_refusal s span)
named_span s None = record { is = refl }
named_span s (Some name) = number s name.stack

living : (s : Skeleton) (span : Option SpanName) → Counts (living_refusal s span)
living s None = record { is = refl }
living s (Some name) = life s name.stack

opens : (s : Skeleton) (span : Option SpanName) → Counts (open_refusal s span)
opens s None = record { is = refl }
opens s (Some name) = closed s name

span_of : (s : Skeleton) (span : Option SpanName) → Counts (span_refusal s span)
span_of s None = record { is = refl }
span_of s (Some name) = firsts _ _ (number s name.stack) (firsts _ _ (life s name.stack) (closed s name))

count : (s : Skeleton) (span : Option SpanName) → Counts (count_refusal s span)
count s None = record { is = refl }
count s (Some name) = whens (handles_in s name == 18446744073709551615) TooManyHandles refl

bare : (s : Skeleton) (span : Option SpanName) → Counts (bare_refusal s span)
bare s None = record { is = refl }
bare s (Some name) = whens (handles_in s name == 0) UnknownSpan refl

foreign : (span follows : Option SpanName) → Counts (foreign_refusal span follows)
foreign None follows = record { is = refl }
foreign (Some name) None = record { is = refl }
foreign (Some name) (Some followed) = whens (not (followed.stack == name.stack)) ForeignParent refl

handle_by : (s : Skeleton) (given : Option (Option ℕ)) → Counts (handle_refusal_by s given)
handle_by s None = record { is = refl }
handle_by s (Some None) = record { is = refl }
handle_by s (Some (Some stack)) = life s stack

handle : (s : Skeleton) (h : ℕ) → Counts (handle_refusal s h)
handle s h = handle_by s (slice_get s.handles h)

output_by : (s : Skeleton) (place : Option OutputPlace) → Counts (output_refusal_by s place)
output_by s None = record { is = refl }
output_by s (Some o) = life s o.stack

full : (found : Option HeldStack) → Counts (full_refusal found)
full None = record { is = refl }
full (Some k) = whens (k.holds == 18446744073709551615) TooManyHandles refl

hold_by : (s : Skeleton) (stack : Option ℕ) → Counts (hold_refusal_by s stack)
hold_by s None = record { is = refl }
hold_by s (Some stack) = full (stack_with stack s.stacks)

hold : (s : Skeleton) (h : ℕ) → Counts (hold_refusal s h)
hold s h = hold_by s (stack_behind s h)

further : (s : Skeleton) (h : ℕ) → Counts (further_refusal s h)
further s h = firsts _ _ (handle s h) (hold s h)

chosen : (s : Skeleton) (h : Option ℕ) → Counts (chosen_refusal s h)
chosen s None = record { is = refl }
chosen s (Some h) = further s h

guard_by : (found : Option GuardValue) (l : ℕ) → Counts (guard_refusal_by found l)
guard_by None l = record { is = refl }
guard_by (Some g) l = whens (not (g.lane == l)) WrongLane refl

request : (s : Skeleton) (l : ℕ) (m : Moment) (id : ℕ) (is_span : Bool) (p : Parent) → Counts (request_refusal s l m id is_span p)
request s l m id is_span p =
    firsts _ _ (lane s l) (firsts _ _ (moment m) (firsts _ _ (callsite (known s id is_span)) (parent s l p)))

on_a_span : (s : Skeleton) (call : SpanCall) → Counts (call_refusal s call)
on_a_span s call = firsts _ _ (lane s call.lane) (firsts _ _ (moment call.moment) (span_of s call.span))

pair : (s : Skeleton) (span follows : Option SpanName) → Counts (pair_refusal s span follows)
pair s span follows =
    firsts _ _ (named_span s span)
    (firsts _ _ (named_span s follows)
    (firsts _ _ (living s span)
    (firsts _ _ (living s follows) (firsts _ _ (foreign span follows) (firsts _ _ (opens s span) (opens s follows))))))

refusal_counts : (s : Skeleton) (step : PlainStep) → Counts (refusal_of s step)
refusal_counts s (GlobalStep h) = firsts _ _ (handle s h) (firsts _ _ (whens (was_set s.default) GlobalSet refl) (hold s h))
refusal_counts s (EventStep e) = request s e.lane e.moment e.callsite false e.parent
refusal_counts s (EnabledStep call) =
    firsts _ _ (lane s call.lane) (firsts _ _ (moment call.moment) (callsite (named s.callsites call.callsite.0)))
refusal_counts s (SpanStep n) =
    firsts _ _ (request s n.lane n.moment n.callsite true n.parent)
    (whens (nat_lt 18446744073709551615 (reached s n.lane).next_id) IdsSpent refl)
refusal_counts s (RecordStep r) = on_a_span s (on_span r)
refusal_counts s (FollowsFromStep call) =
    firsts _ _ (lane s call.lane) (firsts _ _ (moment call.moment) (pair s call.span call.follows))
refusal_counts s (EnterStep call) = on_a_span s call
refusal_counts s (ExitStep call) = on_a_span s call
refusal_counts s (CloneStep call) = firsts _ _ (on_a_span s call) (count s call.span)
refusal_counts s (CloseStep call) = firsts _ _ (on_a_span s call) (bare s call.span)
refusal_counts s (DefaultStep call) = firsts _ _ (lane s call.lane) (chosen s call.handle)
refusal_counts s (ResetStep call) = firsts _ _ (lane s call.lane) (guard_by (guard_at s call.guard) call.lane)
refusal_counts s (CloneHandleStep h) = further s h
refusal_counts s (ReleaseStep h) = handle s h
refusal_counts s (SetStep call) = output_by s (output_at s call.output)

answer_counts : (s : Skeleton) (step : PlainStep) (a : Answers) → counts (answered s step a) ≡ true
answer_counts s (GlobalStep h) a = refl
answer_counts s (EventStep e) a = refl
answer_counts s (EnabledStep call) a = refl
answer_counts s (SpanStep n) a = refl
answer_counts s (RecordStep r) a = refl
answer_counts s (FollowsFromStep call) a = refl
answer_counts s (EnterStep call) a = refl
answer_counts s (ExitStep call) a = refl
answer_counts s (CloneStep call) a = refl
answer_counts s (CloseStep call) a = refl
answer_counts s (DefaultStep call) a = refl
answer_counts s (ResetStep call) a = refl
answer_counts s (CloneHandleStep h) a = refl
answer_counts s (ReleaseStep h) a = refl
answer_counts s (SetStep call) a = refl

either_counts : (o : Option Refusal) (reply : Reply) → Counts o → counts reply ≡ true → counts (or_refused o reply) ≡ true
either_counts None reply x y = y
either_counts (Some refusal) reply x y = x.is

pub reply_counts : (s : Skeleton) (step : PlainStep) (a : Answers) → counts (reply_of s step a) ≡ true
reply_counts s step a = either_counts (refusal_of s step) (answered s step a) (refusal_counts s step) (answer_counts s step a)
