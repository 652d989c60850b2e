-- The machine on skeletons: what a step answers, and what it leaves.
use Rattle.std.specs.Prelude.{length, Bool, false, not, ℕ, Option, Some, None}
use Rattle.span_tracing_skeleton.specs.PlainData.{PlainStep, GlobalStep, EventStep, EnabledStep, SpanStep, RecordStep}
use Rattle.span_tracing_skeleton.specs.PlainData.{FollowsFromStep, EnterStep, ExitStep, CloneStep, CloseStep, DefaultStep, ResetStep}
use Rattle.span_tracing_skeleton.specs.PlainData.{CloneHandleStep, ReleaseStep, SetStep}
use Rattle.span_tracing_skeleton.specs.declared.call.SpanName.{SpanName}
use Rattle.span_tracing_skeleton.specs.SpanNames.{name_of}
use Rattle.span_tracing_skeleton.specs.declared.call.Reply.{Reply}
use Rattle.span_tracing_skeleton.specs.declared.call.Reply.TheVariants.{Done, Enabled, Span, Closed, Handle, Guard, Refused}
use Rattle.span_tracing_skeleton.specs.declared.refusal.Refusal.{Refusal}
use Rattle.span_tracing_skeleton.specs.Acting.{asked_for, cloned, entered, given_up, left, made_by, restored, with_default, with_global}
use Rattle.span_tracing_skeleton.specs.Acting.{with_new_handle, without_stack_handle}
use Rattle.span_tracing_skeleton.specs.Looking.{guard_at, has_open, reach, registry_at, stack_behind}
use Rattle.span_tracing_skeleton.specs.Order.{refusal_of}
use Rattle.span_tracing_skeleton.specs.Skeleton.{Skeleton, Answers, Unasked, Wanted, Dropped, Passed, Heard}

-- what a step that is not refused leaves
abbrev pub acted : Skeleton → PlainStep → Answers → Skeleton
acted s (GlobalStep handle) a = with_global s (stack_behind s handle)
acted s (EventStep e) a = s
acted s (EnabledStep call) a = s
acted s (SpanStep n) a = made_by s n a
acted s (RecordStep r) a = s
acted s (FollowsFromStep call) a = s
acted s (EnterStep call) a = entered s call.lane call.span
acted s (ExitStep call) a = left s call.lane call.span
acted s (CloneStep call) a = cloned s call.span
acted s (CloseStep call) a = given_up s call.span
acted s (DefaultStep call) a = with_default s call.lane (asked_for s call.handle)
acted s (ResetStep call) a = restored s call.lane call.guard (guard_at s call.guard)
acted s (CloneHandleStep handle) a = with_new_handle s (stack_behind s handle)
acted s (ReleaseStep handle) a = without_stack_handle s handle (stack_behind s handle)
acted s (SetStep call) a = s

abbrev pub is_wanted : Answers → Bool
is_wanted Unasked = false
is_wanted (Wanted b) = b
is_wanted Dropped = false
is_wanted (Passed passed) = false
is_wanted (Heard passed told) = false

-- the name of the span that the reached stack makes next
abbrev pub next_name : Skeleton → Option ℕ → Option SpanName
next_name s None = None
next_name s (Some stack) = Some (name_of stack (registry_at s stack).next_id)

abbrev pub new_name : Skeleton → Option ℕ → Answers → Option SpanName
new_name s stack Unasked = None
new_name s stack (Wanted b) = None
new_name s stack Dropped = None
new_name s stack (Passed passed) = next_name s stack
new_name s stack (Heard passed told) = None

-- whether the span of a call closed
abbrev pub is_closed : Skeleton → Option SpanName → Bool
is_closed s None = false
is_closed s (Some name) = not (has_open (given_up s (Some name)) name)

-- what a step that is not refused answers
abbrev pub answered : Skeleton → PlainStep → Answers → Reply
answered s (GlobalStep handle) a = Done
answered s (EventStep e) a = Done
answered s (EnabledStep call) a = Enabled (is_wanted a)
answered s (SpanStep n) a = Span (new_name s (reach s n.lane) a)
answered s (RecordStep r) a = Done
answered s (FollowsFromStep call) a = Done
answered s (EnterStep call) a = Done
answered s (ExitStep call) a = Done
answered s (CloneStep call) a = Done
answered s (CloseStep call) a = Closed (is_closed s call.span)
answered s (DefaultStep call) a = Guard (length s.guards)
answered s (ResetStep call) a = Done
answered s (CloneHandleStep handle) a = Handle (length s.handles)
answered s (ReleaseStep handle) a = Done
answered s (SetStep call) a = Done

abbrev pub or_refused : Option Refusal → Reply → Reply
or_refused None reply = reply
or_refused (Some refusal) reply = Refused refusal

abbrev pub or_same : {A : Type 0} → Option Refusal → A → A → A
or_same None old new = new
or_same (Some refusal) old new = old

abbrev pub reply_of : Skeleton → PlainStep → Answers → Reply
reply_of s step a = or_refused (refusal_of s step) (answered s step a)

abbrev pub after : Skeleton → PlainStep → Answers → Skeleton
after s step a = or_same (refusal_of s step) s (acted s step a)
