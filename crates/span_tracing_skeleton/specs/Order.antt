-- Which refusal a step meets first.
use Rattle.std.specs.Prelude.{ℕ, Bool, true, false, Option, Some, None}
use Rattle.tracing_core_moments.specs.declared.moment.Moment.{Moment}
use Rattle.span_tracing_skeleton.specs.declared.call.SpanName.{SpanName}
use Rattle.span_tracing_skeleton.specs.declared.call.Parent.{Parent}
use Rattle.span_tracing_skeleton.specs.declared.call.SpanCall.{SpanCall}
use Rattle.span_tracing_skeleton.specs.declared.call.DefaultCall.{DefaultCall}
use Rattle.span_tracing_skeleton.specs.declared.call.EnabledCall.{EnabledCall}
use Rattle.span_tracing_skeleton.specs.declared.call.FollowsCall.{FollowsCall}
use Rattle.span_tracing_skeleton.specs.declared.call.ResetCall.{ResetCall}
use Rattle.span_tracing_skeleton.specs.declared.refusal.Refusal.{Refusal}
use Rattle.span_tracing_skeleton.specs.declared.refusal.Refusal.TheVariants.{GlobalSet}
use Rattle.span_tracing_skeleton.specs.PlainData.{PlainStep, on_span, GlobalStep, EventStep, EnabledStep, SpanStep, RecordStep}
use Rattle.span_tracing_skeleton.specs.PlainData.{FollowsFromStep, EnterStep, ExitStep, CloneStep, CloseStep, DefaultStep, ResetStep}
use Rattle.span_tracing_skeleton.specs.PlainData.{CloneHandleStep, ReleaseStep, SetStep}
use Rattle.span_tracing_skeleton.specs.Skeleton.{Skeleton}
use Rattle.span_tracing_skeleton.specs.Looking.{known, named, was_set}
use Rattle.span_tracing_skeleton.specs.Refusing.{bare_refusal, callsite_refusal, count_refusal, first, foreign_refusal, guard_refusal}
use Rattle.span_tracing_skeleton.specs.Refusing.{handle_refusal, hold_refusal, ids_refusal, lane_refusal, living_refusal, moment_refusal}
use Rattle.span_tracing_skeleton.specs.Refusing.{named_refusal, open_refusal, output_refusal, parent_refusal, span_refusal, when}

abbrev pub request_refusal : Skeleton → ℕ → Moment → ℕ → Bool → Parent → Option Refusal
request_refusal s lane moment number is_span parent =
    first (lane_refusal s lane)
    (first (moment_refusal moment)
    (first (callsite_refusal (known s number is_span))
    (parent_refusal s lane parent)))

-- a callsite of any kind may be asked about
abbrev pub enabled_refusal : Skeleton → EnabledCall → Option Refusal
enabled_refusal s call =
    first (lane_refusal s call.lane)
    (first (moment_refusal call.moment)
    (callsite_refusal (named s.callsites call.callsite.0)))

abbrev pub call_refusal : Skeleton → SpanCall → Option Refusal
call_refusal s call = first (lane_refusal s call.lane) (first (moment_refusal call.moment) (span_refusal s call.span))

-- each number is looked for in both spans before the next one
abbrev pub pair_refusal : Skeleton → Option SpanName → Option SpanName → Option Refusal
pair_refusal s span follows =
    first (named_refusal s span)
    (first (named_refusal s follows)
    (first (living_refusal s span)
    (first (living_refusal s follows)
    (first (foreign_refusal span follows)
    (first (open_refusal s span)
    (open_refusal s follows))))))

abbrev pub follows_refusal : Skeleton → FollowsCall → Option Refusal
follows_refusal s call = first (lane_refusal s call.lane) (first (moment_refusal call.moment) (pair_refusal s call.span call.follows))

abbrev pub global_refusal : Skeleton → ℕ → Option Refusal
global_refusal s handle = first (handle_refusal s handle) (first (when (was_set s.default) GlobalSet) (hold_refusal s handle))

-- a further hold of what a handle leads to
abbrev pub further_refusal : Skeleton → ℕ → Option Refusal
further_refusal s handle = first (handle_refusal s handle) (hold_refusal s handle)

-- a default of none asks for no handle
abbrev pub chosen_refusal : Skeleton → Option ℕ → Option Refusal
chosen_refusal s None = None
chosen_refusal s (Some handle) = further_refusal s handle

abbrev pub default_refusal : Skeleton → DefaultCall → Option Refusal
default_refusal s call = first (lane_refusal s call.lane) (chosen_refusal s call.handle)

abbrev pub reset_refusal : Skeleton → ResetCall → Option Refusal
reset_refusal s call = first (lane_refusal s call.lane) (guard_refusal s call.lane call.guard)

-- the first refusal that a step meets. It is found before a filter is asked
abbrev pub refusal_of : Skeleton → PlainStep → Option Refusal
refusal_of s (GlobalStep handle) = global_refusal s handle
refusal_of s (EventStep e) = request_refusal s e.lane e.moment e.callsite false e.parent
refusal_of s (EnabledStep call) = enabled_refusal s call
refusal_of s (SpanStep n) = first (request_refusal s n.lane n.moment n.callsite true n.parent) (ids_refusal s n.lane)
refusal_of s (RecordStep r) = call_refusal s (on_span r)
refusal_of s (FollowsFromStep call) = follows_refusal s call
refusal_of s (EnterStep call) = call_refusal s call
refusal_of s (ExitStep call) = call_refusal s call
refusal_of s (CloneStep call) = first (call_refusal s call) (count_refusal s call.span)
refusal_of s (CloseStep call) = first (call_refusal s call) (bare_refusal s call.span)
refusal_of s (DefaultStep call) = default_refusal s call
refusal_of s (ResetStep call) = reset_refusal s call
refusal_of s (CloneHandleStep handle) = further_refusal s handle
refusal_of s (ReleaseStep handle) = handle_refusal s handle
refusal_of s (SetStep call) = output_refusal s call.output
