-- Each refusal by itself: what of a skeleton and of a step's arguments it looks at.
use Rattle.std.specs.Prelude.{ℕ, length, slice_get, Bool, true, false, not, ◌==◌, nat_lt, nat_le, Option, Some, None}
use Rattle.tracing_core_fields.specs.PlainMetadata.{PlainMetadata}
use Rattle.tracing_core_moments.specs.declared.moment.Moment.{Moment}
use Rattle.tracing_core_moments.specs.Moments.{is_moment}
use Rattle.span_tracing_skeleton.specs.declared.call.SpanName.{SpanName}
use Rattle.span_tracing_skeleton.specs.declared.call.Parent.{Parent}
use Rattle.span_tracing_skeleton.specs.declared.call.Parent.TheVariants.{Contextual, Root, Explicit}
use Rattle.span_tracing_skeleton.specs.declared.refusal.Refusal.{Refusal}
use Rattle.span_tracing_skeleton.specs.declared.refusal.Refusal.TheVariants.{UnknownCallsite, UnknownStack, ReleasedStack, UnknownSpan}
use Rattle.span_tracing_skeleton.specs.declared.refusal.Refusal.TheVariants.{ForeignParent, BadMoment, UnknownLane, TooManyHandles}
use Rattle.span_tracing_skeleton.specs.declared.refusal.Refusal.TheVariants.{IdsSpent, NoOutput, WrongLane}
use Rattle.span_tracing_skeleton.specs.Skeleton.{Skeleton, HeldStack, GuardValue}
use Rattle.span_tracing_skeleton.specs.Looking.{guard_at, handles_in, has_open, is_held, knows_stack, leads_to, reach, reached}
use Rattle.span_tracing_skeleton.specs.Looking.{output_at, stack_behind, stack_with}
use Rattle.span_tracing_skeleton.specs.declared.setting.OutputPlace.{OutputPlace}

abbrev pub when : Bool → Refusal → Option Refusal
when true refusal = Some refusal
when false refusal = None

-- the first refusal of two
abbrev pub first : Option Refusal → Option Refusal → Option Refusal
first None later = later
first (Some refusal) later = Some refusal

abbrev pub lane_refusal : Skeleton → ℕ → Option Refusal
lane_refusal s lane = when (nat_le (length s.lanes) lane) UnknownLane

abbrev pub moment_refusal : Moment → Option Refusal
moment_refusal m = when (not (is_moment m)) BadMoment

abbrev pub callsite_refusal : Option PlainMetadata → Option Refusal
callsite_refusal None = Some UnknownCallsite
callsite_refusal (Some m) = None

-- a stack was given under the number
abbrev pub number_refusal : Skeleton → ℕ → Option Refusal
number_refusal s stack = when (not (knows_stack s stack)) UnknownStack

-- somebody holds the stack
abbrev pub life_refusal : Skeleton → ℕ → Option Refusal
life_refusal s stack = when (not (is_held s stack)) ReleasedStack

abbrev pub closed_refusal : Skeleton → SpanName → Option Refusal
closed_refusal s name = when (not (has_open s name)) UnknownSpan

-- a parent stands in the reached stack and is open
abbrev pub parent_refusal : Skeleton → ℕ → Parent → Option Refusal
parent_refusal s lane Contextual = None
parent_refusal s lane Root = None
parent_refusal s lane (Explicit name) =
    first (number_refusal s name.stack)
    (first (life_refusal s name.stack)
    (first (when (not (leads_to (reach s lane) name.stack)) ForeignParent)
    (closed_refusal s name)))

-- a span argument of none passes each of these
abbrev pub named_refusal : Skeleton → Option SpanName → Option Refusal
named_refusal s None = None
named_refusal s (Some name) = number_refusal s name.stack

abbrev pub living_refusal : Skeleton → Option SpanName → Option Refusal
living_refusal s None = None
living_refusal s (Some name) = life_refusal s name.stack

abbrev pub open_refusal : Skeleton → Option SpanName → Option Refusal
open_refusal s None = None
open_refusal s (Some name) = closed_refusal s name

-- a span's stack was given and somebody holds it, and the span is open
abbrev pub span_refusal : Skeleton → Option SpanName → Option Refusal
span_refusal s None = None
span_refusal s (Some name) = first (number_refusal s name.stack) (first (life_refusal s name.stack) (closed_refusal s name))

-- a span's handles are counted up to the greatest number
abbrev pub count_refusal : Skeleton → Option SpanName → Option Refusal
count_refusal s None = None
count_refusal s (Some name) = when (handles_in s name == 18446744073709551615) TooManyHandles

-- a span that is closed by its caller has a handle
abbrev pub bare_refusal : Skeleton → Option SpanName → Option Refusal
bare_refusal s None = None
bare_refusal s (Some name) = when (handles_in s name == 0) UnknownSpan

-- a span follows spans of its own stack
abbrev pub foreign_refusal : Option SpanName → Option SpanName → Option Refusal
foreign_refusal None follows = None
foreign_refusal (Some name) None = None
foreign_refusal (Some name) (Some followed) = when (not (followed.stack == name.stack)) ForeignParent

-- ids are given up to 2^64 - 1, to spans of the reached stack
abbrev pub ids_refusal : Skeleton → ℕ → Option Refusal
ids_refusal s lane = when (nat_lt 18446744073709551615 (reached s lane).next_id) IdsSpent

-- a number of a handle was given, that one isn't spent, and somebody holds its stack (as the handle itself does)
abbrev pub handle_refusal_by : Skeleton → Option (Option ℕ) → Option Refusal
handle_refusal_by s None = Some UnknownStack
handle_refusal_by s (Some None) = Some ReleasedStack
handle_refusal_by s (Some (Some stack)) = life_refusal s stack

abbrev pub handle_refusal : Skeleton → ℕ → Option Refusal
handle_refusal s handle = handle_refusal_by s (slice_get s.handles handle)

-- an output was given under the number, and somebody holds its stack
abbrev pub output_refusal_by : Skeleton → Option OutputPlace → Option Refusal
output_refusal_by s None = Some NoOutput
output_refusal_by s (Some o) = life_refusal s o.stack

abbrev pub output_refusal : Skeleton → ℕ → Option Refusal
output_refusal s output = output_refusal_by s (output_at s output)

-- a stack's holds are counted up to the greatest number
abbrev pub full_refusal : Option HeldStack → Option Refusal
full_refusal None = None
full_refusal (Some k) = when (k.holds == 18446744073709551615) TooManyHandles

abbrev pub hold_refusal_by : Skeleton → Option ℕ → Option Refusal
hold_refusal_by s None = None
hold_refusal_by s (Some stack) = full_refusal (stack_with stack s.stacks)

-- one more hold of the stack that a handle leads to
abbrev pub hold_refusal : Skeleton → ℕ → Option Refusal
hold_refusal s handle = hold_refusal_by s (stack_behind s handle)

-- a guard was given to this lane and isn't spent
abbrev pub guard_refusal_by : Option GuardValue → ℕ → Option Refusal
guard_refusal_by None lane = Some WrongLane
guard_refusal_by (Some g) lane = when (not (g.lane == lane)) WrongLane

abbrev pub guard_refusal : Skeleton → ℕ → ℕ → Option Refusal
guard_refusal s lane guard = guard_refusal_by (guard_at s guard) lane
