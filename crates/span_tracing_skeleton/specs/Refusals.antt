-- The numbers of refusals.
use Rattle.std.specs.Prelude.{ℕ}
use Rattle.span_tracing_skeleton.specs.declared.refusal.Refusal.{Refusal}
use Rattle.span_tracing_skeleton.specs.declared.refusal.Refusal.TheVariants.{UnknownCallsite, UnknownStack, ReleasedStack, UnknownSpan}
use Rattle.span_tracing_skeleton.specs.declared.refusal.Refusal.TheVariants.{ForeignParent, NoOutput, TooManyFilters, EqualKeys}
use Rattle.span_tracing_skeleton.specs.declared.refusal.Refusal.TheVariants.{BadLinkName, BadName, FolderRefused, BadMoment, OutOfMemory}
use Rattle.span_tracing_skeleton.specs.declared.refusal.Refusal.TheVariants.{BadRoute, JsonFieldsNeeded, UnknownLane, GlobalSet, Taken}
use Rattle.span_tracing_skeleton.specs.declared.refusal.Refusal.TheVariants.{TooManyHandles, IdsSpent, WrongLane}
use Rattle.span_tracing_skeleton.specs.declared.refusal.Refusal.TheVariants.{UnknownShelf, ZeroLimit, NoRoom, NothingHeld}
use Rattle.span_tracing_skeleton.specs.declared.refusal.Refusal.TheVariants.{Busy, Closed, NotQueued, UnknownSink, MarkSent}

abbrev pub refusal_number : Refusal → ℕ
refusal_number UnknownCallsite = 1
refusal_number UnknownStack = 2
refusal_number ReleasedStack = 3
refusal_number UnknownSpan = 4
refusal_number ForeignParent = 5
refusal_number NoOutput = 6
refusal_number TooManyFilters = 7
refusal_number EqualKeys = 8
refusal_number ZeroLimit = 9
refusal_number BadLinkName = 10
refusal_number BadName = 11
refusal_number FolderRefused = 12
refusal_number BadMoment = 13
refusal_number OutOfMemory = 14
refusal_number Busy = 15
refusal_number NoRoom = 16
refusal_number NothingHeld = 17
refusal_number Closed = 18
refusal_number NotQueued = 19
refusal_number UnknownSink = 20
refusal_number BadRoute = 21
refusal_number JsonFieldsNeeded = 22
refusal_number UnknownLane = 23
refusal_number GlobalSet = 24
refusal_number Taken = 25
refusal_number TooManyHandles = 26
refusal_number IdsSpent = 27
refusal_number WrongLane = 28
refusal_number UnknownShelf = 29
refusal_number MarkSent = 30
