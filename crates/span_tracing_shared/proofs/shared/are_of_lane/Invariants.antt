use Rattle.std.proofs.Common.{ℕ, ◌<◌, slice_index_or}
use Rattle.span_tracing_skeleton.specs.PlainData.{any_step}
use Rattle.span_tracing_shared.specs.Lanes.{IsOfLane}
use Rattle.span_tracing_shared.proofs.shared.are_of_lane.Given as goal

abbrev pub invariant-loop-step : goal.invariant-loop-step
invariant-loop-step l = (k : ℕ) (d : _) → k < l.step-index → IsOfLane l.lane (any_step (slice_index_or l.steps k d))
