use Rattle.std.proofs.Common.{ℕ, ◌<◌, slice_index_or}
use Rattle.span_tracing_shared.specs.Lanes.{AreOfLane}
use Rattle.span_tracing_shared.proofs.shared.fits.Given as goal

abbrev pub invariant-loop-i : goal.invariant-loop-i
invariant-loop-i g l = (k : ℕ) (d : _) (e : _) → k < l.i →
    AreOfLane (slice_index_or l.seats k d).lane (slice_index_or l.lists k e).items
