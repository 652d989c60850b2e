use Rattle.std.proofs.Common.{length}
use Rattle.span_tracing_shared.proofs.shared.+some_stopped.Given as goal

abbrev pub decreases-some_stopped : goal.decreases-some_stopped
decreases-some_stopped g l = length l.seats.now
