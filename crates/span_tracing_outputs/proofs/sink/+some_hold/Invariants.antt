use Rattle.std.proofs.Common.{length}
use Rattle.span_tracing_outputs.proofs.sink.+some_hold.Given as goal

abbrev pub decreases-some_hold : goal.decreases-some_hold
decreases-some_hold g l = length l.sinks.now
