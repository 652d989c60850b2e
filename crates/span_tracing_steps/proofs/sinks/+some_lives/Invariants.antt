use Rattle.std.proofs.Common.{length}
use Rattle.span_tracing_steps.proofs.sinks.+some_lives.Given as goal

abbrev pub decreases-some_lives : goal.decreases-some_lives
decreases-some_lives g l = length l.stacks.now
