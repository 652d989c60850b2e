use Rattle.std.proofs.Common.{length}
use Rattle.span_tracing_steps.proofs.sinks.+some_waits.Given as goal

abbrev pub decreases-some_waits : goal.decreases-some_waits
decreases-some_waits g l = length l.stacks.now
