use Rattle.std.proofs.Common.{length}
use Rattle.span_tracing_outputs.proofs.has_sinks.+count_in.Given as goal

abbrev pub decreases-count_in : goal.decreases-count_in
decreases-count_in g l = length l.outputs.now
