use Rattle.span_tracing_skeleton.proofs.HolderCounts.{stays_counted}
use Rattle.span_tracing_skeleton.proofs.laws.stays_counted.Goals as goal

pub returns : goal.returns
returns c = stays_counted
