use Rattle.tracing_core_moments.proofs.Names.{differ}
use Rattle.tracing_core_moments.proofs.laws.periods_differ.Goals as goal

pub returns : goal.returns
returns c = differ
