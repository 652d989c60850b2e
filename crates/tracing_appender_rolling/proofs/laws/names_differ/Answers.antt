use Rattle.tracing_appender_rolling.proofs.DistinctNames.{names_apart}
use Rattle.tracing_appender_rolling.proofs.laws.names_differ.Goals as goal

pub returns : goal.returns
returns c = names_apart
