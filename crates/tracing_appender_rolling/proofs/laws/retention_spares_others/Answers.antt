use Rattle.tracing_appender_rolling.proofs.SparedFiles.{spares}
use Rattle.tracing_appender_rolling.proofs.laws.retention_spares_others.Goals as goal

pub returns : goal.returns
returns c = spares
