use Rattle.tracing_appender_rolling.proofs.FaultlessSwitch.{files_by_period}
use Rattle.tracing_appender_rolling.proofs.laws.files_by_period.Goals as goal

pub returns : goal.returns
returns c = files_by_period
