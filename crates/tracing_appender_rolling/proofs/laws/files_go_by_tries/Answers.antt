use Rattle.tracing_appender_rolling.proofs.FilesByTries.{files_by_tries}
use Rattle.tracing_appender_rolling.proofs.laws.files_go_by_tries.Goals as goal

pub returns : goal.returns
returns c = files_by_tries
