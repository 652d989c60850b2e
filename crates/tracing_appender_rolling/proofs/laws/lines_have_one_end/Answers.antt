use Rattle.tracing_appender_rolling.proofs.LineDeterminism.{lines_once}
use Rattle.tracing_appender_rolling.proofs.laws.lines_have_one_end.Goals as goal

pub returns : goal.returns
returns c = lines_once
