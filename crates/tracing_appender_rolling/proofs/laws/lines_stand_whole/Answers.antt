use Rattle.tracing_appender_rolling.proofs.LinePlace.{stands}
use Rattle.tracing_appender_rolling.proofs.laws.lines_stand_whole.Goals as goal

pub returns : goal.returns
returns c = stands
