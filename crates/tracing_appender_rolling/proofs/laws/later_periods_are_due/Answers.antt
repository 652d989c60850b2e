use Rattle.tracing_appender_rolling.proofs.PeriodFacts.{later_due}
use Rattle.tracing_appender_rolling.proofs.laws.later_periods_are_due.Goals as goal

pub returns : goal.returns
returns c = later_due
