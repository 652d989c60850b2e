use Rattle.tracing_appender_rolling.proofs.Handover.{writes_sink}
use Rattle.tracing_appender_rolling.proofs.appender.RollingFileAppender.push.Goals as goal

pub returns-then-is_err-clause-state : goal.returns-then-is_err-clause-state
returns-then-is_err-clause-state g c = writes_sink _ _ _ _ _ _ c.write_all-outcome.result c.write_all-outcome.ensures.written

pub returns-else-is_err-clause-state : goal.returns-else-is_err-clause-state
returns-else-is_err-clause-state g c = writes_sink _ _ _ _ _ _ c.write_all-outcome.result c.write_all-outcome.ensures.written
