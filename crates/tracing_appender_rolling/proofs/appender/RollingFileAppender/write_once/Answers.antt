use Rattle.std.proofs.Common.{Ok, Err}
use Rattle.tracing_appender_rolling.proofs.Handover.{once_sink}
use Rattle.tracing_appender_rolling.proofs.appender.RollingFileAppender.write_once.Goals as goal

pub returns-in-Ok-clause-state : goal.returns-in-Ok-clause-state
returns-in-Ok-clause-state g c = once_sink _ _ _ _ _ _ (Ok c.in-Ok.taken) c.in-Ok.ensures.gives

pub returns-in-Err-clause-state : goal.returns-in-Err-clause-state
returns-in-Err-clause-state g c = once_sink _ _ _ _ _ _ (Err c.in-Err.error) c.in-Err.ensures.gives
