use Rattle.tracing_appender_rolling.proofs.Handover.{flush_sink}
use Rattle.tracing_appender_rolling.proofs.appender.RollingFileAppender.flush.Goals as goal

pub returns-clause-state : goal.returns-clause-state
returns-clause-state g c = λ p left.
    flush_sink _ _ _ _ _ p c.flush.result c.flush.ensures.fed c.flush.ensures.gives left
