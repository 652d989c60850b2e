use Rattle.std.proofs.Common.{refl}
use Rattle.tracing_appender_rolling.proofs.FaultlessSwitch.{opens_sink}
use Rattle.tracing_appender_rolling.proofs.BuildOutcome.{begins_opened, begins_starved}
use Rattle.tracing_appender_rolling.proofs.appender.RollingFileAppender.open.Goals as goal

pub returns-in-Ok-clause-state : goal.returns-in-Ok-clause-state
returns-in-Ok-clause-state g c = λ d is good may.
    opens_sink d _ c.args.moment c.requires good may g.D.Folder.contents _ refl
    (begins_opened _ _ _ c.args.moment c.in-Ok.opened c.next_date.result d is c.next_date.ensures c.in-Ok.ensures.begins)

pub returns-in-Err-clause-starved : goal.returns-in-Err-clause-starved
returns-in-Err-clause-starved g c = λ d is good may.
    begins_starved _ _ _ c.args.moment c.in-Err.failure d is c.requires good may c.in-Err.ensures.begins
