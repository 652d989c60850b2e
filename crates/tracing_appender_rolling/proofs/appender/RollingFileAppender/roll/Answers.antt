use Rattle.std.proofs.Common.{ap, sym, ◌∙◌}
use Rattle.std.specs.declared.alloc.AllocError.{AllocError}
use Rattle.tracing_appender_rolling.specs.Builders.{builder_names}
use Rattle.tracing_appender_rolling.proofs.Handover.{rolls_early, rolls_due}
use Rattle.tracing_appender_rolling.proofs.appender.RollingFileAppender.roll.Goals as goal

pub returns-then-not-should_rollover-clause-state : goal.returns-then-not-should_rollover-clause-state
returns-then-not-should_rollover-clause-state g c = λ d p is agrees.
    rolls_early g.D.Folder.contents c.args.moment d p c.requires c.args.self.now is agrees (sym c.should_rollover.ensures ∙
    c.if-not-should_rollover.true)

pub returns-clause-state : goal.returns-clause-state
returns-clause-state g c = λ d p is agrees.
    rolls_due g.D.Folder.contents c.args.moment d p c.requires c.args.self.now is agrees AllocError c.refresh_writer.new.self
    (ap builder_names c.in_ok-refresh_writer.ensures.builder) tt (sym c.should_rollover.ensures ∙ c.if-not-should_rollover.false)
    c.in_ok-refresh_writer.ensures.switched
