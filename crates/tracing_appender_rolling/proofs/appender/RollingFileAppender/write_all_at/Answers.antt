use Rattle.std.proofs.Common.{ap, ◌∙◌, Result, Err, inl}
use Rattle.std.proofs.lemmas.Result.{err_from_is_err_and}
use Rattle.tracing_appender_rolling.specs.declared.folders.fault.FolderError.{FolderError}
use Rattle.tracing_appender_rolling.specs.Builders.{builder_names}
use Rattle.tracing_appender_rolling.specs.Faults.{after_write}
use Rattle.tracing_appender_rolling.proofs.BuildRefusals.{hands}
use Rattle.tracing_appender_rolling.proofs.Handover.{leaves_sink}
use Rattle.tracing_appender_rolling.proofs.appender.RollingFileAppender.write_all_at.Goals as goal

pub returns-clause-handed : goal.returns-clause-handed
returns-clause-handed g c = λ h holds.
    hands g.D.Folder.contents (builder_names c.args.self.now.builder) c.args.moment h c.args.bytes.now c.push.result c.roll.new.self
    c.push.new.self (c.in_ok-roll.ensures.looked h holds) c.push.ensures.still c.push.ensures.faults c.push.ensures.written

pub returns-clause-state : goal.returns-clause-state
returns-clause-state g c = λ d p is agrees.
    leaves_sink g.D.Folder.contents c.args.moment (λ done. c.args.bytes.now) d p c.args.self.now c.roll.new.self c.push.new.self
    (c.in_ok-roll.ensures.state d p is agrees) c.push.ensures.still c.push.result
    (λ v e. c.push.ensures.faults ∙ ap (λ (r : Result (Unit {0}) FolderError). after_write c.roll.new.self.faults r) e) c.push.ensures.state

pub returns-in_err-roll-clause-state : goal.returns-in_err-roll-clause-state
returns-in_err-roll-clause-state g c = λ d p is agrees.
    let q = err_from_is_err_and c.from_residual.result c.from_residual.ensures.1 in
    let same = q.1 ∙ ap Err q.2 in
    rw same (λ all. inl (c.in_err-roll.ensures.state d p is agrees all))
