use Rattle.std.proofs.Common.{ℕ, ap, take, ◌∙◌, Result, Err, inl}
use Rattle.std.proofs.lemmas.Result.{err_from_is_err_and}
use Rattle.tracing_appender_rolling.specs.declared.folders.fault.FolderError.{FolderError}
use Rattle.tracing_appender_rolling.specs.Builders.{builder_names}
use Rattle.tracing_appender_rolling.specs.Faults.{after_write, unit_of}
use Rattle.tracing_appender_rolling.proofs.BuildRefusals.{writes_once}
use Rattle.tracing_appender_rolling.proofs.Handover.{leaves_sink}
use Rattle.tracing_appender_rolling.proofs.appender.RollingFileAppender.write_at.Goals as goal

pub returns-clause-written : goal.returns-clause-written
returns-clause-written g c = λ h holds.
    writes_once g.D.Folder.contents (builder_names c.args.self.now.builder) c.args.moment h c.args.bytes.now c.roll.new.self
    c.write_once.new.self c.write_once.ensures.still c.write_once.result (c.in_ok-roll.ensures.looked h holds)
    c.write_once.ensures.faults c.write_once.ensures.gives

pub returns-clause-state : goal.returns-clause-state
returns-clause-state g c = λ d p is agrees.
    leaves_sink g.D.Folder.contents c.args.moment (λ n. take n c.args.bytes.now) d p c.args.self.now c.roll.new.self c.write_once.new.self
    (c.in_ok-roll.ensures.state d p is agrees) c.write_once.ensures.still c.write_once.result
    (λ v e. c.write_once.ensures.faults ∙ ap (λ (r : Result ℕ FolderError). after_write c.roll.new.self.faults (unit_of r)) e)
    c.write_once.ensures.state

pub returns-in_err-roll-clause-state : goal.returns-in_err-roll-clause-state
returns-in_err-roll-clause-state g c = λ d p is agrees.
    let q = err_from_is_err_and c.from_residual.result c.from_residual.ensures.1 in
    let same = q.1 ∙ ap Err q.2 in
    rw same (λ all. inl (c.in_err-roll.ensures.state d p is agrees all))
