use Rattle.std.proofs.Common.{Err, subst}
use Rattle.tracing_appender_rolling.specs.declared.folders.fault.FolderError.{FolderError}
use Rattle.tracing_appender_rolling.specs.LineHandover.{HandsLine}
use Rattle.tracing_appender_rolling.specs.Builders.{builder_names}
use Rattle.tracing_appender_queue.specs.declared.worker.step.Written.TheVariants.{Whole, Failed, Missed}
use Rattle.tracing_appender_queue.proofs.worker.StepTurns.{hands_one}
use Rattle.tracing_appender_queue.proofs.worker.step.write_line.Goals as goal

pub returns-in-Ok-clause-handed : goal.returns-in-Ok-clause-handed
returns-in-Ok-clause-handed g c = λ h holds.
    hands_one g.D.Folder.contents (builder_names c.args.appender.now.builder) c.args.moment h c.args.line.now Whole c.write_all_at.new.self
    (c.in-Ok.ensures.handed h holds)

pub returns-in-Err-Fault-clause-handed : goal.returns-in-Err-Fault-clause-handed
returns-in-Err-Fault-clause-handed g c = λ h holds.
    hands_one g.D.Folder.contents (builder_names c.args.appender.now.builder) c.args.moment h c.args.line.now (Failed c.in-Err-Fault.fault)
    c.write_all_at.new.self
    (subst (λ (e : FolderError). HandsLine g.D.Folder.contents (builder_names c.args.appender.now.builder) c.args.moment h c.args.line.now
    (Err e) c.write_all_at.new.self) c.in-Err-Fault.field-0-is (c.in-Err-Fault.ensures.handed h holds))

pub returns-in-Err-OutOfMemory-clause-handed : goal.returns-in-Err-OutOfMemory-clause-handed
returns-in-Err-OutOfMemory-clause-handed g c = λ h holds.
    hands_one g.D.Folder.contents (builder_names c.args.appender.now.builder) c.args.moment h c.args.line.now Missed c.write_all_at.new.self
    (subst (λ (e : FolderError). HandsLine g.D.Folder.contents (builder_names c.args.appender.now.builder) c.args.moment h c.args.line.now
    (Err e) c.write_all_at.new.self) c.in-Err-OutOfMemory.field-0-is (c.in-Err-OutOfMemory.ensures.handed h holds))

pub returns-in-Err-Fault-clause-state : goal.returns-in-Err-Fault-clause-state
returns-in-Err-Fault-clause-state g c = λ fed d p is agrees.
    absurd (rw c.in-Err-Fault.field-0-is at (c.in-Err-Fault.ensures.state d p is agrees))

pub returns-in-Ok-clause-state : goal.returns-in-Ok-clause-state
returns-in-Ok-clause-state g c = λ fed d p is agrees. c.in-Ok.ensures.state d p is agrees
