use Rattle.std.proofs.Common.{sym, subst}
use Rattle.std.specs.declared.alloc.AllocError.{AllocError}
use Rattle.tracing_appender_rolling.specs.declared.faults.Faults.{Faults}
use Rattle.tracing_appender_rolling.specs.FaultReports.{CountsOnly}
use Rattle.tracing_appender_rolling.proofs.CandidateRemovals.{stops_at}
use Rattle.tracing_appender_rolling.proofs.FaultCounts.{only_kept, only_one}
use Rattle.tracing_appender_rolling.proofs.retention.remove_file.Goals as goal

pub returns-in-Err-OutOfMemory-clause-removes : goal.returns-in-Err-OutOfMemory-clause-removes
returns-in-Err-OutOfMemory-clause-removes g c =
    stops_at AllocError c.args.name.now c.args.faults.now (g.D.Folder.contents c.args.folder.now) (g.D.Folder.contents c.remove.new.self) _
    (rw c.in-Err-OutOfMemory.field-0-is at c.in-Err-OutOfMemory.ensures.gives)

pub returns-in-Ok-clause-counts : goal.returns-in-Ok-clause-counts
returns-in-Ok-clause-counts g c = only_kept (g.D.Folder.failed c.args.folder.now) (g.D.Folder.failed c.remove.new.self) c.args.faults.now
    c.in-Ok.ensures.failures

pub returns-in-Err-OutOfMemory-clause-counts : goal.returns-in-Err-OutOfMemory-clause-counts
returns-in-Err-OutOfMemory-clause-counts g c =
    only_kept (g.D.Folder.failed c.args.folder.now) (g.D.Folder.failed c.remove.new.self) c.args.faults.now
    (rw c.in-Err-OutOfMemory.field-0-is at c.in-Err-OutOfMemory.ensures.failures)

pub returns-in-Err-Fault-clause-counts : goal.returns-in-Err-Fault-clause-counts
returns-in-Err-Fault-clause-counts g c =
    let n = g.D.Folder.failed c.args.folder.now in
    let m = g.D.Folder.failed c.remove.new.self in
    subst (λ (f : Faults). CountsOnly n c.args.faults.now f m) (sym c.after_retention.ensures)
    (only_one n m c.args.faults.now c.in-Err-Fault.fault (rw c.in-Err-Fault.field-0-is at c.in-Err-Fault.ensures.failures))
