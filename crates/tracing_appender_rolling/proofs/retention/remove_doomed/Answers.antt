use Rattle.std.proofs.Common.{arith, map}
use Rattle.std.proofs.lemmas.List.{length-map}
use Rattle.std.specs.Option.{option_map}
use Rattle.std.specs.declared.alloc.AllocError.{AllocError}
use Rattle.tracing_appender_rolling.specs.Retention.{candidate_of}
use Rattle.tracing_appender_rolling.proofs.SortedCandidates.{removes_few, removes_told}
use Rattle.tracing_appender_rolling.proofs.retention.remove_doomed.Goals as goal

pub returns-then-all-limit-clause-removes : goal.returns-then-all-limit-clause-removes
returns-then-all-limit-clause-removes g c = removes_few AllocError c.args.limit (map candidate_of c.args.all.now) c.args.faults.now
    (g.D.Folder.contents c.args.folder.now) (omega (arith, length-map c.args.all.now candidate_of, c.if-all-limit.true))

pub returns-clause-removes : goal.returns-clause-removes
returns-clause-removes g c =
    removes_told AllocError c.args.limit (map candidate_of c.args.all.now) (option_map candidate_of c.in_ok-last.last) c.args.faults.now
    c.remove_up_to.new.faults (g.D.Folder.contents c.args.folder.now) (g.D.Folder.contents c.remove_up_to.new.folder) _
    c.in_ok-last.ensures c.in_ok-remove_up_to.ensures.removes
