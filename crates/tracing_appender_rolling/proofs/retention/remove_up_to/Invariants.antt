use Rattle.std.proofs.Common.{map, take, Ok}
use Rattle.std.specs.Option.{option_map}
use Rattle.std.specs.declared.alloc.AllocError.{AllocError}
use Rattle.tracing_appender_rolling.specs.Retention.{candidate_of, goes_by}
use Rattle.tracing_appender_rolling.specs.RetentionRemovals.{Removes, names_by}
use Rattle.tracing_appender_rolling.specs.FaultReports.{CountsOnly}
use Rattle.tracing_appender_rolling.proofs.retention.remove_up_to.Given as goal

abbrev pub invariant-loop-candidate : goal.invariant-loop-candidate
invariant-loop-candidate g l = record {
  removed : Removes {E = AllocError} (names_by (goes_by (option_map candidate_of l.last)) (map candidate_of (take l.candidate-index l.all)))
      l.fn.faults (g.D.Folder.contents l.fn.folder) (Ok tt) l.faults (g.D.Folder.contents l.folder);
  counted : CountsOnly (g.D.Folder.failed l.fn.folder) l.fn.faults l.faults (g.D.Folder.failed l.folder);
}
