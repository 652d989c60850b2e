use Rattle.std.proofs.Common.{refl, arith, ◌<◌, length}
use Rattle.std.specs.Option.{option_map}
use Rattle.std.specs.declared.alloc.AllocError.{AllocError}
use Rattle.std.proofs.lemmas.Result.{err_from_is_err_and}
use Rattle.tracing_appender_rolling.specs.Retention.{candidate_of, goes_by}
use Rattle.tracing_appender_rolling.proofs.FaultCounts.{only_kept, only_then}
use Rattle.tracing_appender_rolling.proofs.CandidateRemovals.{removes_none, removes_next, removes_stop}
use Rattle.tracing_appender_rolling.proofs.retention.remove_up_to.Goals as goal

pub loop-candidate-init : goal.loop-candidate-init
loop-candidate-init g c = record {
  removed = removes_none AllocError c.args.faults.now (g.D.Folder.contents c.args.folder.now);
  counted = only_kept (g.D.Folder.failed c.args.folder.now) (g.D.Folder.failed c.args.folder.now) c.args.faults.now refl;
}

pub loop-candidate-preserved : goal.loop-candidate-preserved
loop-candidate-preserved g c =
    let i = c.loop-candidate.candidate-index in
    let lt : i < length c.args.all.now = omega arith in
    record {
      removed = removes_next AllocError (goes_by (option_map candidate_of c.args.last.now)) c.args.all.now i _ c.args.faults.now
          c.loop-candidate.faults c.remove_if_doomed.new.faults (g.D.Folder.contents c.args.folder.now)
          (g.D.Folder.contents c.loop-candidate.folder) (g.D.Folder.contents c.remove_if_doomed.new.folder) lt
          c.loop-candidate.invariant.removed c.in_ok-remove_if_doomed.ensures.removes;
      counted = only_then (g.D.Folder.failed c.args.folder.now) (g.D.Folder.failed c.loop-candidate.folder)
          (g.D.Folder.failed c.remove_if_doomed.new.folder) c.args.faults.now c.loop-candidate.faults c.remove_if_doomed.new.faults
          c.loop-candidate.invariant.counted c.in_ok-remove_if_doomed.ensures.counts;
    }

pub returns-in_err-remove_if_doomed-clause-removes : goal.returns-in_err-remove_if_doomed-clause-removes
returns-in_err-remove_if_doomed-clause-removes g c =
    let i = c.loop-candidate.candidate-index in
    let lt : i < length c.args.all.now = omega arith in
    let p = err_from_is_err_and c.from_residual.result c.from_residual.ensures.1 in
    rw p.1 (removes_stop AllocError (goes_by (option_map candidate_of c.args.last.now)) c.args.all.now i _ c.args.faults.now
    c.loop-candidate.faults c.remove_if_doomed.new.faults (g.D.Folder.contents c.args.folder.now)
    (g.D.Folder.contents c.loop-candidate.folder) (g.D.Folder.contents c.remove_if_doomed.new.folder) _ lt
    c.loop-candidate.invariant.removed c.in_err-remove_if_doomed.ensures.removes)

pub returns-in_err-remove_if_doomed-clause-counts : goal.returns-in_err-remove_if_doomed-clause-counts
returns-in_err-remove_if_doomed-clause-counts g c =
    only_then (g.D.Folder.failed c.args.folder.now) (g.D.Folder.failed c.loop-candidate.folder)
    (g.D.Folder.failed c.remove_if_doomed.new.folder) c.args.faults.now c.loop-candidate.faults c.remove_if_doomed.new.faults
    c.loop-candidate.invariant.counted c.in_err-remove_if_doomed.ensures.counts
