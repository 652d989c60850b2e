use Rattle.std.proofs.Common.{◌≡◌, arith, ap, refl, ◌∙◌, length}
use Rattle.std.proofs.lemmas.List.{length-drop}
use Rattle.std.proofs.lemmas.Result.{err_from_is_err_and}
use Rattle.tracing_appender_rolling.proofs.WriteLoop.{begins, goes, ends_zero, ends_err, ends}
use Rattle.tracing_appender_rolling.proofs.appender.write_all.Goals as goal

pub loop-from-init : goal.loop-from-init
loop-from-init g c = record {
  within = omega arith;
  going = begins (g.D.Folder.contents c.args.folder.now) c.args.file c.args.bytes.now;
  kept = refl;
}

pub returns-in_err-taken-clause-written : goal.returns-in_err-taken-clause-written
returns-in_err-taken-clause-written g c =
    let p = err_from_is_err_and c.from_residual.result c.from_residual.ensures.1 in
    rw p.1 (ends_err (g.D.Folder.contents c.args.folder.now) c.args.file c.args.bytes.now c.loop-from.from _ _ c.loop-from.invariant.going
    c.loop-from-test.true c.rest_of.result.now c.rest_of.ensures p.0 (rw (← p.2) at c.in_err-taken.ensures.gives))

pub returns-then-taken-eq0-clause-written : goal.returns-then-taken-eq0-clause-written
returns-then-taken-eq0-clause-written g c =
    ends_zero (g.D.Folder.contents c.args.folder.now) c.args.file c.args.bytes.now c.loop-from.from _ _ c.loop-from.invariant.going
    c.loop-from-test.true c.rest_of.result.now c.rest_of.ensures (rw c.if-taken-eq0.true at c.in_ok-taken.ensures.gives)

pub loop-from-preserved : goal.loop-from-preserved
loop-from-preserved g c = record {
  within = omega (arith, length-drop c.loop-from.from c.args.bytes.now, c.in_ok-taken.ensures.bound, ap length c.rest_of.ensures);
  going = goes (g.D.Folder.contents c.args.folder.now) c.args.file c.args.bytes.now c.loop-from.from _ _ c.loop-from.invariant.going
      c.loop-from-test.true c.rest_of.result.now c.rest_of.ensures c.in_ok-taken.taken (omega (arith, c.if-taken-eq0.false))
      c.in_ok-taken.ensures.gives;
  kept = c.in_ok-taken.ensures.failures ∙ c.loop-from.invariant.kept;
}

pub returns-clause-written : goal.returns-clause-written
returns-clause-written g c =
    let all : c.loop-from.from ≡ length c.args.bytes.now = omega (arith, c.loop-from.invariant.within) in
    ends (g.D.Folder.contents c.args.folder.now) c.args.file c.args.bytes.now c.loop-from.from (g.D.Folder.contents c.loop-from.folder) tt
    c.loop-from.invariant.going all
