use Rattle.std.proofs.Common.{arith, ◌∙◌, sym, ap, subst, cond, ◌≡◌, refl, ℕ, List, [], ◌∷◌, ◌++◌, length, ◌+◌, ◌-◌}
use Rattle.tracing_appender_rolling.specs.Builders.{builder_names}
use Rattle.tracing_appender_rolling.specs.Names.{FileNames}
use Rattle.tracing_appender_rolling.specs.Looks.{Held}
use Rattle.tracing_appender_rolling.specs.Appenders.{Holds}
use Rattle.tracing_appender_rolling.specs.AnyFolder.{LineAt, seen_of}
use Rattle.tracing_appender_queue.specs.worker.Batches.{lines_in, queue_in, close_if}
use Rattle.tracing_appender_queue.specs.worker.Steps.{answer_of, is_missed, LinesSink, HandsOne}
use Rattle.tracing_appender_queue.proofs.worker.CutSteps.{lines_none, queue_none, queue_none_left}
use Rattle.tracing_appender_queue.proofs.worker.StepTurns.{SoFar, queue_turn, done_turn, length_turn, turn, none_so_far, counts_missed}
use Rattle.tracing_appender_queue.proofs.worker.StepTurns.{counts_fed, ended, all_done, left_ends, handed_ends, seen_turn, seen_ends}
use Rattle.tracing_appender_queue.proofs.worker.step.batch.Goals as goal
use Rattle.tracing_appender_queue.proofs.worker.step.batch.Goals.{then-is_missed, else-is_missed, else-loop-taken-test}
use Rattle.tracing_appender_queue.proofs.worker.step.batch.Goals.{then-loop-taken-test+in_default}

pub loop-taken-init : goal.loop-taken-init
loop-taken-init g c =
    let all : c.args.k ≡ c.args.k - 0 = omega arith in
    record {
      within = omega arith;
      few = omega arith;
      names = refl;
      queued = ap (λ n. queue_in n c.args.queue.now) all;
      so_far = (
        [],
        ap (λ n. lines_in n c.args.queue.now) all,
        refl,
        none_so_far g.D.Folder.contents (builder_names c.args.appender.now.builder) c.args.moment c.args.appender.now,
        ([], refl, refl),
      );
    }

pub loop-taken-preserved : goal.loop-taken-preserved
loop-taken-preserved g c =
    let k = c.args.k in
    let t = c.loop-taken.taken in
    let q = c.loop-taken.queue in
    let r = c.give_back.new.self in
    let line = c.in-Some.line.items in
    let slice = c.as_slice.result.now in
    let next = c.in-Some.ensures.0 in
    let left = c.give_back.ensures ∙ c.in-Some.ensures.1 in
    let lt = c.loop-taken-test.true in
    let names = builder_names c.args.appender.now.builder in
    let fate = c.write_line-fate.result in
    let contents = g.D.Folder.contents in
    let (done, lines, count, so, seen) = c.loop-taken.invariant.so_far in
    let handed = subst (λ (n : FileNames). (h : Held) → Holds contents c.loop-taken.appender h →
    HandsOne contents n c.args.moment h slice fate c.write_line-fate.new.appender) c.loop-taken.invariant.names
    c.write_line-fate.ensures.handed in
    let missed : c.if-is_missed.missed ≡ c.loop-taken.missed + cond (is_missed fate) 1 0 =
    elim c.if-is_missed.branch [
      | then-is_missed b ↦ counts_missed (is_missed fate) c.loop-taken.missed _ (sym c.is_missed.ensures ∙ b.if-is_missed.true) b.missed-is
      | else-is_missed b ↦ counts_fed (is_missed fate) c.loop-taken.missed _ (sym c.is_missed.ensures ∙ b.if-is_missed.false) b.missed-is
    ] in
    record {
      within = omega arith;
      few = elim c.if-is_missed.branch [ then-is_missed b ↦ omega arith | else-is_missed b ↦ omega arith ];
      names = c.write_line-fate.ensures.names ∙ c.loop-taken.invariant.names;
      queued = c.loop-taken.invariant.queued ∙ queue_turn k t lt q line next ∙ ap (queue_in (k - (t + 1))) (sym left);
      so_far = (
        done ++ slice ∷ [],
        done_turn k t lt q line next r slice (lines_in k c.args.queue.now) done left c.as_slice.ensures.value lines,
        length_turn done slice t count,
        subst (λ w. SoFar contents names c.args.moment c.args.appender.now c.write_line-fate.new.appender c.if-is_missed.missed w
            (done ++ slice ∷ [])) (sym c.is_whole-whole.ensures)
            (turn contents names c.args.moment c.args.appender.now c.loop-taken.appender c.write_line-fate.new.appender c.loop-taken.missed
            c.if-is_missed.missed c.loop-taken.whole done slice fate so
            missed
            handed c.write_line-fate.ensures.state),
        seen_turn names c.args.moment (seen_of g.D.Folder.failed c.args.appender.now) (seen_of g.D.Folder.failed c.loop-taken.appender)
            (seen_of g.D.Folder.failed c.write_line-fate.new.appender) c.loop-taken.missed c.if-is_missed.missed done slice fate seen missed
            (subst (λ (n : FileNames). LineAt n c.args.moment (length slice) (answer_of fate)
            (seen_of g.D.Folder.failed c.loop-taken.appender) (seen_of g.D.Folder.failed c.write_line-fate.new.appender))
            c.loop-taken.invariant.names c.write_line-fate.ensures.anywhere),
      );
    }

pub returns-clause-taken : goal.returns-clause-taken
returns-clause-taken g c =
    let (done, lines, count, so, seen) = c.loop-taken.invariant.so_far in
    let n = c.args.k - c.loop-taken.taken in
    let q = c.loop-taken.queue in
    let none : lines_in n q ≡ [] = elim c.loop-taken-test.branch [
      | else-loop-taken-test w ↦ ended n q (omega (arith, w.loop-taken-test.false))
      | then-loop-taken-test+in_default w ↦ lines_none n q
          w.in_default.ensures.0
    ] in
    let all = all_done (lines_in c.args.k c.args.queue.now) done (lines_in n q) lines none in
    sym count ∙ ap length (sym all)

pub returns-clause-handed : goal.returns-clause-handed
returns-clause-handed g c = λ h holds.
    let (done, lines, count, so, seen) = c.loop-taken.invariant.so_far in
    let n = c.args.k - c.loop-taken.taken in
    let q = c.loop-taken.queue in
    let none : lines_in n q ≡ [] = elim c.loop-taken-test.branch [
      | else-loop-taken-test w ↦ ended n q (omega (arith, w.loop-taken-test.false))
      | then-loop-taken-test+in_default w ↦ lines_none n q
          w.in_default.ensures.0
    ] in
    let all = all_done (lines_in c.args.k c.args.queue.now) done (lines_in n q) lines none in
    handed_ends g.D.Folder.contents (builder_names c.args.appender.now.builder) c.args.moment h done (lines_in c.args.k c.args.queue.now)
    c.loop-taken.missed c.loop-taken.whole c.loop-taken.appender c.flush_if.new.appender all (so.handed h holds)
    c.flush_if.ensures.flushed

pub returns-clause-state : goal.returns-clause-state
returns-clause-state g c = λ missed d p is start.
    let (done, lines, count, so, seen) = c.loop-taken.invariant.so_far in
    let n = c.args.k - c.loop-taken.taken in
    let q = c.loop-taken.queue in
    let none : lines_in n q ≡ [] = elim c.loop-taken-test.branch [
      | else-loop-taken-test w ↦ ended n q (omega (arith, w.loop-taken-test.false))
      | then-loop-taken-test+in_default w ↦ lines_none n q
          w.in_default.ensures.0
    ] in
    let all = all_done (lines_in c.args.k c.args.queue.now) done (lines_in n q) lines none in
    subst (λ (xs : List (List ℕ)). LinesSink g.D.Folder.contents p xs c.args.moment d c.args.appender.now c.flush_if.new.appender) (sym all)
    (left_ends g.D.Folder.contents (builder_names c.args.appender.now.builder) c.args.moment c.args.appender.now c.loop-taken.appender
    c.flush_if.new.appender done d p start (so.left missed d p is start) c.flush_if.ensures.state c.flush_if.ensures.faults
    c.flush_if.ensures.current c.flush_if.ensures.opens)

pub returns-clause-anywhere : goal.returns-clause-anywhere
returns-clause-anywhere g c =
    let (done, lines, count, so, seen) = c.loop-taken.invariant.so_far in
    let n = c.args.k - c.loop-taken.taken in
    let q = c.loop-taken.queue in
    let none : lines_in n q ≡ [] = elim c.loop-taken-test.branch [
      | else-loop-taken-test w ↦ ended n q (omega (arith, w.loop-taken-test.false))
      | then-loop-taken-test+in_default w ↦ lines_none n q
          w.in_default.ensures.0
    ] in
    let all = all_done (lines_in c.args.k c.args.queue.now) done (lines_in n q) lines none in
    seen_ends g.D.Folder.failed c.args.moment done (lines_in c.args.k c.args.queue.now) c.loop-taken.missed c.args.appender.now
    c.loop-taken.appender c.flush_if.new.appender all seen c.flush_if.ensures.anywhere

pub returns-clause-queue : goal.returns-clause-queue
returns-clause-queue g c =
    let n = c.args.k - c.loop-taken.taken in
    let q = c.loop-taken.queue in
    let end : close_if c.loop-taken-test.queue ≡ queue_in n q =
    elim c.loop-taken-test.branch [
      | else-loop-taken-test w ↦ ap close_if w.queue-is ∙ sym (queue_none_left n q (omega (arith, w.loop-taken-test.false)))
      | then-loop-taken-test+in_default w ↦ ap close_if (w.queue-is ∙ w.in_default.ensures.1) ∙ sym (queue_none n q w.in_default.ensures.0)
    ] in
    c.close_at_mark.ensures ∙ end ∙ sym c.loop-taken.invariant.queued
