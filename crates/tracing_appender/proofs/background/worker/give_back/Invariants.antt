use Rattle.std.proofs.Common.{◌≡◌, vec_capacity}
use Rattle.tracing_appender.proofs.background.worker.give_back.Given as goal

abbrev pub invariant-loop-line : goal.invariant-loop-line
invariant-loop-line l = record {
  queue : l.queue ≡ l.fn.queue;
  room : vec_capacity l.lines ≡ vec_capacity l.fn.lines;
}

abbrev pub decreases-loop-line : goal.decreases-loop-line
decreases-loop-line l = goal.left-loop-line l
