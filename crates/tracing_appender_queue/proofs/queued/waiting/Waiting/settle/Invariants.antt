use Rattle.std.proofs.Common.{◌≤◌, ◌+◌, length}
use Rattle.tracing_appender_queue.proofs.queued.SettledLines.{SoFar}
use Rattle.tracing_appender_queue.proofs.queued.waiting.Waiting.settle.Given as goal

abbrev pub invariant-loop-rest : goal.invariant-loop-rest
invariant-loop-rest l = record {
  few_lost : l.lost + length l.rest ≤ length l.fn.lines;
  few_missed : l.missed + length l.rest ≤ length l.fn.lines;
  so_far : SoFar l.initial.self l.fn.lines l.self l.rest l.lost l.missed;
}

abbrev pub decreases-loop-rest : goal.decreases-loop-rest
decreases-loop-rest l = length l.rest
