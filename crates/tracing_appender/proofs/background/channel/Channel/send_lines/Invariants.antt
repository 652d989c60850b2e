use Rattle.std.proofs.Common.{◌≤◌, ◌+◌, length}
use Rattle.tracing_appender.proofs.background.SentLines.{SoFar}
use Rattle.tracing_appender.proofs.background.channel.Channel.send_lines.Given as goal

abbrev pub invariant-loop-rest : goal.invariant-loop-rest
invariant-loop-rest g l = record {
  few : l.lost + l.missed + length l.rest ≤ length l.fn.lines;
  so_far : SoFar l.fn.queue.value l.fn.lines l.queue.value l.rest l.lost l.missed;
}

abbrev pub decreases-loop-rest : goal.decreases-loop-rest
decreases-loop-rest g l = length l.rest
