use Rattle.std.proofs.Common.{◌≡◌, length, List}
use Rattle.span_tracing_outputs.specs.SinkLines.{TakesEach}
use Rattle.span_tracing_outputs.proofs.SinkLines.{TakesFrom, cleared_to}
use Rattle.span_tracing_outputs.proofs.hand.hand_each.Given as goal

abbrev pub invariant-loop-place : goal.invariant-loop-place
invariant-loop-place g l = record {
  whole : (sinks_after : List _) → TakesFrom g.S.LineSink.takes l.at l.place l.fn.stack.rows l.sinks.items sinks_after →
      TakesEach g.S.LineSink.takes l.at l.fn.stack.rows l.fn.sinks.items sinks_after;
  stack : l.stack ≡ record (l.fn.stack) { rows = cleared_to l.place l.fn.stack.rows };
  sinks : length l.sinks.items ≡ length l.fn.sinks.items;
}
