use Rattle.std.proofs.Common.{◌≡◌}
use Rattle.span_tracing_outputs.proofs.SinkLines.{cleared_to}
use Rattle.span_tracing_outputs.proofs.hand.clear_lines.Given as goal

abbrev pub invariant-loop-place : goal.invariant-loop-place
invariant-loop-place g l = l.stack ≡ record (l.fn.stack) { rows = cleared_to l.place l.fn.stack.rows }
