use Rattle.std.proofs.Common.{◌≡◌}
use Rattle.span_registry_layers.specs.SpanNotices.{each_sees}
use Rattle.span_tracing_outputs.proofs.VerdictLists.{so_far}
use Rattle.span_tracing_outputs.proofs.trace_stack.seen_in.Given as goal

abbrev pub invariant-loop-place : goal.invariant-loop-place
invariant-loop-place g l = l.seen ≡ so_far (each_sees l.fn.stack.registry l.fn.span l.fn.stack.rows) l.place
