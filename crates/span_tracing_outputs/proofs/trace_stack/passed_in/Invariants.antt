use Rattle.std.proofs.Common.{◌≡◌}
use Rattle.span_registry_layers.specs.OutputSlots.{marks_of}
use Rattle.span_tracing_outputs.proofs.VerdictLists.{so_far}
use Rattle.span_tracing_outputs.proofs.trace_stack.passed_in.Given as goal

abbrev pub invariant-loop-place : goal.invariant-loop-place
invariant-loop-place g l = l.passed ≡ so_far (marks_of l.fn.stack.rows) l.place
