use Rattle.std.proofs.Common.{◌≡◌, length}
use Rattle.span_registry_layers.specs.OutputSlots.{marks_of}
use Rattle.span_registry_layers.specs.Stacks.{some_passes}
use Rattle.span_registry_layers.proofs.output_slots.some_passes.Given as goal

abbrev pub invariant-loop-rest : goal.invariant-loop-rest
invariant-loop-rest g l = some_passes (marks_of l.rest) ≡ some_passes (marks_of l.fn.rows)

abbrev pub decreases-loop-rest : goal.decreases-loop-rest
decreases-loop-rest g l = length l.rest
