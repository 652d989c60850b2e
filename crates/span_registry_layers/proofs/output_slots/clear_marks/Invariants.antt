use Rattle.std.proofs.Common.{◌≡◌, false}
use Rattle.span_registry_layers.specs.OutputSlots.{marked}
use Rattle.span_registry_layers.proofs.EachElement.{so_far}
use Rattle.span_registry_layers.proofs.output_slots.clear_marks.Given as goal

abbrev pub invariant-loop-row : goal.invariant-loop-row
invariant-loop-row g l = l.rows ≡ so_far (marked false) l.row-index l.fn.rows
