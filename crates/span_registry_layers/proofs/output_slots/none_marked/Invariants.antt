use Rattle.std.proofs.Common.{◌≡◌, length}
use Rattle.std.specs.List.{list_any}
use Rattle.span_registry_layers.specs.OutputSlots.{is_marked}
use Rattle.span_registry_layers.proofs.output_slots.none_marked.Given as goal

abbrev pub invariant-loop-rest : goal.invariant-loop-rest
invariant-loop-rest g l = list_any is_marked l.rest ≡ list_any is_marked l.fn.rows

abbrev pub decreases-loop-rest : goal.decreases-loop-rest
decreases-loop-rest g l = length l.rest
