use Rattle.std.proofs.Common.{◌≡◌, length, nat_le}
use Rattle.span_registry_layers.specs.NewStack.{filters_in}
use Rattle.span_registry_layers.proofs.output.have_room.Given as goal

abbrev pub invariant-loop-rest : goal.invariant-loop-rest
invariant-loop-rest g l = nat_le (filters_in g.L.Layer l.rest) l.room ≡ nat_le (filters_in g.L.Layer l.fn.outputs) 64

abbrev pub decreases-loop-rest : goal.decreases-loop-rest
decreases-loop-rest g l = length l.rest
