use Rattle.std.proofs.Common.{◌≡◌, length}
use Rattle.span_registry_layers.specs.NewStack.{has_equal_keys, keys_of}
use Rattle.span_registry_layers.proofs.output.has_equal_keys.Given as goal

abbrev pub invariant-loop-rest : goal.invariant-loop-rest
invariant-loop-rest g l = has_equal_keys (keys_of l.rest) ≡ has_equal_keys (keys_of l.fn.outputs)

abbrev pub decreases-loop-rest : goal.decreases-loop-rest
decreases-loop-rest g l = length l.rest
