use Rattle.std.proofs.Common.{◌≡◌, length}
use Rattle.span_registry_layers_store.specs.Spans.{is_member}
use Rattle.span_registry_layers.specs.NewStack.{keys_of}
use Rattle.span_registry_layers.proofs.output.has_key.Given as goal

abbrev pub invariant-loop-rest : goal.invariant-loop-rest
invariant-loop-rest g l = is_member (keys_of l.rest) l.key.0 ≡ is_member (keys_of l.fn.outputs) l.key.0

abbrev pub decreases-loop-rest : goal.decreases-loop-rest
decreases-loop-rest g l = length l.rest
