use Rattle.std.proofs.Common.{◌≡◌, length, Some}
use Rattle.span_registry_layers_layers.specs.Several.{hint_from}
use Rattle.span_registry_layers_layers.proofs.layer.several.joined_hint.Given as goal

abbrev pub invariant-loop-rest : goal.invariant-loop-rest
invariant-loop-rest g l = hint_from g.L.Layer l.hint l.rest ≡ hint_from g.L.Layer (Some 0) l.fn.layers

abbrev pub decreases-loop-rest : goal.decreases-loop-rest
decreases-loop-rest g l = length l.rest
