use Rattle.std.proofs.Common.{length}
use Rattle.span_registry_layers_layers.proofs.layer.several.+ask_each.Given as goal

abbrev pub decreases-ask_each : goal.decreases-ask_each
decreases-ask_each g l = length l.layers.now
