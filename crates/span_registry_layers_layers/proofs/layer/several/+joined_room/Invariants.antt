use Rattle.std.proofs.Common.{length}
use Rattle.span_registry_layers_layers.proofs.layer.several.+joined_room.Given as goal

abbrev pub decreases-joined_room : goal.decreases-joined_room
decreases-joined_room g l = length l.layers.now
