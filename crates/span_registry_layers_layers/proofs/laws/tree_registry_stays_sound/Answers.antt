use Rattle.span_registry_layers_layers.proofs.Soundness.{attached_sound, tree_sound}
use Rattle.span_registry_layers_layers.proofs.laws.tree_registry_stays_sound.Goals as goal

pub returns-clause-start : goal.returns-clause-start
returns-clause-start g c = attached_sound g.L.Layer

pub returns-clause-call : goal.returns-clause-call
returns-clause-call g c = tree_sound g.L.Layer
