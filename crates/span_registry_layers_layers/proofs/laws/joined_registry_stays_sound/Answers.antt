use Rattle.span_registry_layers_layers.proofs.Soundness.{grown_sound}
use Rattle.span_registry_layers_layers.proofs.laws.joined_registry_stays_sound.Goals as goal

pub returns : goal.returns
returns g c layer s t given sound = grown_sound (g.L.Layer.filters layer) s.inner t.inner given.3 sound
