use Rattle.span_registry_layers.proofs.Soundness.{new_sound, stack_sound}
use Rattle.span_registry_layers.proofs.laws.stack_registry_stays_sound.Goals as goal

pub returns-clause-start : goal.returns-clause-start
returns-clause-start g c = new_sound g.F.Filter g.L.Layer

pub returns-clause-call : goal.returns-clause-call
returns-clause-call g c = stack_sound g.F.Filter g.L.Layer
