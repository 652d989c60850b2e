use Rattle.span_registry_layers.proofs.Keys.{calls_kept, new_kept, turns_kept}
use Rattle.span_registry_layers.proofs.laws.layers_keep_to_keys.Goals as goal

pub returns-clause-start : goal.returns-clause-start
returns-clause-start g c = new_kept g.F.Filter g.L.Layer

pub returns-clause-call : goal.returns-clause-call
returns-clause-call g c = calls_kept g.F.Filter g.L.Layer

pub returns-clause-turn : goal.returns-clause-turn
returns-clause-turn g c = turns_kept g.F.Filter g.L.Layer
