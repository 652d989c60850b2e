use Rattle.span_registry_layers.proofs.RegistryIndependence.{registry_alone, registry_unwritten}
use Rattle.span_registry_layers.proofs.laws.registry_stands_alone.Goals as goal

pub returns-clause-slots : goal.returns-clause-slots
returns-clause-slots g c = registry_alone g.F.Filter g.L.Layer

pub returns-clause-unwritten : goal.returns-clause-unwritten
returns-clause-unwritten g c = registry_unwritten g.F.Filter g.L.Layer
