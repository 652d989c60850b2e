use Rattle.span_registry_layers_store.specs.Parts.{plain_registry}
use Rattle.span_registry_layers_store.proofs.CloseCandidates.{nobody_goes, one_first}
use Rattle.span_registry_layers_store.proofs.parts.RegistryParts.first_candidate.Goals as goal

pub returns-in-Nobody : goal.returns-in-Nobody
returns-in-Nobody c = nobody_goes c.args.self.now.close_candidates (plain_registry c.args.self.now) c.requires c.in-Nobody.is

pub returns-in-One : goal.returns-in-One
returns-in-One c = one_first c.args.self.now.close_candidates (plain_registry c.args.self.now) c.requires c.in-One.id c.in-One.is
