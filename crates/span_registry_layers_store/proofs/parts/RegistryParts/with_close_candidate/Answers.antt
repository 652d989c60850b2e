use Rattle.span_registry_layers_store.specs.Parts.{plain_registry}
use Rattle.span_registry_layers_store.proofs.CloseCandidates.{first_loosened, other_loosened}
use Rattle.span_registry_layers_store.proofs.parts.RegistryParts.with_close_candidate.Goals as goal

pub returns-in-Nobody-clause-whole : goal.returns-in-Nobody-clause-whole
returns-in-Nobody-clause-whole c = first_loosened c.args.self.now.close_candidates (plain_registry c.args.self.now) c.requires c.args.id
    c.in-Nobody.is

pub returns-then-stays-clause-whole : goal.returns-then-stays-clause-whole
returns-then-stays-clause-whole c = other_loosened c.args.self.now.close_candidates (plain_registry c.args.self.now) c.requires
    c.in-One.other c.stays.result c.in-One.is c.stays.ensures.rise c.stays.ensures.stays c.args.id c.if-stays.true
