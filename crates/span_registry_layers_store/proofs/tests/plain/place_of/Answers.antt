use Rattle.span_registry_layers_store.proofs.IdOrder.{place_in}
use Rattle.span_registry_layers_store.proofs.tests.plain.place_of.Goals as goal

pub returns-in-Some : goal.returns-in-Some
returns-in-Some c = place_in 0 c.args.spans.now c.args.id c.in-Some.place c.requires c.in-Some.ensures.0 c.in-Some.ensures.1
