use Rattle.span_registry_layers_store.specs.Parts.{plain_registry}
use Rattle.span_registry_layers_store.proofs.CloseCandidates.{lent_whole}
use Rattle.span_registry_layers_store.proofs.registry.Registry.extensions_mut_under.Goals as goal

pub invariant_of-self-lent : goal.invariant_of-self-lent
invariant_of-self-lent c = λ r. (
  λ w. lent_whole c.self.inside.parts.close_candidates (plain_registry c.self.inside.parts) c.args.span.now w
      c.self.invariant,
  c.self.invariant,
)
