use Rattle.tracing_core.specs.HandleSubscribers.{given_as}
use Rattle.tracing_core.proofs.hub.lending.index_to_lend.Goals as goal

pub returns : goal.returns
returns g c = let found = c.index_or_end.ensures in (found.0, λ s. found.1 (given_as s), λ s. found.2 (given_as s))
