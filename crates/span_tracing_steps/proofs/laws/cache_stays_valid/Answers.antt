use Rattle.span_tracing_steps.proofs.InterestPreservation.{cache_stays_valid}
use Rattle.span_tracing_steps.proofs.laws.cache_stays_valid.Goals as goal

pub returns : goal.returns
returns g c = cache_stays_valid g.T.Subscriber g.T.HasRegistry.registry_of g.T.HasOutputs.outputs_in g.T.HasSinks.sinks_in
    g.T.HasOutputs.set g.T.HasSinks.drives g.T.HasSinks.holds g.met.T.HasOutputs.word_stays g.met.T.HasSinks.word_stays
