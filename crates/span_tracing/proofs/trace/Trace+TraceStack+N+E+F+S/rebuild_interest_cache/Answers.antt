use Rattle.span_tracing.proofs.trace.Trace+TraceStack+N+E+F+S.rebuild_interest_cache.Goals as goal

pub returns-clause-follows : goal.returns-clause-follows
returns-clause-follows g c = rw (← c.self.view_is)
    (λ ready. c.setup_follows.ensures.asked _ _ ready c.rebuild_interest_cache.ensures.asked)

pub returns-clause-asked : goal.returns-clause-asked
returns-clause-asked g c = rw (← c.self.view_is) c.rebuild_interest_cache.ensures.asked
