use Rattle.span_tracing_shared.proofs.shared.Shared.run_lanes.Goals as goal

-- what the call at this place left of the seat
pub returns-then-some_stopped-clause-went : goal.returns-then-some_stopped-clause-went
returns-then-some_stopped-clause-went g c i d e below =
    let here = (c.for_each_mut.ensures i d below).1 in rw (← here.argument_is, ← here.left) (here.call e)

pub returns-clause-went : goal.returns-clause-went
returns-clause-went g c i d e below =
    let here = (c.for_each_mut.ensures i d below).1 in rw (← here.argument_is, ← here.left) (here.call e)
