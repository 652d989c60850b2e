use Rattle.span_tracing_steps.specs.States.{value_in}
use Rattle.span_tracing_steps.proofs.UnrefusedRequests.{event_ignored}
use Rattle.span_tracing_steps.proofs.parts.TraceParts.tell.Goals as goal

pub returns-in_default-clause-gives : goal.returns-in_default-clause-gives
returns-in_default-clause-gives g c =
    event_ignored g.T.Subscriber g.T.HasRegistry.registry_of g.T.HasOutputs.set (value_in c.args.self.now) c.args.event.now c.args.index
    c.goes_to.result c.in_default.is c.requires.found c.goes_to.ensures
