use Rattle.span_tracing_steps.specs.States.{value_in}
use Rattle.span_tracing_steps.proofs.UnrefusedRequests.{event_given}
use Rattle.span_tracing_steps.proofs.parts.TraceParts.hand.Goals as goal

pub returns-clause-gives : goal.returns-clause-gives
returns-clause-gives g c =
    event_given g.T.Subscriber g.T.HasRegistry.registry_of g.T.HasOutputs.set (value_in c.args.self.now) c.event_at-told.new.self
    c.weak_of-handle.result
    c.args.stack c.weak_of-handle.ensures
    (record { lane = c.args.lane; moment = c.args.moment; callsite = c.args.callsite; parent = c.args.parent; values = c.args.values })
    c.args.index c.parent_of-parent.result c.at_of-at.result c.event_at-told.result c.parent_of-parent.ensures c.at_of-at.ensures
    c.requires.found c.requires.reached c.event_at-told.ensures.gives
