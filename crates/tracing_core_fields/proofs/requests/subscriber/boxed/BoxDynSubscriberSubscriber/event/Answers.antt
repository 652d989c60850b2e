use Rattle.tracing_core_fields.specs.requests.PlainRequests.{plain_event}
use Rattle.tracing_core_fields.specs.requests.Calls.{EventDispatched}
use Rattle.tracing_core_fields.proofs.requests.Boxes.{moved}
use Rattle.tracing_core_fields.proofs.requests.subscriber.boxed.BoxDynSubscriberSubscriber.event.Goals as goal

pub returns : goal.returns
returns g c =
    moved (λ i v n. (g.dyn-1.0.entry i).1.moves v (EventDispatched (plain_event c.args.event.now) c.args.at) c.event.result n)
    c.args.self.now _ c.deref_box_mut-1.ensures.value.1 c.event.new.self c.event.ensures
