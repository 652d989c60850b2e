use Rattle.tracing_core_fields.specs.requests.Calls.{Entered}
use Rattle.tracing_core_fields.proofs.requests.Boxes.{moved}
use Rattle.tracing_core_fields.proofs.requests.subscriber.boxed.BoxDynSubscriberSubscriber.enter.Goals as goal

pub returns : goal.returns
returns g c =
    moved (λ i v n. (g.dyn-1.0.entry i).1.moves v (Entered c.args.span.now c.args.at) c.enter.result n)
    c.args.self.now _ c.deref_box_mut-1.ensures.value.1 c.enter.new.self c.enter.ensures
