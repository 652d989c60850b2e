use Rattle.tracing_core_fields.specs.requests.Calls.{CurrentAsked}
use Rattle.tracing_core_fields.proofs.requests.Boxes.{moved}
use Rattle.tracing_core_fields.proofs.requests.subscriber.boxed.BoxDynSubscriberSubscriber.current_span.Goals as goal

pub returns : goal.returns
returns g c =
    moved (λ i v n. (g.dyn-1.0.entry i).1.moves v (CurrentAsked c.args.at) c.current_span.result n)
    c.args.self.now _ c.deref_box_mut-1.ensures.value.1 c.current_span.new.self c.current_span.ensures
