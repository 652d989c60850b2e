use Rattle.tracing_core_fields.specs.requests.Calls.{Dropped}
use Rattle.tracing_core_fields.proofs.requests.Boxes.{moved}
use Rattle.tracing_core_fields.proofs.requests.subscriber.boxed.BoxDynSubscriberSubscriber.drop_span.Goals as goal

pub returns : goal.returns
returns g c =
    moved (λ i v n. (g.dyn-1.0.entry i).1.moves v (Dropped c.args.span c.args.at) tt n)
    c.args.self.now _ c.deref_box_mut-1.ensures.value.1 c.drop_span.new.self c.drop_span.ensures
