use Rattle.tracing_core_fields.specs.requests.Calls.{CloseTried}
use Rattle.tracing_core_fields.proofs.requests.Boxes.{moved}
use Rattle.tracing_core_fields.proofs.requests.subscriber.boxed.BoxDynSubscriberSubscriber.try_close.Goals as goal

pub returns : goal.returns
returns g c =
    moved (λ i v n. (g.dyn-1.0.entry i).1.moves v (CloseTried c.args.span c.args.at) c.try_close.result n)
    c.args.self.now _ c.deref_box_mut-1.ensures.value.1 c.try_close.new.self c.try_close.ensures
