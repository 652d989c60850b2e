use Rattle.tracing_core_fields.specs.requests.Calls.{DispatchRegistered}
use Rattle.tracing_core_fields.proofs.requests.Boxes.{moved}
use Rattle.tracing_core_fields.proofs.requests.subscriber.boxed.BoxDynSubscriberSubscriber.on_register_dispatch.Goals as goal

pub returns : goal.returns
returns g c =
    moved (λ i v n. (g.dyn-1.0.entry i).1.moves v (DispatchRegistered c.args.dispatch.now) tt n)
    c.args.self.now _ c.deref_box_mut-1.ensures.value.1 c.on_register_dispatch.new.self c.on_register_dispatch.ensures
