use Rattle.tracing_core_fields.specs.requests.PlainRequests.{plain_attributes}
use Rattle.tracing_core_fields.specs.requests.Calls.{SpanMade}
use Rattle.tracing_core_fields.proofs.requests.Boxes.{moved}
use Rattle.tracing_core_fields.proofs.requests.subscriber.boxed.BoxDynSubscriberSubscriber.new_span.Goals as goal

pub returns : goal.returns
returns g c =
    moved (λ i v n. (g.dyn-1.0.entry i).1.moves v (SpanMade (plain_attributes c.args.attributes.now) c.args.at) c.new_span.result n)
    c.args.self.now _ c.deref_box_mut-1.ensures.value.1 c.new_span.new.self c.new_span.ensures
