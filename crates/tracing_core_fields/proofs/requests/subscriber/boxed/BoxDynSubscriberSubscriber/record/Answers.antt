use Rattle.tracing_core_fields.specs.requests.PlainRequests.{plain_record}
use Rattle.tracing_core_fields.specs.requests.Calls.{Recorded}
use Rattle.tracing_core_fields.proofs.requests.Boxes.{moved}
use Rattle.tracing_core_fields.proofs.requests.subscriber.boxed.BoxDynSubscriberSubscriber.record.Goals as goal

pub returns : goal.returns
returns g c =
    moved (λ i v n. (g.dyn-1.0.entry i).1.moves v (Recorded c.args.span.now (plain_record c.args.values.now) c.args.at) c.record.result n)
    c.args.self.now _ c.deref_box_mut-1.ensures.value.1 c.record.new.self c.record.ensures
