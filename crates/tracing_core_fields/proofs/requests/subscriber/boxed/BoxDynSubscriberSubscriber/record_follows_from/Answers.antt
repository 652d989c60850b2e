use Rattle.tracing_core_fields.specs.requests.Calls.{FollowsRecorded}
use Rattle.tracing_core_fields.proofs.requests.Boxes.{moved}
use Rattle.tracing_core_fields.proofs.requests.subscriber.boxed.BoxDynSubscriberSubscriber.record_follows_from.Goals as goal

pub returns : goal.returns
returns g c =
    moved (λ i v n. (g.dyn-1.0.entry i).1.moves v (FollowsRecorded c.args.span.now c.args.follows.now c.args.at)
    c.record_follows_from.result n)
    c.args.self.now _ c.deref_box_mut-1.ensures.value.1 c.record_follows_from.new.self c.record_follows_from.ensures
