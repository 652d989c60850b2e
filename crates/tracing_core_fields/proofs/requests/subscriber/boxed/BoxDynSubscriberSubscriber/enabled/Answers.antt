use Rattle.std.proofs.Common.{subst}
use Rattle.tracing_core_fields.specs.Metadata.{plain_metadata}
use Rattle.tracing_core_fields.specs.requests.Calls.{Asked}
use Rattle.tracing_core_fields.proofs.requests.Boxes.{moved}
use Rattle.tracing_core_fields.proofs.requests.subscriber.boxed.BoxDynSubscriberSubscriber.enabled.Goals as goal

pub returns-clause-answer : goal.returns-clause-answer
returns-clause-answer g c = subst (λ p. (g.dyn-1.0.entry p.0).1.answers p.1 (plain_metadata c.args.metadata.now) c.args.at c.enabled.result)
    c.deref_box_mut-1.ensures.value.1 c.enabled.ensures.0

pub returns-clause-state : goal.returns-clause-state
returns-clause-state g c =
    moved (λ i v n. (g.dyn-1.0.entry i).1.moves v (Asked (plain_metadata c.args.metadata.now) c.args.at) c.enabled.result n)
    c.args.self.now _ c.deref_box_mut-1.ensures.value.1 c.enabled.new.self c.enabled.ensures.1
