use Rattle.std.proofs.Common.{subst}
use Rattle.tracing_core_fields.specs.Metadata.{plain_metadata}
use Rattle.tracing_core_fields.specs.requests.Calls.{CallsiteRegistered}
use Rattle.tracing_core_fields.proofs.requests.Boxes.{moved}
use Rattle.tracing_core_fields.proofs.requests.subscriber.boxed.BoxDynSubscriberSubscriber.register_callsite.Goals as goal

pub returns-clause-answer : goal.returns-clause-answer
returns-clause-answer g c = subst (λ p. (g.dyn-1.0.entry p.0).1.says p.1 (plain_metadata c.args.metadata.now) c.register_callsite.result)
    c.deref_box_mut-1.ensures.value.1 c.register_callsite.ensures.0

pub returns-clause-state : goal.returns-clause-state
returns-clause-state g c =
    moved (λ i v n. (g.dyn-1.0.entry i).1.moves v (CallsiteRegistered (plain_metadata c.args.metadata.now)) c.register_callsite.result n)
    c.args.self.now _ c.deref_box_mut-1.ensures.value.1 c.register_callsite.new.self c.register_callsite.ensures.1
