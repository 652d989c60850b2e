use Rattle.std.proofs.Common.{◌≡◌, subst}
use Rattle.tracing_core_fields.specs.requests.Calls.{HintAsked}
use Rattle.tracing_core_fields.proofs.requests.Boxes.{moved}
use Rattle.tracing_core_fields.proofs.requests.subscriber.boxed.BoxDynSubscriberSubscriber.max_level_hint.Goals as goal

pub returns-clause-answer : goal.returns-clause-answer
returns-clause-answer g c = subst (λ p. c.max_level_hint.result ≡ (g.dyn-1.0.entry p.0).1.hint p.1) c.deref_box_mut-1.ensures.value.1
    c.max_level_hint.ensures.0

pub returns-clause-state : goal.returns-clause-state
returns-clause-state g c =
    moved (λ i v n. (g.dyn-1.0.entry i).1.moves v (HintAsked) c.max_level_hint.result n)
    c.args.self.now _ c.deref_box_mut-1.ensures.value.1 c.max_level_hint.new.self c.max_level_hint.ensures.1
