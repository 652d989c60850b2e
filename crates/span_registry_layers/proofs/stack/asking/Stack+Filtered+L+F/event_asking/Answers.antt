use Rattle.std.proofs.Common.{false}
use Rattle.tracing_core_fields.specs.requests.PlainRequests.{plain_event}
use Rattle.span_registry_layers.specs.Caches.{event_by_answers}
use Rattle.span_registry_layers.specs.Stacks.{EventByAnswers, plain_stack}
use Rattle.span_registry_layers.specs.Steps.{event_unless_keeps}
use Rattle.span_registry_layers.proofs.OnStack.{on_stack}
use Rattle.span_registry_layers.proofs.stack.asking.Stack+Filtered+L+F.event_asking.Goals as goal

pub returns : goal.returns
returns g c =
    let e = plain_event c.args.event.now in
    let r = c.event_unless.result in
    let both = on_stack g.F.Filter g.L.Layer (λ s t. EventByAnswers g.F.Filter g.L.Layer e c.args.at s r t)
    (λ s t given. event_unless_keeps g.F.Filter g.L.Layer false e c.args.at s t r given) _ _ (plain_stack c.event_unless.new.self)
    c.self.view_is c.event_unless.ensures in
    record { exact = both.0; asking = event_by_answers g.F.Filter g.L.Layer e c.args.at _ r _ both.0; kept = both.1 }
