use Rattle.tracing_core_fields.specs.requests.PlainRequests.{plain_event}
use Rattle.span_registry_layers.specs.Caches.{event_is_asked}
use Rattle.span_registry_layers.specs.Stacks.{EventCached, plain_stack}
use Rattle.span_registry_layers.specs.Steps.{event_keeps}
use Rattle.span_registry_layers.proofs.OnStack.{on_stack}
use Rattle.span_registry_layers.proofs.stack.Stack+Filtered+L+F.event.Goals as goal

pub returns : goal.returns
returns g c =
    let e = plain_event c.args.event.now in
    let both = on_stack g.F.Filter g.L.Layer (λ s t. EventCached g.F.Filter g.L.Layer e c.args.at s c.event.result t)
    (λ s t given. event_keeps g.F.Filter g.L.Layer e c.args.at s t c.event.result given) _ _ (plain_stack c.event.new.self)
    c.self.view_is c.event.ensures in
    record { exact = both.0; asking = λ w. event_is_asked g.F.Filter g.L.Layer e c.args.at _ c.event.result _ w both.0; kept = both.1 }
