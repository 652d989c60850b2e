use Rattle.tracing_core_fields.specs.requests.PlainRequests.{plain_attributes}
use Rattle.span_registry_layers.specs.Caches.{span_is_asked}
use Rattle.span_registry_layers.specs.Calls.{SpanCached}
use Rattle.span_registry_layers.specs.Stacks.{plain_stack}
use Rattle.span_registry_layers.specs.Steps.{span_keeps}
use Rattle.span_registry_layers.proofs.OnStack.{on_stack}
use Rattle.span_registry_layers.proofs.stack.spans.Stack+Filtered+L+F.new_span.Goals as goal

pub returns : goal.returns
returns g c =
    let a = plain_attributes c.args.attributes.now in
    let both = on_stack g.F.Filter g.L.Layer (λ s t. SpanCached g.F.Filter g.L.Layer a c.args.at s c.new_span.result t)
    (λ s t given. span_keeps g.F.Filter g.L.Layer a c.args.at s t c.new_span.result given) _ _ (plain_stack c.new_span.new.self)
    c.self.view_is c.new_span.ensures in
    record { exact = both.0; asking = λ w. span_is_asked g.F.Filter g.L.Layer a c.args.at _ c.new_span.result _ w both.0; kept = both.1 }
