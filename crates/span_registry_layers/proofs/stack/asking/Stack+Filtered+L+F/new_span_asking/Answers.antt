use Rattle.std.proofs.Common.{false}
use Rattle.tracing_core_fields.specs.requests.PlainRequests.{plain_attributes}
use Rattle.span_registry_layers.specs.Caches.{span_by_answers}
use Rattle.span_registry_layers.specs.Calls.{SpanByAnswers}
use Rattle.span_registry_layers.specs.Stacks.{plain_stack}
use Rattle.span_registry_layers.specs.Steps.{span_unless_keeps}
use Rattle.span_registry_layers.proofs.OnStack.{on_stack}
use Rattle.span_registry_layers.proofs.stack.asking.Stack+Filtered+L+F.new_span_asking.Goals as goal

pub returns : goal.returns
returns g c =
    let a = plain_attributes c.args.attributes.now in
    let r = c.new_span_unless.result in
    let both = on_stack g.F.Filter g.L.Layer (λ s t. SpanByAnswers g.F.Filter g.L.Layer a c.args.at s r t)
    (λ s t given. span_unless_keeps g.F.Filter g.L.Layer false a c.args.at s t r given) _ _ (plain_stack c.new_span_unless.new.self)
    c.self.view_is c.new_span_unless.ensures in
    record { exact = both.0; asking = span_by_answers g.F.Filter g.L.Layer a c.args.at _ r _ both.0; kept = both.1 }
