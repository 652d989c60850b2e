use Rattle.span_registry_layers.specs.Calls.{CloneGives}
use Rattle.span_registry_layers.specs.Stacks.{plain_stack}
use Rattle.span_registry_layers.specs.Steps.{clone_keeps}
use Rattle.span_registry_layers.proofs.OnStack.{on_stack}
use Rattle.span_registry_layers.proofs.stack.spans.Stack+Filtered+L+F.clone_span.Goals as goal

pub returns : goal.returns
returns g c =
    let both = on_stack g.F.Filter g.L.Layer (λ s t. CloneGives c.args.span.now s c.clone_span.result t)
    (λ s t given. clone_keeps g.F.Filter g.L.Layer c.args.span.now s t c.clone_span.result given) _ _
    (plain_stack c.clone_span.new.self) c.self.view_is c.clone_span.ensures in
    record { gives = both.0; kept = both.1 }
