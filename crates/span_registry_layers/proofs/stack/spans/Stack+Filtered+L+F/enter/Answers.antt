use Rattle.span_registry_layers.specs.Calls.{EnterGives}
use Rattle.span_registry_layers.specs.Stacks.{plain_stack}
use Rattle.span_registry_layers.specs.Steps.{enter_keeps}
use Rattle.span_registry_layers.proofs.OnStack.{on_stack}
use Rattle.span_registry_layers.proofs.stack.spans.Stack+Filtered+L+F.enter.Goals as goal

pub returns : goal.returns
returns g c =
    let both = on_stack g.F.Filter g.L.Layer (λ s t. EnterGives g.F.Filter g.L.Layer c.args.span.now c.args.at s c.enter.result t)
    (λ s t given. enter_keeps g.F.Filter g.L.Layer c.args.span.now c.args.at s t c.enter.result given) _ _
    (plain_stack c.enter.new.self) c.self.view_is c.enter.ensures in
    record { gives = both.0; kept = both.1 }
