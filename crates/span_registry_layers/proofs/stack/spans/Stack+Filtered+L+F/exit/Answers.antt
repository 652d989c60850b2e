use Rattle.span_registry_layers.specs.Calls.{ExitGives}
use Rattle.span_registry_layers.specs.Stacks.{plain_stack}
use Rattle.span_registry_layers.specs.Steps.{exit_keeps}
use Rattle.span_registry_layers.proofs.OnStack.{on_stack}
use Rattle.span_registry_layers.proofs.stack.spans.Stack+Filtered+L+F.exit.Goals as goal

pub returns : goal.returns
returns g c =
    let both = on_stack g.F.Filter g.L.Layer (λ s t. ExitGives g.F.Filter g.L.Layer c.args.span.now c.args.at s t)
    (λ s t given. exit_keeps g.F.Filter g.L.Layer c.args.span.now c.args.at s t given) _ _ (plain_stack c.exit.new.self) c.self.view_is
    c.exit.ensures in
    record { gives = both.0; kept = both.1 }
