use Rattle.span_registry_layers.specs.Calls.{CloseGives}
use Rattle.span_registry_layers.specs.Stacks.{plain_stack}
use Rattle.span_registry_layers.specs.Steps.{close_keeps}
use Rattle.span_registry_layers.proofs.OnStack.{on_stack}
use Rattle.span_registry_layers.proofs.stack.spans.Stack+Filtered+L+F.try_close.Goals as goal

pub returns : goal.returns
returns g c =
    let both = on_stack g.F.Filter g.L.Layer (λ s t. CloseGives g.F.Filter g.L.Layer c.args.span c.args.at s c.try_close.result t)
    (λ s t given. close_keeps g.F.Filter g.L.Layer c.args.span c.args.at s t c.try_close.result given) _ _
    (plain_stack c.try_close.new.self) c.self.view_is c.try_close.ensures in
    record { gives = both.0; kept = both.1 }
