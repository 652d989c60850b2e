use Rattle.span_registry_layers.specs.Calls.{FollowsGives}
use Rattle.span_registry_layers.specs.Stacks.{plain_stack}
use Rattle.span_registry_layers.specs.Steps.{follows_keeps}
use Rattle.span_registry_layers.proofs.OnStack.{on_stack}
use Rattle.span_registry_layers.proofs.stack.spans.Stack+Filtered+L+F.record_follows_from.Goals as goal

pub returns : goal.returns
returns g c =
    let both = on_stack g.F.Filter g.L.Layer (λ s t. FollowsGives g.F.Filter g.L.Layer c.args.span.now c.args.follows.now c.args.at s
    c.record_follows_from.result t) (λ s t given. follows_keeps g.F.Filter g.L.Layer c.args.span.now c.args.follows.now c.args.at s t
    c.record_follows_from.result given) _ _ (plain_stack c.record_follows_from.new.self) c.self.view_is c.record_follows_from.ensures in
    record { gives = both.0; kept = both.1 }
