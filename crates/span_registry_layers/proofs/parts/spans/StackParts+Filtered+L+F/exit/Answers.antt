use Rattle.span_registry_layers.specs.Stacks.{plain_stack}
use Rattle.span_registry_layers.proofs.ClosedSpans.{exited}
use Rattle.span_registry_layers.proofs.parts.spans.StackParts+Filtered+L+F.exit.Goals as goal

pub returns : goal.returns
returns g c =
    exited g.F.Filter g.L.Layer c.args.span.now c.args.at c.leave.new.self (plain_stack c.args.self.now) (plain_stack c.tell_step.new.self)
    (plain_stack c.close_all.new.self)
    c.leave.ensures c.tell_step.ensures c.close_all.ensures
