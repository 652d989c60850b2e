use Rattle.std.proofs.Common.{sym, ap, ◌∙◌}
use Rattle.span_tracing_steps.specs.States.{registry_of_stack, value_in}
use Rattle.span_tracing_steps.proofs.Stacks.{registry_is}
use Rattle.span_tracing_steps.proofs.parts.TraceParts.held_at.Goals as goal

pub returns : goal.returns
returns g c =
    ap (registry_of_stack g.T.HasRegistry.registry_of) c.held.ensures ∙
    sym (registry_is g.T.HasRegistry.registry_of (value_in c.args.self.now) c.args.number)
