use Rattle.std.proofs.Common.{is_some, sym, ap, ◌∙◌}
use Rattle.std.specs.Option.{option_copied}
use Rattle.span_tracing_steps.specs.States.{value_in}
use Rattle.span_tracing_steps.proofs.Stacks.{held_is}
use Rattle.span_tracing_steps.proofs.parts.TraceParts.is_held.Goals as goal

pub returns-in-None : goal.returns-in-None
returns-in-None g c =
    ap (λ o. is_some (option_copied o)) (sym c.in-None.is) ∙ ap is_some c.held.ensures ∙
    sym (held_is g.T.HasRegistry.registry_of (value_in c.args.self.now) c.args.number)

pub returns-in-Some : goal.returns-in-Some
returns-in-Some g c =
    ap (λ o. is_some (option_copied o)) (sym c.in-Some.is) ∙ ap is_some c.held.ensures ∙
    sym (held_is g.T.HasRegistry.registry_of (value_in c.args.self.now) c.args.number)
