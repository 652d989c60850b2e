use Rattle.std.proofs.Common.{sym, ap, ◌∙◌}
use Rattle.std.specs.Option.{option_copied}
use Rattle.span_tracing_steps.specs.States.{value_in}
use Rattle.span_tracing_steps.proofs.Stacks.{leading, reach_none, reach_some}
use Rattle.span_tracing_steps.proofs.parts.TraceParts.reach.Goals as goal

pub returns-in-None : goal.returns-in-None
returns-in-None g c =
    sym (reach_none g.T.HasRegistry.registry_of (value_in c.args.self.now) c.args.lane (option_copied c.subscriber.result)
    (c.subscriber.ensures ∙ ap (leading g.T.HasRegistry.registry_of (value_in c.args.self.now)) c.reached-handle.ensures)
    (ap option_copied c.in-None.is))

pub returns-in-Some-serial_of : goal.returns-in-Some-serial_of
returns-in-Some-serial_of g c =
    sym c.in-Some-serial_of.is ∙ c.serial_of.ensures ∙ c.reached-handle.ensures ∙
    sym (reach_some g.T.HasRegistry.registry_of (value_in c.args.self.now) c.args.lane (option_copied c.subscriber.result)
    c.in-Some.field-0.now
    (c.subscriber.ensures ∙ ap (leading g.T.HasRegistry.registry_of (value_in c.args.self.now)) c.reached-handle.ensures)
    (ap option_copied c.in-Some.is))
