use Rattle.std.proofs.Common.{sym, ap, ◌∙◌}
use Rattle.span_tracing_steps.specs.FullHandles.{full_by}
use Rattle.span_tracing_steps.specs.States.{value_in}
use Rattle.span_tracing_steps.proofs.HoldChanges.{hold_told}
use Rattle.span_tracing_steps.proofs.parts.TraceParts.hold_refusal.Goals as goal

pub returns-in-Some : goal.returns-in-Some
returns-in-Some g c =
    c.full_refusal.ensures ∙ ap full_by c.hold_refusal.ensures ∙
    hold_told g.T.HasRegistry.registry_of (value_in c.args.self.now) c.args.handle c.in-Some.dispatch (sym c.in-Some.is ∙ c.behind.ensures)
