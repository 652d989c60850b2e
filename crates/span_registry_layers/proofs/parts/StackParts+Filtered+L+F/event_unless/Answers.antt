use Rattle.std.proofs.Common.{sym, ap, ◌∙◌}
use Rattle.tracing_core_fields.specs.requests.PlainRequests.{plain_event}
use Rattle.span_registry_layers_store.specs.Registries.{knows}
use Rattle.span_registry_layers.specs.Stacks.{plain_stack}
use Rattle.span_registry_layers.proofs.EventNotices.{event_told}
use Rattle.span_registry_layers.proofs.parts.StackParts+Filtered+L+F.event_unless.Goals as goal

pub returns-else-refused : goal.returns-else-refused
returns-else-refused g c =
    let s = c.args.self.now in
    event_told g.F.Filter g.L.Layer c.args.refused (plain_event c.args.event.now) c.args.at (plain_stack s) (plain_stack c.tell.new.self)
    (ap (knows s.registry) (sym c.parent.ensures) ∙ sym c.knows.ensures ∙ c.if-not-knows.false) c.if-refused.false c.tell.ensures
