use Rattle.std.proofs.Common.{sym, ◌∙◌}
use Rattle.span_registry_layers_store.proofs.StandingSlots.{not_listed, slot_left, slot_there}
use Rattle.span_registry_layers_store.proofs.index.slot_by_halves.Goals as goal

pub returns-in-None : goal.returns-in-None
returns-in-None c = not_listed c.args.slots.now c.args.index.now c.args.id c.in-None.ensures

pub returns-then-leads : goal.returns-then-leads
returns-then-leads c = slot_there c.args.slots.now c.args.index.now c.args.id c.in-Some.place c.index-index-place.result c.requires
    c.in-Some.ensures c.index-index-place.is (sym c.leads.ensures ∙ c.if-leads.true)

pub returns-else-leads : goal.returns-else-leads
returns-else-leads c = slot_left c.args.slots.now c.args.index.now c.args.id c.in-Some.place c.index-index-place.result c.requires
    c.in-Some.ensures c.index-index-place.is (sym c.leads.ensures ∙ c.if-leads.false)
