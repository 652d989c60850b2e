use Rattle.std.proofs.Common.{◌∙◌}
use Rattle.span_registry_layers_store.proofs.SlotChanges.{open_told}
use Rattle.span_registry_layers_store.proofs.spans.Spans.is_open.Goals as goal

pub returns : goal.returns
returns c = c.is_some.ensures ∙ rw (← c.self.view_is) (open_told c.slot_of.result c.self.inside.index.slots.items
    c.self.inside.index.entries.items c.args.id c.slot_of.ensures)
