use Rattle.std.proofs.Common.{sym}
use Rattle.span_registry_layers_store.specs.SpanSlots.{standing}
use Rattle.span_registry_layers_store.proofs.SlotViews.{none_shown}
use Rattle.span_registry_layers_store.proofs.SlotChanges.{span_there}
use Rattle.span_registry_layers_store.proofs.spans.Spans.find.Goals as goal

pub returns-in-None : goal.returns-in-None
returns-in-None c =
    let xs = c.self.inside.index.slots.items in
    let es = c.self.inside.index.entries.items in
    rw (← c.self.view_is) (sym (none_shown (standing xs es) c.args.id c.in-None.ensures))

pub returns-in-Some : goal.returns-in-Some
returns-in-Some c =
    let xs = c.self.inside.index.slots.items in
    let es = c.self.inside.index.entries.items in
    let p = c.in-Some.ensures in
    rw (← c.self.view_is) (span_there xs es c.args.id c.in-Some.slot c.index.result.now p c.index.ensures)
