use Rattle.std.proofs.Common.{◌∙◌}
use Rattle.span_registry_layers_store.proofs.SlotChanges.{keeps_nowhere, keeps_there, rise_told}
use Rattle.span_registry_layers_store.proofs.spans.Spans.stays.Goals as goal

pub returns-in-None-clause-stays : goal.returns-in-None-clause-stays
returns-in-None-clause-stays c =
    let xs = c.self.inside.index.slots.items in
    let es = c.self.inside.index.entries.items in
    rw (← c.self.view_is) (keeps_nowhere c.args.lanes.now xs es c.args.id c.in-None.ensures)

pub returns-in-None-clause-rise : goal.returns-in-None-clause-rise
returns-in-None-clause-rise c = rw (← c.self.view_is) (rise_told c.self.inside.index.slots.items
    c.self.inside.index.entries.items c.self.invariant.rise)

pub returns-in-Some-clause-stays : goal.returns-in-Some-clause-stays
returns-in-Some-clause-stays c =
    let xs = c.self.inside.index.slots.items in
    let es = c.self.inside.index.entries.items in
    let p = c.in-Some.ensures in
    rw (← c.self.view_is) (c.stays.ensures ∙
    keeps_there xs es c.args.id c.in-Some.slot c.index.result.now p c.index.ensures c.args.lanes.now
    c.self.invariant.children)

pub returns-in-Some-clause-rise : goal.returns-in-Some-clause-rise
returns-in-Some-clause-rise c = rw (← c.self.view_is) (rise_told c.self.inside.index.slots.items
    c.self.inside.index.entries.items c.self.invariant.rise)
