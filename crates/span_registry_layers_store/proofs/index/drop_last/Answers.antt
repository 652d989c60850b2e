use Rattle.std.proofs.Common.{sym, ◌∙◌}
use Rattle.span_registry_layers_store.proofs.IndexEnds.{end_pop, ends_told}
use Rattle.span_registry_layers_store.proofs.IndexedSlots.{pop_indexed}
use Rattle.span_registry_layers_store.proofs.index.drop_last.Goals as goal

pub returns-then-leads-clause-last : goal.returns-then-leads-clause-last
returns-then-leads-clause-last c =
    ends_told c.args.slots.now c.as_slice.result.now c.loop-entry.index.items c.in-Some.entry.now c.as_slice.ensures.value
    c.in-Some.ensures.value (sym c.leads.ensures ∙ c.if-leads.true)

pub loop-entry-preserved : goal.loop-entry-preserved
loop-entry-preserved c =
    let turn = end_pop c.args.slots.now c.as_slice.result.now c.loop-entry.index.items c.pop-entry.new.self.items c.args.index.now.items
    c.in-Some.entry.now c.pop-entry.result c.as_slice.ensures.value c.in-Some.ensures.value c.pop-entry.ensures.items
    (sym c.leads.ensures ∙ c.if-leads.false) c.loop-entry.invariant.same c.loop-entry.invariant.rise in
    let indexed = pop_indexed c.args.slots.now c.as_slice.result.now c.loop-entry.index.items c.pop-entry.new.self.items c.in-Some.entry.now
    c.pop-entry.result c.as_slice.ensures.value c.in-Some.ensures.value c.pop-entry.ensures.items
    (sym c.leads.ensures ∙ c.if-leads.false) c.loop-entry.invariant.indexed in
    record { same = turn.0; rise = turn.1; indexed = indexed }
