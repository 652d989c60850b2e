use Rattle.std.proofs.Common.{arith, sym, ◌∙◌}
use Rattle.span_registry_layers_store.specs.Views.{mask_of}
use Rattle.span_registry_layers_store.proofs.SpanLoans.{no_slot_to_lend, slot_to_lend, unseen_to_lend}
use Rattle.span_registry_layers_store.proofs.slot_index.SlotIndex.slot_to_lend.Goals as goal

pub returns-in-None : goal.returns-in-None
returns-in-None c = no_slot_to_lend c.args.self.now.slots.items c.args.self.now.entries.items (mask_of c.args.filter) c.args.id
    c.len.result (let n = c.len.ensures in omega (arith, n)) c.in-None.ensures

pub returns-then-is_seen : goal.returns-then-is_seen
returns-then-is_seen c = slot_to_lend c.args.self.now.slots.items c.args.self.now.entries.items (mask_of c.args.filter) c.args.id
    c.in-Some.slot c.requires.rise c.in-Some.ensures c.index.result.now c.index.ensures (sym c.is_seen.ensures ∙ c.if-is_seen.true)

pub returns-else-is_seen : goal.returns-else-is_seen
returns-else-is_seen c = unseen_to_lend c.args.self.now.slots.items c.args.self.now.entries.items (mask_of c.args.filter) c.args.id
    c.in-Some.slot c.requires.rise c.in-Some.ensures c.index.result.now c.index.ensures c.len-else-is_seen.result
    (let n = c.len-else-is_seen.ensures in omega (arith, n)) (sym c.is_seen.ensures ∙ c.if-is_seen.false)
