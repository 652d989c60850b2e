use Rattle.span_registry_layers_store.specs.Slots.{plain_slot}
use Rattle.event_formatter_lines.proofs.slots.SteppedSlots.{none_leaves, none_told, slot_leaves, slot_told}
use Rattle.event_formatter_lines.proofs.slots.timings.step_kept.Goals as goal

pub returns-in-None-clause-kept : goal.returns-in-None-clause-kept
returns-in-None-clause-kept c = none_leaves c.args.key.0 c.args.slots.now c.args.step c.args.at c.in-None.ensures.lent

pub returns-in-None-clause-answered : goal.returns-in-None-clause-answered
returns-in-None-clause-answered c = none_told c.args.key.0 c.args.slots.now c.args.step c.args.at c.in-None.ensures.lent

pub returns-in-Some-clause-kept : goal.returns-in-Some-clause-kept
returns-in-Some-clause-kept c = slot_leaves c.args.key.0 c.args.slots.now c.args.step c.args.at (plain_slot c.in-Some.slot.now)
    (plain_slot c.step_slot.new.slot) c.in-Some.ensures.lent c.step_slot.ensures.kept

pub returns-in-Some-clause-answered : goal.returns-in-Some-clause-answered
returns-in-Some-clause-answered c = slot_told c.args.key.0 c.args.slots.now c.args.step c.args.at (plain_slot c.in-Some.slot.now)
    (plain_slot c.step_slot.new.slot) c.in-Some.ensures.lent c.step_slot.ensures.kept c.step_slot.result c.step_slot.ensures.answered
