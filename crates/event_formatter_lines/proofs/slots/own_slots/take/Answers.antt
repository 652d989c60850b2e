use Rattle.std.proofs.Common.{◌≡◌, None, rules}
use Rattle.span_registry_layers_store.specs.Slots.{slot_at}
use Rattle.event_formatter_lines.proofs.slots.SlotsByTag.{none_takes, remove_takes}
use Rattle.event_formatter_lines.proofs.slots.own_slots.take.Goals as goal

pub returns-then-is_some : goal.returns-then-is_some
returns-then-is_some c =
    remove_takes c.args.key.0 c.args.tag c.args.slots.now c.remove-before.new.self c.remove-before.result c.get.ensures.order
    c.remove-before.ensures.state

pub returns-else-is_some : goal.returns-else-is_some
returns-else-is_some c = let none : slot_at c.args.slots.now c.args.key.0 c.args.tag ≡ None = search rules in
    none_takes c.args.key.0 c.args.tag c.args.slots.now none
