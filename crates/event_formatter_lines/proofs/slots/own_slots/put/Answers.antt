use Rattle.span_registry_layers_store.specs.Slots.{plain_slot}
use Rattle.event_formatter_lines.proofs.slots.SlotsByTag.{replace_puts}
use Rattle.event_formatter_lines.proofs.slots.own_slots.put.Goals as goal

pub returns : goal.returns
returns c = replace_puts c.args.key.0 c.args.tag c.args.slots.now c.replace.new.self (plain_slot c.args.slot) c.replace.result
    c.is_ok.result c.is_ok.ensures.value c.replace.ensures.state
