use Rattle.std.proofs.Common.{◌≡◌, true, is_some, sym, string_bytes}
use Rattle.std.specs.Option.{option_map}
use Rattle.event_formatter_lines.specs.slots.SlotsByTag.{by_tag}
use Rattle.event_formatter_lines.specs.slots.FieldsAndTimings.{text_by}
use Rattle.event_formatter_lines.proofs.slots.SlotsByTag.{text_taken, text_there}
use Rattle.event_formatter_lines.proofs.slots.own_slots.take_text.Goals as goal

pub returns-in-Ok : goal.returns-in-Ok
returns-in-Ok c =
    let key = c.args.key.0 in
    let ps = c.args.slots.now in
    let there : is_some (text_by (by_tag key ps).text) ≡ true = sym c.if-not-has_text.ensures in
    text_taken key ps c.replace.new.self (option_map string_bytes c.text_of.result) _ c.in-Ok.before c.new.ensures.bytes there
    c.text_of.ensures c.in-Ok.ensures.state

pub returns : goal.returns
returns c = absurd (text_there c.args.key.0 c.args.slots.now (sym c.if-not-has_text.ensures) c.in-Err.ensures.state.0)
