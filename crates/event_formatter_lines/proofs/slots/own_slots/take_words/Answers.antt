use Rattle.std.proofs.Common.{map, string_bytes, ap}
use Rattle.event_formatter_lines.proofs.slots.SlotsByTag.{words_taken}
use Rattle.event_formatter_lines.proofs.slots.own_slots.take_words.Goals as goal

pub returns-in-Ok : goal.returns-in-Ok
returns-in-Ok c =
    words_taken c.args.key.0 c.args.slots.now c.replace.new.self (map string_bytes c.words_of.result.items) _ c.in-Ok.before
    (ap (map string_bytes) c.new.ensures.items) c.words_of.ensures c.in-Ok.ensures.state
