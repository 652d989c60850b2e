use Rattle.std.proofs.Common.{◌≡◌, ◌++◌, string_bytes, take}
use Rattle.event_formatter_text.specs.JsonTexts.{later_numbers}
use Rattle.event_formatter_text.proofs.json_text.push_later_numbers.Given as goal

abbrev pub invariant-loop-number : goal.invariant-loop-number
invariant-loop-number l = string_bytes l.out ≡ string_bytes l.fn.out ++ later_numbers (take l.number-index l.numbers)
