use Rattle.std.proofs.Common.{◌≡◌, map, string_bytes}
use Rattle.event_formatter_text.specs.JsonObjects.{pair_of, words_of}
use Rattle.event_formatter_text.proofs.members.words_in.Given as goal

abbrev pub invariant-loop-member : goal.invariant-loop-member
invariant-loop-member l = map string_bytes l.words.items ≡ words_of (map pair_of l.yielded)
