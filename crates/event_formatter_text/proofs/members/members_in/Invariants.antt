use Rattle.std.proofs.Common.{◌≡◌, ◌++◌, length, map, string_bytes}
use Rattle.event_formatter_text.specs.JsonObjects.{pair_of, pairs_in}
use Rattle.event_formatter_text.proofs.members.members_in.Given as goal

abbrev pub invariant-loop-rest : goal.invariant-loop-rest
invariant-loop-rest l = map pair_of l.members.items ++ pairs_in (map string_bytes l.rest) ≡ pairs_in (map string_bytes l.words)

abbrev pub decreases-loop-rest : goal.decreases-loop-rest
decreases-loop-rest l = length l.rest
