use Rattle.std.proofs.Common.{◌≡◌, ◌++◌, map, string_bytes, take}
use Rattle.event_formatter_text.specs.JsonObjects.{later_members, pair_of}
use Rattle.event_formatter_text.proofs.json_object.push_later_members.Given as goal

abbrev pub invariant-loop-member : goal.invariant-loop-member
invariant-loop-member l = string_bytes l.out ≡ string_bytes l.fn.out ++ later_members (map pair_of (take l.member-index l.members))
