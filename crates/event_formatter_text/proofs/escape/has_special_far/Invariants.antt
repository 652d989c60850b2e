use Rattle.std.proofs.Common.{◌≡◌, ◌||◌, drop}
use Rattle.std.specs.List.{list_any}
use Rattle.event_formatter_text.specs.Escapes.{is_special}
use Rattle.event_formatter_text.proofs.escape.has_special_far.Given as goal

abbrev pub invariant-loop-byte : goal.invariant-loop-byte
invariant-loop-byte l = (l.found || list_any (is_special l.escape) (drop l.byte-index l.bytes)) ≡ list_any (is_special l.escape) l.bytes
