use Rattle.std.proofs.Common.{◌≡◌, length}
use Rattle.std.specs.List.{list_any}
use Rattle.event_formatter_text.specs.Escapes.{is_special}
use Rattle.event_formatter_text.proofs.escape.has_special_near.Given as goal

abbrev pub invariant-loop-rest : goal.invariant-loop-rest
invariant-loop-rest l = list_any (is_special l.escape) l.rest ≡ list_any (is_special l.escape) l.bytes

abbrev pub decreases-loop-rest : goal.decreases-loop-rest
decreases-loop-rest l = length l.rest
