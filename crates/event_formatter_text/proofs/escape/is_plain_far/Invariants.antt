use Rattle.std.proofs.Common.{◌-◌, ◌≤◌, length}
use Rattle.event_formatter_text.specs.Blocks.{IsPlainBetween}
use Rattle.event_formatter_text.proofs.escape.is_plain_far.Given as goal

abbrev pub invariant-loop-at : goal.invariant-loop-at
invariant-loop-at l = (l.at ≤ length l.bytes) × IsPlainBetween l.escape l.bytes 0 l.at

abbrev pub decreases-loop-at : goal.decreases-loop-at
decreases-loop-at l = length l.bytes - l.at
