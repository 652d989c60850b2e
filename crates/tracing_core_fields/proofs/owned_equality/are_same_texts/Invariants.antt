use Rattle.std.proofs.Common.{◌≡◌, ◌↔◌, length, map, string_bytes}
use Rattle.tracing_core_fields.proofs.owned_equality.are_same_texts.Given as goal

abbrev pub invariant-loop-left : goal.invariant-loop-left
invariant-loop-left l = (map string_bytes l.left ≡ map string_bytes l.right) ↔ (map string_bytes l.fn.ones ≡ map string_bytes l.fn.others)

abbrev pub decreases-loop-left : goal.decreases-loop-left
decreases-loop-left l = length l.left
