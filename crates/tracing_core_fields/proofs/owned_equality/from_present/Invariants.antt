use Rattle.std.proofs.Common.{◌≡◌, ◌≤◌, length}
use Rattle.tracing_core_fields.specs.OwnedValues.{owned_entries}
use Rattle.tracing_core_fields.proofs.owned_equality.from_present.Given as goal

abbrev pub invariant-loop-left : goal.invariant-loop-left
invariant-loop-left l = (owned_entries l.left ≡ owned_entries l.fn.values) × (length l.left ≤ length l.fn.values)

abbrev pub decreases-loop-left : goal.decreases-loop-left
decreases-loop-left l = length l.left
