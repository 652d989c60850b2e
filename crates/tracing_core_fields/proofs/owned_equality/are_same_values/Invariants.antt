use Rattle.std.proofs.Common.{◌≡◌, ◌↔◌, length}
use Rattle.tracing_core_fields.specs.OwnedValues.{owned_entries}
use Rattle.tracing_core_fields.specs.OwnedCopies.{BeginsPresent}
use Rattle.tracing_core_fields.proofs.owned_equality.are_same_values.Given as goal

abbrev pub invariant-loop-left : goal.invariant-loop-left
invariant-loop-left l =
    BeginsPresent l.left × BeginsPresent l.right
    × ((owned_entries l.left ≡ owned_entries l.right) ↔ (owned_entries l.fn.ones ≡ owned_entries l.fn.others))

abbrev pub decreases-loop-left : goal.decreases-loop-left
decreases-loop-left l = length l.left
