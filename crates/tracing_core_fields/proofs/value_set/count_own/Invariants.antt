use Rattle.std.proofs.Common.{◌≡◌, ◌+◌, ◌≤◌, drop, count_by}
use Rattle.tracing_core_fields.specs.Values.{is_own}
use Rattle.tracing_core_fields.proofs.value_set.count_own.Given as goal

abbrev pub invariant-loop-entry : goal.invariant-loop-entry
invariant-loop-entry l =
    (l.count + count_by (is_own l.fields) (drop l.entry-index l.entries) ≡ count_by (is_own l.fields) l.entries) × (l.count ≤ l.entry-index)
