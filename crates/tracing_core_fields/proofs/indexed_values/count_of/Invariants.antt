use Rattle.std.proofs.Common.{◌≡◌, ◌+◌, ◌≤◌, drop}
use Rattle.tracing_core_fields.specs.IndexedEntries.{count_below}
use Rattle.tracing_core_fields.proofs.indexed_values.count_of.Given as goal

abbrev pub invariant-loop-given : goal.invariant-loop-given
invariant-loop-given g l =
    (l.found + count_below g.I.IndexedValue.place l.count (drop l.given-index l.values) ≡ count_below g.I.IndexedValue.place l.count l.values) ×
    (l.found ≤ l.given-index)
