use Rattle.std.proofs.Common.{◌≡◌, drop}
use Rattle.tracing_core_fields.specs.IndexedEntries.{entries_below}
use Rattle.tracing_core_fields.proofs.indexed_values.lacks_of.Given as goal

abbrev pub invariant-loop-given : goal.invariant-loop-given
invariant-loop-given g l = entries_below g.I.IndexedValue.place g.I.IndexedValue.meaning l.count (drop l.given-index l.values) ≡ entries_below g.I.IndexedValue.place g.I.IndexedValue.meaning l.count l.values
