use Rattle.std.proofs.Common.{◌≡◌, drop, filter_map}
use Rattle.std.specs.List.{enumerate_from}
use Rattle.tracing_core_fields.specs.Values.{placed_entry, placed_entries}
use Rattle.tracing_core_fields.proofs.value_set.lacks_placed.Given as goal

abbrev pub invariant-loop-value : goal.invariant-loop-value
invariant-loop-value l = filter_map placed_entry (enumerate_from l.value-index (drop l.value-index l.values)) ≡ placed_entries l.values
