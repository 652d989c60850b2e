use Rattle.std.proofs.Common.{◌≡◌, drop}
use Rattle.tracing_core_fields.specs.Values.{given_entries, has_entry}
use Rattle.tracing_core_fields.proofs.value_set.has_given.Given as goal

abbrev pub invariant-loop-entry : goal.invariant-loop-entry
invariant-loop-entry l =
    has_entry l.index (given_entries l.fields (drop l.entry-index l.entries)) ≡ has_entry l.index (given_entries l.fields l.entries)
