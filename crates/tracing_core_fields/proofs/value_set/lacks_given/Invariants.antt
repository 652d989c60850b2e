use Rattle.std.proofs.Common.{◌≡◌, drop}
use Rattle.tracing_core_fields.specs.Values.{given_entries}
use Rattle.tracing_core_fields.proofs.value_set.lacks_given.Given as goal

abbrev pub invariant-loop-entry : goal.invariant-loop-entry
invariant-loop-entry l = given_entries l.fields (drop l.entry-index l.entries) ≡ given_entries l.fields l.entries
