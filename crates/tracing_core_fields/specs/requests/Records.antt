-- The values of a record.
use Rattle.tracing_core_fields.specs.declared.value_set.ValueSet.{ValueSet}
use Rattle.tracing_core_fields.specs.declared.requests.arguments.record.Record.{Record}

abbrev pub record_values : Record → ValueSet
record_values values = values.values
