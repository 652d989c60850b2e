-- The parts of the attributes of a span.
use Rattle.tracing_core_fields.specs.declared.metadata.Metadata.{Metadata}
use Rattle.tracing_core_fields.specs.declared.value_set.ValueSet.{ValueSet}
use Rattle.tracing_core_fields.specs.declared.requests.arguments.attributes.Attributes.{Attributes}

abbrev pub attributes_metadata : Attributes → Metadata
attributes_metadata attributes = attributes.metadata.now

abbrev pub attributes_values : Attributes → ValueSet
attributes_values attributes = attributes.values
