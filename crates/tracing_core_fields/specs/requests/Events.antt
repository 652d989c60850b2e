-- The parts of an event.
use Rattle.tracing_core_fields.specs.declared.metadata.Metadata.{Metadata}
use Rattle.tracing_core_fields.specs.declared.value_set.ValueSet.{ValueSet}
use Rattle.tracing_core_fields.specs.declared.requests.arguments.event.Event.{Event}

abbrev pub event_metadata : Event → Metadata
event_metadata event = event.metadata.now

abbrev pub event_values : Event → ValueSet
event_values event = event.values
