-- Requests as plain data, with no borrowed parts.
use Rattle.std.specs.Prelude.{ℕ, List, Option, Some, None}
use Rattle.tracing_core_fields.specs.Metadata.{plain_metadata}
use Rattle.tracing_core_fields.specs.PlainMetadata.{PlainMetadata}
use Rattle.tracing_core_fields.specs.PlainValue.{PlainValue}
use Rattle.tracing_core_fields.specs.FieldSet.{field_names, set_callsite}
use Rattle.tracing_core_fields.specs.ValueSet.{entries_of, fields_of_values}
use Rattle.tracing_core_fields.specs.declared.metadata.Metadata.{Metadata}
use Rattle.tracing_core_fields.specs.declared.value_set.ValueSet.{ValueSet}
use Rattle.tracing_core_fields.specs.declared.requests.arguments.parent.Parent.{Parent}
use Rattle.tracing_core_fields.specs.declared.requests.arguments.parent.Parent.TheVariants.{Root, Current, Explicit}
use Rattle.tracing_core_fields.specs.declared.requests.arguments.attributes.Attributes.{Attributes}
use Rattle.tracing_core_fields.specs.declared.requests.arguments.record.Record.{Record}
use Rattle.tracing_core_fields.specs.declared.requests.arguments.event.Event.{Event}

-- the span that was named
abbrev pub explicit_parent : Parent → Option ℕ
explicit_parent Root = None
explicit_parent Current = None
explicit_parent (Explicit id) = Some id

-- under the span, or under none
abbrev pub child_or_root : Option ℕ → Parent
child_or_root None = Root
child_or_root (Some id) = Explicit id

-- values with the fields that they are of: the fields' callsite and names, and the indices and the values of those that are present
pub record PlainValues : Type 0 where
  pub callsite : ℕ
  pub names : List (List ℕ)
  pub entries : List (ℕ × PlainValue)

abbrev pub plain_values : ValueSet → PlainValues
plain_values values =
    record {
      callsite = set_callsite (fields_of_values values);
      names = field_names (fields_of_values values);
      entries = entries_of values;
    }

-- a span that is to be made, or an event: what it is, its values, and which span it stands under
pub record PlainRequest : Type 0 where
  pub metadata : PlainMetadata
  pub values : PlainValues
  pub parent : Parent

abbrev pub plain_request : Metadata → ValueSet → Parent → PlainRequest
plain_request metadata values parent = record { metadata = plain_metadata metadata; values = plain_values values; parent = parent }

abbrev pub PlainAttributes : Type 0
PlainAttributes = PlainRequest

abbrev pub plain_attributes : Attributes → PlainAttributes
plain_attributes attributes = plain_request attributes.metadata.now attributes.values attributes.parent

-- the values that are recorded
abbrev pub plain_record : Record → PlainValues
plain_record values = plain_values values.values

abbrev pub PlainEvent : Type 0
PlainEvent = PlainRequest

abbrev pub plain_event : Event → PlainEvent
plain_event event = plain_request event.metadata.now event.values event.parent
