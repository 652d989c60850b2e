-- What a value set has.
use Rattle.std.specs.Prelude.{ℕ, ◌==◌, ◌&&◌, Bool, List, length, min, take, count_by}
use Rattle.tracing_core_fields.specs.FieldSet.{field_names, set_callsite}
use Rattle.tracing_core_fields.specs.IndexedEntries.{indexed_count, indexed_entries}
use Rattle.tracing_core_fields.specs.PlainValue.{PlainValue}
use Rattle.tracing_core_fields.specs.Values.{is_own, given_entries, placed_entries, has_entry}
use Rattle.tracing_core_fields.specs.Field.{field_callsite, field_index}
use Rattle.tracing_core_fields.specs.declared.field.Field.{Field}
use Rattle.tracing_core_fields.specs.declared.field.FieldSet.{FieldSet}
use Rattle.tracing_core_fields.specs.declared.value_set.Values.{Values}
use Rattle.tracing_core_fields.specs.declared.value_set.Values.TheVariants.{Explicit, All, Indexed}
use Rattle.tracing_core_fields.specs.declared.value_set.ValueSet.{ValueSet}

-- the fields that it gives values to
abbrev pub fields_of_values : ValueSet → FieldSet
fields_of_values set = set.fields

abbrev pub entries_in : FieldSet → Values → List (ℕ × PlainValue)
entries_in fields (Explicit entries) = given_entries fields entries.now
entries_in fields (All values) = placed_entries (take (length (field_names fields)) values.now)
entries_in fields (Indexed values) = indexed_entries (length (field_names fields)) values

-- the places and the values of its own fields that are present, in order
abbrev pub entries_of : ValueSet → List (ℕ × PlainValue)
entries_of set = entries_in set.fields set.values

abbrev pub count_in : FieldSet → Values → ℕ
count_in fields (Explicit entries) = count_by (is_own fields) entries.now
count_in fields (All values) = min (length (field_names fields)) (length values.now)
count_in fields (Indexed values) = indexed_count (length (field_names fields)) values

-- how many of its own fields it was given, present or not
abbrev pub entry_count : ValueSet → ℕ
entry_count set = count_in set.fields set.values

-- whether the field is one of its own, and has a value
abbrev pub has_value : ValueSet → Field → Bool
has_value set field = (field_callsite field == set_callsite (fields_of_values set)) && has_entry (field_index field) (entries_of set)
