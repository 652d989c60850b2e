-- The entries that values give.
use Rattle.std.specs.Prelude.{ℕ, ◌==◌, Bool, List, Option, None, if◌then◌else◌}
use Rattle.std.specs.List.{enumerate_from, filter_map, list_any}
use Rattle.std.specs.Option.{option_map}
use Rattle.tracing_core_fields.specs.Field.{field_index, has_field}
use Rattle.tracing_core_fields.specs.PlainValue.{PlainValue, present_value}
use Rattle.tracing_core_fields.specs.declared.field.Field.{Field}
use Rattle.tracing_core_fields.specs.declared.field.FieldSet.{FieldSet}
use Rattle.tracing_core_fields.specs.declared.value_set.AnyValue.{AnyValue}

-- whether the field is one of the set
abbrev pub is_own : FieldSet → Field × Option AnyValue → Bool
is_own fields entry = has_field fields entry.0

-- the place and the value, where the field is one of the set and the value is present
abbrev pub given_entry : FieldSet → Field × Option AnyValue → Option (ℕ × PlainValue)
given_entry fields entry =
    if is_own fields entry then option_map (λ value. (field_index entry.0, value)) (present_value entry.1) else None

-- the entries of fields that are given with their values
abbrev pub given_entries : FieldSet → List (Field × Option AnyValue) → List (ℕ × PlainValue)
given_entries fields entries = filter_map (given_entry fields) entries

-- the place and the value, where the value is present
abbrev pub placed_entry : ℕ × Option AnyValue → Option (ℕ × PlainValue)
placed_entry entry = option_map (λ value. (entry.0, value)) (present_value entry.1)

-- the entries of values that are given by their places
abbrev pub placed_entries : List (Option AnyValue) → List (ℕ × PlainValue)
placed_entries values = filter_map placed_entry (enumerate_from 0 values)

-- whether there is an entry at the place
abbrev pub has_entry : ℕ → List (ℕ × PlainValue) → Bool
has_entry place entries = list_any (λ entry. entry.0 == place) entries
