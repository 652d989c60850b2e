-- Values that are given by their fields' indices, kept or lent, and the entries that they give.
use Rattle.std.specs.Prelude.{ℕ, Bool, nat_lt, List, count_by, Option, None, if◌then◌else◌}
use Rattle.std.specs.List.{filter_map}
use Rattle.std.specs.Option.{option_map}
use Rattle.tracing_core_fields.specs.OwnedValues.{plain_owned, owned_entries}
use Rattle.tracing_core_fields.specs.PlainValue.{PlainValue, plain_value}
use Rattle.tracing_core_fields.specs.declared.indexed_values.IndexedValues.{IndexedValues}
use Rattle.tracing_core_fields.specs.declared.indexed_values.IndexedValues.TheVariants.{Owned, Lent}
use Rattle.tracing_core_fields.specs.declared.indexed_values.LentValue.{LentValue}
use Rattle.tracing_core_fields.specs.declared.owned_value.FieldValue.{FieldValue}

-- the index and the value of a lent one, where the value is present
abbrev pub lent_entry : LentValue → Option (ℕ × PlainValue)
lent_entry given = option_map (λ value. (given.field, value)) (plain_value given.value)

-- the entries whose values are present, at any index
abbrev pub lent_entries : List LentValue → List (ℕ × PlainValue)
lent_entries values = filter_map lent_entry values

abbrev pub plain_entries : IndexedValues → List (ℕ × PlainValue)
plain_entries (Owned values) = owned_entries values.now
plain_entries (Lent values) = lent_entries values.now

-- whether a set of so many fields has one at the index
abbrev pub is_indexed : {I : Type 0} → (I → ℕ) → ℕ → I → Bool
is_indexed place count given = nat_lt (place given) count

-- how many of the values are of fields that a set of so many fields has, with a value or without one
abbrev pub count_below : {I : Type 0} → (I → ℕ) → ℕ → List I → ℕ
count_below place count values = count_by (is_indexed place count) values

module _ {I : Type 0} (place : I → ℕ) (meaning : I → Option PlainValue) (count : ℕ) where
  -- the index and the value, where the set has such a field and the value is present
  abbrev pub indexed_entry : I → Option (ℕ × PlainValue)
  indexed_entry given = if is_indexed place count given then option_map (λ value. (place given, value)) (meaning given) else None

  -- the entries of values that are given by their fields' indices
  abbrev pub entries_below : List I → List (ℕ × PlainValue)
  entries_below values = filter_map indexed_entry values

-- the entries of fields that a set of so many fields has
abbrev pub indexed_entries : ℕ → IndexedValues → List (ℕ × PlainValue)
indexed_entries count (Owned values) =
    entries_below (λ (given : FieldValue). given.field) (λ (given : FieldValue). plain_owned given.value) count values.now
indexed_entries count (Lent values) =
    entries_below (λ (given : LentValue). given.field) (λ (given : LentValue). plain_value given.value) count values.now

-- how many of the values are of fields that a set of so many fields has
abbrev pub indexed_count : ℕ → IndexedValues → ℕ
indexed_count count (Owned values) = count_below (λ (given : FieldValue). given.field) count values.now
indexed_count count (Lent values) = count_below (λ (given : LentValue). given.field) count values.now
