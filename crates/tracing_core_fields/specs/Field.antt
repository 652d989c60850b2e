-- What a field is: a place in a set.
use Rattle.std.specs.Prelude.{ℕ, ◌&&◌, ◌==◌, nat_lt, Bool, List, ◌++◌, length, slice_index_or, []}
use Rattle.std.specs.Hash as fed
use Rattle.tracing_core_fields.specs.FieldSet.{field_names, set_callsite}
use Rattle.tracing_core_fields.specs.PlainField.{PlainField}
use Rattle.tracing_core_fields.specs.declared.field.Field.{Field}
use Rattle.tracing_core_fields.specs.declared.field.FieldSet.{FieldSet}

-- the set that the field is of
abbrev pub set_of_field : Field → FieldSet
set_of_field field = field.fields

-- its place there
abbrev pub field_index : Field → ℕ
field_index field = field.index

abbrev pub field_callsite : Field → ℕ
field_callsite field = set_callsite (set_of_field field)

abbrev pub field_name : Field → List ℕ
field_name field = slice_index_or (field_names (set_of_field field)) (field_index field) []

-- the field, with no borrowed parts
abbrev pub plain_field : Field → PlainField
plain_field field = record { index = field_index field; name = field_name field; callsite = field_callsite field }

-- whether the set has the field: it has the callsite of the set, and an index below the set's length
abbrev pub has_field : FieldSet → Field → Bool
has_field set field = (field_callsite field == set_callsite set) && nat_lt (field_index field) (length (field_names set))

-- the fields have the same callsite and the same place
abbrev pub is_same_field : Field → Field → Bool
is_same_field a b = (field_callsite a == field_callsite b) && (field_index a == field_index b)

-- what a hash of a field reads
abbrev pub field_hash_input : Field → List (List ℕ)
field_hash_input field = fed.u64 (field_callsite field) ++ fed.usize (field_index field)
