-- Copies of owned values, and lists of them.
use Rattle.std.specs.Prelude.{◌≡◌, List, [], ◌∷◌, None}
use Rattle.tracing_core_fields.specs.OwnedValues.{plain_owned}
use Rattle.tracing_core_fields.specs.declared.owned_value.FieldValue.{FieldValue}

-- the copy is of the same field, and says what the value does
abbrev pub CopiesField : FieldValue → FieldValue → Type 0
CopiesField given copy = (copy.field ≡ given.field) × (plain_owned copy.value ≡ plain_owned given.value)

-- the first value, where there is one, is present
abbrev pub BeginsPresent : List FieldValue → Type 0
BeginsPresent [] = Unit {0}
BeginsPresent (given ∷ more) = ¬ (plain_owned given.value ≡ None)
