-- A field as plain data, and the fields that names give.
use Rattle.std.specs.Prelude.{ℕ, ◌+◌, List, [], ◌∷◌}

-- where the field stands in its set, its name, and the callsite of the set
pub record PlainField : Type 0 where
  pub index : ℕ
  pub name : List ℕ
  pub callsite : ℕ

-- a field for each of the names, in order, the first at the index
abbrev pub fields_named : ℕ → ℕ → List (List ℕ) → List PlainField
fields_named callsite index [] = []
fields_named callsite index (name ∷ names) =
    record { index = index; name = name; callsite = callsite } ∷ fields_named callsite (index + 1) names
