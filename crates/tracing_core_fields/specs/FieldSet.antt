-- The names and the callsite of a set of fields.
use Rattle.std.specs.Prelude.{◌≡◌, ℕ, ◌&&◌, ◌==◌, ◌++◌, Bool, List, [], ◌∷◌, Option}
use Rattle.std.proofs.Common.{ap}
use Rattle.std.specs.Bool.{Decides}
use Rattle.std.specs.Cmp.{IsEquivalence}
use Rattle.std.specs.Cmp.Lexicographic.{pointwise, pointwise_decides, bytes_decides}
use Rattle.std.specs.Fmt.{comma_space}
use Rattle.std.specs.List.{join_by, position_from}
use Rattle.std.specs.Str.{bytes_eq}
use Rattle.std.proofs.lemmas.Bool.{and_parts, and_from, eqb-true, eq-eqb}
use Rattle.tracing_core_fields.specs.Equality.{equivalence_by}
use Rattle.tracing_core_fields.specs.Texts.{texts_in}
use Rattle.tracing_core_fields.specs.PlainField.{PlainField, fields_named}
use Rattle.tracing_core_fields.specs.declared.field.FieldSet.{FieldSet}

-- the names, in the order of the fields
abbrev pub field_names : FieldSet → List (List ℕ)
field_names set = texts_in set.names

-- the number of the callsite
abbrev pub set_callsite : FieldSet → ℕ
set_callsite set = set.callsite.0

-- the place of the first field of the name
abbrev pub index_of_name : FieldSet → List ℕ → Option ℕ
index_of_name set name = position_from (λ other. bytes_eq other name) 0 (field_names set)

-- the fields, in order
abbrev pub plain_fields : FieldSet → List PlainField
plain_fields set = fields_named (set_callsite set) 0 (field_names set)

-- the names between braces, a comma between each two
abbrev pub set_text : List (List ℕ) → List ℕ
set_text names = 123 ∷ (join_by (λ name. name) comma_space names ++ 125 ∷ [])

-- the sets have the same callsite and the same names
abbrev pub IsSameSet : FieldSet → FieldSet → Type 0
IsSameSet a b = (set_callsite a ≡ set_callsite b) × (field_names a ≡ field_names b)

-- the test of that
abbrev pub is_same_set : FieldSet → FieldSet → Bool
is_same_set a b = (set_callsite a == set_callsite b) && pointwise bytes_eq (field_names a) (field_names b)

pub is_same_set-decides : (a b : FieldSet) → Decides (is_same_set a b) (IsSameSet a b)
is_same_set-decides a b = (
  λ same. let parts = and_parts _ _ same in (eqb-true _ _ parts.0, (pointwise_decides bytes_decides _ _).0 parts.1),
  λ same. and_from _ _ (eq-eqb _ _ same.0) ((pointwise_decides bytes_decides _ _).1 same.1),
)

pub is_same_set-equivalence : IsEquivalence is_same_set
is_same_set-equivalence =
    equivalence_by {J = ℕ × List (List ℕ)} (λ set. (set_callsite set, field_names set)) is_same_set (λ a b.
    let decides = is_same_set-decides a b in (
      λ same. let parts = decides.0 same in (λ i. (parts.0 i, parts.1 i)),
      λ same. decides.1 (ap (λ set. set.0) same, ap (λ set. set.1) same),
    ))
