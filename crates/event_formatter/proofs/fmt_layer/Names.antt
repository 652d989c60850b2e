-- The names of fields, one after the other.
use Rattle.std.proofs.Common.{◌≡◌, ◌+◌, ℕ, List, [], ◌∷◌, ◌++◌, refl, ap, ◌∙◌, append_assoc, codes}
use Rattle.std.specs.List.{flat_map}
use Rattle.tracing_core_fields.specs.PlainField.{PlainField, fields_named}
use Rattle.event_formatter.specs.fmt_layer.Lines.{later_names, names_inside}

-- the names of fields, a comma and a space before each
abbrev pub later_fields : List PlainField → List ℕ
later_fields fields = flat_map (λ (f : PlainField). codes ", " ++ f.name) fields

later_named : (callsite index : ℕ) (names : List (List ℕ)) → later_fields (fields_named callsite index names) ≡ later_names names
later_named callsite index [] = refl
later_named callsite index (name ∷ names) = ap (λ (later : List ℕ). (codes ", " ++ name) ++ later) (later_named callsite (index + 1) names)

first_named : (callsite index : ℕ) (names : List (List ℕ)) (first : PlainField) (later : List PlainField) →
    first ∷ later ≡ fields_named callsite index names → first.name ++ later_fields later ≡ names_inside names
first_named callsite index [] first later is = absurd (cc)
first_named callsite index (name ∷ names) first later is =
    let front : first ≡ record { index = index; name = name; callsite = callsite } = cc in
    let back : later ≡ fields_named callsite (index + 1) names = cc in
    ap (λ (f : PlainField). f.name ++ later_fields later) front
    ∙ ap (λ (fields : List PlainField). name ++ later_fields fields) back
    ∙ ap (λ (rest : List ℕ). name ++ rest) (later_named callsite (index + 1) names)

-- with the first name written, the others are left
pub begun : (callsite : ℕ) (names : List (List ℕ)) (first : PlainField) (later : List PlainField) (old new : List ℕ) →
    first ∷ later ≡ fields_named callsite 0 names → new ≡ old ++ first.name → new ++ later_fields later ≡ old ++ names_inside names
begun callsite names first later old new is n =
    ap (λ (t : List ℕ). t ++ later_fields later) n ∙ append_assoc old first.name (later_fields later)
    ∙ ap (λ (t : List ℕ). old ++ t) (first_named callsite 0 names first later is)
