-- The fields that names give, one after another.
use Rattle.std.proofs.Common.{◌≡◌, ℕ, ◌+◌, ◌<◌, List, [], ◌∷◌, ◌++◌, length, drop, map, refl, ◌∙◌, ap, arith, zero, suc, slice_index_or}
use Rattle.std.proofs.lemmas.List.{map-append}
use Rattle.tracing_core_fields.specs.PlainField.{PlainField, fields_named}

pub length-fields_named : (callsite index : ℕ) (names : List (List ℕ)) → length (fields_named callsite index names) ≡ length names
length-fields_named callsite index [] = refl
length-fields_named callsite index (name ∷ names) = ap (λ n. suc n) (length-fields_named callsite (index + 1) names)

-- the fields from a place on begin with the field of that place
drop-fields_after : (callsite index : ℕ) (names : List (List ℕ)) (k n : ℕ) → k < length names → n ≡ index + k →
    drop k (fields_named callsite index names) ≡ record { index = n; name = slice_index_or names k []; callsite = callsite } ∷ drop (suc k)
    (fields_named callsite index names)
drop-fields_after callsite index [] k n below place = absurd (omega (arith, below))
drop-fields_after callsite index (name ∷ names) zero n below place =
    let same : index ≡ n = omega (arith, place) in
    ap (λ m. record { index = m; name = name; callsite = callsite } ∷ fields_named callsite (index + 1) names) same
drop-fields_after callsite index (name ∷ names) (suc k) n below place =
    drop-fields_after callsite (index + 1) names k n (omega (arith, below)) (omega (arith, place))

pub drop-fields_named : (callsite : ℕ) (names : List (List ℕ)) (k : ℕ) → k < length names →
    drop k (fields_named callsite 0 names) ≡ record { index = k; name = slice_index_or names k []; callsite = callsite } ∷ drop (k + 1)
    (fields_named callsite 0 names)
drop-fields_named callsite names k below =
    let next : suc k ≡ k + 1 = omega arith in
    let place : k ≡ 0 + k = omega arith in
    drop-fields_after callsite 0 names k k below place
    ∙ ap (λ m. record { index = k; name = slice_index_or names k []; callsite = callsite } ∷ drop m (fields_named callsite 0 names)) next

pub names_named : (callsite index : ℕ) (names : List (List ℕ)) →
    map (λ (f : PlainField). f.name) (fields_named callsite index names) ≡ names
names_named callsite index [] = refl
names_named callsite index (name ∷ names) = ap (λ ns. name ∷ ns) (names_named callsite (index + 1) names)

-- one more at the end
pub map_more : {A : Type 0} → {B : Type 0} (v : A → B) (xs : List A) (x : A) → map v (xs ++ x ∷ []) ≡ map v xs ++ v x ∷ []
map_more v xs x = map-append v xs (x ∷ [])
