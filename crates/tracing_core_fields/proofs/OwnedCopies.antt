-- What copies of lists of values say.
use Rattle.std.proofs.Common.{◌≡◌, ℕ, List, [], ◌∷◌, map, refl, ap, ◌∙◌, Option}
use Rattle.std.specs.Prelude.{string_bytes}
use Rattle.std.specs.List.{AllZip, cons_option}
use Rattle.std.specs.Option.{option_map}
use Rattle.std.specs.declared.string.String.{String}
use Rattle.tracing_core_fields.specs.OwnedCopies.{CopiesField}
use Rattle.tracing_core_fields.specs.OwnedValues.{owned_entries, owned_entry, plain_owned}
use Rattle.tracing_core_fields.specs.PlainValue.{PlainValue}
use Rattle.tracing_core_fields.specs.declared.owned_value.FieldValue.{FieldValue}

both : {A : Type 0} (x y : A) (xs ys : List A) → y ≡ x → ys ≡ xs → y ∷ ys ≡ x ∷ xs
both x y xs ys h hs = ap (λ z. z ∷ ys) h ∙ ap (λ zs. x ∷ zs) hs

pub bytes_copied : (xs ys : List ℕ) → AllZip (λ x y. y ≡ x) xs ys → ys ≡ xs
bytes_copied [] [] h = refl
bytes_copied [] (y ∷ ys) h = absurd h
bytes_copied (x ∷ xs) [] h = absurd h
bytes_copied (x ∷ xs) (y ∷ ys) h = both x y xs ys h.0 (bytes_copied xs ys h.1)

pub texts_copied : {Z : Type 0} (xs ys : List (String Z)) → AllZip (λ s t. string_bytes t ≡ string_bytes s) xs ys →
    map string_bytes ys ≡ map string_bytes xs
texts_copied [] [] h = refl
texts_copied [] (y ∷ ys) h = absurd h
texts_copied (x ∷ xs) [] h = absurd h
texts_copied (x ∷ xs) (y ∷ ys) h = both (string_bytes x) (string_bytes y) (map string_bytes xs) (map string_bytes ys) h.0
    (texts_copied xs ys h.1)

entry_copied : (x y : FieldValue) → CopiesField x y → owned_entry y ≡ owned_entry x
entry_copied x y h = ap (λ (p : Option PlainValue). option_map (λ value. (y.field, value)) p) h.1 ∙
    ap (λ (n : ℕ). option_map (λ value. (n, value)) (plain_owned x.value)) h.0

pub entries_copied : (xs ys : List FieldValue) → AllZip CopiesField xs ys → owned_entries ys ≡ owned_entries xs
entries_copied [] [] h = refl
entries_copied [] (y ∷ ys) h = absurd h
entries_copied (x ∷ xs) [] h = absurd h
entries_copied (x ∷ xs) (y ∷ ys) h = ap (λ e. cons_option e (owned_entries ys)) (entry_copied x y h.0) ∙
    ap (cons_option (owned_entry x)) (entries_copied xs ys h.1)
