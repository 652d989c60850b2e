-- The entries of values in a set are those whose index the set has.
use Rattle.std.proofs.Common.{◌≡◌, ℕ, Bool, true, false, List, [], ◌∷◌, Option, Some, None, refl, ap, ◌∙◌, filter, nat_lt, if◌then◌else◌}
use Rattle.std.specs.List.{cons_option, filter_map}
use Rattle.std.specs.Option.{option_map}
use Rattle.tracing_core_fields.specs.IndexedEntries.{entries_below, indexed_entries, indexed_entry, is_indexed, plain_entries}
use Rattle.tracing_core_fields.specs.OwnedValues.{plain_owned}
use Rattle.tracing_core_fields.specs.PlainValue.{PlainValue, plain_value}
use Rattle.tracing_core_fields.specs.declared.indexed_values.IndexedValues.{IndexedValues}
use Rattle.tracing_core_fields.specs.declared.indexed_values.IndexedValues.TheVariants.{Owned, Lent}
use Rattle.tracing_core_fields.specs.declared.indexed_values.LentValue.{LentValue}
use Rattle.tracing_core_fields.specs.declared.owned_value.FieldValue.{FieldValue}

-- the index of an entry is below the count
abbrev pub is_below : ℕ → ℕ × PlainValue → Bool
is_below count entry = nat_lt entry.0 count

first_kept : (index count : ℕ) (value : Option PlainValue) (b : Bool) → nat_lt index count ≡ b → (rest : List (ℕ × PlainValue)) →
    cons_option (if b then option_map (λ v. (index, v)) value else None) (filter (is_below count) rest) ≡ filter (is_below count)
    (cons_option (option_map (λ v. (index, v)) value) rest)
first_kept index count None true is rest = refl
first_kept index count None false is rest = refl
first_kept index count (Some v) true is rest = rw is refl
first_kept index count (Some v) false is rest = rw is refl

all_kept : {I : Type 0} (place : I → ℕ) (meaning : I → Option PlainValue) (count : ℕ) (values : List I) →
    entries_below place meaning count values ≡
    filter (is_below count) (filter_map (λ given. option_map (λ value. (place given, value)) (meaning given)) values)
all_kept place meaning count [] = refl
all_kept place meaning count (given ∷ values) =
    ap (cons_option (indexed_entry place meaning count given)) (all_kept place meaning count values)
    ∙ first_kept (place given) count (meaning given) (is_indexed place count given) refl
    (filter_map (λ given. option_map (λ value. (place given, value)) (meaning given)) values)

pub indexed_are_plain : (count : ℕ) (values : IndexedValues) →
    indexed_entries count values ≡ filter (is_below count) (plain_entries values)
indexed_are_plain count (Owned values) = all_kept (λ (given : FieldValue). given.field) (λ (given : FieldValue). plain_owned given.value) count
    values.now
indexed_are_plain count (Lent values) = all_kept (λ (given : LentValue). given.field) (λ (given : LentValue). plain_value given.value) count
    values.now
