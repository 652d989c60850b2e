-- Which entry stands at a place, among values that are given by their places.
use Rattle.std.proofs.Common.{◌≡◌, ℕ, ◌+◌, ◌<◌, ◌==◌, ◌&&◌, ◌||◌, Bool, true, false, List, [], ◌∷◌, Option, Some, None, refl, ◌∙◌, ap}
use Rattle.std.proofs.Common.{arith, zero, suc, slice_get, option_and_then}
use Rattle.std.specs.List.{enumerate_from, filter_map, cons_option}
use Rattle.std.specs.Option.{is_some, option_map}
use Rattle.std.proofs.lemmas.Bool.{eq-eqb, ne_eqb, or_from, and_right}
use Rattle.tracing_core_fields.specs.PlainValue.{PlainValue, present_value}
use Rattle.tracing_core_fields.specs.Values.{placed_entry, has_entry}
use Rattle.tracing_core_fields.specs.declared.value_set.AnyValue.{AnyValue}

-- the first value is at the place, or a later one
has_entry-first : (value : Option PlainValue) (n place : ℕ) (rest : List (ℕ × PlainValue)) →
    has_entry place (cons_option (option_map (λ given. (n, given)) value) rest) ≡ ((is_some value && (n == place)) || has_entry place rest)
has_entry-first None n place rest = refl
has_entry-first (Some given) n place rest = refl

-- nothing stands at a place before the first value's
has_entry-before : (n place : ℕ) (values : List (Option AnyValue)) → place < n →
    has_entry place (filter_map placed_entry (enumerate_from n values)) ≡ false
has_entry-before n place [] before = refl
has_entry-before n place (value ∷ values) before =
    has_entry-first (present_value value) n place _
    ∙ or_from _ _
    (and_right _ _ (ne_eqb n place (λ same. omega (arith, before, same))))
    (has_entry-before (n + 1) place values (omega (arith, before)))

taken_first : (a b c : Bool) → b ≡ true → c ≡ false → ((a && b) || c) ≡ a
taken_first true b c taken none = ap (λ t. t || c) taken
taken_first false b c taken none = none

passed_first : (a b c : Bool) → b ≡ false → ((a && b) || c) ≡ c
passed_first true b c passed = ap (λ t. t || c) passed
passed_first false b c passed = refl

-- what stands at a place is the value that was given there
pub has_entry-at : (n k place : ℕ) (values : List (Option AnyValue)) → n + k ≡ place →
    has_entry place (filter_map placed_entry (enumerate_from n values)) ≡ is_some (option_and_then present_value (slice_get values k))
has_entry-at n k place [] at = refl
has_entry-at n zero place (value ∷ values) at =
    has_entry-first (present_value value) n place _
    ∙ taken_first _ _ _ (eq-eqb n place (omega (arith, at))) (has_entry-before (n + 1) place values (omega (arith, at)))
has_entry-at n (suc k) place (value ∷ values) at =
    has_entry-first (present_value value) n place _
    ∙ passed_first _ _ _ (ne_eqb n place (λ same. omega (arith, at, same)))
    ∙ has_entry-at (n + 1) k place values (omega (arith, at))
