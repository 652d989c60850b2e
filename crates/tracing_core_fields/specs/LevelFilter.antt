-- Filters by their ranks: OFF is 0, and the others have the ranks of their levels.
use Rattle.std.specs.Prelude.{◌≡◌, ℕ, ◌≤◌, ◌==◌, List, [], ◌∷◌, ◌++◌, Option, Some, None, codes, nat_le, slice_get, unwrap_or}
use Rattle.std.specs.Prelude.{option_and_then, if◌then◌else◌}
use Rattle.std.specs.Option.{option_or}
use Rattle.tracing_core_fields.specs.Text.{number_of_text, place_of_name}
use Rattle.tracing_core_fields.specs.Level.{level_names}

-- the names from rank 0 on
abbrev pub filter_names : List (List ℕ)
filter_names = codes "off" ∷ codes "error" ∷ codes "warn" ∷ codes "info" ∷ codes "debug" ∷ codes "trace" ∷ []

-- the name of the filter of a rank
abbrev pub filter_name : ℕ → List ℕ
filter_name rank = unwrap_or (slice_get filter_names rank) []

-- what `{:?}` writes
abbrev pub filter_debug_name : ℕ → List ℕ
filter_debug_name rank = codes "LevelFilter::" ++ unwrap_or (slice_get (codes "OFF" ∷ level_names) rank) []

-- the rank that the text names, in any ASCII case
abbrev pub filter_named : List ℕ → Option ℕ
filter_named text = place_of_name filter_names text

-- the rank that the text writes as a number
abbrev pub filter_numbered : List ℕ → Option ℕ
filter_numbered text = option_and_then (λ n. if nat_le n 5 then Some n else None) (number_of_text text)

-- the rank that the text reads as: the empty text is ERROR
abbrev pub filter_of_text : List ℕ → Option ℕ
filter_of_text [] = Some 1
filter_of_text (c ∷ cs) = option_or (filter_numbered (c ∷ cs)) (filter_named (c ∷ cs))

-- the most verbose level that passes
abbrev pub highest_level : ℕ → Option ℕ
highest_level filter = if filter == 0 then None else Some filter

-- each filter reads its own name
abbrev pub ReadsItsName : Type 0
ReadsItsName = (rank : ℕ) → rank ≤ 5 → filter_of_text (filter_name rank) ≡ Some rank
