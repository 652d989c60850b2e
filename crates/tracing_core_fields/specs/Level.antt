-- Levels by their ranks: ERROR is 1, WARN 2, INFO 3, DEBUG 4 and TRACE 5.
use Rattle.std.specs.Prelude.{◌≡◌, ℕ, ◌+◌, ◌-◌, ◌≤◌, ◌&&◌, List, [], ◌∷◌, Option, Some, None, Result, Ok, codes, nat_le, slice_get}
use Rattle.std.specs.Prelude.{unwrap_or, option_and_then, if◌then◌else◌, MatchOption, IsErr}
use Rattle.std.specs.Option.{option_map, option_or}
use Rattle.tracing_core_fields.specs.Text.{number_of_text, place_of_name}

-- the names from rank 1 on
abbrev pub level_names : List (List ℕ)
level_names = codes "ERROR" ∷ codes "WARN" ∷ codes "INFO" ∷ codes "DEBUG" ∷ codes "TRACE" ∷ []

-- the name of the level of a rank
abbrev pub level_name : ℕ → List ℕ
level_name rank = unwrap_or (slice_get level_names (rank - 1)) []

abbrev pub IsRank : ℕ → Type 0
IsRank rank = (1 ≤ rank) × (rank ≤ 5)

-- the rank that the text names, in any ASCII case
abbrev pub level_named : List ℕ → Option ℕ
level_named text = option_map (λ place. place + 1) (place_of_name level_names text)

-- the rank that the text writes as a number
abbrev pub level_numbered : List ℕ → Option ℕ
level_numbered text = option_and_then (λ n. if nat_le 1 n && nat_le n 5 then Some n else None) (number_of_text text)

-- the rank that the text reads as
abbrev pub level_of_text : List ℕ → Option ℕ
level_of_text text = option_or (level_numbered text) (level_named text)

-- r is the value, and an error where there is none
abbrev pub IsParsed : {X E : Type 0} → Option X → Result X E → Type 0
IsParsed read r = MatchOption read (IsErr r) (λ x. r ≡ Ok x)

-- each level reads its own name
abbrev pub ReadsItsName : Type 0
ReadsItsName = (rank : ℕ) → IsRank rank → level_of_text (level_name rank) ≡ Some rank
