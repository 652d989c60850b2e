-- Which calls a visit makes.
use Rattle.std.specs.Prelude.{◌≡◌, ℕ, ◌<◌, List, [], ◌∷◌, length, slice_index_or, Option, MatchOption, Result, Ok, Err}
use Rattle.tracing_core_fields.specs.PlainField.{PlainField}
use Rattle.tracing_core_fields.specs.PlainValue.{PlainValue}

-- the field is the one of the callsite at the place, under the name that stands there
pub record IsFieldAt (callsite : ℕ) (names : List (List ℕ)) (place : ℕ) (field : PlainField) : Type 0 where
  pub at_place : field.index ≡ place
  pub at_callsite : field.callsite ≡ callsite
  pub is_within : place < length names
  pub is_named : field.name ≡ slice_index_or names place []

-- the entry, where there is one, is taken by one call, and where there is none nothing is done
abbrev pub TakesIfThere : {V E : Type 0} → (V → PlainField → PlainValue → Result (Unit {0}) E → V → Type 0) → ℕ → List (List ℕ) →
    Option (ℕ × PlainValue) → V → Result (Unit {0}) E → V → Type 0
TakesIfThere takes callsite names entry before answer after =
    MatchOption entry ((answer ≡ Ok tt) × (after ≡ before)) (λ e. (field : PlainField) ×
    (IsFieldAt callsite names e.0 field × takes before field e.1 answer after))

-- The visitor took the entries one after another, up to the first refusal, and each by one call: `takes` says of a call
-- which visitor it may meet, with which field and value, what it may answer, and which visitor it may leave.
pub data Visits {V E : Type 0} (takes : V → PlainField → PlainValue → Result (Unit {0}) E → V → Type 0) (callsite : ℕ)
    (names : List (List ℕ)) : List (ℕ × PlainValue) → V → Result (Unit {0}) E → V → Type 0 where
  -- there is nothing more to take
  all_taken : {visitor : V} → Visits takes callsite names [] visitor (Ok tt) visitor
  -- an entry was refused, and nothing after it is taken
  refused : {place : ℕ} {value : PlainValue} {entries : List (ℕ × PlainValue)} {before after : V} {error : E} → (field : PlainField) →
      IsFieldAt callsite names place field → takes before field value (Err error) after →
      Visits takes callsite names ((place, value) ∷ entries) before (Err error) after
  -- an entry was taken, and then the others are
  taken : {place : ℕ} {value : PlainValue} {entries : List (ℕ × PlainValue)} {before next after : V} {answer : Result (Unit {0}) E} →
      (field : PlainField) → IsFieldAt callsite names place field → takes before field value (Ok tt) next →
      Visits takes callsite names entries next answer after → Visits takes callsite names ((place, value) ∷ entries) before answer after
