-- Which numbers of a folder of the system are those of open files, and what the system's refusals are told as.
use Rattle.std.specs.Prelude.{◌≡◌, ◌≢◌, ◌↔◌, ◌<◌, ◌+◌, ◌⊎◌, ℕ, ℤ, Bool, true, false, not, ◌&&◌, ◌||◌, ◌==◌, List, [], ◌∷◌, ◌++◌, length}
use Rattle.std.specs.Prelude.{is_some, slice_index_or, Option, Some, None, Result, Ok, Err}
use Rattle.tracing_appender_rolling.specs.declared.folders.fault.FileNumber.{FileNumber}
use Rattle.tracing_appender_rolling.specs.declared.folders.fault.FolderError.{FolderError}
use Rattle.tracing_appender_rolling.specs.declared.folders.fault.FolderError.TheVariants.{Fault}
use Rattle.tracing_appender_rolling.specs.declared.folders.fault.FolderFault.TheVariants.{NotFound}

-- the path of a name in a folder; an empty path is the current folder, and no root
abbrev pub joined : List ℕ → List ℕ → List ℕ
joined [] name = name
joined (byte ∷ bytes) name = (byte ∷ bytes) ++ 47 ∷ name

-- whether the number is that of an open file; the handle of each stands in the slot with its number
abbrev pub is_open_at : {F : Type 0} → List (Option F) → ℕ → Bool
is_open_at slots n = is_some (slice_index_or slots n None)

-- the same numbers are open
abbrev pub SameOpen : {F : Type 0} → List (Option F) → List (Option F) → Type 0
SameOpen old new = (n : ℕ) → is_open_at new n ≡ is_open_at old n

-- there is a slot more only where each one held an open file
abbrev pub Reuses : {F : Type 0} → List (Option F) → List (Option F) → Type 0
Reuses old new = (length new ≡ length old) ⊎ ((length new ≡ length old + 1) × ((n : ℕ) → n < length old → is_open_at old n ≡ true))

-- room for one more handle
pub record HasRoom {F : Type 0} (old new : List (Option F)) (n : ℕ) : Type 0 where
  pub within : n < length new
  pub free : is_open_at old n ≡ false
  pub same : SameOpen old new
  pub reuses : Reuses old new

-- a number that wasn't open is open
pub record OpensNumber {F : Type 0} (old new : List (Option F)) (n : ℕ) : Type 0 where
  pub free : is_open_at old n ≡ false
  pub opens : (m : ℕ) → is_open_at new m ≡ ((m == n) || is_open_at old m)
  pub reuses : Reuses old new

-- an open number is open no more, or it wasn't open, and isn't found
abbrev pub ClosesNumber : {F : Type 0} → List (Option F) → List (Option F) → ℕ → Result (Unit {0}) FolderError → Type 0
ClosesNumber old new n (Ok done) = (is_open_at old n ≡ true) × ((m : ℕ) → is_open_at new m ≡ (not (m == n) && is_open_at old m))
ClosesNumber old new n (Err e) = (is_open_at old n ≡ false) × (e ≡ Fault NotFound) × (new ≡ old)
