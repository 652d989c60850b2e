-- The names of log files.
use Rattle.std.specs.Prelude.{◌≡◌, ℕ, ℤ, ◌<ℤ◌, List, [], ◌∷◌, ◌++◌, true, Option, Some, None}
use Rattle.std.specs.Cmp.Lexicographic.{slice_cmp}
use Rattle.std.specs.Ordering.{nat_cmp}
use Rattle.std.specs.declared.cmp.Ordering.TheVariants.{Less}
use Rattle.tracing_core_moments.specs.declared.period.PeriodKind.{PeriodKind}
use Rattle.tracing_core_moments.specs.declared.period.PeriodKind.TheVariants.{Minute, Hour, Day, Week, Whole}
use Rattle.tracing_core_moments.specs.Days.{is_second}
use Rattle.tracing_core_moments.specs.Periods.{period_of, first_second}
use Rattle.tracing_core_moments.specs.Stamps.{stamp, named_second}

abbrev pub before_date : Option (List ℕ) → List ℕ
before_date None = []
before_date (Some prefix) = prefix ++ 46 ∷ []

abbrev pub after_date : Option (List ℕ) → List ℕ
after_date None = []
after_date (Some suffix) = 46 ∷ suffix

-- a stamp between a prefix and a suffix, with a point between two
abbrev pub around : Option (List ℕ) → List ℕ → Option (List ℕ) → List ℕ
around (Some prefix) date (Some suffix) = prefix ++ (46 ∷ (date ++ (46 ∷ suffix)))
around (Some prefix) date None = prefix ++ (46 ∷ date)
around None date (Some suffix) = date ++ (46 ∷ suffix)
around None date None = date

-- the name of the one file for all of time, which has a date only where it has nothing else
abbrev pub lasting_name : Option (List ℕ) → List ℕ → Option (List ℕ) → List ℕ
lasting_name (Some prefix) date (Some suffix) = prefix ++ (46 ∷ suffix)
lasting_name (Some prefix) date None = prefix
lasting_name None date (Some suffix) = suffix
lasting_name None date None = date

-- the name of the file of a second's period
abbrev pub name_at : PeriodKind → Option (List ℕ) → Option (List ℕ) → ℤ → List ℕ
name_at Minute prefix suffix s = around prefix (stamp Minute (named_second Minute s)) suffix
name_at Hour prefix suffix s = around prefix (stamp Hour (named_second Hour s)) suffix
name_at Day prefix suffix s = around prefix (stamp Day (named_second Day s)) suffix
name_at Week prefix suffix s = around prefix (stamp Week (named_second Week s)) suffix
name_at Whole prefix suffix s = lasting_name prefix (stamp Whole s) suffix

-- the name has the date of the first second of a second's period
abbrev pub HasName : PeriodKind → Option (List ℕ) → Option (List ℕ) → List ℕ → ℤ → Type 0
HasName kind prefix suffix name s = (first : ℤ) × (first_second kind (period_of kind s) ≡ Some first) ×
    (name ≡ around prefix (stamp kind first) suffix)

-- different periods have different names
abbrev pub PeriodsDiffer : Type 0
PeriodsDiffer = (kind : PeriodKind) (prefix suffix : Option (List ℕ)) (s t : ℤ) → is_second s ≡ true → is_second t ≡ true →
    name_at kind prefix suffix s ≡ name_at kind prefix suffix t → period_of kind s ≡ period_of kind t

-- names rise in byte order with their periods
abbrev pub NamesRise : Type 0
NamesRise = (kind : PeriodKind) (prefix suffix : Option (List ℕ)) (s t : ℤ) → is_second s ≡ true → is_second t ≡ true →
    period_of kind s <ℤ period_of kind t → slice_cmp nat_cmp (name_at kind prefix suffix s) (name_at kind prefix suffix t) ≡ Less
