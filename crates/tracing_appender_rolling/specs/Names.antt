-- The names of log files.
use Rattle.std.specs.Prelude.{◌≡◌, ◌≢◌, ℕ, ℤ, List, [], ◌∷◌, Bool, true, false, ◌||◌, ◌==◌, if◌then◌else◌, Option, Some, None}
use Rattle.std.specs.List.{list_any}
use Rattle.std.specs.Str.{bytes_eq}
use Rattle.tracing_core_moments.specs.declared.period.PeriodKind.{PeriodKind}
use Rattle.tracing_core_moments.specs.declared.period.PeriodKind.TheVariants.{Minute, Hour, Day, Week, Whole}
use Rattle.tracing_core_moments.specs.Periods.{first_second}
use Rattle.tracing_core_moments.specs.Stamps.{stamp, or_itself}
use Rattle.tracing_core_moments.specs.Names.{around, lasting_name}
use Rattle.tracing_core_moments.specs.declared.moment.Moment.{Moment}
use Rattle.tracing_core_moments.specs.Moments.{is_moment, period_at}

-- how long a file's period is, what stands before and after the date in its name, how many files are kept, and the name of a link to the
-- latest one
pub record FileNames : Type 0 where
  pub kind : PeriodKind
  pub prefix : Option (List ℕ)
  pub suffix : Option (List ℕ)
  pub limit : Option ℕ
  pub latest : Option (List ℕ)

-- a date between prefix and suffix; the one file for all of time has a date only where it has nothing else
abbrev pub joined : PeriodKind → Option (List ℕ) → List ℕ → Option (List ℕ) → List ℕ
joined Minute prefix date suffix = around prefix date suffix
joined Hour prefix date suffix = around prefix date suffix
joined Day prefix date suffix = around prefix date suffix
joined Week prefix date suffix = around prefix date suffix
joined Whole prefix date suffix = lasting_name prefix date suffix

-- the name of a period's file, which has the date of the period's first second; where there is one period alone, that of the second of the
-- opening
unfoldable pub file_name : FileNames → ℤ → ℤ → List ℕ
file_name names opened period = joined names.kind names.prefix (stamp names.kind (or_itself (first_second names.kind period) opened))
    names.suffix

-- an empty text means none
abbrev pub text_or_none : List ℕ → Option (List ℕ)
text_or_none [] = None
text_or_none (b ∷ bs) = Some (b ∷ bs)

-- a limit of 0 means none
abbrev pub count_or_none : ℕ → Option ℕ
count_or_none n = if n == 0 then None else Some n

-- a slash or a NUL in a part of a name
abbrev pub has_bad_byte : Option (List ℕ) → Bool
has_bad_byte None = false
has_bad_byte (Some bytes) = list_any (λ b. (b == 47) || (b == 0)) bytes

-- the names that a folder has for itself and for the one that it stands in
abbrev pub is_dots : List ℕ → Bool
is_dots name = bytes_eq name (46 ∷ []) || bytes_eq name (46 ∷ 46 ∷ [])

abbrev pub is_dots_or_none : Option (List ℕ) → Bool
is_dots_or_none None = false
is_dots_or_none (Some name) = is_dots name

-- only the one file for all of time can have such a name
abbrev pub is_lasting_dots : PeriodKind → Option (List ℕ) → Option (List ℕ) → Bool
is_lasting_dots Whole (Some prefix) None = is_dots prefix
is_lasting_dots Whole None (Some suffix) = is_dots suffix
is_lasting_dots _ prefix suffix = false

-- prefix, suffix or link have a slash or a NUL, or the link or a log file would be `.` or `..`
abbrev pub is_bad_name : FileNames → Bool
is_bad_name names =
    has_bad_byte names.prefix || has_bad_byte names.suffix || has_bad_byte names.latest || is_dots_or_none names.latest ||
    is_lasting_dots names.kind names.prefix names.suffix

-- the link has the name of a log file of some moment
abbrev pub HasBadLink : FileNames → Type 0
HasBadLink names = (m : Moment) × (is_moment m ≡ true) × (names.latest ≡ Some (file_name names m.seconds (period_at names.kind m)))

abbrev pub HasGoodLink : FileNames → Type 0
HasGoodLink names = (m : Moment) → is_moment m ≡ true → names.latest ≢ Some (file_name names m.seconds (period_at names.kind m))

-- different periods have different names
abbrev pub NamesDiffer : Type 0
NamesDiffer = (names : FileNames) (opened : ℤ) (a b : Moment) → is_moment a ≡ true → is_moment b ≡ true →
    file_name names opened (period_at names.kind a) ≡ file_name names opened (period_at names.kind b) →
    period_at names.kind a ≡ period_at names.kind b
