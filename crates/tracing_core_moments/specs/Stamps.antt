-- The texts of dates and of times of the day.
use Rattle.std.specs.Prelude.{ℕ, ◌*◌, ◌/◌, ◌%◌, ℤ, pos, ◌+ℤ◌, ◌*ℤ◌, unsigned_abs, List, [], ◌∷◌, ◌++◌, Option, Some, None}
use Rattle.std.specs.Int.{int_rem_euclid}
use Rattle.tracing_core_moments.specs.declared.period.PeriodKind.{PeriodKind}
use Rattle.tracing_core_moments.specs.declared.period.PeriodKind.TheVariants.{Minute, Hour, Day, Week, Whole}
use Rattle.tracing_core_moments.specs.Days.{day_at}
use Rattle.tracing_core_moments.specs.Calendar.{two_digits, date_text}
use Rattle.tracing_core_moments.specs.Periods.{period_of, first_second}

-- the second of the day
abbrev pub clock_at : ℤ → ℕ
clock_at s = unsigned_abs (int_rem_euclid s (pos 86400))

-- a dash and two digits
abbrev pub hour_text : ℕ → List ℕ
hour_text hour = 45 ∷ two_digits hour

abbrev pub clock_part : PeriodKind → ℕ → List ℕ
clock_part Minute clock = hour_text (clock / 3600) ++ hour_text (clock % 3600 / 60)
clock_part Hour clock = hour_text (clock / 3600)
clock_part Day clock = []
clock_part Week clock = []
clock_part Whole clock = []

abbrev pub clock_text : PeriodKind → ℤ → List ℕ
clock_text kind s = clock_part kind (clock_at s)

-- YYYY-MM-DD, and hour and minute where the kind has them
abbrev pub stamp : PeriodKind → ℤ → List ℕ
stamp kind s = date_text (day_at s) ++ clock_text kind s

-- the part of the clock that a stamp tells: whole minutes, whole hours, or nothing
abbrev pub told_part : PeriodKind → ℕ → ℕ
told_part Minute clock = clock / 60 * 60
told_part Hour clock = clock / 3600 * 3600
told_part Day clock = 0
told_part Week clock = 0
told_part Whole clock = 0

-- the second that a stamp tells
abbrev pub stamped : PeriodKind → ℤ → ℤ
stamped kind s = (day_at s *ℤ pos 86400) +ℤ pos (told_part kind (clock_at s))

-- the second whose stamp a file's name has: the first of its period, or, where there is one period alone, the second itself
abbrev pub or_itself : Option ℤ → ℤ → ℤ
or_itself (Some first) s = first
or_itself None s = s

abbrev pub named_second : PeriodKind → ℤ → ℤ
named_second kind s = or_itself (first_second kind (period_of kind s)) s
