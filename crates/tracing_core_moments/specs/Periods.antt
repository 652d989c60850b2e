-- Periods of UTC time.
use Rattle.std.specs.Prelude.{ℤ, pos, ◌+ℤ◌, ◌-ℤ◌, ◌*ℤ◌, Option, Some, None}
use Rattle.std.specs.Int.{int_div_euclid}
use Rattle.tracing_core_moments.specs.declared.period.PeriodKind.{PeriodKind}
use Rattle.tracing_core_moments.specs.declared.period.PeriodKind.TheVariants.{Minute, Hour, Day, Week, Whole}
use Rattle.tracing_core_moments.specs.Days.{day_at}

-- the period in which a second lies; periods are in order as numbers
abbrev pub period_of : PeriodKind → ℤ → ℤ
period_of Minute s = int_div_euclid s (pos 60)
period_of Hour s = int_div_euclid s (pos 3600)
period_of Day s = day_at s
-- weeks begin on Sundays; 1970-01-01 was a Thursday
period_of Week s = int_div_euclid (day_at s +ℤ pos 4) (pos 7)
period_of Whole s = pos 0

-- the first second of a period; the whole of time has none
abbrev pub first_second : PeriodKind → ℤ → Option ℤ
first_second Minute p = Some (p *ℤ pos 60)
first_second Hour p = Some (p *ℤ pos 3600)
first_second Day p = Some (p *ℤ pos 86400)
first_second Week p = Some ((p *ℤ pos 7 -ℤ pos 4) *ℤ pos 86400)
first_second Whole p = None
