-- Moments, their order, and the periods in which they lie.
use Rattle.std.specs.Prelude.{ℤ, pos, ◌+ℤ◌, Bool, true, false, ◌&&◌, nat_lt, int_le, if◌then◌else◌, Option, Some, None}
use Rattle.tracing_core_moments.specs.declared.period.PeriodKind.{PeriodKind}
use Rattle.tracing_core_moments.specs.Days.{is_second}
use Rattle.tracing_core_moments.specs.Periods.{period_of, first_second}
use Rattle.tracing_core_moments.specs.declared.moment.Moment.{Moment}

-- 0001-01-01T00:00:00Z to the last nanosecond of 9998-12-31
abbrev pub is_moment : Moment → Bool
is_moment m = is_second m.seconds && nat_lt m.nanoseconds 1000000000

-- the first one is earlier: moments are in order as pairs
abbrev pub is_earlier : Moment → Moment → Bool
is_earlier a b =
    if int_le b.seconds a.seconds
    then (int_le a.seconds b.seconds && nat_lt a.nanoseconds b.nanoseconds)
    else true

-- the later of two moments
abbrev pub latest_of : Moment → Moment → Moment
latest_of a b = if is_earlier a b then b else a

-- the period in which a moment lies
abbrev pub period_at : PeriodKind → Moment → ℤ
period_at kind m = period_of kind m.seconds

-- the first second after a period; all of time has none
abbrev pub end_of : PeriodKind → ℤ → Option ℤ
end_of kind period = first_second kind (period +ℤ pos 1)

-- a second at or past a boundary
abbrev pub is_due : Option ℤ → ℤ → Bool
is_due None s = false
is_due (Some boundary) s = int_le boundary s
