-- Worked dates and names.
use Rattle.std.specs.Prelude.{◌≡◌, pos, negsuc, codes, Some, None}
use Rattle.tracing_core_moments.specs.declared.period.PeriodKind.TheVariants.{Minute, Hour, Week, Whole}
use Rattle.tracing_core_moments.specs.Calendar.{date_text}
use Rattle.tracing_core_moments.specs.Names.{name_at}

abbrev pub DayRow : Type 0
DayRow = date_text (pos 20136) ≡ codes "2025-02-17"

abbrev pub FirstRow : Type 0
FirstRow = date_text (negsuc 719161) ≡ codes "0001-01-01"

abbrev pub LastRow : Type 0
LastRow = date_text (pos 2932531) ≡ codes "9998-12-31"

abbrev pub MinuteRow : Type 0
MinuteRow = name_at Minute (Some (codes "my_prefix")) (Some (codes "log")) (pos 1739786460) ≡ codes "my_prefix.2025-02-17-10-01.log"

abbrev pub HourRow : Type 0
HourRow = name_at Hour (Some (codes "my_prefix")) (Some (codes "log")) (pos 1739786460) ≡ codes "my_prefix.2025-02-17-10.log"

abbrev pub WeekRow : Type 0
WeekRow = name_at Week (Some (codes "my_prefix")) (Some (codes "log")) (pos 1739786460) ≡ codes "my_prefix.2025-02-16.log"

abbrev pub NewYearWeekRow : Type 0
NewYearWeekRow = name_at Week (Some (codes "my_prefix")) (Some (codes "log")) (pos 1735725660) ≡ codes "my_prefix.2024-12-29.log"

-- 0001-01-01 was a Monday
abbrev pub FirstWeekRow : Type 0
FirstWeekRow = name_at Week (Some (codes "my_prefix")) (Some (codes "log")) (negsuc 62135596799) ≡ codes "my_prefix.0000-12-31.log"

abbrev pub WholeRow : Type 0
WholeRow = name_at Whole (Some (codes "my_prefix")) (Some (codes "log")) (pos 1739786460) ≡ codes "my_prefix.log"

abbrev pub DateAloneRow : Type 0
DateAloneRow = name_at Whole None None (pos 1739786460) ≡ codes "2025-02-17"
