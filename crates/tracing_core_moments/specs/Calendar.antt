-- The calendar of dates from 0000-01-01 on, counted day by day, and the same by whole years and months, which computes at once.
use Rattle.std.specs.Prelude.{◌≡◌, ℕ, zero, suc, ◌+◌, ◌-◌, ◌/◌, ◌%◌, true, not, ◌&&◌, ◌||◌, ◌==◌, nat_lt, if◌then◌else◌, List, [], ◌∷◌}
use Rattle.std.specs.Prelude.{◌++◌, ℤ, pos, ◌+ℤ◌, unsigned_abs}
use Rattle.jiff_core.specs.Calendar.{days_in_month}
use Rattle.tracing_core_moments.specs.Days.{is_date}

pub record Civil : Type 0 where
  pub year : ℕ
  pub month : ℕ
  pub day : ℕ

-- the date after a date
abbrev pub next_day : Civil → Civil
next_day c =
    if nat_lt c.day (days_in_month (pos c.year) c.month) then record c { day = c.day + 1 }
    else (if nat_lt c.month 12 then record { year = c.year; month = c.month + 1; day = 1 }
    else record { year = c.year + 1; month = 1; day = 1 })

-- the date so many days after 0000-01-01
unfoldable pub civil_after : ℕ → Civil
civil_after zero = record { year = 0; month = 1; day = 1 }
civil_after (suc n) = next_day (civil_after n)

-- two digits, four digits
abbrev pub two_digits : ℕ → List ℕ
two_digits n = (48 + n / 10) ∷ (48 + n % 10) ∷ []

abbrev pub four_digits : ℕ → List ℕ
four_digits n = two_digits (n / 100) ++ two_digits (n % 100)

-- YYYY-MM-DD
abbrev pub civil_text : Civil → List ℕ
civil_text c = four_digits c.year ++ 45 ∷ [] ++ two_digits c.month ++ 45 ∷ [] ++ two_digits c.day

-- how many days there are from 0000-01-01 to a day's number
abbrev pub days_before : ℤ → ℕ
days_before day = unsigned_abs (day +ℤ pos 719528)

-- the date text of a day's number, by counting days
abbrev pub counted_date : ℤ → List ℕ
counted_date day = civil_text (civil_after (days_before day))

abbrev pub days_in_year : ℕ → ℕ
days_in_year year = if (year % 4 == 0) && (not (year % 100 == 0) || (year % 400 == 0)) then 366 else 365

-- the day so many days after a month's first, at most so many months later
unfoldable pub in_month : ℕ → ℕ → ℕ → ℕ → Civil
in_month zero year month days = record { year = year; month = month; day = days + 1 }
in_month (suc most) year month days =
    if nat_lt days (days_in_month (pos year) month) then record { year = year; month = month; day = days + 1 }
    else in_month most year (month + 1) (days - days_in_month (pos year) month)

-- the day so many days after a year's first, at most so many years later
unfoldable pub in_year : ℕ → ℕ → ℕ → Civil
in_year zero year days = in_month 11 year 1 days
in_year (suc most) year days =
    if nat_lt days (days_in_year year) then in_month 11 year 1 days else in_year most (year + 1) (days - days_in_year year)

-- the date text of a day's number: whole years first, then whole months
unfoldable pub date_text : ℤ → List ℕ
date_text day = civil_text (in_year 9999 0 (days_before day))

-- both are the same
abbrev pub DatesCountDays : Type 0
DatesCountDays = (day : ℤ) → is_date day ≡ true → date_text day ≡ counted_date day
