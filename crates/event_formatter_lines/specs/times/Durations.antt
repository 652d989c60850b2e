-- The texts of durations, and how long a span was busy and idle.
use Rattle.std.specs.Prelude.{ℕ, ◌+◌, ◌*◌, ◌/◌, ◌%◌, nat_lt, if◌then◌else◌, List, ◌∷◌, ◌++◌, codes}
use Rattle.std.specs.Fmt.{decimal}
use Rattle.tracing_core_moments.specs.Calendar.{two_digits}
use Rattle.event_formatter_lines.specs.times.Digits.{digit}

-- the whole number nearest to a quotient, the even one of two that are equally near
unfoldable pub rounded : ℕ → ℕ → ℕ
rounded n d =
    if nat_lt (2 * (n % d)) d then n / d
    else (if nat_lt d (2 * (n % d)) then n / d + 1 else n / d + (n / d) % 2)

-- a number of hundredths, of tenths
abbrev pub hundredths_text : ℕ → List ℕ
hundredths_text n = decimal (n / 100) ++ (codes "." ++ two_digits (n % 100))

abbrev pub tenths_text : ℕ → List ℕ
tenths_text n = decimal (n / 10) ++ (codes "." ++ digit (n % 10))

-- a duration in a unit of so many nanoseconds, with two decimals below 10, one below 100, none from there on; the band is
-- chosen before the rounding
abbrev pub in_unit : ℕ → ℕ → List ℕ → List ℕ
in_unit ns size unit =
    if nat_lt ns (10 * size) then hundredths_text (rounded (100 * ns) size) ++ unit
    else (if nat_lt ns (100 * size) then tenths_text (rounded (10 * ns) size) ++ unit
    else decimal (rounded ns size) ++ unit)

-- `µs` in UTF-8
abbrev pub micro : List ℕ
micro = 194 ∷ 181 ∷ codes "s"

-- a duration in the first of the units that makes it less than 1000, else in whole seconds
abbrev pub duration_text : ℕ → List ℕ
duration_text ns =
    if nat_lt ns 1000 then in_unit ns 1 (codes "ns")
    else (if nat_lt ns 1000000 then in_unit ns 1000 micro
    else (if nat_lt ns 1000000000 then in_unit ns 1000000 (codes "ms")
    else in_unit ns 1000000000 (codes "s")))
