-- The texts of moments.
use Rattle.std.specs.Prelude.{◌≡◌, ℕ, [], ◌*◌, ◌/◌, ◌%◌, ℤ, pos, ◌+ℤ◌, ◌*ℤ◌, ◌-ℤ◌, Bool, nat_lt, if◌then◌else◌, List, ◌++◌, Option, Some}
use Rattle.std.specs.Prelude.{None, Result, Ok, Err, String, codes, string_bytes, unsigned_abs, int_lt}
use Rattle.std.specs.Fmt.{decimal}
use Rattle.std.specs.declared.alloc.Global.{Global}
use Rattle.tracing_core_moments.specs.Calendar.{two_digits, date_text}
use Rattle.tracing_core_moments.specs.Days.{day_at, is_date}
use Rattle.tracing_core_moments.specs.Stamps.{clock_at}
use Rattle.event_formatter_text.specs.declared.error.FormatError.{FormatError}
use Rattle.event_formatter_text.specs.declared.error.FormatError.TheVariants.{Failed, OutOfMemory}
use Rattle.event_formatter_lines.specs.times.Digits.{nine_digits, six_digits}

-- HH:MM:SS of a second of the day
abbrev pub clock_text : ℕ → List ℕ
clock_text clock =
    two_digits (clock / 3600) ++ (codes ":" ++ (two_digits (clock % 3600 / 60) ++ (codes ":" ++ two_digits (clock % 60))))

-- YYYY-MM-DDTHH:MM:SS
unfoldable pub second_text : ℤ → List ℕ
second_text second = date_text (day_at second) ++ (codes "T" ++ clock_text (clock_at second))

-- what stands behind the second: the microseconds, and the sign of UTC
abbrev pub fraction_text : ℕ → List ℕ
fraction_text nanoseconds = codes "." ++ (six_digits (nanoseconds / 1000) ++ codes "Z")

-- YYYY-MM-DDTHH:MM:SS.ffffffZ, in the years 0 to 9999, where the nanoseconds are below a second
abbrev pub moment_text : ℤ → ℕ → Option (List ℕ)
moment_text second nanoseconds =
    if is_date (day_at second) then (if nat_lt nanoseconds 1000000000 then Some (second_text second ++ fraction_text nanoseconds) else None)
    else None

-- a second of the years 0 to 9999 as a time begins with it, behind which a point stands
abbrev pub second_start : ℤ → Option (List ℕ)
second_start second = if is_date (day_at second) then Some (second_text second ++ codes ".") else None

-- the nanoseconds of a moment, from that of second 0
abbrev pub total : ℤ → ℕ → ℤ
total second nanoseconds = (second *ℤ pos 1000000000) +ℤ pos nanoseconds

-- how many nanoseconds a moment lies after another one, 0 where it lies before it
abbrev pub since : ℤ → ℤ → ℕ
since start end = if int_lt start end then unsigned_abs (end -ℤ start) else 0

-- the spaces that bring a number to four places
unfoldable pub spaces_before : ℕ → List ℕ
spaces_before n = if nat_lt n 10 then codes
    "   " else (if nat_lt n 100 then codes "  " else (if nat_lt n 1000 then codes " " else codes ""))

-- a number in four places at least
unfoldable pub in_four_places : ℕ → List ℕ
in_four_places n = spaces_before n ++ decimal n

-- whole seconds in four places at least, and nine digits
abbrev pub uptime_text : ℕ → List ℕ
uptime_text ns =
    in_four_places (ns / 1000000000) ++ (codes "." ++ (nine_digits (ns % 1000000000) ++ codes "s"))

-- the text is given, or there is none, which is never told as out of memory
abbrev pub IsText : Option (List ℕ) → Result (String Global) FormatError → Type 0
IsText (Some text) (Ok out) = string_bytes out ≡ text
IsText None (Ok out) = ⊥
IsText (Some text) (Err Failed) = ⊥
IsText None (Err Failed) = Unit {0}
IsText (Some text) (Err OutOfMemory) = Unit {0}
IsText None (Err OutOfMemory) = ⊥

-- The text was appended, where memory sufficed for it. Where there is none, that is told, never out of memory, and nothing was appended.
abbrev pub TellsTime : Option (List ℕ) → List ℕ → Result (Unit {0}) FormatError → List ℕ → Type 0
TellsTime (Some text) old (Ok done) new = new ≡ old ++ text
TellsTime None old (Ok done) new = ⊥
TellsTime (Some text) old (Err Failed) new = ⊥
TellsTime None old (Err Failed) new = new ≡ old
TellsTime (Some text) old (Err OutOfMemory) new = Unit {0}
TellsTime None old (Err OutOfMemory) new = ⊥
