-- The texts of timers don't steer a terminal.
use Rattle.std.proofs.Common.{arith, ◌≡◌, ◌<◌, ◌/◌, ◌%◌, ℕ, ℤ, Bool, true, false, nat_lt, if◌then◌else◌, List, [], ◌∷◌, ◌++◌, codes}
use Rattle.std.proofs.Common.{Option, Some, None, IfSome, refl, sym, subst}
use Rattle.std.proofs.lemmas.Bool.Decides.{nat_tests}
use Rattle.std.specs.Fmt.{decimal}
use Rattle.tracing_core_moments.specs.Calendar.{Civil, civil_text, date_text, four_digits, two_digits}
use Rattle.tracing_core_moments.specs.Days.{day_at, is_date}
use Rattle.tracing_core_moments.specs.Stamps.{clock_at}
use Rattle.tracing_core_moments.proofs.DatesFromText.{shape}
use Rattle.tracing_core_moments.proofs.Digits.{IsSmall}
use Rattle.tracing_core_moments.proofs.Stamps.{clock_is}
use Rattle.event_formatter_text.specs.HarmlessTexts.{LetsPass}
use Rattle.event_formatter_text.proofs.TerminalControls.{both_pass, harmless_pass}
use Rattle.event_formatter_lines.specs.times.Digits.{digit, nine_digits, six_digits, three_digits}
use Rattle.event_formatter_lines.specs.times.Times.{clock_text, fraction_text, in_four_places, moment_text, second_text, since}
use Rattle.event_formatter_lines.specs.times.Times.{spaces_before, total, uptime_text}
use Rattle.event_formatter.specs.declared.formats.timer.Timer.TheVariants as timer
use Rattle.event_formatter.specs.formats.Timers.{text_at}
use Rattle.span_tracing_laws.specs.harmless.Timers.{TimersAreHarmless}
use Rattle.span_tracing_laws.proofs.harmless.Texts.{decimal_passes, either_is, nothing, one_passes, two_pass}

-- numbers with a fixed count of digits
three_pass : (n : ℕ) → n < 1000 → LetsPass (three_digits n)
three_pass n below =
    both_pass (digit (n / 100)) (two_digits (n % 100)) (one_passes (n / 100) (omega arith)) (two_pass (n % 100) (omega arith))

six_pass : (n : ℕ) → n < 1000000 → LetsPass (six_digits n)
six_pass n below =
    both_pass (three_digits (n / 1000)) (three_digits (n % 1000)) (three_pass (n / 1000) (omega arith))
    (three_pass (n % 1000) (omega arith))

nine_pass : (n : ℕ) → n < 1000000000 → LetsPass (nine_digits n)
unfolding nine_digits
nine_pass n below =
    both_pass (three_digits (n / 1000000)) (six_digits (n % 1000000)) (three_pass (n / 1000000) (omega arith))
    (six_pass (n % 1000000) (omega arith))

-- dates and clocks
dash : LetsPass (45 ∷ [])
dash = harmless_pass (45 ∷ []) refl

colon : LetsPass (codes ":")
colon = harmless_pass (codes ":") refl

civil_passes : (c : Civil) → IsSmall c → LetsPass (civil_text c)
civil_passes c small =
    let year : List ℕ = four_digits c.year in
    let year_passes : LetsPass year = both_pass (two_digits (c.year / 100)) (two_digits (c.year % 100))
    (two_pass (c.year / 100) (omega (arith, small.year))) (two_pass (c.year % 100) (omega arith)) in
    let month : List ℕ = year ++ (45 ∷ []) ++ two_digits c.month in
    let month_passes : LetsPass month = both_pass (year ++ (45 ∷ [])) (two_digits c.month) (both_pass year (45 ∷ []) year_passes dash)
    (two_pass c.month small.month) in
    both_pass (month ++ (45 ∷ [])) (two_digits c.day) (both_pass month (45 ∷ []) month_passes dash) (two_pass c.day small.day)

date_passes : (day : ℤ) → is_date day ≡ true → LetsPass (date_text day)
date_passes day is = let s = shape day is in subst LetsPass (sym s.text) (civil_passes s.civil s.small)

clock_passes : (clock : ℕ) → clock < 86400 → LetsPass (clock_text clock)
clock_passes clock below =
    both_pass (two_digits (clock / 3600)) (codes ":" ++ (two_digits (clock % 3600 / 60) ++ (codes ":" ++ two_digits (clock % 60))))
    (two_pass (clock / 3600) (omega arith))
    (both_pass (codes ":") (two_digits (clock % 3600 / 60) ++ (codes ":" ++ two_digits (clock % 60))) colon
    (both_pass (two_digits (clock % 3600 / 60)) (codes ":" ++ two_digits (clock % 60)) (two_pass (clock % 3600 / 60) (omega arith))
    (both_pass (codes ":") (two_digits (clock % 60)) colon (two_pass (clock % 60) (omega arith)))))

second_passes : (s : ℤ) → is_date (day_at s) ≡ true → LetsPass (second_text s)
unfolding second_text
second_passes s is =
    both_pass (date_text (day_at s)) (codes "T" ++ clock_text (clock_at s)) (date_passes (day_at s) is)
    (both_pass (codes "T") (clock_text (clock_at s)) (harmless_pass (codes "T") refl) (clock_passes (clock_at s) (clock_is s).1))

fraction_passes : (n : ℕ) → n < 1000000000 → LetsPass (fraction_text n)
fraction_passes n below =
    both_pass (codes ".") (six_digits (n / 1000) ++ codes "Z") (harmless_pass (codes ".") refl)
    (both_pass (six_digits (n / 1000)) (codes "Z") (six_pass (n / 1000) (omega arith)) (harmless_pass (codes "Z") refl))

where_true : (test : Bool) (text : Option (List ℕ)) → (test ≡ true → IfSome text LetsPass) →
    IfSome (if test then text else None) LetsPass
where_true true text is = is refl
where_true false text is = tt

below_from : (n : ℕ) → nat_lt n 1000000000 ≡ true → n < 1000000000
below_from n is = grind (arith, nat_tests, is)

moment_passes : (s : ℤ) (n : ℕ) → IfSome (moment_text s n) LetsPass
moment_passes s n =
    where_true (is_date (day_at s)) (if nat_lt n 1000000000 then Some (second_text s ++ fraction_text n) else None)
    (λ is. where_true (nat_lt n 1000000000) (Some (second_text s ++ fraction_text n))
    (λ below. both_pass (second_text s) (fraction_text n) (second_passes s is) (fraction_passes n (below_from n below))))

-- the time since a start
spaces_pass : (n : ℕ) → LetsPass (spaces_before n)
unfolding spaces_before
spaces_pass n =
    let two = if nat_lt n 1000 then codes " " else codes "" in
    either_is LetsPass (nat_lt n 10) (codes "   ") (if nat_lt n 100 then codes "  " else two) (harmless_pass (codes "   ") refl)
    (either_is LetsPass (nat_lt n 100) (codes "  ") two (harmless_pass (codes "  ") refl)
    (either_is LetsPass (nat_lt n 1000) (codes " ") (codes "") (harmless_pass (codes " ") refl) nothing))

places_pass : (n : ℕ) → LetsPass (in_four_places n)
unfolding in_four_places
places_pass n = both_pass (spaces_before n) (decimal n) (spaces_pass n) (decimal_passes n)

uptime_passes : (ns : ℕ) → LetsPass (uptime_text ns)
uptime_passes ns =
    both_pass (in_four_places (ns / 1000000000)) (codes "." ++ (nine_digits (ns % 1000000000) ++ codes "s"))
    (places_pass (ns / 1000000000))
    (both_pass (codes ".") (nine_digits (ns % 1000000000) ++ codes "s") (harmless_pass (codes ".") refl)
    (both_pass (nine_digits (ns % 1000000000)) (codes "s") (nine_pass (ns % 1000000000) (omega arith)) (harmless_pass (codes "s") refl)))

pub timers_are : TimersAreHarmless text_at
timers_are (timer.System t) tame s n = moment_passes s n
timers_are (timer.Uptime t) tame s n = uptime_passes (since (total t.seconds t.nanoseconds) (total s n))
timers_are (timer.Fixed t) tame s n = tame
timers_are timer.Empty tame s n = nothing
