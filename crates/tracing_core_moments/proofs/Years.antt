-- Whole years and months give the date that counting gives.
use Rattle.std.proofs.Common.{arith, ◌≡◌, ◌∙◌, sym, ap, subst, refl, pos, neg_ℤ, ◌+ℤ◌, ◌≤ℤ◌, ◌<ℤ◌, ◌≤◌, ◌+◌, ◌-◌, ℕ, ℤ, zero, suc, Bool}
use Rattle.std.proofs.Common.{true, false, cond}
use Rattle.std.specs.Prelude.{nat_lt}
use Rattle.std.proofs.lemmas.Bool.{ltb-true, ltb-false}
use Rattle.jiff.specs.Types.{Date}
use Rattle.jiff.specs.Words.{epoch_day}
use Rattle.jiff.specs.Words as jiff
use Rattle.jiff.proofs.Family.{days_from_civil-max, days_from_civil-day, days_from_civil-next_month, days_from_civil-next_year}
use Rattle.jiff.proofs.SpanFacts.{signed_arith}
use Rattle.jiff_core.specs.Calendar.{days_from_civil, days_in_month}
use Rattle.jiff_core.proofs.CalendarLemmas.{day_count-next_year, days_from_civil-day_count}
use Rattle.tracing_core_moments.specs.Days.{is_date}
use Rattle.tracing_core_moments.specs.Calendar.{civil_after, date_text, days_before, days_in_year, in_month, in_year, DatesCountDays}
use Rattle.tracing_core_moments.proofs.Range.{date_range}
use Rattle.tracing_core_moments.proofs.JiffDates.{IsDay, some_days, counted, date_at, date_at_number, date_at_text, same_day_text, natural}
use Rattle.tracing_core_moments.proofs.Texts.{year_zero, same_text_day}

-- the number of a date, counted from 0000-01-01
abbrev place : ℕ → ℕ → ℕ → ℤ
place year month day = days_from_civil (pos year) month day +ℤ pos 719528

day_place : (year month base days : ℕ) → place year month 1 ≡ pos base → place year month (days + 1) ≡ pos (base + days)
day_place year month base days at =
    let one : 1 ≤ 1 = omega arith in
    let up : 1 ≤ days + 1 = omega arith in
    omega (arith, signed_arith, at, days_from_civil-day (pos year) month 1 (days + 1) one up)

month_place : (year month base : ℕ) → 1 ≤ month → place year month 1 ≡ pos base →
    place year (month + 1) 1 ≡ pos (base + days_in_month (pos year) month)
month_place year month base from at =
    let one : 1 ≤ 1 = omega arith in
    let some = some_days (pos year) month in
    omega (
      arith,
      signed_arith,
      at,
      days_from_civil-day (pos year) month 1 (days_in_month (pos year) month) one some,
      days_from_civil-next_month (pos year) month (days_in_month (pos year) month) from refl,
    )

year_place : (year base : ℕ) → place year 1 1 ≡ pos base → place (year + 1) 1 1 ≡ pos (base + days_in_year year)
year_place year base at =
    let low : neg_ℤ (pos 10000) ≤ℤ pos year = omega (arith, signed_arith) in
    let more : pos (year + 1) ≡ pos year +ℤ pos 1 = omega (arith, signed_arith) in
    omega (
      arith,
      signed_arith,
      at,
      day_count-next_year (pos year) (pos (year + 1)) low more,
      days_from_civil-day_count (pos year) 1 1,
      days_from_civil-day_count (pos (year + 1)) 1 1,
    )

december_end : (year base : ℕ) → place year 12 1 ≡ pos base → place (year + 1) 1 1 ≡ pos (base + 31)
december_end year base at =
    let low : neg_ℤ (pos 10000) ≤ℤ pos year = omega (arith, signed_arith) in
    let more : pos (year + 1) ≡ pos year +ℤ pos 1 = omega (arith, signed_arith) in
    let one : 1 ≤ 1 = omega arith in
    let last : 1 ≤ 31 = omega arith in
    omega (
      arith,
      signed_arith,
      at,
      days_from_civil-day (pos year) 12 1 31 one last,
      days_from_civil-next_year (pos year) (pos (year + 1))
          low more,
    )

in_this_month : (year month base days : ℕ) → 1 ≤ month → month ≤ 12 → place year month 1 ≡ pos base →
    days + 1 ≤ days_in_month (pos year) month → IsDay (base + days) (record { year = year; month = month; day = days + 1 })
in_this_month year month base days from to at fits =
    record { month_from = from; month_to = to; day_from = omega arith; day_to = fits; number = day_place year month base days at }

in_december : (year month base days : ℕ) → month ≡ 12 → place year month 1 ≡ pos base → pos (base + days) <ℤ place (year + 1) 1 1 →
    days + 1 ≤ days_in_month (pos year) month
in_december year month base days twelve at before =
    let here : place year 12 1 ≡ pos base = ap (λ m. place year m 1) (sym twelve) ∙ at in
    let few : days + 1 ≤ 31 = omega (arith, signed_arith, before, december_end year base here) in
    subst (λ m. days + 1 ≤ days_in_month (pos year) m) (sym twelve) few

in_month_is : (most year month days base : ℕ) → 1 ≤ month → month + most ≡ 12 → place year month 1 ≡ pos base →
    pos (base + days) <ℤ place (year + 1) 1 1 → IsDay (base + days) (in_month most year month days)
unfolding in_month
in_month_is zero year month days base from rest at before =
    let twelve : month ≡ 12 = omega arith in
    in_this_month year month base days from (omega arith) at (in_december year month base days twelve at before)
in_month_is (suc most) year month days base from rest at before =
    by_case (nat_lt days (days_in_month (pos year) month)) refl
    (λ early. in_month_is most year (month + 1) (days - days_in_month (pos year) month) (base + days_in_month (pos year) month)
    (omega arith) (omega arith) (month_place year month base from at) early)
  where
    by_case : (b : Bool) → nat_lt days (days_in_month (pos year) month) ≡ b →
        (pos (base + days_in_month (pos year) month + (days - days_in_month (pos year) month)) <ℤ place (year + 1) 1 1 →
        IsDay (base + days_in_month (pos year) month + (days - days_in_month (pos year) month))
        (in_month most year (month + 1) (days - days_in_month (pos year) month))) →
        IsDay (base + days) (cond b (record { year = year; month = month; day = days + 1 })
        (in_month most year (month + 1) (days - days_in_month (pos year) month)))
    by_case true e next = in_this_month year month base days from (omega arith) at
        (omega (arith, ltb-true days (days_in_month (pos year) month) e))
    by_case false e next =
        let few = ltb-false days (days_in_month (pos year) month) e in
        let same : base + days_in_month (pos year) month + (days - days_in_month (pos year) month) ≡ base + days = omega (arith, few) in
        let early : pos (base + days_in_month (pos year) month + (days - days_in_month (pos year) month)) <ℤ place (year + 1) 1 1 =
        subst (λ n. pos n <ℤ place (year + 1) 1 1) (sym same) before in
        subst (λ n. IsDay n (in_month most year (month + 1) (days - days_in_month (pos year) month))) same (next early)

in_january : (year days base : ℕ) → place year 1 1 ≡ pos base → pos (base + days) <ℤ place (year + 1) 1 1 →
    IsDay (base + days) (in_month 11 year 1 days)
in_january year days base at before = in_month_is 11 year 1 days base (omega arith) (omega arith) at before

in_year_is : (most year days base : ℕ) → year + most ≡ 9999 → place year 1 1 ≡ pos base → pos (base + days) <ℤ place 10000 1 1 →
    IsDay (base + days) (in_year most year days)
unfolding in_year
in_year_is zero year days base rest at before =
    let last : 10000 ≡ year + 1 = omega arith in
    in_january year days base at (subst (λ y. pos (base + days) <ℤ place y 1 1) last before)
in_year_is (suc most) year days base rest at before =
    by_case (nat_lt days (days_in_year year)) refl
    (λ early. in_year_is most (year + 1) (days - days_in_year year) (base + days_in_year year) (omega arith) (year_place year base at)
    early)
  where
    by_case : (b : Bool) → nat_lt days (days_in_year year) ≡ b →
        (pos (base + days_in_year year + (days - days_in_year year)) <ℤ place 10000 1 1 →
        IsDay (base + days_in_year year + (days - days_in_year year)) (in_year most (year + 1) (days - days_in_year year))) →
        IsDay (base + days) (cond b (in_month 11 year 1 days) (in_year most (year + 1) (days - days_in_year year)))
    by_case true e next = in_january year days base at
        (omega (arith, signed_arith, year_place year base at, ltb-true days (days_in_year year) e))
    by_case false e next =
        let few = ltb-false days (days_in_year year) e in
        let same : base + days_in_year year + (days - days_in_year year) ≡ base + days = omega (arith, few) in
        let early : pos (base + days_in_year year + (days - days_in_year year)) <ℤ place 10000 1 1 = subst (λ n. pos n <ℤ place 10000 1 1)
        (sym same) before in
        subst (λ n. IsDay n (in_year most (year + 1) (days - days_in_year year))) same (next early)

last_place : place 10000 1 1 ≡ pos 3652425
last_place =
    let low : neg_ℤ (pos 10000) ≤ℤ pos 9999 = omega (arith, signed_arith) in
    let more : pos 10000 ≡ pos 9999 +ℤ pos 1 = refl in
    omega (arith, signed_arith, days_from_civil-max, days_from_civil-next_year (pos 9999) (pos 10000) low more)

-- the date by whole years is the n-th day's
pub by_years : (n : ℕ) → n ≤ 3652424 → IsDay n (in_year 9999 0 n)
by_years n le =
    let first : place 0 1 1 ≡ pos 0 = omega (arith, signed_arith, year_zero) in
    let same : 0 + n ≡ n = omega arith in
    subst (λ k. IsDay k (in_year 9999 0 n)) same
    (in_year_is 9999 0 n 0 refl first (omega (arith, signed_arith, last_place)))

-- a day's number from 0000-01-01
pub day_place_of : (day : ℤ) → is_date day ≡ true → (pos (days_before day) ≡ day +ℤ pos 719528) × (days_before day ≤ 3652424)
day_place_of day is =
    let r = date_range day is in
    let large : pos 0 ≤ℤ (day +ℤ pos 719528) = omega (arith, signed_arith, r.0) in
    let exact = natural (day +ℤ pos 719528) large in
    (sym exact, omega (arith, signed_arith, r.1, exact))

pub text_is : (d : Date) (day : ℤ) → is_date day ≡ true → epoch_day d ≡ day → jiff.date_text d ≡ date_text day
unfolding date_text
text_is d day is at =
    let p = day_place_of day is in
    same_day_text d (days_before day) (in_year 9999 0 (days_before day)) (by_years (days_before day) p.1) (ap (λ z. z +ℤ pos 719528) at ∙
    sym p.0)

pub dates_count : DatesCountDays
unfolding date_text
dates_count day is =
    let n = days_before day in
    let le = (day_place_of day is).1 in
    let c = in_year 9999 0 n in
    let at = by_years n le in
    sym (date_at_text n c at le) ∙ same_day_text (date_at n c at le) n (civil_after n) (counted n) (date_at_number n c at le)

pub texts_apart : (d e : ℤ) → is_date d ≡ true → is_date e ≡ true → date_text d ≡ date_text e → d ≡ e
unfolding date_text
texts_apart d e is_d is_e same =
    let p = day_place_of d is_d in
    let q = day_place_of e is_e in
    let a = by_years (days_before d) p.1 in
    let b = by_years (days_before e) q.1 in
    let x = date_at (days_before d) (in_year 9999 0 (days_before d)) a p.1 in
    let y = date_at (days_before e) (in_year 9999 0 (days_before e)) b q.1 in
    let days = same_text_day x y (date_at_text (days_before d) (in_year 9999 0 (days_before d)) a p.1 ∙ same ∙
    sym (date_at_text (days_before e) (in_year 9999 0 (days_before e)) b q.1)) in
    omega (
      arith,
      signed_arith,
      days,
      p.0,
      q.0,
      date_at_number (days_before d) (in_year 9999 0 (days_before d)) a p.1,
      date_at_number (days_before e) (in_year 9999 0 (days_before e)) b q.1,
    )
