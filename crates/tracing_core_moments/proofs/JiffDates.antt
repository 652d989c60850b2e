-- Counting the days gives the dates of jiff.
use Rattle.std.proofs.Common.{arith, ◌≡◌, ◌∙◌, ap, pos, negsuc, neg_ℤ, ◌+ℤ◌, ◌≤ℤ◌, ◌<ℤ◌, ◌≤◌, ◌<◌, ◌+◌, refl, ℕ, ℤ, zero, suc, Bool, true}
use Rattle.std.proofs.Common.{false, cond}
use Rattle.std.specs.Prelude.{nat_lt, unsigned_abs}
use Rattle.std.proofs.lemmas.Bool.{ltb-true, ltb-false, cases_lt}
use Rattle.std.proofs.Common.{inl, inr}
use Rattle.jiff.specs.Types.{Date}
use Rattle.jiff.specs.Words.{epoch_day, date_text}
use Rattle.jiff.proofs.Family.{epoch_day_range, days_from_civil-max, same_date, days_from_civil-day, days_from_civil-next_month}
use Rattle.jiff.proofs.Family.{days_from_civil-next_year}
use Rattle.jiff.proofs.SpanFacts.{signed_arith}
use Rattle.jiff_core.specs.Calendar.{days_from_civil, days_in_month, IsCivilDate}
use Rattle.jiff_core.proofs.CalendarLemmas.{day_count-lt_year, days_from_civil-day_count}
use Rattle.tracing_core_moments.specs.Calendar.{Civil, next_day, civil_after, civil_text}
use Rattle.tracing_core_moments.proofs.Texts.{year_zero}

pub record IsDay (n : ℕ) (c : Civil) : Type 0 where
  pub month_from : 1 ≤ c.month
  pub month_to : c.month ≤ 12
  pub day_from : 1 ≤ c.day
  pub day_to : c.day ≤ days_in_month (pos c.year) c.month
  pub number : days_from_civil (pos c.year) c.month c.day +ℤ pos 719528 ≡ pos n

pub some_days : (y : ℤ) (m : ℕ) → 1 ≤ days_in_month y m
some_days y m = grind arith

next_is : (n : ℕ) (c : Civil) → IsDay n c → IsDay (suc n) (next_day c)
next_is n c is = by_day (nat_lt c.day (days_in_month (pos c.year) c.month)) refl
  where
    by_month : (b : Bool) → nat_lt c.month 12 ≡ b → c.day ≡ days_in_month (pos c.year) c.month →
        IsDay (suc n) (cond b (record { year = c.year; month = c.month + 1; day = 1 }) (record { year = c.year + 1; month = 1; day = 1 }))
    by_month true e last = record {
      month_from = omega arith;
      month_to = omega (arith, ltb-true c.month 12 e);
      day_from = omega arith;
      day_to = some_days (pos c.year) (c.month + 1);
      number = omega (arith, signed_arith, is.number, days_from_civil-next_month (pos c.year) c.month c.day is.month_from last);
    }
    by_month false e last =
        let twelve : c.month ≡ 12 = omega (arith, ltb-false c.month 12 e, is.month_to) in
        let end : c.day ≡ 31 = last ∙ ap (days_in_month (pos c.year)) twelve in
        let here : days_from_civil (pos c.year) c.month c.day ≡ days_from_civil (pos c.year) 12 31 =
        ap (λ m. days_from_civil (pos c.year) m c.day) twelve ∙ ap (days_from_civil (pos c.year) 12) end in
        let low : neg_ℤ (pos 10000) ≤ℤ pos c.year = omega (arith, signed_arith) in
        let more : pos (c.year + 1) ≡ pos c.year +ℤ pos 1 = omega (arith, signed_arith) in
        record {
          month_from = omega arith;
          month_to = omega arith;
          day_from = omega arith;
          day_to = some_days (pos (c.year + 1)) 1;
          number = omega (arith, signed_arith, is.number, here, days_from_civil-next_year (pos c.year) (pos (c.year + 1)) low more);
        }

    by_day : (b : Bool) → nat_lt c.day (days_in_month (pos c.year) c.month) ≡ b →
        IsDay (suc n) (cond b (record c { day = c.day + 1 })
        (cond (nat_lt c.month 12) (record { year = c.year; month = c.month + 1; day = 1 })
        (record { year = c.year + 1; month = 1; day = 1 })))
    by_day true e =
        let up : 1 ≤ c.day + 1 = omega arith in
        record {
          month_from = is.month_from;
          month_to = is.month_to;
          day_from = omega arith;
          day_to = omega (arith, ltb-true c.day (days_in_month (pos c.year) c.month) e);
          number = omega (arith, signed_arith, is.number, days_from_civil-day (pos c.year) c.month c.day (c.day + 1) is.day_from up);
        }
    by_day false e = by_month (nat_lt c.month 12) refl (omega (arith, ltb-false c.day (days_in_month (pos c.year) c.month) e, is.day_to))

pub counted : (n : ℕ) → IsDay n (civil_after n)
unfolding civil_after
counted zero = record {
  month_from = omega arith;
  month_to = omega arith;
  day_from = omega arith;
  day_to = some_days (pos 0) 1;
  number =
      omega (arith, signed_arith, year_zero);
}
counted (suc n) = next_is n (civil_after n) (counted n)

abbrev last_date : IsCivilDate (pos 9999) 12 31
last_date = ((omega (arith, signed_arith), omega (arith, signed_arith)), (omega arith, omega arith), (omega arith, omega arith))

pub year_small : (n : ℕ) (c : Civil) → IsDay n c → n ≤ 3652424 → c.year ≤ 9999
year_small n c is le = elim (cases_lt 9999 c.year) [ inl large ↦ absurd (too_large large) | inr small ↦ small ]
  where
    too_large : 9999 < c.year → ⊥
    too_large large =
        let above : pos 9999 <ℤ pos c.year = omega (arith, signed_arith) in
        let more = day_count-lt_year (pos 9999) 12 31 (pos c.year) c.month c.day last_date is.day_from above in
        omega (
          arith,
          signed_arith,
          is.number,
          days_from_civil-max,
          days_from_civil-day_count (pos 9999) 12 31,
          days_from_civil-day_count (pos c.year) c.month c.day,
        )

-- the date of jiff
pub date_at : (n : ℕ) (c : Civil) → IsDay n c → n ≤ 3652424 → Date
date_at n c is le =
    let small = year_small n c is le in
    record {
      year = pos c.year;
      month = c.month;
      day = c.day;
      year_in = (omega (arith, signed_arith), omega (arith, signed_arith));
      month_in = (is.month_from, is.month_to);
      day_in = (is.day_from, is.day_to);
    }

pub date_at_number : (n : ℕ) (c : Civil) (is : IsDay n c) (le : n ≤ 3652424) → epoch_day (date_at n c is le) +ℤ pos 719528 ≡ pos n
unfolding date_at
date_at_number n c is le = is.number

pub date_at_text : (n : ℕ) (c : Civil) (is : IsDay n c) (le : n ≤ 3652424) → date_text (date_at n c is le) ≡ civil_text c
unfolding date_at
date_at_text n c is le = refl

pub same_day_text : (d : Date) (n : ℕ) (c : Civil) → IsDay n c → epoch_day d +ℤ pos 719528 ≡ pos n → date_text d ≡ civil_text c
same_day_text d n c is number =
    let range = epoch_day_range d in
    let le : n ≤ 3652424 = omega (arith, signed_arith, range.1) in
    let same : epoch_day d ≡ epoch_day (date_at n c is le) = omega (arith, signed_arith, number, date_at_number n c is le) in
    ap date_text (same_date d (date_at n c is le) same) ∙ date_at_text n c is le

pub natural : (z : ℤ) → pos 0 ≤ℤ z → z ≡ pos (unsigned_abs z)
natural (pos n) h = refl
natural (negsuc n) h = absurd (omega (arith, signed_arith))
