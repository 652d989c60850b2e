-- Reading dates: what a text tells, and that nothing else does.
use Rattle.std.proofs.Common.{arith, ◌≡◌, ◌≢◌, ◌∙◌, sym, ap, refl, true, pos, negsuc, neg_ℤ, ◌+ℤ◌, ◌≤ℤ◌, ◌<ℤ◌, ◌<◌, ◌≤◌, ◌+◌, ◌*◌, ◌/◌, ◌%◌}
use Rattle.std.proofs.Common.{ℕ, ℤ, List, ◌++◌}
use Rattle.jiff.specs.Types.{Date}
use Rattle.jiff.specs.Words.{epoch_day}
use Rattle.jiff.proofs.Family.{epoch_day_range, days_from_civil-next_year}
use Rattle.jiff.proofs.SpanFacts.{signed_arith}
use Rattle.jiff_core.specs.Calendar.{days_from_civil, days_in_month, IsCivilDate}
use Rattle.jiff_core.proofs.CalendarLemmas.{day_count-lt_year, days_from_civil-day_count}
use Rattle.tracing_core_moments.specs.Days.{is_date}
use Rattle.tracing_core_moments.specs.Calendar.{Civil, two_digits, civil_text, days_before, in_year, date_text}
use Rattle.tracing_core_moments.specs.Stamps.{hour_text}
use Rattle.tracing_core_moments.proofs.Range.{is_date_from}
use Rattle.tracing_core_moments.proofs.Texts.{year_zero}
use Rattle.tracing_core_moments.proofs.JiffDates.{IsDay, year_small, same_day_text}
use Rattle.tracing_core_moments.proofs.Years.{by_years, day_place_of, text_is}
use Rattle.tracing_core_moments.proofs.Digits.{IsSmall, SameFields, civil_same, two_same, field_same}

-- the date of a day
pub record Shape (day : ℤ) : Type 0 where
  pub civil : Civil
  pub text : date_text day ≡ civil_text civil
  pub small : IsSmall civil
  pub month_from : 1 ≤ civil.month
  pub month_to : civil.month ≤ 12
  pub day_from : 1 ≤ civil.day
  pub day_to : civil.day ≤ days_in_month (pos civil.year) civil.month

few_days : (year : ℤ) (month : ℕ) → days_in_month year month < 100
few_days year month = grind arith

pub shape : (day : ℤ) → is_date day ≡ true → Shape day
unfolding date_text
shape day is =
    let p = day_place_of day is in
    let c = in_year 9999 0 (days_before day) in
    let at = by_years (days_before day) p.1 in
    let year = year_small (days_before day) c at p.1 in
    let days = few_days (pos c.year) c.month in
    record {
      civil = c;
      text = refl;
      small = record { year = omega (arith, year); month = omega (arith, at.month_to); day = omega (arith, at.day_to, days) };
      month_from = at.month_from;
      month_to = at.month_to;
      day_from = at.day_from;
      day_to = at.day_to;
    }

-- dates of jiff from the year 0 on
pub since_zero : (d : Date) → pos 0 ≤ℤ d.year → is_date (epoch_day d) ≡ true
since_zero d from =
    let one : 1 ≤ d.day = d.day_in.0 in
    let last : IsCivilDate (negsuc 0) 12 31 = (
      (omega (arith, signed_arith), omega (arith, signed_arith)),
      (omega arith, omega arith),
      (omega arith, omega arith),
    ) in
    let lt : negsuc 0 <ℤ d.year = omega (arith, signed_arith, from) in
    let below = day_count-lt_year (negsuc 0) 12 31 d.year d.month d.day last one lt in
    let low : neg_ℤ (pos 10000) ≤ℤ negsuc 0 = omega (arith, signed_arith) in
    let next : pos 0 ≡ negsuc 0 +ℤ pos 1 = refl in
    let first = days_from_civil-next_year (negsuc 0) (pos 0) low next in
    is_date_from (epoch_day d)
    (omega (
      arith,
      signed_arith,
      below,
      first,
      year_zero,
      days_from_civil-day_count (negsuc 0) 12 31,
      days_from_civil-day_count d.year d.month d.day,
    ))
    (omega (arith, signed_arith, (epoch_day_range d).1))

-- a date in front, against the fields that were read
module _ (bytes : List ℕ) (day : ℤ) (rest : List ℕ) (is : is_date day ≡ true) (whole : bytes ≡ date_text day ++ rest) where
  spelled : bytes ≡ two_digits ((shape day is).civil.year / 100) ++
      (two_digits ((shape day is).civil.year % 100) ++
      (hour_text (shape day is).civil.month ++ (hour_text (shape day is).civil.day ++ rest)))
  spelled = whole ∙ ap (λ (t : List ℕ). t ++ rest) (shape day is).text

  century_small : (shape day is).civil.year / 100 < 100
  century_small = omega (arith, (shape day is).small.year)

  rest_small : (shape day is).civil.year % 100 < 100
  rest_small = omega arith

  pub no_century : ((n : ℕ) (r : List ℕ) → n < 100 → bytes ≢ two_digits n ++ r) → ⊥
  no_century none = none ((shape day is).civil.year / 100) (two_digits ((shape day is).civil.year % 100) ++
      (hour_text (shape day is).civil.month ++ (hour_text (shape day is).civil.day ++ rest))) century_small spelled

  after_century : (century : ℕ) (r : List ℕ) → century < 100 → bytes ≡ two_digits century ++ r →
      r ≡ two_digits ((shape day is).civil.year % 100) ++
      (hour_text (shape day is).civil.month ++ (hour_text (shape day is).civil.day ++ rest))
  after_century century r lt read =
      (two_same century ((shape day is).civil.year / 100) r (two_digits ((shape day is).civil.year % 100) ++
      (hour_text (shape day is).civil.month ++ (hour_text (shape day is).civil.day ++ rest))) lt century_small (sym read ∙ spelled)).1

  pub no_year : (century : ℕ) (r : List ℕ) → century < 100 → bytes ≡ two_digits century ++ r →
      ((n : ℕ) (q : List ℕ) → n < 100 → r ≢ two_digits n ++ q) → ⊥
  no_year century r lt read none = none ((shape day is).civil.year % 100) (hour_text (shape day is).civil.month ++
      (hour_text (shape day is).civil.day ++ rest)) rest_small (after_century century r lt read)

  after_year : (century : ℕ) (r : List ℕ) → century < 100 → bytes ≡ two_digits century ++ r → (year : ℕ) (q : List ℕ) → year < 100 →
      r ≡ two_digits year ++ q → q ≡ hour_text (shape day is).civil.month ++ (hour_text (shape day is).civil.day ++ rest)
  after_year century r lt read year q lu seen =
      (two_same year ((shape day is).civil.year % 100) q (hour_text (shape day is).civil.month ++
      (hour_text (shape day is).civil.day ++ rest)) lu rest_small (sym seen ∙ after_century century r lt read)).1

  pub no_month : (century : ℕ) (r : List ℕ) → century < 100 → bytes ≡ two_digits century ++ r → (year : ℕ) (q : List ℕ) → year < 100 →
      r ≡ two_digits year ++ q → ((n : ℕ) (p : List ℕ) → n < 100 → q ≢ hour_text n ++ p) → ⊥
  no_month century r lt read year q lu seen none = none (shape day is).civil.month (hour_text (shape day is).civil.day ++ rest)
      (shape day is).small.month (after_year century r lt read year q lu seen)

  pub no_day : (century : ℕ) (r : List ℕ) → century < 100 → bytes ≡ two_digits century ++ r → (year : ℕ) (q : List ℕ) → year < 100 →
      r ≡ two_digits year ++ q → (month : ℕ) (p : List ℕ) → month < 100 → q ≡ hour_text month ++ p →
      ((n : ℕ) (o : List ℕ) → n < 100 → p ≢ hour_text n ++ o) → ⊥
  no_day century r lt read year q lu seen month p lv told none =
      none (shape day is).civil.day rest (shape day is).small.day
      (field_same month (shape day is).civil.month p (hour_text (shape day is).civil.day ++ rest) lv (shape day is).small.month
      (sym told ∙ after_year century r lt read year q lu seen)).1

-- the fields that were read make a date's text
pub joined : (bytes : List ℕ) (century : ℕ) (r : List ℕ) → century < 100 → bytes ≡ two_digits century ++ r → (year : ℕ) (q : List ℕ) →
    year < 100 → r ≡ two_digits year ++ q → (month : ℕ) (p : List ℕ) → q ≡ hour_text month ++ p → (day : ℕ) (o : List ℕ) →
    p ≡ hour_text day ++ o → bytes ≡ civil_text (record { year = century * 100 + year; month = month; day = day }) ++ o
joined bytes century r lt read year q lu seen month p told day o last =
    let high : century ≡ (century * 100 + year) / 100 = omega (arith, lt, lu) in
    let low : year ≡ (century * 100 + year) % 100 = omega (arith, lt, lu) in
    read ∙ ap (λ (x : List ℕ). two_digits century ++ x)
    (seen ∙ ap (λ (x : List ℕ). two_digits year ++ x) (told ∙ ap (λ (x : List ℕ). hour_text month ++ x) last))
    ∙ ap (λ (n : ℕ). two_digits n ++ (two_digits year ++ (hour_text month ++ (hour_text day ++ o)))) high
    ∙ ap (λ (n : ℕ). two_digits ((century * 100 + year) / 100) ++ (two_digits n ++ (hour_text month ++ (hour_text day ++ o)))) low

-- no date has these fields
pub no_date : (c : Civil) → IsSmall c → ((number : ℤ) → is_date number ≡ true → date_text number ≢ civil_text c) → (bytes o : List ℕ) →
    bytes ≡ civil_text c ++ o → (day : ℤ) (rest : List ℕ) → is_date day ≡ true → bytes ≢ date_text day ++ rest
no_date c small none bytes o read day rest is whole =
    let s = shape day is in
    let same = civil_same s.civil c rest o s.small small (ap (λ (t : List ℕ). t ++ rest) (sym s.text) ∙ sym whole ∙ read) in
    none day is (s.text ∙ same_text s.civil c same.0)
  where
    same_text : (a b : Civil) → SameFields a b → civil_text a ≡ civil_text b
    same_text a b f =
        ap (λ (y : ℕ). civil_text (record { year = y; month = a.month; day = a.day })) f.year
        ∙ ap (λ (m : ℕ). civil_text (record { year = b.year; month = m; day = a.day })) f.month
        ∙ ap (λ (d : ℕ). civil_text (record { year = b.year; month = b.month; day = d })) f.day

-- the date of jiff with these fields
pub dated : (d : Date) (c : Civil) → d.year ≡ pos c.year → d.month ≡ c.month → d.day ≡ c.day → (is_date (epoch_day d) ≡ true) ×
    (date_text (epoch_day d) ≡ civil_text c)
dated d c y m n =
    let from : pos 0 ≤ℤ d.year = omega (arith, signed_arith, y) in
    let is = since_zero d from in
    let p = day_place_of (epoch_day d) is in
    let same : epoch_day d ≡ days_from_civil (pos c.year) c.month c.day = ap (λ z. days_from_civil z d.month d.day) y ∙
    ap (λ k. days_from_civil (pos c.year) k d.day) m ∙ ap (days_from_civil (pos c.year) c.month) n in
    let length : days_in_month d.year d.month ≡ days_in_month (pos c.year) c.month = ap (λ z. days_in_month z d.month) y ∙
    ap (days_in_month (pos c.year)) m in
    let at : IsDay (days_before (epoch_day d)) c = record {
      month_from = omega (arith, d.month_in.0, m);
      month_to = omega (arith, d.month_in.1, m);
      day_from = omega (arith, d.day_in.0, n);
      day_to = omega (arith, d.day_in.1, n, length);
      number = ap (λ z. z +ℤ pos 719528) (sym same) ∙ sym p.0;
    } in
    (is, sym (text_is d (epoch_day d) is refl) ∙ same_day_text d (days_before (epoch_day d)) c at (sym p.0))
