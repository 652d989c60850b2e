-- Seconds, their days and clocks, and their stamps.
use Rattle.std.proofs.Common.{arith, ◌≡◌, ◌≢◌, ◌∙◌, sym, ap, refl, true, pos, ◌+ℤ◌, ◌*ℤ◌, ◌<◌, ◌/◌, ◌%◌, ℕ, ℤ, List, [], ◌++◌}
use Rattle.std.proofs.lemmas.List.{append_cancel_right}
use Rattle.jiff_core.proofs.SignedLemmas.{signed_arith}
use Rattle.tracing_core_moments.specs.declared.period.PeriodKind.{PeriodKind}
use Rattle.tracing_core_moments.specs.declared.period.PeriodKind.TheVariants.{Minute, Hour, Day, Week, Whole}
use Rattle.tracing_core_moments.specs.Days.{is_date, day_at}
use Rattle.tracing_core_moments.specs.Calendar.{civil_text, date_text}
use Rattle.tracing_core_moments.specs.Stamps.{clock_at, hour_text, clock_part, told_part, stamp, stamped}
use Rattle.tracing_core_moments.proofs.Digits.{civil_same, field_same}
use Rattle.tracing_core_moments.proofs.DatesFromText.{shape}
use Rattle.tracing_core_moments.proofs.Years.{texts_apart}

-- the seconds of a day, and the second on its clock
pub clock_is : (s : ℤ) → (s ≡ (day_at s *ℤ pos 86400) +ℤ pos (clock_at s)) × (clock_at s < 86400)
clock_is s = (omega (arith, signed_arith), omega (arith, signed_arith))

-- the other way
pub on_day : (day : ℤ) (clock : ℕ) → clock < 86400 → (day_at ((day *ℤ pos 86400) +ℤ pos clock) ≡ day) ×
    (clock_at ((day *ℤ pos 86400) +ℤ pos clock) ≡ clock)
on_day day clock lt = (omega (arith, signed_arith, lt), omega (arith, signed_arith, lt))

-- the date in front of a stamp
pub date_front : (d e : ℤ) (xs ys : List ℕ) → is_date d ≡ true → is_date e ≡ true → date_text d ++ xs ≡ date_text e ++ ys →
    (d ≡ e) × (xs ≡ ys)
date_front d e xs ys is_d is_e same =
    let a = shape d is_d in
    let b = shape e is_e in
    let spelled : civil_text a.civil ++ xs ≡ civil_text b.civil ++ ys = ap (λ (t : List ℕ). t ++ xs) (sym a.text) ∙ same ∙
    ap (λ (t : List ℕ). t ++ ys) b.text in
    let rest = (civil_same a.civil b.civil xs ys a.small b.small spelled).1 in
    let texts : date_text d ≡ date_text e = append_cancel_right (date_text d) (date_text e) ys
    (ap (λ (t : List ℕ). date_text d ++ t) (sym rest) ∙ same) in
    (texts_apart d e is_d is_e texts, rest)

-- clocks with one text tell one part
told_same : (kind : PeriodKind) (a b : ℕ) → a < 86400 → b < 86400 → clock_part kind a ≡ clock_part kind b →
    told_part kind a ≡ told_part kind b
told_same Minute a b la lb e =
    let hours : a / 3600 < 100 = omega (arith, la) in
    let more : b / 3600 < 100 = omega (arith, lb) in
    let minutes : a % 3600 / 60 < 100 = omega arith in
    let others : b % 3600 / 60 < 100 = omega arith in
    let first = field_same (a / 3600) (b / 3600) (hour_text (a % 3600 / 60)) (hour_text (b % 3600 / 60)) hours more e in
    let second = field_same (a % 3600 / 60) (b % 3600 / 60) [] [] minutes others first.1 in
    omega (arith, first.0, second.0)
told_same Hour a b la lb e =
    let hours : a / 3600 < 100 = omega (arith, la) in
    let more : b / 3600 < 100 = omega (arith, lb) in
    let first = field_same (a / 3600) (b / 3600) [] [] hours more e in
    omega (arith, first.0)
told_same Day a b la lb e = refl
told_same Week a b la lb e = refl
told_same Whole a b la lb e = refl

-- a stamp tells its second
pub stamps_apart : (kind : PeriodKind) (s t : ℤ) → is_date (day_at s) ≡ true → is_date (day_at t) ≡ true → stamp kind s ≡ stamp kind t →
    stamped kind s ≡ stamped kind t
stamps_apart kind s t is_s is_t e =
    let front = date_front (day_at s) (day_at t) (clock_part kind (clock_at s)) (clock_part kind (clock_at t)) is_s is_t e in
    let part = told_same kind (clock_at s) (clock_at t) (clock_is s).1 (clock_is t).1 front.1 in
    ap (λ d. (d *ℤ pos 86400) +ℤ pos (told_part kind (clock_at s))) front.0 ∙ ap (λ n. (day_at t *ℤ pos 86400) +ℤ pos n) part

-- reading a clock
pub record ReadsClock (kind : PeriodKind) (bytes : List ℕ) (clock : ℕ) : Type 0 where
  pub small : clock < 86400
  pub whole : told_part kind clock ≡ clock
  pub text : bytes ≡ clock_part kind clock

-- what was read
pub stamp_read : (kind : PeriodKind) (bytes rest : List ℕ) (day : ℤ) (clock : ℕ) (s : ℤ) → s ≡ (day *ℤ pos 86400) +ℤ pos clock →
    is_date day ≡ true → bytes ≡ date_text day ++ rest → clock < 86400 → told_part kind clock ≡ clock → rest ≡ clock_part kind clock →
    (is_date (day_at s) ≡ true) × (stamped kind s ≡ s) × (bytes ≡ stamp kind s)
stamp_read kind bytes rest day clock s sum is front small whole text =
    let o = on_day day clock small in
    let here : day_at s ≡ day = ap day_at sum ∙ o.0 in
    let at : clock_at s ≡ clock = ap clock_at sum ∙ o.1 in (
      ap is_date here ∙ is,
      ap (λ d. (d *ℤ pos 86400) +ℤ pos (told_part kind (clock_at s))) here ∙ ap (λ n. (day *ℤ pos 86400) +ℤ pos (told_part kind n)) at ∙
          ap (λ n. (day *ℤ pos 86400) +ℤ pos n) whole ∙ sym sum,
      front ∙ ap (λ (t : List ℕ). date_text day ++ t) text ∙ ap (λ d. date_text d ++ clock_part kind clock) (sym here) ∙
          ap (λ n. date_text (day_at s) ++ clock_part kind n) (sym at),
    )

-- what can't be read
pub stamp_unread : (kind : PeriodKind) (bytes rest : List ℕ) (day : ℤ) → is_date day ≡ true → bytes ≡ date_text day ++ rest →
    ((clock : ℕ) → clock < 86400 → rest ≢ clock_part kind clock) → (s : ℤ) → is_date (day_at s) ≡ true → bytes ≢ stamp kind s
stamp_unread kind bytes rest day is front none s is_s e =
    none (clock_at s) (clock_is s).1 (date_front day (day_at s) rest (clock_part kind (clock_at s)) is is_s (sym front ∙ e)).1
