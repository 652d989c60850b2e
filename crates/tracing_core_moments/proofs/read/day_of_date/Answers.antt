use Rattle.std.proofs.Common.{◌≡◌, ◌∙◌, sym, ap, arith, pos, ◌++◌, ℕ, List, [], w8, w16, w32, w64, to_z, of_z}
use Rattle.std.proofs.lemmas.Bool.{false≢true}
use borrow.Author.Differences.{ints}
use Rattle.jiff.specs.Words.{epoch_day}
use Rattle.tracing_core_moments.specs.Days.{is_date}
use Rattle.tracing_core_moments.specs.Calendar.{Civil, date_text}
use Rattle.tracing_core_moments.proofs.DatesFromText.{dated, shape}
use Rattle.tracing_core_moments.proofs.Digits.{civil_same}
use Rattle.std.specs.Prelude.{unsigned_abs}
use Rattle.jiff_core.specs.Calendar.{days_in_month}
use Rattle.tracing_core_moments.proofs.read.day_of_date.Goals as goal

pub returns-in-Ok-clause-some : goal.returns-in-Ok-clause-some
returns-in-Ok-clause-some c =
    let d = c.in-Ok.date in
    let fields : Civil = record { year = c.args.year; month = c.args.month; day = c.args.day } in
    let year : d.year ≡ pos c.args.year = omega (arith, ints, c.in-Ok.ensures.value.0, c.requires.0) in
    let month : d.month ≡ c.args.month = omega (arith, ints, c.in-Ok.ensures.value.1, c.requires.1) in
    let day : d.day ≡ c.args.day = omega (arith, ints, c.in-Ok.ensures.value.2, c.requires.2) in
    let both = dated d fields year month day in
    let plain : epoch_day c.to_plain.result ≡ epoch_day d = ap epoch_day c.to_plain.ensures in
    let same : epoch_day d ≡ to_z w64 (of_z w64 (to_z w32 (of_z w32 c.to_unix_epoch_day.result))) =
    omega (arith, ints, plain, c.to_unix_epoch_day.ensures.value, c.to_unix_epoch_day.ensures.bound) in
    (ap is_date (sym same) ∙ both.0, ap date_text (sym same) ∙ both.1)

pub returns-in-Err-clause-none : goal.returns-in-Err-clause-none
returns-in-Err-clause-none c = λ number is text.
    let fields : Civil = record { year = c.args.year; month = c.args.month; day = c.args.day } in
    let s = shape number is in
    let same = (civil_same s.civil fields [] [] s.small (record { year = c.requires.0; month = c.requires.1; day = c.requires.2 })
    (ap (λ (t : List ℕ). t ++ []) (sym s.text ∙ text))).0 in
    let year : to_z w16 c.args.year ≡ pos s.civil.year = omega (arith, ints, c.requires.0, same.year) in
    let month : unsigned_abs (to_z w8 c.args.month) ≡ s.civil.month = omega (arith, ints, c.requires.1, same.month) in
    let days : days_in_month (to_z w16 c.args.year) (unsigned_abs (to_z w8 c.args.month)) ≡ days_in_month (pos s.civil.year) s.civil.month =
    ap (λ y. days_in_month y (unsigned_abs (to_z w8 c.args.month))) year ∙ ap (days_in_month (pos s.civil.year)) month in
    false≢true (c.in-Err.ensures.succeeds.1 (
      (omega (arith, ints, c.requires.0), omega (arith, ints, c.requires.0)),
      (omega (arith, ints, c.requires.1, same.month, s.month_from), omega (arith, ints, c.requires.1, same.month, s.month_to)),
      (omega (arith, ints, c.requires.2, same.day, s.day_from), omega (arith, ints, c.requires.2, same.day, s.day_to, days)),
    ))
