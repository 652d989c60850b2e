-- A date text is of one day.
use Rattle.std.proofs.Common.{◌≡◌, ◌∙◌, ap, sym, pos, neg_ℤ, refl, Ok}
use Rattle.jiff.specs.Types.{Date}
use Rattle.jiff.specs.Words.{epoch_day, date_text, date_parts, parse_date}
use Rattle.jiff.proofs.Family.{parse_date-date_text}
use Rattle.jiff_core.specs.Calendar.{days_from_civil, day_count, days_of_years, days_of_months}

pub same_text_day : (a b : Date) → date_text a ≡ date_text b → epoch_day a ≡ epoch_day b
same_text_day a b e =
    let read : Ok (date_parts a) ≡ Ok (date_parts b) = sym (parse_date-date_text a) ∙ ap parse_date e ∙ parse_date-date_text b in
    let parts : date_parts a ≡ date_parts b = cc in
    ap (λ p. days_from_civil p.year p.month p.day) parts

pub year_zero : days_from_civil (pos 0) 1 1 ≡ neg_ℤ (pos 719528)
unfolding days_from_civil day_count days_of_years days_of_months
year_zero = refl
