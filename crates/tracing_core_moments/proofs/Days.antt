use Rattle.std.proofs.Common.{arith, ◌≡◌, ◌∙◌, ap, pos, ◌+ℤ◌, ℤ}
use Rattle.jiff.specs.Types.{Date}
use Rattle.jiff.specs.Words.{epoch_day, IsYmd}
use Rattle.jiff.proofs.SpanFacts.{signed_arith}
use Rattle.jiff_core.specs.Calendar.{days_from_civil}
use Rattle.jiff_core.proofs.StandardFacts.{known_days}

pub first_day : (d : Date) → IsYmd (pos 1970) (pos 1) (pos 1) d → epoch_day d ≡ pos 0
first_day d h =
    let m : d.month ≡ 1 = cc in
    let n : d.day ≡ 1 = cc in
    ap (λ y. days_from_civil y d.month d.day) h.0 ∙ ap (λ x. days_from_civil (pos 1970) x d.day) m ∙
    ap (λ x. days_from_civil (pos 1970) 1 x) n ∙ known_days.0

pub past_zero : (e d : ℤ) → e ≡ pos 0 → e +ℤ d ≡ d
past_zero e d h = omega (arith, signed_arith)
