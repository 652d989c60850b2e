-- The digits of a number behind a million.
use Rattle.std.proofs.Common.{◌≡◌, ℕ, ◌+◌, ◌/◌, ◌%◌, ◌<◌, ◌∷◌, arith}
use Rattle.std.proofs.lemmas.Fmt.{decimal_digit, decimal_step}
use Rattle.std.specs.Fmt.{decimal}
use Rattle.event_formatter_lines.specs.times.Digits.{six_digits}

pub behind_one : (n : ℕ) → n < 1000000 → decimal (1000000 + n) ≡ 49 ∷ six_digits n
behind_one n small =
    let m = 1000000 + n in
    let d1 = m / 10 in
    let d2 = d1 / 10 in
    let d3 = d2 / 10 in
    let d4 = d3 / 10 in
    let d5 = d4 / 10 in
    let one : d5 / 10 ≡ 1 = omega arith in
    let a : m % 10 ≡ n % 1000 % 100 % 10 = omega arith in
    let b : d1 % 10 ≡ n % 1000 % 100 / 10 = omega arith in
    let c : d2 % 10 ≡ n % 1000 / 100 = omega arith in
    let d : d3 % 10 ≡ n / 1000 % 100 % 10 = omega arith in
    let e : d4 % 10 ≡ n / 1000 % 100 / 10 = omega arith in
    let f : d5 % 10 ≡ n / 1000 / 100 = omega arith in
    rw (
      decimal_step m (omega arith) (omega arith),
      decimal_step d1 (omega arith) (omega arith),
      decimal_step d2 (omega arith) (omega arith),
      decimal_step d3 (omega arith) (omega arith),
      decimal_step d4 (omega arith) (omega arith),
      decimal_step d5 (omega arith) (omega arith),
      one,
      decimal_digit 1 (omega arith),
      a,
      b,
      c,
      d,
      e,
      f,
    )
