-- Days and seconds in range.
use Rattle.std.proofs.Common.{◌≡◌, Bool, true, false, refl, ◌&&◌, arith, ℤ, pos, negsuc, ◌≤ℤ◌}
use Rattle.std.specs.Prelude.{int_le}
use Rattle.std.proofs.lemmas.Bool.{true_from_ne_false}
use Rattle.jiff_core.proofs.SignedLemmas.{signed_arith}
use Rattle.tracing_core_moments.specs.Days.{is_date, is_second}

pub first_holds : (p q : Bool) → (p && q) ≡ true → p ≡ true
first_holds true q h = refl
first_holds false q h = h

pub second_holds : (p q : Bool) → (p && q) ≡ true → q ≡ true
second_holds true q h = h
second_holds false true h = refl
second_holds false false h = h

pub both_hold : (p q : Bool) → p ≡ true → q ≡ true → (p && q) ≡ true
both_hold true q hp hq = hq
both_hold false q hp hq = hp

pub date_range : (day : ℤ) → is_date day ≡ true → (negsuc 719527 ≤ℤ day) × (day ≤ℤ pos 2932896)
date_range day is =
    let low = first_holds (int_le (negsuc 719527) day) (int_le day (pos 2932896)) is in
    let high = second_holds (int_le (negsuc 719527) day) (int_le day (pos 2932896)) is in
    (omega (arith, signed_arith, low), omega (arith, signed_arith, high))

pub is_date_from : (day : ℤ) → negsuc 719527 ≤ℤ day → day ≤ℤ pos 2932896 → is_date day ≡ true
is_date_from day low high =
    both_hold (int_le (negsuc 719527) day) (int_le day (pos 2932896))
    (true_from_ne_false (int_le (negsuc 719527) day) (λ h. omega (arith, signed_arith, h, low)))
    (true_from_ne_false (int_le day (pos 2932896)) (λ h. omega (arith, signed_arith, h, high)))

pub second_range : (s : ℤ) → is_second s ≡ true → (negsuc 62135596799 ≤ℤ s) × (s ≤ℤ pos 253370764799)
second_range s is =
    let low = first_holds (int_le (negsuc 62135596799) s) (int_le s (pos 253370764799)) is in
    let high = second_holds (int_le (negsuc 62135596799) s) (int_le s (pos 253370764799)) is in
    (omega (arith, signed_arith, low), omega (arith, signed_arith, high))
