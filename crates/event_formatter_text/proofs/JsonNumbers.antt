-- Numbers as JSON.
use Rattle.std.proofs.Common.{arith, ◌≡◌, ◌<◌, ◌/◌, ◌%◌, ◌*◌, ◌^◌, ◌==◌, ℕ, zero, suc, Bool, true, false, ◌&&◌, not, if◌then◌else◌, List}
use Rattle.std.proofs.Common.{[], ◌∷◌, refl, pow-suc}
use Rattle.std.proofs.lemmas.Bool.{and_parts}
use Rattle.std.proofs.lemmas.Bool.Decides.{nat_tests}
use Rattle.std.specs.Fmt.{decimal, digit_glyph, digits, digits_onto}
use Rattle.event_formatter_text.specs.IsJson.{Anywhere, are_digits, is_digit, is_inside, is_whole}

both : (a b : Bool) → a ≡ true → b ≡ true → (a && b) ≡ true
both true b x y = y
both false b x y = absurd (cc)

glyph_digit : (n : ℕ) → is_digit (digit_glyph false (n % 10)) ≡ true
glyph_digit n = grind (arith, nat_tests)

glyph_start : (n : ℕ) → n / 10 ≡ 0 → 0 < n → not (digit_glyph false (n % 10) == 48) ≡ true
glyph_start n low some = grind (arith, nat_tests)

-- digits of which the first isn't 0
abbrev is_started : List ℕ → Bool
is_started [] = false
is_started (b ∷ bs) = is_digit b && (not (b == 48) && are_digits bs)

digits_started : (k n : ℕ) (acc : List ℕ) → 0 < n → n < 10 ^ k → are_digits acc ≡ true → is_started (digits_onto k 10 false n acc) ≡ true
digits_started zero n acc some below all = absurd (omega arith)
digits_started (suc k) n acc some below all = by_test (n / 10 == 0) refl (λ m bs high low more. digits_started k m bs high low more)
  where
    by_test : (test : Bool) → (n / 10 == 0) ≡ test →
        ((m : ℕ) (bs : List ℕ) → 0 < m → m < 10 ^ k → are_digits bs ≡ true → is_started (digits_onto k 10 false m bs) ≡ true) →
        is_started (if test then digit_glyph false (n % 10) ∷ acc else digits_onto k 10 false (n / 10) (digit_glyph false (n % 10) ∷ acc))
        ≡ true
    by_test true e later =
        let low : n / 10 ≡ 0 = grind (arith, nat_tests) in
        both (is_digit (digit_glyph false (n % 10))) (not (digit_glyph false (n % 10) == 48) && are_digits acc) (glyph_digit n)
        (both (not (digit_glyph false (n % 10) == 48)) (are_digits acc) (glyph_start n low some) all)
    by_test false e later =
        let high : 0 < n / 10 = grind (arith, nat_tests) in
        let power : 10 ^ suc k ≡ 10 ^ k * 10 = pow-suc 10 k in
        let less : n / 10 < 10 ^ k = omega (arith, power, below) in
        later (n / 10) (digit_glyph false (n % 10) ∷ acc) high less
        (both (is_digit (digit_glyph false (n % 10))) (are_digits acc) (glyph_digit n) all)

started_whole : (text : List ℕ) → is_started text ≡ true → is_whole text ≡ true
started_whole [] e = absurd (cc)
started_whole (b ∷ []) e = (and_parts (is_digit b) (not (b == 48) && true) e).0
started_whole (b ∷ c ∷ bs) e = e

pub decimal_whole : (n : ℕ) → n < 10 ^ 64 → is_whole (decimal n) ≡ true
unfolding digits
decimal_whole zero below = refl
decimal_whole (suc n) below = started_whole (digits_onto 64 10 false (suc n) []) (digits_started 64 (suc n) [] (omega arith) below refl)

digit_inside : (b : ℕ) (bs : List ℕ) → is_digit b ≡ true → is_inside Anywhere bs ≡ true → is_inside Anywhere (b ∷ bs) ≡ true
digit_inside b bs e rest = rw rest (grind (arith, nat_tests))

digits_inside : (bs : List ℕ) → are_digits bs ≡ true → is_inside Anywhere bs ≡ true
digits_inside [] e = refl
digits_inside (b ∷ bs) e = let parts = and_parts (is_digit b) (are_digits bs) e in digit_inside b bs parts.0 (digits_inside bs parts.1)

pub whole_inside : (bs : List ℕ) → is_whole bs ≡ true → is_inside Anywhere bs ≡ true
whole_inside [] e = absurd (cc)
whole_inside (b ∷ []) e = digit_inside b [] e refl
whole_inside (b ∷ c ∷ bs) e =
    let parts = and_parts (is_digit b) (not (b == 48) && are_digits (c ∷ bs)) e in
    digit_inside b (c ∷ bs) parts.0 (digits_inside (c ∷ bs) (and_parts (not (b == 48)) (are_digits (c ∷ bs)) parts.1).1)
