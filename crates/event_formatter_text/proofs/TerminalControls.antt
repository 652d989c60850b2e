-- Sanitized texts don't steer a terminal.
use Rattle.std.proofs.Common.{arith, ◌≡◌, ◌<◌, ◌≤◌, ◌+◌, ◌/◌, ◌%◌, ℕ, zero, suc, Bool, true, false, ◌==◌, ◌&&◌, ◌||◌, not, nat_lt, nat_le}
use Rattle.std.proofs.Common.{if◌then◌else◌, List, [], ◌∷◌, ◌++◌, inl, inr, refl, sym, ap, subst, ◌∙◌, append_assoc}
use Rattle.std.proofs.lemmas.Bool.{and_parts, cases_eq, cases_lt}
use Rattle.std.proofs.lemmas.Bool.Decides.{nat_tests}
use Rattle.std.proofs.lemmas.List.{append-nil}
use Rattle.std.specs.Fmt.{digits}
use Rattle.std.specs.List.{flat_map}
use Rattle.std.specs.Str.{chars}
use lib.Utf8.{encode}
use Rattle.event_formatter_text.specs.Escapes.{escaped, sanitized, sanitized_char}
use Rattle.event_formatter_text.specs.TerminalControls.{begins_low, is_control, steers}

abbrev pub is_harmless : ℕ → Bool
is_harmless b = not (is_control b) && not (b == 194)

abbrev pub are_harmless : List ℕ → Bool
are_harmless [] = true
are_harmless (b ∷ bs) = is_harmless b && are_harmless bs

-- what stands behind these bytes steers or not as it does alone
abbrev pub Passes : List ℕ → Type 0
Passes xs = (rest : List ℕ) → steers (xs ++ rest) ≡ steers rest

pub both_pass : (xs ys : List ℕ) → Passes xs → Passes ys → Passes (xs ++ ys)
both_pass xs ys p q rest = ap steers (append_assoc xs ys rest) ∙ p (ys ++ rest) ∙ q rest

neither : (c e t s : Bool) → (not c && not e) ≡ true → (c || ((e && t) || s)) ≡ s
neither true e t s h = absurd (cc)
neither false true t s h = absurd (cc)
neither false false t s h = refl

step : (b : ℕ) (bs : List ℕ) → is_harmless b ≡ true → steers (b ∷ bs) ≡ steers bs
step b bs h = neither (is_control b) (b == 194) (begins_low bs) (steers bs) h

pub harmless_pass : (xs : List ℕ) → are_harmless xs ≡ true → Passes xs
harmless_pass [] all rest = refl
harmless_pass (b ∷ bs) all rest = let both = and_parts (is_harmless b) (are_harmless bs) all in
    step b (bs ++ rest) both.0 ∙ harmless_pass bs both.1 rest

-- a byte above ASCII that begins no character below U+00C0
high : (b : ℕ) → 128 ≤ b → (b == 194) ≡ false → is_harmless b ≡ true
high b above other = grind (arith, nat_tests)

-- two bytes, of which the second isn't a low one
pair_passes : (a b : ℕ) → 128 ≤ a → 128 ≤ b → b < 192 → ((a == 194) && nat_le b 159) ≡ false → Passes (a ∷ b ∷ [])
pair_passes a b above up down apart rest =
    let second : is_harmless b ≡ true = high b up (grind (arith, nat_tests)) in
    let plain : is_control a ≡ false = grind (arith, nat_tests) in
    let low : ((a == 194) && (nat_le 128 b && nat_le b 159)) ≡ false = grind (arith, nat_tests) in
    neither_is (is_control a) ((a == 194) && (nat_le 128 b && nat_le b 159)) (steers (b ∷ rest)) plain low ∙ step b rest second
  where
    neither_is : (c l s : Bool) → c ≡ false → l ≡ false → (c || (l || s)) ≡ s
    neither_is true l s p q = absurd (cc)
    neither_is false true s p q = absurd (cc)
    neither_is false false s p q = refl

last : (d : ℕ) (bs : List ℕ) → are_harmless bs ≡ true → are_harmless ((128 + d % 64) ∷ bs) ≡ true
last d bs rest = rw (high (128 + d % 64) (omega arith) (grind (arith, nat_tests))) rest

first : (d n : ℕ) (bs : List ℕ) → 224 ≤ n → are_harmless bs ≡ true → are_harmless ((n + d) ∷ bs) ≡ true
first d n bs big rest = rw (high (n + d) (omega arith) (grind (arith, nat_tests))) rest

-- a character from U+00A0 on
pub encoded : (c : ℕ) → 160 ≤ c → Passes (encode c)
unfolding encode
encoded c above =
    let low : nat_lt c 128 ≡ false = grind (arith, nat_tests) in
    let one : List ℕ = (128 + c % 64) ∷ [] in
    let two : List ℕ = (128 + c / 64 % 64) ∷ one in
    let three : List ℕ = (128 + c / 4096 % 64) ∷ two in
    let one_is : are_harmless one ≡ true = last c [] refl in
    let two_is : are_harmless two ≡ true = last (c / 64) one one_is in
    let three_is : are_harmless three ≡ true = last (c / 4096) two two_is in
    rw low (elim (cases_lt c 2048) [
      | inl below ↦ rw (lt c 2048 below) (pair_passes (192 + c / 64) (128 + c % 64) (omega arith) (omega arith) (omega arith)
          (apart c above))
      | inr big ↦ rw (ge c 2048 big) (either_way (nat_lt c 65536) ((224 + c / 4096) ∷ two) ((240 + c / 262144) ∷ three)
          (harmless_pass ((224 + c / 4096) ∷ two) (first (c / 4096) 224 two (omega arith) two_is))
          (harmless_pass ((240 + c / 262144) ∷ three) (first (c / 262144) 240 three (omega arith) three_is)))
    ])
  where
    lt : (a b : ℕ) → a < b → nat_lt a b ≡ true
    lt a b l = grind (arith, nat_tests)

    ge : (a b : ℕ) → b ≤ a → nat_lt a b ≡ false
    ge a b l = grind (arith, nat_tests)

    apart : (c : ℕ) → 160 ≤ c → ((192 + c / 64 == 194) && nat_le (128 + c % 64) 159) ≡ false
    apart c up = grind (arith, nat_tests)

    either_way : (test : Bool) (xs ys : List ℕ) → Passes xs → Passes ys → Passes (if test then xs else ys)
    either_way true xs ys x y = x
    either_way false xs ys x y = y

sanitized_high : (c : ℕ) → 160 ≤ c → sanitized_char c ≡ encode c
unfolding sanitized_char
sanitized_high c above = grind (arith, nat_tests)

-- the characters below U+00A0, by looking at each
abbrev are_harmless_below : ℕ → Bool
are_harmless_below zero = true
are_harmless_below (suc n) = are_harmless (sanitized_char n) && are_harmless_below n

low_harmless : (n : ℕ) → are_harmless_below n ≡ true → (c : ℕ) → c < n → are_harmless (sanitized_char c) ≡ true
low_harmless zero all c below = absurd (omega arith)
low_harmless (suc n) all c below =
    let both = and_parts (are_harmless (sanitized_char n)) (are_harmless_below n) all in
    elim (cases_eq c n) [ inl same ↦ rw same both.0 | inr other ↦ low_harmless n both.1 c (omega arith) ]

checked : are_harmless_below 160 ≡ true
unfolding sanitized_char encode digits
checked = refl

char_passes : (c : ℕ) → Passes (sanitized_char c)
char_passes c = elim (cases_lt c 160) [
  | inl low ↦ harmless_pass (sanitized_char c) (low_harmless 160 checked c low)
  | inr up ↦ subst Passes
      (sym (sanitized_high c up)) (encoded c up)
]

chars_pass : (cs : List ℕ) → Passes (flat_map sanitized_char cs)
chars_pass [] rest = refl
chars_pass (c ∷ cs) rest = both_pass (sanitized_char c) (flat_map sanitized_char cs) (char_passes c) (chars_pass cs) rest

pub sanitized_passes : (text : List ℕ) → Passes (sanitized text)
unfolding sanitized escaped
sanitized_passes text = chars_pass (chars text)

-- a text that lets all pass doesn't steer by itself
pub passing_is : (xs : List ℕ) → Passes xs → steers xs ≡ false
passing_is xs p = ap steers (sym (append-nil xs)) ∙ p []

pub texts_are : (text : List ℕ) → steers (sanitized text) ≡ false
texts_are text = passing_is (sanitized text) (sanitized_passes text)
