-- Small texts that don't steer a terminal.
use Rattle.std.proofs.Common.{arith, ◌≡◌, ◌/◌, ◌%◌, ◌==◌, ℕ, zero, suc, Bool, true, false, ◌&&◌, ◌||◌, if◌then◌else◌, List, [], ◌∷◌, ◌++◌}
use Rattle.std.proofs.Common.{◌<◌, ◌+◌, codes, Option, IfSome, refl}
use Rattle.std.proofs.lemmas.Bool.Decides.{nat_tests}
use Rattle.std.specs.List.{starts_with}
use Rattle.std.specs.Prelude.{drop, nat_eq}
use Rattle.std.specs.Fmt.{decimal, digit_glyph, digits, digits_onto}
use Rattle.std.proofs.Math.ListN.{replicate}
use Rattle.tracing_core_moments.specs.Calendar.{two_digits}
use Rattle.event_formatter_text.specs.HarmlessTexts.{LetsPass}
use Rattle.event_formatter_text.specs.FieldTexts.{plain_name}
use Rattle.event_formatter_text.specs.TerminalControls.{begins_low, is_control, steers}
use Rattle.event_formatter_lines.specs.times.Digits.{digit}
use Rattle.event_formatter_text.proofs.TerminalControls.{are_harmless, both_pass, harmless_pass, is_harmless, passing_is}

pub nothing : LetsPass []
nothing rest = refl

pub space : LetsPass (codes " ")
space = harmless_pass (codes " ") refl

-- one of two
pub either_is : {A : Type 0} (P : A → Type 0) (test : Bool) (x y : A) → P x → P y → P (if test then x else y)
either_is P true x y one other = one
either_is P false x y one other = other

-- a number's digits, however many there are
glyph_harmless : (n : ℕ) → is_harmless (digit_glyph false (n % 10)) ≡ true
glyph_harmless n = grind (arith, nat_tests)

both : (a b : Bool) → a ≡ true → b ≡ true → (a && b) ≡ true
both true b x y = y
both false b x y = absurd (cc)

onto_harmless : (k n : ℕ) (acc : List ℕ) → are_harmless acc ≡ true → are_harmless (digits_onto k 10 false n acc) ≡ true
onto_harmless zero n acc all = all
onto_harmless (suc k) n acc all =
    let more = digit_glyph false (n % 10) ∷ acc in
    let both_are : are_harmless more ≡ true = both (is_harmless (digit_glyph false (n % 10))) (are_harmless acc) (glyph_harmless n) all in
    either_is (λ text. are_harmless text ≡ true) (n / 10 == 0) more (digits_onto k 10 false (n / 10) more) both_are
    (onto_harmless k (n / 10) more both_are)

pub decimal_passes : (n : ℕ) → LetsPass (decimal n)
unfolding digits
decimal_passes n = harmless_pass (decimal n) (onto_harmless 64 n [] refl)

-- one digit, and two
digit_harmless : (n : ℕ) → n < 10 → is_harmless (48 + n) ≡ true
digit_harmless n below = grind (arith, nat_tests)

pub one_passes : (n : ℕ) → n < 10 → LetsPass (digit n)
one_passes n below = harmless_pass (digit n) (both (is_harmless (48 + n)) true (digit_harmless n below) refl)

pub two_pass : (n : ℕ) → n < 100 → LetsPass (two_digits n)
two_pass n below =
    harmless_pass (two_digits n)
    (both (is_harmless (48 + n / 10)) (are_harmless ((48 + n % 10) ∷ [])) (digit_harmless (n / 10) (omega arith))
    (both (is_harmless (48 + n % 10)) true (digit_harmless (n % 10) (omega arith)) refl))

-- spaces before a text
spaces_harmless : (n : ℕ) → are_harmless (replicate n 32) ≡ true
spaces_harmless zero = refl
spaces_harmless (suc n) = spaces_harmless n

pub behind_spaces : (n : ℕ) (text : List ℕ) → LetsPass text → LetsPass (replicate n 32 ++ text)
behind_spaces n text passes = both_pass (replicate n 32) text (harmless_pass (replicate n 32) (spaces_harmless n)) passes

-- one of two options
pub option_is : {A : Type 0} (P : A → Type 0) (test : Bool) (x y : Option A) → IfSome x P → IfSome y P → IfSome (if test then x else y) P
option_is P true x y one other = one
option_is P false x y one other = other

-- a name without a leading r#
rest_is : (c l s : Bool) → (c || (l || s)) ≡ false → s ≡ false
rest_is true l s is = absurd (cc)
rest_is false true s is = absurd (cc)
rest_is false false s is = is

dropped_is : (count : ℕ) (text : List ℕ) → steers text ≡ false → steers (drop count text) ≡ false
dropped_is zero text is = is
dropped_is (suc count) [] is = refl
dropped_is (suc count) (b ∷ bs) is = dropped_is count bs (rest_is (is_control b) ((b == 194) && begins_low bs) (steers bs) is)

pub plain_is : (name : List ℕ) → LetsPass name → steers (plain_name name) ≡ false
unfolding plain_name
plain_is name passes =
    let is = passing_is name passes in
    either_is (λ text. steers text ≡ false) (starts_with nat_eq name (codes "r#")) (drop 2 name) name (dropped_is 2 name is) is
