-- Numbers that a text writes, and places of a text in a list of names.
use Rattle.std.specs.Prelude.{◌≡◌, ◌↔◌, ℕ, ◌^◌, ◌&&◌, Bool, List, length, Option, Some, None, Ok, if◌then◌else◌, nat_lt, position}
use Rattle.std.specs.Str.{all_ascii_digits, str_eq_ignore_ascii_case}
use Rattle.std.specs.Str.Parse.{ParsesUnsigned, digits_value, without_leading_plus}

-- one decimal digit or more after at most one plus, and the number is a `usize`
abbrev pub is_number_text : List ℕ → Bool
is_number_text text =
    let digits = without_leading_plus text in
    nat_lt 0 (length digits) && all_ascii_digits digits && nat_lt (digits_value 10 digits) (2 ^ 64)

-- the number that the text writes
abbrev pub number_of_text : List ℕ → Option ℕ
number_of_text text = if is_number_text text then Some (digits_value 10 (without_leading_plus text)) else None

-- the place of the name that the text is, in any ASCII case
abbrev pub place_of_name : List (List ℕ) → List ℕ → Option ℕ
place_of_name names text = position (λ name. str_eq_ignore_ascii_case text name) names

-- it is the number that Rust's `usize` parsing reads
abbrev pub ReadsAsUsize : Type 0
ReadsAsUsize = (text : List ℕ) (n : ℕ) → (number_of_text text ≡ Some n) ↔ ParsesUnsigned {E = Unit {0}} 64 10 text (Ok n)
