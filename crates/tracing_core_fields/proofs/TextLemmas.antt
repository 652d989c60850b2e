-- `number_of_text` is what Rust reads as a `usize`.
use Rattle.std.proofs.Common.{◌≡◌, ◌↔◌, ℕ, ◌<◌, ◌^◌, true, List, length, Some, None, Result, Ok, Err, refl, sym, ◌∙◌, ap, nat_lt}
use Rattle.std.specs.Result.{result_ok}
use Rattle.std.specs.Str.Parse.{IsNumeral, ParsesUnsigned, digits_value, without_leading_plus}
use Rattle.std.proofs.lemmas.Bool.{cond_both, cond-true, ltb-true, lt-ltb, and_parts, and_from}
use Rattle.std.proofs.lemmas.Option.{cond_some}
use Rattle.std.proofs.lemmas.Str.Parse.{numerals_by_value, tells_all_ascii_digits}
use Rattle.tracing_core_fields.specs.Text.{is_number_text, number_of_text}

-- a number text has digits alone after its plus, and its number fits
pub is_number_text-numeral : (text : List ℕ) → is_number_text text ≡ true → IsNumeral 10 (without_leading_plus text) ×
    (digits_value 10 (without_leading_plus text) < 2 ^ 64)
is_number_text-numeral text passes =
    let digits = without_leading_plus text in
    let outer = and_parts _ (nat_lt (digits_value 10 digits) (2 ^ 64)) passes in
    let inner = and_parts (nat_lt 0 (length digits)) _ outer.0 in
    let model = numerals_by_value _ tells_all_ascii_digits in
    ((ltb-true _ _ inner.0, model.to digits inner.1), ltb-true _ _ outer.1)

pub numeral-is_number_text : (text : List ℕ) → IsNumeral 10 (without_leading_plus text) →
    digits_value 10 (without_leading_plus text) < 2 ^ 64 → is_number_text text ≡ true
numeral-is_number_text text numeral fits =
    let digits = without_leading_plus text in
    let model = numerals_by_value _ tells_all_ascii_digits in
    and_from _ _ (and_from _ _ (lt-ltb _ _ numeral.0) (model.from digits numeral.1)) (lt-ltb _ _ fits)

pub result_ok-number_of_text : {E : Type 0} (text : List ℕ) (r : Result ℕ E) → ParsesUnsigned 64 10 text r →
    result_ok r ≡ number_of_text text
result_ok-number_of_text text (Ok x) parses =
    ap Some parses.1 ∙ sym (cond-true (is_number_text text) _ _ (numeral-is_number_text text parses.0.0 parses.0.1))
result_ok-number_of_text text (Err e) parses =
    cond_both (is_number_text text) _ _ (λ o. None ≡ o) (λ passes. absurd (parses (is_number_text-numeral text passes))) (λ _. refl)

pub number_of_text-some : (text : List ℕ) (n : ℕ) → (number_of_text text ≡ Some n) ↔ ParsesUnsigned {E = Unit {0}} 64 10 text (Ok n)
number_of_text-some text n = (
  λ read.
      let parts = cond_some (is_number_text text) _ _ read in
      let numeral = is_number_text-numeral text parts.0 in
      (numeral, sym parts.1),
  λ parses. sym (result_ok-number_of_text {E = Unit {0}} text (Ok n) parses),
)
