-- What is written under no options, and under `#` alone.
use Rattle.std.proofs.Common.{◌≡◌, ℕ, ◌-◌, ◌^◌, ℤ, pos, negsuc, Bool, false, List, [], ◌++◌, length, Result, arith, ap, subst, refl, ◌∙◌}
use Rattle.std.proofs.Common.{codes, if◌then◌else◌}
use Rattle.std.specs.Fmt.{format_spec, formatter_spec, spec_alternate, char_count, padded_integral, sign_text, decimal, signed_decimal}
use Rattle.std.specs.Fmt.{styled_decimal, styled_signed_decimal, styled_text, IsPlainFormatter, DisplaysOnOk, DisplaysStyledOnOk}
use Rattle.std.specs.Fmt.{WritesOnOk, WritesStyledOnOk}
use Rattle.std.specs.Int.{is_negative}
use Rattle.std.proofs.lemmas.Bool.{le-ltb}
use Rattle.std.proofs.lemmas.List.{append-nil}
use Rattle.std.specs.declared.fmt.Formatter.{Formatter}
use Rattle.std.specs.declared.fmt.Error.{Error}
use Rattle.tracing_core_fields.specs.Options.{output_under, alternate_output}
use Rattle.tracing_core_fields.specs.PlainDebug.{PlainDebug, Written, Unwritable, OfSigned, OfUnsigned, OfWideSigned, OfWideUnsigned}
use Rattle.tracing_core_fields.specs.PlainDebug.{OfTruth, OfText, OfBytes, OfError, plain_output}
use Rattle.tracing_core_fields.proofs.StyledLemmas.{plain_from_styled}

pub hash_integral : (negative : Bool) (numeral : List ℕ) → padded_integral (format_spec 32 0 2 0 (2 ^ 64 - 1)) negative []
    numeral ≡ sign_text negative ++ numeral
unfolding padded_integral
hash_integral negative numeral =
    let none : 0 - length numeral - length (sign_text negative) - char_count [] ≡ 0 = omega arith in
    rw none (simp append-nil)

pub hash_signed : (n : ℤ) → styled_signed_decimal (format_spec 32 0 2 0 (2 ^ 64 - 1)) n ≡ signed_decimal n
hash_signed (pos n) = hash_integral (is_negative (pos n)) (decimal n) ∙ ap (λ b. sign_text b ++ decimal n) (le-ltb n 0 (omega arith))
hash_signed (negsuc n) = hash_integral (is_negative (negsuc n)) _

module _ {W : Type 0} (took : W → List ℕ → W → Type 0) (f g : Formatter W) (answer : Result (Unit {0}) Error) where
  same_plain : (a b : List ℕ) → (IsPlainFormatter f → a ≡ b) → WritesStyledOnOk took f answer a g → WritesOnOk took f answer b g
  same_plain a b same styled = λ plain ok.
      plain_from_styled took f g answer b (subst (λ t. WritesStyledOnOk took f answer t g) (same plain) styled) plain ok

  pub writes_plain : (text : PlainDebug) → DisplaysStyledOnOk took f answer (output_under f text) g →
      DisplaysOnOk took f answer (plain_output text) g
  writes_plain (Written plain alternate) styled = same_plain _ _ (λ p. rw p.bare.alternate refl) styled
  writes_plain Unwritable styled = tt
  writes_plain (OfSigned n) styled = same_plain _ _ (λ p. rw (p.bare.width, p.bare.plus, p.bare.alternate) refl) styled
  writes_plain (OfUnsigned n) styled = same_plain _ _ (λ p. rw (p.bare.width, p.bare.plus, p.bare.alternate) refl) styled
  writes_plain (OfWideSigned n) styled = same_plain _ _ (λ p. rw (p.bare.width, p.bare.plus, p.bare.alternate) refl) styled
  writes_plain (OfWideUnsigned n) styled = same_plain _ _ (λ p. rw (p.bare.width, p.bare.plus, p.bare.alternate) refl) styled
  writes_plain (OfTruth b) styled = same_plain _ _ (λ p. rw (p.bare.width, p.bare.precision) refl) styled
  writes_plain (OfText text) styled = same_plain _ _ (λ p. refl) styled
  writes_plain (OfBytes bytes) styled = same_plain _ _ (λ p. refl) styled
  writes_plain (OfError text sources) styled = same_plain _ _ (λ p. refl) styled

  same_styled : (a b : List ℕ) → a ≡ b → WritesStyledOnOk took f answer a g → WritesStyledOnOk took f answer b g
  same_styled a b same styled = subst (λ t. WritesStyledOnOk took f answer t g) same styled

  pub writes_alternate : formatter_spec f ≡ format_spec 32 0 2 0 (2 ^ 64 - 1) → (text : PlainDebug) →
      DisplaysStyledOnOk took f answer (output_under f text) g → DisplaysStyledOnOk took f answer (alternate_output text) g
  writes_alternate hash (Written plain alternate) styled = same_styled _ _ (ap (λ s. if spec_alternate s then alternate else plain) hash)
      styled
  writes_alternate hash Unwritable styled = tt
  writes_alternate hash (OfSigned n) styled = same_styled _ _ (ap (λ s. styled_signed_decimal s n) hash ∙ hash_signed n) styled
  writes_alternate hash (OfUnsigned n) styled = same_styled _ _ (ap (λ s. styled_decimal s n) hash ∙ hash_integral false (decimal n)) styled
  writes_alternate hash (OfWideSigned n) styled = same_styled _ _ (ap (λ s. styled_signed_decimal s n) hash ∙ hash_signed n) styled
  writes_alternate hash (OfWideUnsigned n) styled = same_styled _ _ (ap (λ s. styled_decimal s n) hash ∙ hash_integral false (decimal n))
      styled
  writes_alternate hash (OfTruth b) styled = same_styled _ _ (ap (λ s. styled_text s (if b then codes "true" else codes "false")) hash)
      styled
  writes_alternate hash (OfText text) styled = styled
  writes_alternate hash (OfBytes bytes) styled = styled
  writes_alternate hash (OfError text sources) styled = styled
