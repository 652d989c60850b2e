-- What a debug text writes, as plain data.
use Rattle.std.specs.Prelude.{ℕ, ℤ, ◌/◌, ◌%◌, ◌++◌, Bool, false, List, [], ◌∷◌, Option, Some, None, codes, if◌then◌else◌}
use Rattle.std.specs.Fmt.{digit_glyph, signed_decimal, decimal}
use Rattle.std.specs.List.{join_by}
use Rattle.tracing_core_fields.specs.Quoted.{quoted}

-- a plain text and an alternate one, nothing since it fails, or a number of at most 64 bits, one of 128 bits, a bool, a
-- text, bytes, or an error by its text and its sources' texts
pub data PlainDebug : Type 0 where
  Written : List ℕ → List ℕ → PlainDebug
  Unwritable : PlainDebug
  OfSigned : ℤ → PlainDebug
  OfUnsigned : ℕ → PlainDebug
  OfWideSigned : ℤ → PlainDebug
  OfWideUnsigned : ℕ → PlainDebug
  OfTruth : Bool → PlainDebug
  OfText : List ℕ → PlainDebug
  OfBytes : List ℕ → PlainDebug
  OfError : List ℕ → List (List ℕ) → PlainDebug

-- the byte in two hexadecimal digits
abbrev pub hex_pair : ℕ → List ℕ
hex_pair byte = digit_glyph false (byte / 16) ∷ digit_glyph false (byte % 16) ∷ []

-- the bytes in brackets, a space between each two
abbrev pub bytes_text : List ℕ → List ℕ
bytes_text bytes = 91 ∷ (join_by hex_pair (32 ∷ []) bytes ++ 93 ∷ [])

-- what `{:?}` writes
abbrev pub plain_output : PlainDebug → Option (List ℕ)
plain_output (Written plain alternate) = Some plain
plain_output Unwritable = None
plain_output (OfSigned n) = Some (signed_decimal n)
plain_output (OfUnsigned n) = Some (decimal n)
plain_output (OfWideSigned n) = Some (signed_decimal n)
plain_output (OfWideUnsigned n) = Some (decimal n)
plain_output (OfTruth b) = Some (if b then codes "true" else codes "false")
plain_output (OfText text) = Some (quoted text)
plain_output (OfBytes bytes) = Some (bytes_text bytes)
plain_output (OfError text sources) = Some text
