-- The values that fields have, as plain data.
use Rattle.std.specs.Prelude.{ℕ, ℤ, Bool, List, Option, Some, None, option_and_then}
use Rattle.tracing_core_fields.specs.DebugText.{plain_debug}
use Rattle.tracing_core_fields.specs.ErrorText.{error_text, source_texts}
use Rattle.tracing_core_fields.specs.PlainDebug.{PlainDebug, OfSigned, OfUnsigned, OfWideSigned, OfWideUnsigned, OfTruth, OfText, OfBytes}
use Rattle.tracing_core_fields.specs.PlainDebug.{OfError}
use Rattle.tracing_core_fields.specs.declared.value_set.AnyValue.{AnyValue}
use Rattle.tracing_core_fields.specs.declared.value_set.AnyValue.TheVariants as any

-- a signed or an unsigned number of at most 64 bits, one of 128 bits, a bool, a text, bytes, an error by its text and its
-- sources' texts, or a debug text
pub data PlainValue : Type 0 where
  Signed : ℤ → PlainValue
  Unsigned : ℕ → PlainValue
  WideSigned : ℤ → PlainValue
  WideUnsigned : ℕ → PlainValue
  Truth : Bool → PlainValue
  Text : List ℕ → PlainValue
  Bytes : List ℕ → PlainValue
  Error : List ℕ → List (List ℕ) → PlainValue
  Debug : PlainDebug → PlainValue

-- what the value is; `Empty` is no value
abbrev pub plain_value : AnyValue → Option PlainValue
plain_value (any.I64 n) = Some (Signed n)
plain_value (any.U64 n) = Some (Unsigned n)
plain_value (any.I128 n) = Some (WideSigned n)
plain_value (any.U128 n) = Some (WideUnsigned n)
plain_value (any.Bool b) = Some (Truth b)
plain_value (any.Str text) = Some (Text text.now)
plain_value (any.Bytes bytes) = Some (Bytes bytes.now)
plain_value (any.Error error) = Some (Error (error_text error) (source_texts error))
plain_value (any.Debug text) = Some (Debug (plain_debug text))
plain_value any.Empty = None

-- what it is where it is there
abbrev pub present_value : Option AnyValue → Option PlainValue
present_value value = option_and_then plain_value value

-- the debug text that stands for the value
abbrev pub debug_of : PlainValue → PlainDebug
debug_of (Signed n) = OfSigned n
debug_of (Unsigned n) = OfUnsigned n
debug_of (WideSigned n) = OfWideSigned n
debug_of (WideUnsigned n) = OfWideUnsigned n
debug_of (Truth b) = OfTruth b
debug_of (Text text) = OfText text
debug_of (Bytes bytes) = OfBytes bytes
debug_of (Error text sources) = OfError text sources
debug_of (Debug text) = text
