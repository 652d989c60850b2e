-- What a debug text is, with no borrowed parts.
use Rattle.tracing_core_fields.specs.ErrorText.{error_text, source_texts}
use Rattle.tracing_core_fields.specs.PlainDebug.{PlainDebug, Written, Unwritable, OfSigned, OfUnsigned, OfWideSigned, OfWideUnsigned}
use Rattle.tracing_core_fields.specs.PlainDebug.{OfTruth, OfText, OfBytes, OfError}
use Rattle.tracing_core_fields.specs.declared.debug_text.DebugText.{DebugText}
use Rattle.tracing_core_fields.specs.declared.debug_text.DebugText.TheVariants as text

abbrev pub plain_debug : DebugText → PlainDebug
plain_debug (text.Texts plain alternate) = Written plain.now alternate.now
plain_debug text.Failing = Unwritable
plain_debug (text.I64 n) = OfSigned n
plain_debug (text.U64 n) = OfUnsigned n
plain_debug (text.I128 n) = OfWideSigned n
plain_debug (text.U128 n) = OfWideUnsigned n
plain_debug (text.Bool b) = OfTruth b
plain_debug (text.Str s) = OfText s.now
plain_debug (text.Bytes bytes) = OfBytes bytes.now
plain_debug (text.Error error) = OfError (error_text error) (source_texts error)
