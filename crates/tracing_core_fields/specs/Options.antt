-- What a debug text writes under the options of a formatter.
use Rattle.std.specs.Prelude.{ℕ, List, Option, Some, None, codes, if◌then◌else◌}
use Rattle.std.specs.Fmt.{formatter_spec, spec_alternate, styled_decimal, styled_signed_decimal, styled_text}
use Rattle.std.specs.declared.fmt.Formatter.{Formatter}
use Rattle.tracing_core_fields.specs.PlainDebug.{PlainDebug, Written, Unwritable, OfSigned, OfUnsigned, OfWideSigned, OfWideUnsigned}
use Rattle.tracing_core_fields.specs.PlainDebug.{OfTruth, OfText, OfBytes, OfError, plain_output, bytes_text}
use Rattle.tracing_core_fields.specs.Quoted.{quoted}

-- the alternate text under `#`; numbers and bools with the width, fill and sign that are asked for; any other text as it is
abbrev pub output_under : {W : Type 0} → Formatter W → PlainDebug → Option (List ℕ)
output_under f (Written plain alternate) = Some (if spec_alternate (formatter_spec f) then alternate else plain)
output_under f Unwritable = None
output_under f (OfSigned n) = Some (styled_signed_decimal (formatter_spec f) n)
output_under f (OfUnsigned n) = Some (styled_decimal (formatter_spec f) n)
output_under f (OfWideSigned n) = Some (styled_signed_decimal (formatter_spec f) n)
output_under f (OfWideUnsigned n) = Some (styled_decimal (formatter_spec f) n)
output_under f (OfTruth b) = Some (styled_text (formatter_spec f) (if b then codes "true" else codes "false"))
output_under f (OfText text) = Some (quoted text)
output_under f (OfBytes bytes) = Some (bytes_text bytes)
output_under f (OfError text sources) = Some text

-- what `{:#?}` writes: the alternate text where there is one, and else the plain one
abbrev pub alternate_output : PlainDebug → Option (List ℕ)
alternate_output (Written plain alternate) = Some alternate
alternate_output text = plain_output text
