-- How visitors over others hand a value on.
use Rattle.std.specs.Prelude.{ℕ, List, if◌then◌else◌}
use Rattle.tracing_core_fields.specs.PlainDebug.{PlainDebug, Written, Unwritable, OfSigned, OfUnsigned, OfWideSigned, OfWideUnsigned}
use Rattle.tracing_core_fields.specs.PlainDebug.{OfTruth, OfText, OfBytes, OfError}
use Rattle.event_formatter_text.specs.FieldTexts.{is_message}

-- the alternate text stands for the plain one too; any other value is as it is
abbrev pub alternate : PlainDebug → PlainDebug
alternate (Written plain other) = Written other other
alternate Unwritable = Unwritable
alternate (OfSigned n) = OfSigned n
alternate (OfUnsigned n) = OfUnsigned n
alternate (OfWideSigned n) = OfWideSigned n
alternate (OfWideUnsigned n) = OfWideUnsigned n
alternate (OfTruth b) = OfTruth b
alternate (OfText text) = OfText text
alternate (OfBytes bytes) = OfBytes bytes
alternate (OfError text sources) = OfError text sources

-- a text of a message as a debug value of its characters; any other value is as it is
abbrev pub messaged : List ℕ → PlainDebug → PlainDebug
messaged name (Written plain other) = Written plain other
messaged name Unwritable = Unwritable
messaged name (OfSigned n) = OfSigned n
messaged name (OfUnsigned n) = OfUnsigned n
messaged name (OfWideSigned n) = OfWideSigned n
messaged name (OfWideUnsigned n) = OfWideUnsigned n
messaged name (OfTruth b) = OfTruth b
messaged name (OfText text) = if is_message name then Written text text else OfText text
messaged name (OfBytes bytes) = OfBytes bytes
messaged name (OfError text sources) = OfError text sources
