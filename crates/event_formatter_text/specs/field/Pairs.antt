-- What the function of the tests writes.
use Rattle.std.specs.Prelude.{ℕ, List, ◌++◌, Option, Some, None, codes}
use Rattle.tracing_core_fields.specs.PlainDebug.{PlainDebug, Written, Unwritable, OfSigned, OfUnsigned, OfWideSigned, OfWideUnsigned}
use Rattle.tracing_core_fields.specs.PlainDebug.{OfTruth, OfText, OfBytes, OfError}

-- a name, and behind a colon a text: one that was written before as it is, and any other behind a sign
abbrev pub pair_text : List ℕ → PlainDebug → Option (List ℕ)
pair_text name (Written plain alternate) = Some (name ++ codes ": " ++ plain)
pair_text name (OfText text) = Some (name ++ codes ": '" ++ text)
pair_text name Unwritable = None
pair_text name (OfSigned n) = None
pair_text name (OfUnsigned n) = None
pair_text name (OfWideSigned n) = None
pair_text name (OfWideUnsigned n) = None
pair_text name (OfTruth b) = None
pair_text name (OfBytes bytes) = None
pair_text name (OfError text sources) = None
