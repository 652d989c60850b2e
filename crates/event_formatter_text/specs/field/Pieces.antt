-- Texts of fields, piece by piece.
use Rattle.std.specs.Prelude.{ℕ, List, [], Bool, true, false, Option}
use Rattle.tracing_core_fields.specs.PlainDebug.{PlainDebug}
use Rattle.tracing_core_fields.specs.PlainValue.{debug_of}
use Rattle.tracing_core_fields.specs.requests.PlainRequests.{PlainValues}
use Rattle.event_formatter_text.specs.Lists.{list_text}

-- fields as a function writes them, with the delimiter between each two
abbrev pub fields_text : List ℕ → (List ℕ → PlainDebug → Option (List ℕ)) → PlainValues → Option (List ℕ)
fields_text delimiter piece values = list_text delimiter (λ name value. piece name (debug_of value)) values

-- what stands before a field: nothing, or the delimiter
abbrev pub before_field : Bool → List ℕ → List ℕ
before_field true delimiter = []
before_field false delimiter = delimiter
