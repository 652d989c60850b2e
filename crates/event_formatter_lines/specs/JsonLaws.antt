-- What holds of the JSON format.
use Rattle.std.specs.Prelude.{◌≡◌, ◌<◌, ◌≤◌, ◌^◌, ◌⊎◌, ℕ, List, [], ◌∷◌, ◌++◌, None, IfSome, codes}
use Rattle.std.specs.List.{AllByRecursion}
use Rattle.tracing_core_fields.specs.PlainValue.{debug_of}
use Rattle.tracing_core_fields.specs.requests.PlainRequests.{PlainValues}
use Rattle.event_formatter_text.specs.Escapes.{json_string}
use Rattle.event_formatter_text.specs.IsJson.{IsJson, Kind, Value}
use Rattle.event_formatter_text.specs.JsonLaws.{IsInRange}
use Rattle.event_formatter_text.specs.JsonObjects.{Pair, object_text, words_of}
use Rattle.event_formatter_text.specs.SpanFields.{PlainFields}
use Rattle.event_formatter_text.specs.declared.format_fields.FormatFields.{Ghosts}
use Rattle.event_formatter_text.specs.declared.settings.Settings.{Settings}
use Rattle.event_formatter_lines.specs.Heads.{PlainHead}
use Rattle.event_formatter_lines.specs.Json.{inside_braces, json_line, span_object}
use Rattle.event_formatter_lines.specs.Shown.{PlainShown}
use Rattle.event_formatter_lines.specs.declared.json.JsonShape.{JsonShape}

-- where an object is kept of a span's fields, the span's object has its members, and then the name
abbrev pub SpansExtendObjects : Type 0
SpansExtendObjects =
    (span : PlainShown) (pairs : List Pair) → span.text ≡ object_text pairs →
    span_object span ≡ object_text (pairs ++ ((codes "name", json_string span.name) ∷ []))

-- an object of JSON is kept of the span's fields
abbrev pub KeepsObject : PlainShown → Type 0
KeepsObject span =
    (pairs : List Pair) × AllByRecursion (λ p. IsJson Value p.1) pairs × (span.text ≡ object_text pairs)

-- what is kept of the span's fields is an object of JSON, or isn't in braces and stands as a string
abbrev pub IsKeptWell : PlainShown → Type 0
IsKeptWell span = KeepsObject span ⊎ (inside_braces span.text ≡ None)

-- an object of JSON, and the end of the line
abbrev pub IsObjectLine : List ℕ → Type 0
IsObjectLine line =
    (inner : List ℕ) × IsJson Value (codes "{" ++ (inner ++ codes "}")) × (line ≡ codes "{" ++ (inner ++ codes "}\n"))

-- each line is an object of JSON, where that is kept of each span or no braces, and numbers are in their types' ranges
abbrev pub LinesAreJson : Type 0
LinesAreJson =
    (shape : JsonShape) (head : PlainHead) (spans : List PlainShown) (values : PlainValues) →
    IfSome head.line (λ line. line < 2 ^ 32) → AllByRecursion IsKeptWell spans →
    AllByRecursion (λ e. IsInRange (debug_of e.1)) values.entries →
    IfSome (json_line shape head spans values) IsObjectLine

-- what is kept of a span's fields is an object of JSON, and the words that it is made of
abbrev pub IsObject : PlainFields → Type 0
IsObject fields =
    (pairs : List Pair) × AllByRecursion (λ p. IsJson Value p.1) pairs × (fields.text ≡ object_text pairs)
    × (fields.words ≡ words_of pairs)

-- what a formatter starts with is such an object, and so is what it makes of one by one more list of values, where
-- numbers are in their types' ranges
abbrev pub KeepsObjects : {N : Type 0} → Ghosts N → Type 0
KeepsObjects {N} g =
    ((formatter : N) (settings : Settings) → IsObject (g.started formatter settings))
    × ((formatter : N) (fields : PlainFields) (values : PlainValues) →
    AllByRecursion (λ e. IsInRange (debug_of e.1)) values.entries → IsObject fields →
    IfSome (g.added formatter fields values) IsObject)

-- a span with the text of such an object keeps one
abbrev pub ObjectsAreKept : Type 0
ObjectsAreKept = (fields : PlainFields) (span : PlainShown) → IsObject fields → span.text ≡ fields.text → KeepsObject span

-- no control character stands in a text of JSON
abbrev pub JsonIsPrinted : Type 0
JsonIsPrinted = (kind : Kind) (text : List ℕ) → IsJson kind text → AllByRecursion (λ b. 32 ≤ b) text

-- and so none stands in a line but its newline, at its end
abbrev pub LinesEndOnce : Type 0
LinesEndOnce =
    (line : List ℕ) → IsObjectLine line →
    (front : List ℕ) × (line ≡ front ++ codes "\n") × AllByRecursion (λ b. 32 ≤ b) front
