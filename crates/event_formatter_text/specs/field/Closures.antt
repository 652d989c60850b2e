-- What a closure that appends a field writes.
use Rattle.std.specs.Prelude.{◌≡◌, ℕ, List, [], ◌++◌, String, Result, Ok, Err, string_bytes}
use Rattle.std.specs.Borrow.{Bor}
use Rattle.std.specs.Global.{Global}
use Rattle.tracing_core_fields.specs.DebugText.{plain_debug}
use Rattle.tracing_core_fields.specs.Field.{plain_field}
use Rattle.tracing_core_fields.specs.PlainDebug.{PlainDebug}
use Rattle.tracing_core_fields.specs.PlainField.{PlainField}
use Rattle.tracing_core_fields.specs.declared.debug_text.DebugText.{DebugText}
use Rattle.tracing_core_fields.specs.declared.field.Field.{Field}
use Rattle.event_formatter_text.specs.declared.error.FormatError.{FormatError}

-- what a closure may answer of a text, a field that says this and a value that says this
abbrev pub AppendsField : (String Global → Bor Field → Bor DebugText → Result (String Global) FormatError → Type 0) → PlainField →
    PlainDebug → String Global → Result (String Global) FormatError → Type 0
AppendsField post field value text answer =
    (f : Bor Field) × (v : Bor DebugText) × (plain_field f.now ≡ field) × (plain_debug v.now ≡ value) × post text f v answer

-- The closure was handed an empty text, and what it gave was appended. A refusal, by the closure or where there is no
-- memory, says nothing of what was appended.
abbrev pub WritesByClosure : (String Global → Result (String Global) FormatError → Type 0) → List ℕ → Result (Unit {0}) FormatError →
    List ℕ → Type 0
WritesByClosure gives before (Ok done) after =
    (empty : String Global) × (filled : String Global) × gives empty (Ok filled) × (string_bytes empty ≡ []) ×
    (after ≡ before ++ string_bytes filled)
WritesByClosure gives before (Err error) after = Unit {0}
