-- What a visitor that writes fields by a function does.
use Rattle.std.specs.Prelude.{◌≡◌, ℕ, List, Result, Some}
use Rattle.tracing_core_fields.specs.PlainDebug.{PlainDebug}
use Rattle.tracing_core_fields.specs.PlainField.{PlainField}
use Rattle.event_formatter_text.specs.Lists.{Formats}
use Rattle.event_formatter_text.specs.Visitors.{frame_of}
use Rattle.event_formatter_text.specs.Writers.{settings_of, written}
use Rattle.event_formatter_text.specs.declared.error.FormatError.{FormatError}
use Rattle.event_formatter_text.specs.declared.settings.Settings.{Settings}
use Rattle.event_formatter_text.specs.declared.field.field_fn.FieldFnVisitor.{FieldFnVisitor}

-- the function writes the field to the text that was lent
pub record ShowsByFunction {F : Type 0} (writes : F → Settings → PlainField → PlainDebug → List ℕ → Result (Unit {0}) FormatError → List ℕ →
    Type 0) (before : FieldFnVisitor F) (field : PlainField) (value : PlainDebug) (answer : Result (Unit {0}) FormatError)
    (after : FieldFnVisitor F) : Type 0 where
  pub keeps_function : after.function.now ≡ before.function.now
  pub keeps_frame : frame_of after.writer ≡ frame_of before.writer
  pub text : writes before.function.now (settings_of before.writer) field value (written before.writer) answer (written after.writer)

-- the text is appended to the one that was lent
pub record AppendsText {F : Type 0} (before : FieldFnVisitor F) (text : List ℕ) (answer : Result (Unit {0}) FormatError)
    (after : FieldFnVisitor F) : Type 0 where
  pub keeps_function : after.function.now ≡ before.function.now
  pub keeps_frame : frame_of after.writer ≡ frame_of before.writer
  pub appended : Formats (Some text) (written before.writer) answer (written after.writer)
