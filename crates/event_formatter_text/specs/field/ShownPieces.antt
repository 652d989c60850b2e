-- What a visitor does that writes pieces to a target.
use Rattle.std.specs.Prelude.{ℕ, List, Option, Result}
use base.Fml.{GName}
use Rattle.tracing_core_fields.specs.PlainDebug.{PlainDebug}
use Rattle.tracing_core_fields.specs.PlainField.{PlainField}
use Rattle.event_formatter_text.specs.Lists.{WrotePiece}
use Rattle.event_formatter_text.specs.Visitors.{Frame}
use Rattle.event_formatter_text.specs.declared.error.FormatError.{FormatError}
use Rattle.event_formatter_text.specs.declared.settings.Settings.{Settings}
use Rattle.event_formatter_text.specs.declared.field.field_formatter.PieceVisitor.{PieceVisitor}

-- what stays of the visitor
pub record Standing (F : Type 0) : Type 0 where
  pub function : F
  pub delimiter : List ℕ
  pub target : GName
  pub frame : Frame

abbrev pub standing : {F W : Type 0} → (W → Frame) → PieceVisitor F W → Standing F
standing frame visitor =
    record {
      function = visitor.function.now;
      delimiter = visitor.delimiter.now;
      target = visitor.target.ghost_name;
      frame =
          frame visitor.target.now;
    }

-- the field's piece, behind the delimiter unless it is the first
abbrev pub ShowsPiece : {F W : Type 0} → (W → List ℕ) → (W → Frame) →
    (F → Settings → List ℕ → PlainDebug → Option (List ℕ)) → PieceVisitor F W → PlainField → PlainDebug → Result (Unit {0}) FormatError →
    PieceVisitor F W → Type 0
ShowsPiece text frame piece before field value answer after =
    WrotePiece (λ v. text v.target.now) (λ v. v.is_empty) (standing frame) before.delimiter.now before
    (piece before.function.now (frame before.target.now).settings field.name value) answer after
