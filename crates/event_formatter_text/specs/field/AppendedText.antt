-- Texts that stand between the fields of the visitors that write them.
use Rattle.std.specs.Prelude.{◌≡◌, ℕ, List, Bool, Result, Some}
use Rattle.event_formatter_text.specs.Lists.{Formats}
use Rattle.event_formatter_text.specs.Visitors.{frame_of}
use Rattle.event_formatter_text.specs.Writers.{written}
use Rattle.event_formatter_text.specs.declared.error.FormatError.{FormatError}
use Rattle.event_formatter_text.specs.declared.visitors.default.DefaultVisitor.{DefaultVisitor}
use Rattle.event_formatter_text.specs.declared.visitors.json.JsonVisitor.{JsonVisitor}
use Rattle.event_formatter_text.specs.declared.visitors.pretty.PrettyVisitor.{PrettyVisitor}
use Rattle.event_formatter_text.specs.declared.writer.Writer.{Writer}

-- The text is appended to what was written. Whether the next field is the first one stays as it is.
pub record Appends {V : Type 0} (writer : V → Writer) (is_empty : V → Bool) (before : V) (text : List ℕ)
    (answer : Result (Unit {0}) FormatError) (after : V) : Type 0 where
  pub keeps_frame : frame_of (writer after) ≡ frame_of (writer before)
  pub keeps_first : is_empty after ≡ is_empty before
  pub appended : Formats (Some text) (written (writer before)) answer (written (writer after))

abbrev pub AppendsByDefault : DefaultVisitor → List ℕ → Result (Unit {0}) FormatError → DefaultVisitor → Type 0
AppendsByDefault = Appends (λ v. v.writer) (λ v. v.is_empty)

abbrev pub AppendsPrettily : PrettyVisitor → List ℕ → Result (Unit {0}) FormatError → PrettyVisitor → Type 0
AppendsPrettily = Appends (λ v. v.writer) (λ v. v.is_empty)

abbrev pub AppendsAsJson : JsonVisitor → List ℕ → Result (Unit {0}) FormatError → JsonVisitor → Type 0
AppendsAsJson = Appends (λ v. v.writer) (λ v. v.is_empty)
