-- What the visitors do with a value.
use Rattle.std.specs.Prelude.{ℕ, List, Option, Result, codes}
use base.Fml.{GName}
use Rattle.tracing_core_fields.specs.PlainDebug.{PlainDebug}
use Rattle.tracing_core_fields.specs.PlainField.{PlainField}
use Rattle.event_formatter_text.specs.FieldTexts.{field_piece}
use Rattle.tracing_core_fields.specs.PlainValue.{PlainValue, debug_of}
use Rattle.tracing_core_fields.specs.requests.PlainRequests.{PlainValues}
use Rattle.event_formatter_text.specs.Lists.{WroteField, list_text}
use Rattle.event_formatter_text.specs.JsonTexts.{json_piece}
use Rattle.event_formatter_text.specs.Writers.{written, without_styles}
use Rattle.event_formatter_text.specs.declared.error.FormatError.{FormatError}
use Rattle.event_formatter_text.specs.declared.field_text.Punctuation.TheVariants.{Default, Pretty}
use Rattle.event_formatter_text.specs.declared.settings.Settings.{Settings}
use Rattle.event_formatter_text.specs.declared.writer.Writer.{Writer}
use Rattle.event_formatter_text.specs.declared.visitors.default.DefaultVisitor.{DefaultVisitor}
use Rattle.event_formatter_text.specs.declared.visitors.json.JsonVisitor.{JsonVisitor}
use Rattle.event_formatter_text.specs.declared.visitors.pretty.PrettyVisitor.{PrettyVisitor}

-- what stays of a writer: over which text, and how it writes
pub record Frame : Type 0 where
  pub text : GName
  pub settings : Settings

abbrev pub frame_of : Writer → Frame
frame_of writer = record { text = writer.out.ghost_name; settings = writer.settings }

abbrev pub ShowsByDefault : DefaultVisitor → PlainField → PlainDebug → Result (Unit {0}) FormatError → DefaultVisitor → Type 0
ShowsByDefault before field value answer after =
    WroteField (λ v. written v.writer) (λ v. v.is_empty) (λ v. frame_of v.writer) (codes " ") before
    (field_piece before.writer.settings Default field.name value) answer after

-- a field as `name=value`
abbrev pub default_piece : Settings → List ℕ → PlainValue → Option (List ℕ)
default_piece settings name value = field_piece settings Default name (debug_of value)

-- fields as `name=value`, a space between two
abbrev pub default_text : Settings → PlainValues → Option (List ℕ)
default_text settings values = list_text (codes " ") (default_piece settings) values

abbrev pub ShowsPrettily : PrettyVisitor → PlainField → PlainDebug → Result (Unit {0}) FormatError → PrettyVisitor → Type 0
ShowsPrettily before field value answer after =
    WroteField (λ v. written v.writer) (λ v. v.is_empty) (λ v. frame_of v.writer) (codes ", ") before
    (field_piece before.writer.settings Pretty field.name value) answer after

-- a field as `name: value`
abbrev pub pretty_piece : Settings → List ℕ → PlainValue → Option (List ℕ)
pretty_piece settings name value = field_piece settings Pretty name (debug_of value)

-- fields as `name: value`, a comma and a space between two, without styles
abbrev pub pretty_text : Settings → PlainValues → Option (List ℕ)
pretty_text settings values = list_text (codes ", ") (pretty_piece (without_styles settings)) values

abbrev pub ShowsAsJson : JsonVisitor → PlainField → PlainDebug → Result (Unit {0}) FormatError → JsonVisitor → Type 0
ShowsAsJson before field value answer after =
    WroteField (λ v. written v.writer) (λ v. v.is_empty) (λ v. frame_of v.writer) (codes ",") before
    (json_piece field.name value) answer after

-- a field as a member of an object
abbrev pub member_piece : List ℕ → PlainValue → Option (List ℕ)
member_piece name value = json_piece name (debug_of value)

-- fields as members of an object, in the order of the list
abbrev pub members_text : PlainValues → Option (List ℕ)
members_text values = list_text (codes ",") member_piece values
