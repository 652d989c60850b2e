-- What is kept of the fields of spans, where it doesn't steer a terminal.
use Rattle.std.specs.Prelude.{IfSome}
use Rattle.tracing_core_fields.specs.requests.PlainRequests.{PlainValues}
use Rattle.event_formatter_text.specs.HarmlessTexts.{AreTame, LetsPass}
use Rattle.event_formatter_text.specs.SpanFields.{PlainFields}
use Rattle.event_formatter_text.specs.TerminalControls.{AreHarmless}
use Rattle.event_formatter_text.specs.declared.format_fields.FormatFields.{Ghosts}
use Rattle.event_formatter_text.specs.declared.settings.Settings.{Settings}
use Rattle.event_formatter.specs.declared.formats.fields.Fields.{Fields}
use Rattle.event_formatter.specs.declared.formats.fields.Fields.TheVariants as fields

-- the text that is kept steers nothing, and more is written without styles and sanitized
pub record IsHarmlessKept (kept : PlainFields) : Type 0 where
  pub text : LetsPass kept.text
  pub settings : AreHarmless kept.settings

-- a formatter's text of tame values steers nothing
abbrev pub WritesHarmlessTexts : {N : Type 0} → Ghosts N → N → Type 0
WritesHarmlessTexts g formatter =
    (settings : Settings) → AreHarmless settings → (values : PlainValues) → AreTame values →
    IfSome (g.text_of formatter settings values) LetsPass

-- nor does what it starts with, nor what it makes of that by more tame values
abbrev pub KeepsHarmlessTexts : {N : Type 0} → Ghosts N → N → Type 0
KeepsHarmlessTexts g formatter =
    ((settings : Settings) → AreHarmless settings → IsHarmlessKept (g.started formatter settings))
    × ((kept : PlainFields) (values : PlainValues) → AreTame values → IsHarmlessKept kept →
    IfSome (g.added formatter kept values) IsHarmlessKept)

-- a formatter of fields that writes them for people, and not as JSON
abbrev pub IsForPeople : Fields → Type 0
IsForPeople fields.Default = Unit {0}
IsForPeople fields.Pretty = Unit {0}
IsForPeople fields.PrettyFields = Unit {0}
IsForPeople fields.Json = ⊥

-- each such formatter writes and keeps texts that steer nothing
abbrev pub KeptTextsAreHarmless : Ghosts Fields → Type 0
KeptTextsAreHarmless g =
    (formatter : Fields) → IsForPeople formatter → WritesHarmlessTexts g formatter × KeepsHarmlessTexts g formatter
