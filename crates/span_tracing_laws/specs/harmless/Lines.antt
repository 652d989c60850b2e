-- Lines of events, where they don't steer a terminal.
use Rattle.std.specs.Prelude.{◌≡◌, ◌<◌, ◌^◌, ℕ, ℤ, false, List, Option, IfSome}
use Rattle.std.specs.List.{AllByRecursion}
use Rattle.tracing_core_fields.specs.PlainMetadata.{PlainMetadata}
use Rattle.tracing_core_fields.specs.requests.PlainRequests.{PlainEvent, PlainValues}
use Rattle.event_formatter_text.specs.HarmlessTexts.{AreTame, LetsPass}
use Rattle.event_formatter_text.specs.TerminalControls.{AreHarmless}
use Rattle.event_formatter_text.specs.declared.settings.Settings.{Settings}
use Rattle.event_formatter_lines.specs.HarmlessLines.{IsTameSpan}
use Rattle.event_formatter.specs.formats.Contexts.{PlainContext}
use Rattle.event_formatter.specs.declared.formats.format.Format.{Format}
use Rattle.event_formatter.specs.declared.formats.line_format.LineFormat.{LineFormat}
use Rattle.event_formatter.specs.declared.formats.line_format.LineFormat.TheVariants as format

-- no name, target or file of metadata steers a terminal, no name of a field does, and the number of the line in the source has 32 bits
pub record IsTameMetadata (m : PlainMetadata) : Type 0 where
  pub name : LetsPass m.name
  pub target : LetsPass m.target
  pub file : IfSome m.file LetsPass
  pub line : IfSome m.line (λ line. line < 2 ^ 32)
  pub field_names : AllByRecursion LetsPass m.field_names

-- nor does an event's metadata, and its values are tame
abbrev pub IsTameEvent : PlainEvent → Type 0
IsTameEvent e = IsTameMetadata e.metadata × AreTame e.values

-- nor does what else stands in a line: the thread's name, the spans by their names, targets and kept texts, and the texts of fields
pub record IsTameContext (c : PlainContext) : Type 0 where
  pub thread : IfSome c.thread.name LetsPass
  pub loose : AllByRecursion IsTameSpan c.loose
  pub strict : AllByRecursion IsTameSpan c.strict
  pub fields : (settings : Settings) → AreHarmless settings → (values : PlainValues) → AreTame values →
      IfSome (c.text_of settings values) LetsPass

-- no line of a tame event in a tame context steers a terminal, where texts are sanitized and there are no styles
abbrev pub WritesHarmlessLines : (Settings → PlainContext → PlainEvent → Option (List ℕ)) → Type 0
WritesHarmlessLines line_of =
    (settings : Settings) → AreHarmless settings → (c : PlainContext) → IsTameContext c → (e : PlainEvent) → IsTameEvent e →
    IfSome (line_of settings c e) LetsPass

-- a format that writes lines for people, and not as JSON
abbrev pub IsLineForPeople : LineFormat → Type 0
IsLineForPeople format.Full = Unit {0}
IsLineForPeople format.Compact = Unit {0}
IsLineForPeople (format.Pretty p) = Unit {0}
IsLineForPeople (format.Json json) = ⊥

-- no text of a moment steers a terminal
abbrev pub TellsHarmlessTimes : (ℤ → ℕ → Option (List ℕ)) → Type 0
TellsHarmlessTimes text_at = (seconds : ℤ) (nanoseconds : ℕ) → IfSome (text_at seconds nanoseconds) LetsPass

-- a layout that writes lines for people, has no styles of its own, and whose timer's texts steer nothing
pub record IsHarmlessLayout {T : Type 0} (text_at : T → ℤ → ℕ → Option (List ℕ)) (layout : Format LineFormat T) : Type 0 where
  pub shape : IsLineForPeople layout.shape
  pub ansi : IfSome layout.ansi (λ styles. styles ≡ false)
  pub times : TellsHarmlessTimes (text_at layout.timer)

-- each such layout writes lines that steer nothing
abbrev pub FormatsWriteHarmlessLines : {T : Type 0} → (T → ℤ → ℕ → Option (List ℕ)) →
    (Format LineFormat T → Settings → PlainContext → PlainEvent → Option (List ℕ)) → Type 0
FormatsWriteHarmlessLines {T} text_at line_of =
    (layout : Format LineFormat T) → IsHarmlessLayout text_at layout → WritesHarmlessLines (line_of layout)
