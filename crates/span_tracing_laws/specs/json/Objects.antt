-- Output machines whose lines are objects of JSON.
use Rattle.std.specs.Prelude.{◌≡◌, ◌<◌, ◌^◌, ◌⊎◌, ℕ, Bool, false, List, Option, Some, IfSome, IsSome}
use Rattle.std.specs.List.{AllByRecursion}
use Rattle.tracing_core_fields.specs.PlainMetadata.{PlainMetadata}
use Rattle.tracing_core_fields.specs.PlainValue.{debug_of}
use Rattle.tracing_core_fields.specs.requests.PlainRequests.{PlainEvent, PlainValues}
use Rattle.event_formatter_text.specs.MemberChains.{members_of}
use Rattle.event_formatter_text.specs.JsonLaws.{IsInRange}
use Rattle.event_formatter_text.specs.SpanFields.{PlainFields}
use Rattle.event_formatter_text.specs.declared.format_fields.FormatFields.{Ghosts}
use Rattle.event_formatter_text.specs.declared.settings.Settings.{Settings}
use Rattle.event_formatter_lines.specs.JsonLaws.{IsKeptWell, IsObject, IsObjectLine}
use Rattle.event_formatter.specs.formats.Contexts.{PlainContext}
use Rattle.event_formatter.specs.fmt_layer.Lines.{fault_if}
use Rattle.span_tracing_outputs.specs.OutputMachines.{Fated, Happened, KeptSpan, OnSpan, PlainLine, PlainOut, Said, out_run}
use Rattle.span_tracing_laws.specs.machines.Lines.{AreLines}
use Rattle.span_tracing_laws.specs.machines.Said.{SaidIs}

-- the numbers of values are in the ranges of their types
abbrev pub AreInRange : PlainValues → Type 0
AreInRange values = AllByRecursion (λ e. IsInRange (debug_of e.1)) values.entries

-- the number of a line in the source is in its type's range, where it is known
abbrev pub IsPlaceInRange : PlainMetadata → Type 0
IsPlaceInRange m = IfSome m.line (λ line. line < 2 ^ 32)

-- the numbers of an event's values and of its line in the source are in range
abbrev pub IsEventInRange : PlainEvent → Type 0
IsEventInRange e = IsPlaceInRange e.metadata × AreInRange e.values

-- all numbers of what an output is told are in range
abbrev pub IsInRangeSaid : Said → Type 0
IsInRangeSaid said = SaidIs IsPlaceInRange AreInRange IsEventInRange said

-- each value of an event can be formatted
abbrev pub CanBeFormatted : PlainEvent → Type 0
CanBeFormatted e = IsSome (members_of e.values)

-- what an output is told can be formatted, where that is an event
abbrev pub IsFormattedSaid : Said → Type 0
IsFormattedSaid (OnSpan id m call) = Unit {0}
IsFormattedSaid (Happened e) = CanBeFormatted e

-- all numbers of notices are in range
abbrev pub AreInRangeSaid : List Fated → Type 0
AreInRangeSaid ts = AllByRecursion (λ (t : Fated). IsInRangeSaid t.heard.said) ts

-- each event among notices can be formatted
abbrev pub AreFormattedSaid : List Fated → Type 0
AreFormattedSaid ts = AllByRecursion (λ (t : Fated). IsFormattedSaid t.heard.said) ts

-- a format's line of an event with numbers in range is an object of JSON and a newline, where there is a line, and an object or a text
-- without braces is kept of each span
abbrev pub WritesObjects : (Settings → PlainContext → PlainEvent → Option (List ℕ)) → Type 0
WritesObjects line_of =
    (settings : Settings) (c : PlainContext) (e : PlainEvent) → AllByRecursion IsKeptWell c.loose → IsEventInRange e →
    IfSome (line_of settings c e) IsObjectLine

-- a format has a line for each event that can be formatted
abbrev pub WritesEach : (Settings → PlainContext → PlainEvent → Option (List ℕ)) → Type 0
WritesEach line_of = (settings : Settings) (c : PlainContext) (e : PlainEvent) → CanBeFormatted e → IsSome (line_of settings c e)

-- what this formatter of fields starts with is an object, and so is what it makes of one by more values with numbers in range
abbrev pub KeepsObjectsOf : {N : Type 0} → Ghosts N → N → Type 0
KeepsObjectsOf g formatter =
    ((settings : Settings) → IsObject (g.started formatter settings))
    × ((fields : PlainFields) (values : PlainValues) → AreInRange values → IsObject fields →
    IfSome (g.added formatter fields values) IsObject)

-- an object is kept of the span's fields, where any are kept
abbrev pub KeepsJsonOf : KeptSpan → Type 0
KeepsJsonOf k = IfSome k.kept.fields IsObject

-- an object is kept of each span of which fields are kept
abbrev pub KeepsJson : {N : Type 0} → PlainOut N → Type 0
KeepsJson o = AllByRecursion KeepsJsonOf o.kept

-- a line stands in place of an event that can't be formatted, where such events are told
abbrev pub IsFault : Bool → List ℕ → Type 0
IsFault tells_faults line = (m : PlainMetadata) × (fault_if tells_faults m ≡ Some line)

-- each of these lines is an object and a newline, or stands in place of an event that can't be formatted
abbrev pub AreObjectsOrFaults : Bool → List PlainLine → Type 0
AreObjectsOrFaults tells_faults lines = AllByRecursion (λ (line : PlainLine). IsObjectLine line.bytes ⊎ IsFault tells_faults line.bytes)
    lines

-- each of these lines is an object and a newline
abbrev pub AreObjectLines : List PlainLine → Type 0
AreObjectLines lines = AreLines IsObjectLine lines

-- an output was made as another one, and has the same format
pub record IsMadeAs {N : Type 0} (o p : PlainOut N) : Type 0 where
  pub config : p.config ≡ o.config
  pub format : p.line_of ≡ o.line_of

module _ {N : Type 0} (n : Ghosts N) where
  -- an output of JSON: its format writes objects, its formatter of fields keeps objects, and it keeps an object with each span of which it
  -- keeps fields
  pub record IsJsonOut (o : PlainOut N) : Type 0 where
    pub format : WritesObjects o.line_of
    pub fields : KeepsObjectsOf n o.config.fields
    pub kept : KeepsJson o

  -- an output of JSON stays one over notices with numbers in range
  abbrev pub StaysJson : Type 0
  StaysJson = (o : PlainOut N) (ts : List Fated) → AreInRangeSaid ts → IsJsonOut o → IsJsonOut (out_run n o ts) ×
      IsMadeAs o (out_run n o ts)

  -- each line that it offers then is an object, or stands in place of an event that can't be formatted
  abbrev pub LinesAreObjectsOrFaults : Type 0
  LinesAreObjectsOrFaults =
      (o : PlainOut N) (ts : List Fated) → AreInRangeSaid ts → IsJsonOut o →
      AreObjectsOrFaults o.config.log_internal_errors o.lines → AreObjectsOrFaults o.config.log_internal_errors (out_run n o ts).lines

  -- where it doesn't tell such events, each line is an object
  abbrev pub UntoldFaultsLeaveObjects : Type 0
  UntoldFaultsLeaveObjects =
      (o : PlainOut N) (ts : List Fated) → AreInRangeSaid ts → IsJsonOut o → o.config.log_internal_errors ≡ false → AreObjectLines o.lines →
      AreObjectLines (out_run n o ts).lines

  -- so it is where each event that the output hears can be formatted, and its format has a line for each that can be
  abbrev pub FormattedEventsLeaveObjects : Type 0
  FormattedEventsLeaveObjects =
      (o : PlainOut N) (ts : List Fated) → AreInRangeSaid ts → AreFormattedSaid ts → IsJsonOut o → WritesEach o.line_of →
      AreObjectLines o.lines → AreObjectLines (out_run n o ts).lines

  -- what holds of an output of JSON over notices in order
  pub record JsonRuns : Type 0 where
    pub stays : StaysJson
    pub lines : LinesAreObjectsOrFaults
    pub untold : UntoldFaultsLeaveObjects
    pub formatted : FormattedEventsLeaveObjects
