-- Output machines whose lines don't steer a terminal.
use Rattle.std.specs.Prelude.{List, IfSome}
use Rattle.std.specs.List.{AllByRecursion}
use Rattle.event_formatter_text.specs.HarmlessTexts.{AreTame, LetsPass}
use Rattle.event_formatter_text.specs.TerminalControls.{AreHarmless}
use Rattle.event_formatter_text.specs.declared.format_fields.FormatFields.{Ghosts}
use Rattle.event_formatter.specs.fmt_layer.Threads.{PlainLane}
use Rattle.span_tracing_outputs.specs.OutputMachines.{Fated, Heard, KeptSpan, PlainLine, PlainOut, Seen, out_run}
use Rattle.span_tracing_laws.specs.harmless.Kept.{IsHarmlessKept, KeepsHarmlessTexts, WritesHarmlessTexts}
use Rattle.span_tracing_laws.specs.harmless.Lines.{IsTameEvent, IsTameMetadata, WritesHarmlessLines}
use Rattle.span_tracing_laws.specs.machines.Lines.{AreLines}
use Rattle.span_tracing_laws.specs.machines.Said.{HeardIs}

-- no name or target of a span in a scope steers a terminal
abbrev pub IsTameSeen : Seen → Type 0
IsTameSeen span = LetsPass span.name × LetsPass span.target

-- nor do those of a notice's spans, and what is said is tame
abbrev pub IsTameHeard : Heard → Type 0
IsTameHeard h = HeardIs IsTameSeen IsTameMetadata AreTame IsTameEvent h

abbrev pub AreTameNotices : List Fated → Type 0
AreTameNotices ts = AllByRecursion (λ (t : Fated). IsTameHeard t.heard) ts

-- nothing that is kept of spans' fields steers a terminal
abbrev pub KeepsHarmless : {N : Type 0} → PlainOut N → Type 0
KeepsHarmless o = AllByRecursion (λ (k : KeptSpan). IfSome k.kept.fields IsHarmlessKept) o.kept

-- no thread's name does
abbrev pub AreTameLanes : List PlainLane → Type 0
AreTameLanes lanes = AllByRecursion (λ (lane : PlainLane). IfSome lane.name LetsPass) lanes

-- no line does
abbrev pub AreHarmlessLines : List PlainLine → Type 0
AreHarmlessLines lines = AreLines LetsPass lines

module _ {N : Type 0} (n : Ghosts N) where
  -- an output whose format writes harmless lines, whose formatter of fields writes and keeps harmless texts, without styles and sanitized;
  -- no thread's name steers a terminal, nor does anything that is kept of spans
  pub record IsHarmlessOut (o : PlainOut N) : Type 0 where
    pub format : WritesHarmlessLines o.line_of
    pub texts : WritesHarmlessTexts n o.config.fields
    pub keeps : KeepsHarmlessTexts n o.config.fields
    pub settings : AreHarmless o.config.settings
    pub lanes : AreTameLanes o.lanes
    pub kept : KeepsHarmless o

  -- it stays one over tame notices, and each line that it offers is harmless, also one that stands in place of an event
  abbrev pub OutputsStayHarmless : Type 0
  OutputsStayHarmless =
      (o : PlainOut N) (ts : List Fated) → AreTameNotices ts → IsHarmlessOut o → AreHarmlessLines o.lines →
      IsHarmlessOut (out_run n o ts) × AreHarmlessLines (out_run n o ts).lines
