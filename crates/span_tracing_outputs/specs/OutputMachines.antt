-- An output machine: what an output keeps, and what a notice makes of it. It can name nothing of another output.
use Rattle.std.specs.Prelude.{◌+◌, ◌&&◌, ◌==◌, ℕ, min, Bool, true, false, if◌then◌else◌, List, [], ◌∷◌, ◌++◌, map, Option, Some, None}
use Rattle.std.specs.Prelude.{codes}
use Rattle.tracing_core_fields.specs.PlainMetadata.{PlainMetadata}
use Rattle.tracing_core_fields.specs.requests.PlainRequests.{PlainAttributes, PlainEvent, PlainValues}
use Rattle.tracing_core_moments.specs.declared.at.At.{At}
use Rattle.span_registry_layers_store.specs.declared.slot.Timings.{Timings}
use Rattle.event_formatter_text.specs.declared.format_fields.FormatFields.{Ghosts}
use Rattle.event_formatter_text.specs.declared.settings.Settings.{Settings}
use Rattle.event_formatter_lines.specs.Shown.{PlainShown}
use Rattle.event_formatter_lines.specs.times.SpanTimings.{at_start}
use Rattle.event_formatter_lines.specs.slots.FieldsAndTimings.{PlainKept, is_whole, kept_first, kept_more, nothing_kept, text_of}
use Rattle.event_formatter_lines.specs.declared.slots.first_text.FirstText.{FirstText}
use Rattle.event_formatter_lines.specs.declared.slots.first_text.FirstText.TheVariants as first
use Rattle.event_formatter_lines.specs.slots.SteppedTimings.{kept_stepped}
use Rattle.event_formatter_lines.specs.declared.slots.timings.TimingStep.{TimingStep}
use Rattle.event_formatter_lines.specs.declared.slots.timings.TimingStep.TheVariants as step
use Rattle.event_formatter.specs.formats.Contexts.{PlainContext}
use Rattle.event_formatter.specs.fmt_layer.Lines.{line_or_fault}
use Rattle.event_formatter.specs.fmt_layer.SpanEvents.{close_entries, close_names, message_entries, message_names, span_event}
use Rattle.event_formatter.specs.fmt_layer.Threads.{PlainLane, longest_with, thread_at}
use Rattle.event_formatter.specs.declared.fmt_layer.layer.Config.{Config}

-- a span that the output passed, as a line shows it, but for its text
pub record Seen : Type 0 where
  pub id : ℕ
  pub name : List ℕ
  pub target : List ℕ

-- a call on a span: it was made with values, or more were recorded; it was entered or left; it closes
pub data Call : Type 0 where
  Made : PlainAttributes → Call
  Recorded : PlainValues → Call
  Entered : Call
  Left : Call
  Closed : Call

-- what an output is told: a call on a span of this metadata, or an event
pub data Said : Type 0 where
  OnSpan : ℕ → PlainMetadata → Call → Said
  Happened : PlainEvent → Said

-- a notice as the output hears it: where and when, what, and of the spans that it passed those of the loose and of the strict scope, from
-- the root on
pub record Heard : Type 0 where
  pub at : At
  pub said : Said
  pub loose : List Seen
  pub strict : List Seen

-- how much of the text that is kept found memory, and whether the line did. Of values that are recorded there are two cases, all or nothing
pub record Fate : Type 0 where
  pub text : FirstText
  pub line : Bool

-- a notice with what became of its text and its line
pub record Fated : Type 0 where
  pub heard : Heard
  pub fate : Fate

-- what is kept with a span
pub record KeptSpan : Type 0 where
  pub id : ℕ
  pub kept : PlainKept

-- a line that is offered, with the level of its event
pub record PlainLine : Type 0 where
  pub level : ℕ
  pub bytes : List ℕ

-- an output: how it was made, its format as a function, the threads of lanes, the length of the longest name that it met, what it keeps
-- with spans,
-- the latest first, and the lines that it offers in this step
pub record PlainOut (N : Type 0) : Type 0 where
  pub config : Config N
  pub line_of : Settings → PlainContext → PlainEvent → Option (List ℕ)
  pub lanes : List PlainLane
  pub longest : ℕ
  pub kept : List KeptSpan
  pub lines : List PlainLine

-- what is kept with the span of an id
abbrev pub kept_found : List KeptSpan → ℕ → PlainKept
kept_found [] id = nothing_kept
kept_found (k ∷ ks) id = if k.id == id then k.kept else kept_found ks id

-- a span with the text that is kept with it
abbrev pub shown_with : List KeptSpan → Seen → PlainShown
shown_with ks s = record { name = s.name; target = s.target; text = text_of (kept_found ks s.id) }

-- a line is one more where it found memory
abbrev pub one_more_line : Bool → ℕ → List ℕ → List PlainLine → List PlainLine
one_more_line true level bytes lines = lines ++ (record { level = level; bytes = bytes }) ∷ []
one_more_line false level bytes lines = lines

-- the same of a line, where there is one
abbrev pub more_lines : Bool → ℕ → Option (List ℕ) → List PlainLine → List PlainLine
more_lines whole level None lines = lines
more_lines whole level (Some bytes) lines = one_more_line whole level bytes lines

-- how many found no memory, up to the greatest count
abbrev pub missed_after : Bool → ℕ → ℕ
missed_after true count = count
missed_after false count = min (count + 1) 18446744073709551615

-- after the text and then the line
abbrev pub starved_after : Fate → ℕ → ℕ
starved_after f count = missed_after f.line (missed_after (is_whole f.text) count)

-- after notices in order
abbrev pub starved_by : List Fated → ℕ → ℕ
starved_by [] count = count
starved_by (t ∷ ts) count = starved_by ts (starved_after t.fate count)

abbrev pub heards_of : List Fated → List Heard
heards_of ts = map (λ (t : Fated). t.heard) ts

abbrev pub fates_of : List Fated → List Fate
fates_of ts = map (λ (t : Fated). t.fate) ts

-- all found memory
abbrev pub all_whole : Fate
all_whole = record { text = first.Whole; line = true }

-- notices with their fates; where none is told, all found memory
abbrev pub with_fates : List Heard → List Fate → List Fated
with_fates [] fates = []
with_fates (h ∷ hs) [] = (record { heard = h; fate = all_whole }) ∷ with_fates hs []
with_fates (h ∷ hs) (f ∷ fates) = (record { heard = h; fate = f }) ∷ with_fates hs fates

module _ {N : Type 0} (g : Ghosts N) where
  -- what the output's line of an event is written of
  abbrev pub context_of : PlainOut N → Heard → PlainContext
  context_of o h =
      record {
        seconds = h.at.seconds;
        nanoseconds = h.at.nanoseconds;
        thread = thread_at o.lanes o.longest h.at.lane;
        loose = map (shown_with o.kept) h.loose;
        strict = map (shown_with o.kept) h.strict;
        text_of = g.text_of o.config.fields;
      }

  -- the line of an event, or what stands in its place
  abbrev pub line_of_event : PlainOut N → Heard → PlainEvent → Option (List ℕ)
  line_of_event o h e = line_or_fault o.config.log_internal_errors e.metadata (o.line_of o.config.settings (context_of o h) e)

  -- once the name of the lane's thread was met
  abbrev pub having_met : PlainOut N → ℕ → PlainOut N
  having_met o lane = record o { longest = longest_with o.lanes o.longest lane }

  abbrev pub offering : PlainOut N → Heard → PlainEvent → Bool → PlainOut N
  offering o h e whole = record o { lines = more_lines whole e.metadata.level (line_of_event o h e) o.lines }

  -- an event's line is offered
  abbrev pub event_after : PlainOut N → Heard → PlainEvent → Bool → PlainOut N
  event_after o h e whole = offering (having_met o h.at.lane) h e whole

  -- the same of an event of a span itself, where it is asked for
  abbrev pub event_if : Bool → PlainOut N → Heard → PlainEvent → Bool → PlainOut N
  event_if true o h e whole = event_after o h e whole
  event_if false o h e whole = o

  -- with what is kept with a span now
  abbrev pub keeping : PlainOut N → ℕ → PlainKept → PlainOut N
  keeping o id kept = record o { kept = (record { id = id; kept = kept }) ∷ o.kept }

  -- the timings of a span that is made at this moment, where its close is to tell them
  abbrev pub timings_at_first : PlainOut N → At → Option Timings
  timings_at_first o at =
      if o.config.span_events.close && o.config.has_timer then Some (at_start at.seconds at.nanoseconds) else None

  -- what is kept with a new span
  abbrev pub kept_of_new : PlainOut N → At → PlainValues → FirstText → PlainKept
  kept_of_new o at values text =
      kept_first text (λ kept. g.added o.config.fields kept values) (g.started o.config.fields o.config.settings) (timings_at_first o at)

  -- and once more values were recorded
  abbrev pub kept_of_more : PlainOut N → ℕ → PlainValues → Bool → PlainKept
  kept_of_more o id values whole =
      kept_more whole (λ kept. g.added o.config.fields kept values) (g.started o.config.fields o.config.settings) (kept_found o.kept id)

  -- an event of a span with a message
  abbrev pub message_event : PlainMetadata → ℕ → List ℕ → PlainEvent
  message_event m id message = span_event m id message_names (message_entries message)

  -- the event of a close, with the timings where there are any
  abbrev pub close_event : PlainMetadata → ℕ → Option Timings → PlainEvent
  close_event m id None = message_event m id (codes "close")
  close_event m id (Some timings) = span_event m id close_names (close_entries timings)

  -- the timings go on, and the span's event is told where it is asked for
  abbrev pub stepped : TimingStep → Bool → List ℕ → PlainOut N → Heard → ℕ → PlainMetadata → Fate → PlainOut N
  stepped s is_asked message o h id m f =
      event_if is_asked (keeping o id (kept_stepped s h.at (kept_found o.kept id))) h (message_event m id message) f.line

  abbrev pub closed_with : PlainKept → PlainOut N → Heard → ℕ → PlainMetadata → Fate → PlainOut N
  closed_with kept o h id m f = event_if o.config.span_events.close (keeping o id kept) h (close_event m id kept.timings) f.line

  abbrev pub call_after : Call → PlainOut N → Heard → ℕ → PlainMetadata → Fate → PlainOut N
  call_after (Made a) o h id m f =
      event_if o.config.span_events.new (keeping o id (kept_of_new o h.at a.values f.text)) h (message_event m id (codes "new")) f.line
  call_after (Recorded values) o h id m f = keeping o id (kept_of_more o id values (is_whole f.text))
  call_after Entered o h id m f = stepped step.Enter o.config.span_events.enter (codes "enter") o h id m f
  call_after Left o h id m f = stepped step.Exit o.config.span_events.exit (codes "exit") o h id m f
  call_after Closed o h id m f = closed_with (kept_stepped step.Close h.at (kept_found o.kept id)) o h id m f

  abbrev pub said_after : Said → PlainOut N → Heard → Fate → PlainOut N
  said_after (OnSpan id m call) o h f = call_after call o h id m f
  said_after (Happened e) o h f = event_after o h e f.line

  -- what a notice makes of an output
  abbrev pub out_after : PlainOut N → Heard → Fate → PlainOut N
  out_after o h f = said_after h.said o h f

  -- notices in order, with their fates
  abbrev pub out_run : PlainOut N → List Fated → PlainOut N
  out_run o [] = o
  out_run o (t ∷ ts) = out_run (out_after o t.heard t.fate) ts

-- its lines were handed on
abbrev pub rested : {N : Type 0} → PlainOut N → PlainOut N
rested o = record o { lines = [] }
