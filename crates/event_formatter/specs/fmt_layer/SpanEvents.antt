-- The events of a span itself.
use Rattle.std.specs.Prelude.{ℕ, Bool, true, false, List, [], ◌∷◌, Option, Some, None, Result, codes}
use Rattle.std.specs.Option.{option_map}
use Rattle.std.specs.declared.io.Error.{Error}
use Rattle.tracing_core_fields.specs.PlainDebug.{Written}
use Rattle.tracing_core_fields.specs.PlainMetadata.{PlainMetadata}
use Rattle.tracing_core_fields.specs.PlainValue.{PlainValue, Debug, Text}
use Rattle.tracing_core_fields.specs.requests.PlainRequests.{PlainEvent, PlainValues}
use Rattle.tracing_core_fields.specs.declared.requests.arguments.parent.Parent.TheVariants.{Explicit}
use Rattle.span_registry_layers_store.specs.declared.slot.Timings.{Timings}
use Rattle.span_registry_layers_layers.specs.Contexts.{metadata_in, span_in}
use Rattle.span_registry_layers_layers.specs.FilterViews.{View}
use Rattle.event_formatter_text.specs.declared.settings.Settings.{Settings}
use Rattle.event_formatter_lines.specs.times.Durations.{duration_text}
use Rattle.event_formatter.specs.formats.Contexts.{PlainContext}
use Rattle.event_formatter.specs.fmt_layer.Layers.{SameLayer, TellsEvent}
use Rattle.event_formatter.specs.declared.fmt_layer.layer.Layer.{Layer}

-- an event with the metadata of a span, which stands in that span
abbrev pub span_event : PlainMetadata → ℕ → List (List ℕ) → List (ℕ × PlainValue) → PlainEvent
span_event m id names entries =
    record {
      metadata = m;
      values = record { callsite = m.callsite; names = names; entries = entries };
      parent = Explicit id;
    }

abbrev pub message_names : List (List ℕ)
message_names = codes "message" ∷ []

abbrev pub message_entries : List ℕ → List (ℕ × PlainValue)
message_entries message = (0, Text message) ∷ []

-- a text as a debug value
abbrev pub debug_value : List ℕ → PlainValue
debug_value text = Debug (Written text text)

-- the fields of a close with timings
abbrev pub close_names : List (List ℕ)
close_names = codes "message" ∷ codes "time.busy" ∷ codes "time.idle" ∷ []

abbrev pub close_texts : List ℕ → List ℕ → List (ℕ × PlainValue)
close_texts busy idle = (0, Text (codes "close")) ∷ (1, debug_value busy) ∷ (2, debug_value idle) ∷ []

abbrev pub close_entries : Timings → List (ℕ × PlainValue)
close_entries timings = close_texts (duration_text timings.busy) (duration_text timings.idle)

module _ {N E W : Type 0} (text_of : N → Settings → PlainValues → Option (List ℕ))
    (line_of : E → Settings → PlainContext → PlainEvent → Option (List ℕ))
    (writes : W → PlainMetadata → List ℕ → Result (Unit {0}) Error → W → Type 0) where
  abbrev pub TellsOf : Option PlainMetadata → Layer N E W → View → ℕ → List (List ℕ) → List (ℕ × PlainValue) → Layer N E W → Type 0
  TellsOf None x v id names entries y = SameLayer x y
  TellsOf (Some m) x v id names entries y = TellsEvent text_of line_of writes x v (span_event m id names entries) y

  -- the line of an event of the span itself, where that is open and seen
  abbrev pub TellsSpan : Layer N E W → View → ℕ → List (List ℕ) → List (ℕ × PlainValue) → Layer N E W → Type 0
  TellsSpan x v id names entries y = TellsOf (option_map metadata_in (span_in v id)) x v id names entries y

  -- the same where it is asked for
  abbrev pub TellsSpanIf : Bool → Layer N E W → View → ℕ → List (List ℕ) → List (ℕ × PlainValue) → Layer N E W → Type 0
  TellsSpanIf true x v id names entries y = TellsSpan x v id names entries y
  TellsSpanIf false x v id names entries y = SameLayer x y

  -- the line of a close, with the timings where there are any
  abbrev pub TellsClose : Option Timings → Layer N E W → View → ℕ → Layer N E W → Type 0
  TellsClose None x v id y = TellsSpan x v id message_names (message_entries (codes "close")) y
  TellsClose (Some timings) x v id y = TellsSpan x v id close_names (close_entries timings) y
