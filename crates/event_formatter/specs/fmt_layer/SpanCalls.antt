-- What a layer makes of what it is told of spans.
use Rattle.std.specs.Prelude.{◌≡◌, ◌&&◌, ℕ, Bool, true, false, if◌then◌else◌, List, Option, Some, None, Result, codes}
use Rattle.std.specs.declared.io.Error.{Error}
use Rattle.tracing_core_fields.specs.PlainMetadata.{PlainMetadata}
use Rattle.tracing_core_fields.specs.requests.PlainRequests.{PlainAttributes, PlainEvent, PlainValues}
use Rattle.tracing_core_moments.specs.declared.at.At.{At}
use Rattle.span_registry_layers_store.specs.Registries.{RegistryValue}
use Rattle.span_registry_layers_store.specs.declared.slot.Timings.{Timings}
use Rattle.span_registry_layers_layers.specs.Contexts.{span_in}
use Rattle.span_registry_layers_layers.specs.FilterViews.{View, seeing}
use Rattle.event_formatter_text.specs.declared.format_fields.FormatFields.{Ghosts}
use Rattle.event_formatter_text.specs.declared.settings.Settings.{Settings}
use Rattle.event_formatter_lines.specs.times.SpanTimings.{at_start}
use Rattle.event_formatter_lines.specs.slots.FieldsAndTimings.{is_whole, kept_first, kept_more}
use Rattle.event_formatter_lines.specs.slots.SpanUpdates.{Rekeeps, kept_in}
use Rattle.event_formatter_lines.specs.slots.SteppedTimings.{kept_stepped}
use Rattle.event_formatter_lines.specs.declared.slots.first_text.FirstText.{FirstText}
use Rattle.event_formatter_lines.specs.declared.slots.timings.TimingStep.{TimingStep}
use Rattle.event_formatter_lines.specs.declared.slots.timings.TimingStep.TheVariants as step
use Rattle.event_formatter.specs.formats.Contexts.{PlainContext}
use Rattle.event_formatter.specs.fmt_layer.Layers.{SameLayer}
use Rattle.event_formatter.specs.fmt_layer.Lines.{one_more}
use Rattle.event_formatter.specs.fmt_layer.SpanEvents.{TellsClose, TellsSpanIf, message_entries, message_names}
use Rattle.event_formatter.specs.declared.fmt_layer.layer.Layer.{Layer}

-- the timings of a span that is made at this moment, where its close is to tell them
abbrev pub first_timings : {N E W : Type 0} → Layer N E W → At → Option Timings
first_timings x at =
    if x.config.span_events.close && x.config.has_timer then Some (at_start at.seconds at.nanoseconds) else None

-- with one text more that found no memory, where this one didn't
abbrev pub having_missed : {N E W : Type 0} → Bool → Layer N E W → Layer N E W
having_missed true x = x
having_missed false x = record x { output = record x.output { starved = one_more x.output.starved } }

-- only of a span that is seen there is a text to miss
abbrev pub MissesSeen : View → ℕ → Bool → Type 0
MissesSeen v id whole = span_in v id ≡ None → whole ≡ true

module _ {N E W : Type 0} (g : Ghosts N) where
  -- values were added to what is kept of the span, or to what spans start with; or there was no memory
  abbrev pub HearsRecord : Layer N E W → View → ℕ → PlainValues → RegistryValue → Layer N E W → Type 0
  HearsRecord x v id values left y =
      (whole : Bool)
      × MissesSeen v id whole
      × Rekeeps v id x.config.key.0
      (kept_more whole (λ kept. g.added x.config.fields kept values) (g.started x.config.fields x.config.settings)
      (kept_in v id x.config.key.0)) left
      × SameLayer (having_missed whole x) y

module _ {N E W : Type 0} (g : Ghosts N) (line_of : E → Settings → PlainContext → PlainEvent → Option (List ℕ))
    (writes : W → PlainMetadata → List ℕ → Result (Unit {0}) Error → W → Type 0) where
  -- the span's first values are kept, as far as there was memory; then its event is told, where that is asked for
  abbrev pub HearsNew : Layer N E W → View → ℕ → PlainAttributes → RegistryValue → Layer N E W → Type 0
  HearsNew x v id a left y =
      (text : FirstText)
      × MissesSeen v id (is_whole text)
      × Rekeeps v id x.config.key.0
      (kept_first text (λ kept. g.added x.config.fields kept a.values) (g.started x.config.fields x.config.settings)
      (first_timings x v.at)) left
      × TellsSpanIf g.text_of line_of writes x.config.span_events.new (having_missed (is_whole text) x) (seeing left v) id
      message_names (message_entries (codes "new")) y

  -- the timings go on to this moment; then the span's event is told, where that is asked for
  abbrev pub HearsStep : TimingStep → Bool → List ℕ → Layer N E W → View → ℕ → RegistryValue → Layer N E W → Type 0
  HearsStep s is_asked message x v id left y =
      Rekeeps v id x.config.key.0 (kept_stepped s v.at (kept_in v id x.config.key.0)) left
      × TellsSpanIf g.text_of line_of writes is_asked x (seeing left v) id message_names (message_entries message) y

  abbrev pub HearsEnter : Layer N E W → View → ℕ → RegistryValue → Layer N E W → Type 0
  HearsEnter x v id left y = HearsStep step.Enter x.config.span_events.enter (codes "enter") x v id left y

  abbrev pub HearsExit : Layer N E W → View → ℕ → RegistryValue → Layer N E W → Type 0
  HearsExit x v id left y = HearsStep step.Exit x.config.span_events.exit (codes "exit") x v id left y

  abbrev pub TellsCloseIf : Bool → Option Timings → Layer N E W → View → ℕ → Layer N E W → Type 0
  TellsCloseIf true timings x v id y = TellsClose g.text_of line_of writes timings x v id y
  TellsCloseIf false timings x v id y = SameLayer x y

  -- the timings end at this moment; then the close is told with them, where that is asked for
  abbrev pub HearsClose : Layer N E W → View → ℕ → RegistryValue → Layer N E W → Type 0
  HearsClose x v id left y =
      let kept = kept_stepped step.Close v.at (kept_in v id x.config.key.0) in
      Rekeeps v id x.config.key.0 kept left
      × TellsCloseIf x.config.span_events.close kept.timings x (seeing left v) id y
