-- What a layer makes of what it is told.
use Rattle.std.specs.Prelude.{◌≡◌, ℕ, List, Option, Result}
use Rattle.std.specs.declared.io.Error.{Error}
use Rattle.tracing_core_fields.specs.PlainMetadata.{PlainMetadata}
use Rattle.tracing_core_fields.specs.requests.PlainRequests.{PlainEvent, PlainValues}
use Rattle.span_registry_layers_layers.specs.FilterViews.{View}
use Rattle.event_formatter_text.specs.declared.settings.Settings.{Settings}
use Rattle.event_formatter.specs.formats.Contexts.{PlainContext}
use Rattle.event_formatter.specs.formats.Scopes.{loose_scope, strict_scope}
use Rattle.event_formatter.specs.fmt_layer.Lines.{Offers, line_or_fault}
use Rattle.event_formatter.specs.fmt_layer.Threads.{longest_with, plain_lanes, thread_at}
use Rattle.event_formatter.specs.declared.fmt_layer.layer.Layer.{Layer}

module _ {N E W : Type 0} (text_of : N → Settings → PlainValues → Option (List ℕ))
    (line_of : E → Settings → PlainContext → PlainEvent → Option (List ℕ)) where
  -- what a line is written of: the moment, the thread, and the spans that the layer sees, with the texts that it keeps with them
  abbrev pub context_in : Layer N E W → View → PlainEvent → PlainContext
  context_in x v e =
      record {
        seconds = v.at.seconds;
        nanoseconds = v.at.nanoseconds;
        thread = thread_at (plain_lanes x.threads) x.threads.longest v.at.lane;
        loose = loose_scope v x.config.key.0 e.parent;
        strict = strict_scope v x.config.key.0 e.parent;
        text_of = text_of x.config.fields;
      }

  -- the line of an event, where it can be formatted
  abbrev pub line_in_view : Layer N E W → View → PlainEvent → Option (List ℕ)
  line_in_view x v e = line_of x.format x.config.settings (context_in x v e) e

-- it is made as before, knows the same threads, and goes on writing the same lines
abbrev pub SameMaking : {N E W : Type 0} → (E → Settings → PlainContext → PlainEvent → Option (List ℕ)) → Layer N E W → Layer N E W → Type 0
SameMaking line_of x y =
    (y.config ≡ x.config) × (plain_lanes y.threads ≡ plain_lanes x.threads)
    × ((s : Settings) (c : PlainContext) (e : PlainEvent) → line_of y.format s c e ≡ line_of x.format s c e)

-- all that it keeps but its scratch buffers is as before
abbrev pub SameLayer : {N E W : Type 0} → Layer N E W → Layer N E W → Type 0
SameLayer x y =
    (y.config ≡ x.config) × (y.format ≡ x.format) × (y.threads ≡ x.threads) × (y.output.maker ≡ x.output.maker)
    × (y.output.starved ≡ x.output.starved)

-- with the name of the lane's thread among those that were met
abbrev pub having_met : {N E W : Type 0} → Layer N E W → ℕ → Layer N E W
having_met x lane =
    record x { threads = record x.threads { longest = longest_with (plain_lanes x.threads) x.threads.longest lane } }

module _ {N E W : Type 0} (text_of : N → Settings → PlainValues → Option (List ℕ))
    (line_of : E → Settings → PlainContext → PlainEvent → Option (List ℕ))
    (writes : W → PlainMetadata → List ℕ → Result (Unit {0}) Error → W → Type 0) where
  -- the line of an event, or what stands in its place, was handed on, or found no memory
  abbrev pub TellsEvent : Layer N E W → View → PlainEvent → Layer N E W → Type 0
  TellsEvent x v e y =
      let met = having_met x v.at.lane in
      SameMaking line_of x y × (y.threads.longest ≡ met.threads.longest)
      × Offers writes x.output e.metadata
      (line_or_fault x.config.log_internal_errors e.metadata (line_in_view text_of line_of met v e)) y.output
