-- How the lines of an output look.
use Rattle.std.specs.Prelude.{◌≡◌, ◌&&◌, Bool, true, false, not, List, [], None}
use Rattle.event_formatter_text.specs.declared.default_fields.DefaultFields.{DefaultFields}
use Rattle.event_formatter_lines.specs.Json.{default_shape}
use Rattle.event_formatter.specs.declared.formats.fields.Fields.{Fields}
use Rattle.event_formatter.specs.declared.formats.fields.Fields.TheVariants as fields
use Rattle.event_formatter.specs.declared.formats.line_format.LineFormat.{LineFormat}
use Rattle.event_formatter.specs.declared.formats.line_format.LineFormat.TheVariants as formats
use Rattle.event_formatter.specs.declared.formats.parts.Parts.{Parts}
use Rattle.event_formatter.specs.declared.formats.timer.Timer.{Timer}
use Rattle.event_formatter.specs.declared.formats.timer.Timer.TheVariants as timers
use Rattle.event_formatter.specs.declared.formats.format.Format.{Format}
use Rattle.event_formatter.specs.declared.formats.line_format.Full.{Full}
use Rattle.event_formatter.specs.formats.Parts.{default_parts}
use Rattle.event_formatter.specs.fmt_layer.Builders.{no_span_events}
use Rattle.event_formatter.specs.fmt_layer.Threads.{PlainLane, plain_lanes}
use Rattle.span_registry_layers_store.specs.declared.slot.OutputKey.{OutputKey}
use Rattle.span_tracing_outputs.specs.Turns.{Lines}
use Rattle.span_tracing_outputs.specs.declared.files.line_settings.LineSettings.{LineSettings}

abbrev pub asks_time : Timer → Bool
asks_time (timers.System time) = true
asks_time (timers.Uptime time) = true
asks_time (timers.Fixed text) = true
asks_time timers.Empty = false

-- the lines are JSON
abbrev pub is_json : LineFormat → Bool
is_json formats.Full = false
is_json formats.Compact = false
is_json (formats.Pretty pretty) = false
is_json (formats.Json json) = true

abbrev pub has_json : Fields → Bool
has_json fields.Default = false
has_json fields.Pretty = false
has_json fields.PrettyFields = false
has_json fields.Json = true

-- the lines are JSON, and fields are not
abbrev pub needs_json : LineSettings → Bool
needs_json s = is_json s.format && not (has_json s.fields)

-- time, level and target, no styles, characters that steer a terminal escaped, events that can't be formatted told of, and no lines for
-- spans themselves
pub record HasUsualParts (s : LineSettings) : Type 0 where
  pub time : asks_time s.timer ≡ true
  pub shown : (s.level ≡ true) × (s.target ≡ true)
  pub threads : (s.thread_names ≡ false) × (s.thread_ids ≡ false)
  pub styles : (s.ansi ≡ false) × (s.ansi_sanitization ≡ true)
  pub faults : s.log_internal_errors ≡ true
  pub span_events : s.span_events ≡ no_span_events

abbrev pub ShowsPlace : Bool → LineSettings → Type 0
ShowsPlace shown s = (s.file ≡ shown) × (s.line_number ≡ shown)

abbrev pub IsUsualJson : LineFormat → Type 0
IsUsualJson formats.Full = ⊥
IsUsualJson formats.Compact = ⊥
IsUsualJson (formats.Pretty pretty) = ⊥
IsUsualJson (formats.Json json) = json.shape ≡ default_shape

abbrev pub IsUsualPretty : LineFormat → Type 0
IsUsualPretty formats.Full = ⊥
IsUsualPretty formats.Compact = ⊥
IsUsualPretty (formats.Pretty pretty) = pretty.display_location ≡ true
IsUsualPretty (formats.Json json) = ⊥

abbrev pub parts_of : LineSettings → Parts
parts_of s =
    record {
      timestamp = asks_time s.timer;
      level = s.level;
      target = s.target;
      thread_names = s.thread_names;
      thread_ids = s.thread_ids;
      file = s.file;
      line_number = s.line_number;
    }

abbrev pub Shown : Type 0
Shown = Lines Fields (Format LineFormat Timer)

-- a layer that writes just such lines, and knows these threads of lanes
pub record DescribesLayer (s : LineSettings) (own : OutputKey) (lanes : List PlainLane) (layer : Shown) : Type 0 where
  pub key : layer.config.key ≡ own
  pub fields : layer.config.fields ≡ s.fields
  pub settings : layer.config.settings ≡ record { styles = s.ansi; sanitizes = s.ansi_sanitization }
  pub span_events : layer.config.span_events ≡ s.span_events
  pub timings : layer.config.has_timer ≡ asks_time s.timer
  pub faults : layer.config.log_internal_errors ≡ s.log_internal_errors
  pub format : (layer.format.shape ≡ s.format) × (layer.format.timer ≡ s.timer)
  pub parts : layer.format.parts ≡ parts_of s
  pub ansi : layer.format.ansi ≡ None
  pub threads : (plain_lanes layer.threads ≡ lanes) × (layer.threads.longest ≡ 0)
  pub output : (layer.output.maker ≡ []) × (layer.output.starved ≡ 0)

-- the usual layer, but for the time
pub record IsTimed (asked : Timer) (own : OutputKey) (layer : Lines DefaultFields (Format Full Timer)) : Type 0 where
  pub key : layer.config.key ≡ own
  pub settings : layer.config.settings ≡ record { styles = false; sanitizes = true }
  pub span_events : layer.config.span_events ≡ no_span_events
  pub timings : layer.config.has_timer ≡ asks_time asked
  pub faults : layer.config.log_internal_errors ≡ true
  pub timer : layer.format.timer ≡ asked
  pub parts : layer.format.parts ≡ record default_parts { timestamp = asks_time asked }
  pub ansi : layer.format.ansi ≡ None
  pub threads : (plain_lanes layer.threads ≡ []) × (layer.threads.longest ≡ 0)
  pub output : (layer.output.maker ≡ []) × (layer.output.starved ≡ 0)
