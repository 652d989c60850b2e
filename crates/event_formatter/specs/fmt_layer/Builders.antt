-- How a layer is made.
use Rattle.std.specs.Prelude.{◌≡◌, [], None, false, true}
use Rattle.span_registry_layers_store.specs.declared.slot.OutputKey.{OutputKey}
use Rattle.event_formatter_text.specs.declared.default_fields.DefaultFields.{DefaultFields}
use Rattle.event_formatter_lines.specs.declared.times.system_time.SystemTime.{SystemTime}
use Rattle.event_formatter_lines.specs.declared.fmt_span.FmtSpan.{FmtSpan}
use Rattle.event_formatter.specs.declared.formats.format.Format.{Format}
use Rattle.event_formatter.specs.declared.formats.line_format.Full.{Full}
use Rattle.event_formatter.specs.formats.Parts.{default_parts}
use Rattle.event_formatter.specs.declared.fmt_layer.layer.Config.{Config}
use Rattle.event_formatter.specs.declared.fmt_layer.layer.Layer.{Layer}
use Rattle.event_formatter.specs.fmt_layer.Threads.{plain_lanes}

abbrev pub no_span_events : FmtSpan
no_span_events = record { new = false; enter = false; exit = false; close = false }

-- a layer that shows time, level and target without styles, sanitizes messages, tells of events that it can't format
-- and of no span's own, knows no lane, and has missed nothing
pub record IsNew {W : Type 0} (own : OutputKey) (given : W) (layer : Layer DefaultFields (Format Full SystemTime) W) : Type 0 where
  pub key : layer.config.key ≡ own
  pub maker : layer.output.maker ≡ given
  pub settings : layer.config.settings ≡ record { styles = false; sanitizes = true }
  pub span_events : layer.config.span_events ≡ no_span_events
  pub timer : layer.config.has_timer ≡ true
  pub faults : layer.config.log_internal_errors ≡ true
  pub parts : layer.format.parts ≡ default_parts
  pub ansi : layer.format.ansi ≡ None
  pub threads : (plain_lanes layer.threads ≡ []) × (layer.threads.longest ≡ 0)
  pub starved : layer.output.starved ≡ 0

-- the same with other formatters of fields
abbrev pub with_fields : {N M : Type 0} → M → Config N → Config M
with_fields fields config =
    record {
      key = config.key;
      fields = fields;
      settings = config.settings;
      span_events = config.span_events;
      has_timer = config.has_timer;
      log_internal_errors = config.log_internal_errors;
    }

-- all but the threads of lanes is as before
abbrev pub SameButLanes : {N E W : Type 0} → Layer N E W → Layer N E W → Type 0
SameButLanes x y =
    (y.config ≡ x.config) × (y.format ≡ x.format) × (y.output ≡ x.output) × (y.threads.longest ≡ x.threads.longest)

-- all but how it formats events is as before
abbrev pub SameButFormat : {N E F W : Type 0} → Layer N E W → Layer N F W → Type 0
SameButFormat x y = (y.config ≡ x.config) × (y.threads ≡ x.threads) × (y.output ≡ x.output)

-- the same, and it has no timer
abbrev pub SameButTimer : {N E F W : Type 0} → Layer N E W → Layer N F W → Type 0
SameButTimer x y =
    (y.config ≡ record x.config { has_timer = false }) × (y.threads ≡ x.threads) × (y.output ≡ x.output)
