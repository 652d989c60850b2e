-- Each hook of a layer as a notice.
use Rattle.std.proofs.Common.{◌≡◌, ◌==◌, ℕ, Bool, true, false, List, Option, Some, None, Result, refl, ◌∙◌}
use Rattle.std.specs.Option.{option_map}
use Rattle.std.specs.declared.io.Error.{Error}
use Rattle.tracing_core_fields.specs.PlainMetadata.{PlainMetadata}
use Rattle.tracing_core_fields.specs.PlainValue.{PlainValue}
use Rattle.tracing_core_fields.specs.requests.PlainRequests.{PlainAttributes, PlainEvent, PlainValues}
use Rattle.span_registry_layers_store.specs.SlotIndependence.{keys_equal}
use Rattle.span_registry_layers_store.specs.Registries.{RegistryValue}
use Rattle.span_registry_layers_store.specs.declared.slot.Timings.{Timings}
use Rattle.span_registry_layers_layers.specs.Contexts.{metadata_in, span_in}
use Rattle.span_registry_layers_layers.specs.FilterViews.{Closed, Entered, Exited, Recorded, SpanMade, View, seeing}
use Rattle.span_registry_layers_layers.specs.Notices.{Followed, Happened, Renamed, Spanned}
use Rattle.event_formatter_text.specs.declared.format_fields.FormatFields.{Ghosts}
use Rattle.event_formatter_text.specs.declared.settings.Settings.{Settings}
use Rattle.event_formatter_lines.specs.slots.FieldsAndTimings.{is_whole}
use Rattle.event_formatter.specs.formats.Contexts.{PlainContext}
use Rattle.event_formatter.specs.fmt_layer.SpanCalls.{HearsClose, HearsEnter, HearsExit, HearsNew, HearsRecord, TellsCloseIf, having_missed}
use Rattle.event_formatter.specs.fmt_layer.Layers.{TellsEvent}
use Rattle.event_formatter.specs.fmt_layer.SpanEvents.{TellsClose, TellsOf, TellsSpan, TellsSpanIf}
use Rattle.event_formatter.specs.fmt_layer.LayerNotices.{LayerTold}
use Rattle.event_formatter.specs.declared.fmt_layer.layer.Layer.{Layer}

missed_config : {N E W : Type 0} (whole : Bool) (x : Layer N E W) → (having_missed whole x).config ≡ x.config
missed_config true x = refl
missed_config false x = refl

module _ {N E W : Type 0} (g : Ghosts N) (line_of : E → Settings → PlainContext → PlainEvent → Option (List ℕ))
    (writes : W → PlainMetadata → List ℕ → Result (Unit {0}) Error → W → Type 0) where
  of_config : (m : Option PlainMetadata) (x : Layer N E W) (v : View) (id : ℕ) (names : List (List ℕ)) (entries : List (ℕ × PlainValue))
      (y : Layer N E W) →
      TellsOf g.text_of line_of writes m x v id names entries y → y.config ≡ x.config
  of_config None x v id names entries y t = t.0
  of_config (Some m) x v id names entries y t = t.0.0

  span_config : (x : Layer N E W) (v : View) (id : ℕ) (names : List (List ℕ)) (entries : List (ℕ × PlainValue)) (y : Layer N E W) →
      TellsSpan g.text_of line_of writes x v id names entries y → y.config ≡ x.config
  span_config x v id names entries y t = of_config (option_map metadata_in (span_in v id)) x v id names entries y t

  if_config : (is_asked : Bool) (x : Layer N E W) (v : View) (id : ℕ) (names : List (List ℕ)) (entries : List (ℕ × PlainValue))
      (y : Layer N E W) →
      TellsSpanIf g.text_of line_of writes is_asked x v id names entries y → y.config ≡ x.config
  if_config true x v id names entries y t = span_config x v id names entries y t
  if_config false x v id names entries y t = t.0

  close_config : (timings : Option Timings) (x : Layer N E W) (v : View) (id : ℕ) (y : Layer N E W) →
      TellsClose g.text_of line_of writes timings x v id y → y.config ≡ x.config
  close_config None x v id y t = span_config x v id _ _ y t
  close_config (Some timings) x v id y t = span_config x v id _ _ y t

  close_if_config : (is_asked : Bool) (timings : Option Timings) (x : Layer N E W) (v : View) (id : ℕ) (y : Layer N E W) →
      TellsCloseIf g line_of writes is_asked timings x v id y → y.config ≡ x.config
  close_if_config true timings x v id y t = close_config timings x v id y t
  close_if_config false timings x v id y t = t.0

  pub new_told : (x : Layer N E W) (v : View) (id own : ℕ) (a : PlainAttributes) (left : RegistryValue) (y : Layer N E W) →
      HearsNew g line_of writes x v id a left y → LayerTold g line_of writes x (Spanned id (SpanMade a own) v left) y
  new_told x v id own a left y h = (
    if_config x.config.span_events.new (having_missed (is_whole h.0) x) (seeing left v) id _ _ y h.3 ∙ missed_config (is_whole h.0) x,
    h.2.1,
    h,
  )

  pub record_told : (x : Layer N E W) (v : View) (id own : ℕ) (values : PlainValues) (left : RegistryValue) (y : Layer N E W) →
      HearsRecord g x v id values left y → LayerTold g line_of writes x (Spanned id (Recorded own values) v left) y
  record_told x v id own values left y h = (h.3.0 ∙ missed_config h.0 x, h.2.1, h)

  pub enter_told : (x : Layer N E W) (v : View) (id own : ℕ) (left : RegistryValue) (y : Layer N E W) →
      HearsEnter g line_of writes x v id left y → LayerTold g line_of writes x (Spanned id (Entered own) v left) y
  enter_told x v id own left y h = (if_config x.config.span_events.enter x (seeing left v) id _ _ y h.1, h.0.1, h)

  pub exit_told : (x : Layer N E W) (v : View) (id own : ℕ) (left : RegistryValue) (y : Layer N E W) →
      HearsExit g line_of writes x v id left y → LayerTold g line_of writes x (Spanned id (Exited own) v left) y
  exit_told x v id own left y h = (if_config x.config.span_events.exit x (seeing left v) id _ _ y h.1, h.0.1, h)

  pub close_told : (x : Layer N E W) (v : View) (id own : ℕ) (left : RegistryValue) (y : Layer N E W) →
      HearsClose g line_of writes x v id left y → LayerTold g line_of writes x (Spanned id (Closed own) v left) y
  close_told x v id own left y h = (close_if_config x.config.span_events.close _ x (seeing left v) id y h.1, h.0.1, h)

  pub event_told : (x : Layer N E W) (v : View) (e : PlainEvent) (left : RegistryValue) (y : Layer N E W) → left ≡ v.registry →
      TellsEvent g.text_of line_of writes x v e y → LayerTold g line_of writes x (Happened e v left) y
  event_told x v e left y same t = (t.0.0, keys_equal (λ k. k == x.config.key.0) v.registry left same, (same, t))

  pub follows_told : (x : Layer N E W) (v : View) (span follows : ℕ) (left : RegistryValue) → left ≡ v.registry →
      LayerTold g line_of writes x (Followed span follows v left) x
  follows_told x v span follows left same = (refl, keys_equal (λ k. k == x.config.key.0) v.registry left same, (same, refl))

  pub renamed_told : (x : Layer N E W) (v : View) (old new : ℕ) (left : RegistryValue) → left ≡ v.registry →
      LayerTold g line_of writes x (Renamed old new v left) x
  renamed_told x v old new left same = (refl, keys_equal (λ k. k == x.config.key.0) v.registry left same, (same, refl))
