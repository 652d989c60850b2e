-- What a layer makes of each notice.
use Rattle.std.specs.Prelude.{◌≡◌, ◌==◌, ℕ, List, Option, Result}
use Rattle.std.specs.declared.io.Error.{Error}
use Rattle.tracing_core_fields.specs.PlainMetadata.{PlainMetadata}
use Rattle.tracing_core_fields.specs.requests.PlainRequests.{PlainEvent}
use Rattle.span_registry_layers_store.specs.Registries.{RegistryValue}
use Rattle.span_registry_layers_layers.specs.FilterViews as looks
use Rattle.span_registry_layers_layers.specs.FilterViews.{Hook, View}
use Rattle.span_registry_layers_layers.specs.Notices.{Attached, Called, Dispatched, Notice, OnEvent, OnFollows, OnIdChange, OnSpan, Said}
use Rattle.span_registry_layers_layers.specs.Notices.{WritesUnder}
use Rattle.event_formatter_text.specs.declared.format_fields.FormatFields.{Ghosts}
use Rattle.event_formatter_text.specs.declared.settings.Settings.{Settings}
use Rattle.event_formatter.specs.formats.Contexts.{PlainContext}
use Rattle.event_formatter.specs.fmt_layer.SpanCalls.{HearsClose, HearsEnter, HearsExit, HearsNew, HearsRecord}
use Rattle.event_formatter.specs.fmt_layer.Layers.{TellsEvent}
use Rattle.event_formatter.specs.declared.fmt_layer.layer.Layer.{Layer}

module _ {N E W : Type 0} (g : Ghosts N) (line_of : E → Settings → PlainContext → PlainEvent → Option (List ℕ))
    (writes : W → PlainMetadata → List ℕ → Result (Unit {0}) Error → W → Type 0) where
  -- a call on a span
  abbrev pub HookTold : Layer N E W → Hook → ℕ → View → RegistryValue → Layer N E W → Type 0
  HookTold x (looks.SpanMade a own w) id v left y = HearsNew g line_of writes x v id a left y
  HookTold x (looks.Recorded own values w) id v left y = HearsRecord g x v id values left y
  HookTold x (looks.Entered own w) id v left y = HearsEnter g line_of writes x v id left y
  HookTold x (looks.Exited own w) id v left y = HearsExit g line_of writes x v id left y
  HookTold x (looks.Closed own w) id v left y = HearsClose g line_of writes x v id left y

  -- an event's line is written by the registry as it is; that a span follows from another one is passed over
  abbrev pub SaidTold : Layer N E W → Said → View → RegistryValue → Layer N E W → Type 0
  SaidTold x (OnSpan id call) v left y = HookTold x (call v) id v left y
  SaidTold x (OnEvent e) v left y = (left ≡ v.registry) × TellsEvent g.text_of line_of writes x v e y
  SaidTold x (OnFollows span follows) v left y = (left ≡ v.registry) × (y ≡ x)
  SaidTold x (OnIdChange old new) v left y = (left ≡ v.registry) × (y ≡ x)

  abbrev pub NoticeTold : Layer N E W → Notice → Layer N E W → Type 0
  NoticeTold x (Called said v left) y = SaidTold x said v left y
  NoticeTold x (Dispatched handle) y = y ≡ x
  NoticeTold x (Attached registry) y = y ≡ x

  -- it stays as it was made, and writes under its key alone
  abbrev pub LayerTold : Layer N E W → Notice → Layer N E W → Type 0
  LayerTold x n y = (y.config ≡ x.config) × WritesUnder (λ k. k == x.config.key.0) n × NoticeTold x n y
