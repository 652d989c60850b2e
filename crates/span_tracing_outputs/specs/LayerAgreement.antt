-- How a layer with its slots in a registry keeps what an output machine does.
use Rattle.std.specs.Prelude.{◌≡◌, ◌==◌, ℕ, List, Bool, false, Option, Some, Result, Ok, Err}
use Rattle.std.specs.declared.io.Error.{Error}
use Rattle.tracing_core_fields.specs.PlainMetadata.{PlainMetadata}
use Rattle.tracing_core_fields.specs.requests.PlainRequests.{PlainEvent}
use Rattle.span_registry_layers_store.specs.Registries.{PlainSpan, RegistryValue}
use Rattle.span_registry_layers_store.specs.Views.{seen}
use Rattle.span_registry_layers_layers.specs.FilterViews as looks
use Rattle.span_registry_layers_layers.specs.FilterViews.{Hook, View}
use Rattle.event_formatter_text.specs.declared.format_fields.FormatFields.{Ghosts}
use Rattle.event_formatter_text.specs.declared.settings.Settings.{Settings}
use Rattle.event_formatter_lines.specs.slots.FieldsAndTimings.{kept_at}
use Rattle.event_formatter.specs.formats.Contexts.{PlainContext}
use Rattle.event_formatter.specs.fmt_layer.Layers.{TellsEvent}
use Rattle.event_formatter.specs.fmt_layer.Lines.{IsWantOfMemory}
use Rattle.event_formatter.specs.fmt_layer.Threads.{plain_lanes}
use Rattle.event_formatter.specs.fmt_layer.LayerNotices.{HookTold}
use Rattle.event_formatter.specs.declared.fmt_layer.layer.Layer.{Layer}
use Rattle.span_tracing_outputs.specs.OutputNotices.{heard_call, heard_event}
use Rattle.span_tracing_outputs.specs.OutputMachines.{Call, Closed, Entered, Fate, Heard, KeptSpan, Left, Made, PlainLine, PlainOut}
use Rattle.span_tracing_outputs.specs.OutputMachines.{Recorded, kept_found, one_more_line, out_after, starved_after}

-- each span that the output sees has in its slots what is kept with it, but for those that are excepted
abbrev pub KeptBut : (ℕ → Bool) → RegistryValue → Option ℕ → ℕ → List KeptSpan → Type 0
KeptBut but x mask key kept =
    (id : ℕ) (s : PlainSpan) → but id ≡ false → seen x mask id ≡ Some s → kept_at key s.slots ≡ kept_found kept s.kin.id

abbrev pub none_excepted : ℕ → Bool
none_excepted id = false

abbrev pub KeptAre : RegistryValue → Option ℕ → ℕ → List KeptSpan → Type 0
KeptAre x mask key kept = KeptBut none_excepted x mask key kept

-- a span that is being made has nothing in its slots yet
abbrev pub is_new : Call → ℕ → ℕ → Bool
is_new (Made a) id other = id == other
is_new (Recorded values) id other = false
is_new Entered id other = false
is_new Left id other = false
is_new Closed id other = false

-- the call by which a filter is told
abbrev pub call_of : Hook → Call
call_of (looks.SpanMade a own w) = Made a
call_of (looks.Recorded own values w) = Recorded values
call_of (looks.Entered own w) = Entered
call_of (looks.Exited own w) = Left
call_of (looks.Closed own w) = Closed

-- a maker keeps each line that it is handed behind those that it has, and refuses one for lack of memory alone
abbrev pub Keeps : {W : Type 0} → (W → List PlainLine) → W → PlainMetadata → List ℕ → Result (Unit {0}) Error → W → Type 0
Keeps lines_in x m line (Ok done) y = lines_in y ≡ one_more_line Rattle.std.specs.Prelude.true m.level line (lines_in x)
Keeps lines_in x m line (Err error) y = IsWantOfMemory error × (lines_in y ≡ lines_in x)

abbrev pub KeepsLines : {W : Type 0} → (W → PlainMetadata → List ℕ → Result (Unit {0}) Error → W → Type 0) → (W → List PlainLine) → Type 0
KeepsLines {W = W} writes lines_in =
    (x : W) (m : PlainMetadata) (line : List ℕ) (answer : Result (Unit {0}) Error) (y : W) → writes x m line answer y →
    Keeps lines_in x m line answer y

module _ {N E W : Type 0} (g : Ghosts N) (line_of : E → Settings → PlainContext → PlainEvent → Option (List ℕ)) (lines_in : W →
    List PlainLine) where
  -- a layer was made as an output, and writes the lines of its format, of these threads; it has the lines that the output offers
  pub record Matches (layer : Layer N E W) (o : PlainOut N) : Type 0 where
    pub config : layer.config ≡ o.config
    pub format : (s : Settings) (c : PlainContext) (e : PlainEvent) → line_of layer.format s c e ≡ o.line_of s c e
    pub lanes : plain_lanes layer.threads ≡ o.lanes
    pub longest : layer.threads.longest ≡ o.longest
    pub lines : lines_in layer.output.maker ≡ o.lines

  -- and keeps with spans what the output does, but for spans that are excepted
  abbrev pub AgreesBut : (ℕ → Bool) → RegistryValue → Option ℕ → Layer N E W → PlainOut N → Type 0
  AgreesBut but x mask layer o = Matches layer o × KeptBut but x mask layer.config.key.0 o.kept

  abbrev pub Agrees : RegistryValue → Option ℕ → Layer N E W → PlainOut N → Type 0
  Agrees x mask layer o = AgreesBut none_excepted x mask layer o

  -- from each output that it agrees with a layer goes to that output's step on the notice, with one fate
  pub record FollowsBut (but : ℕ → Bool) (x : Layer N E W) (v : View) (h : Heard) (left : RegistryValue) (y : Layer N E W) : Type 0 where
    pub fate : Fate
    pub starved : y.output.starved ≡ starved_after fate x.output.starved
    pub agreed : (o : PlainOut N) → AgreesBut but v.registry v.mask x o → Agrees left v.mask y (out_after g o h fate)

  module _ (writes : W → PlainMetadata → List ℕ → Result (Unit {0}) Error → W → Type 0) where
    -- what a layer does with what it is told is a step of an output machine
    pub record LayerFollows : Type 0 where
      pub events : (x : Layer N E W) (v : View) (e : PlainEvent) (y : Layer N E W) →
          TellsEvent g.text_of line_of writes x v e y → FollowsBut none_excepted x v (heard_event v e) v.registry y
      pub calls : (x : Layer N E W) (hook : Hook) (id : ℕ) (s : PlainSpan) (v : View) (left : RegistryValue) (y : Layer N E W) →
          seen v.registry v.mask id ≡ Some s → HookTold g line_of writes x hook id v left y →
          FollowsBut (is_new (call_of hook) id) x v (heard_call v s (call_of hook)) left y
