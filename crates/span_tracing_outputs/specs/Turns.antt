-- How the outputs of a stack go through what they are told.
use Rattle.std.specs.Prelude.{◌≡◌, ℕ, List, [], ◌∷◌, Bool, false, Option, Some, None}
use Rattle.tracing_core_fields.specs.requests.PlainRequests.{PlainEvent}
use Rattle.span_registry_layers_store.specs.SlotIndependence.{bare}
use Rattle.span_registry_layers_store.specs.Registries.{RegistryValue}
use Rattle.span_registry_layers_store.specs.Spans.{is_member}
use Rattle.span_registry_layers_layers.specs.FilterViews as looks
use Rattle.span_registry_layers_layers.specs.FilterViews.{Hook, View}
use Rattle.span_registry_layers_layers.specs.declared.filter.Filter.{Ghosts as FilterGhosts}
use Rattle.span_registry_layers_layers.specs.declared.filtered.Filtered.{Filtered}
use Rattle.span_registry_layers.specs.declared.output_slot.OutputSlot.{OutputSlot}
use Rattle.event_formatter_text.specs.declared.format_fields.FormatFields.{Ghosts}
use Rattle.event_formatter_text.specs.declared.settings.Settings.{Settings}
use Rattle.event_formatter.specs.formats.Contexts.{PlainContext}
use Rattle.event_formatter.specs.declared.fmt_layer.layer.Layer.{Layer}
use Rattle.span_tracing_outputs.specs.LayerAgreement.{Agrees, AgreesBut, none_excepted}
use Rattle.span_tracing_outputs.specs.OutputNotices.{Notice, heards}
use Rattle.span_tracing_outputs.specs.OutputMachines.{Call, Closed, Entered, Fated, Happened, Left, Made, OnSpan, PlainLine, PlainOut}
use Rattle.span_tracing_outputs.specs.OutputMachines.{Recorded, Said, heards_of, out_run, starved_by}

-- a layer that keeps its lines until they are handed on
abbrev pub Lines : Type 0 → Type 0 → Type 0
Lines N E = Layer N E (List PlainLine)

-- an output of a stack of such layers
abbrev pub Lined : Type 0 → Type 0 → Type 0 → Type 0
Lined N E F = OutputSlot (Filtered (Lines N E) F)

abbrev pub own : List PlainLine → List PlainLine
own lines = lines

abbrev pub keys_of : {N E F : Type 0} → List (Lined N E F) → List ℕ
keys_of [] = []
keys_of (row ∷ rows) = row.output.layer.config.key.0 ∷ keys_of rows

abbrev pub AreDistinct : List ℕ → Type 0
AreDistinct [] = Unit {0}
AreDistinct (k ∷ ks) = (is_member ks k ≡ false) × AreDistinct ks

-- the hook by which a filter hears of a call on a span
abbrev pub call_hook : Call → ℕ → View → Hook
call_hook (Made a) id v = looks.SpanMade a id v
call_hook (Recorded values) id v = looks.Recorded id values v
call_hook Entered id v = looks.Entered id v
call_hook Left id v = looks.Exited id v
call_hook Closed id v = looks.Closed id v

-- it hears of no event
abbrev pub hook_of : Said → View → Option Hook
hook_of (OnSpan id m call) v = Some (call_hook call id v)
hook_of (Happened e) v = None

module _ {N E F : Type 0} (n : Ghosts N) (line_of : E → Settings → PlainContext → PlainEvent → Option (List ℕ)) (g : FilterGhosts F) where
  abbrev pub filter_after : F → Option Hook → F
  filter_after f None = f
  filter_after f (Some hook) = g.after f hook

  -- a filter is what its own hooks make of it, for these notices in order; each sees the skeleton at that time, with some slots
  abbrev pub FilterHears : ℕ → F → List Notice → F → Type 0
  FilterHears number f [] later = later ≡ f
  FilterHears number f (t ∷ ts) later =
      (v : View) × (v.at ≡ t.heard.at) × (v.mask ≡ Some number) × (bare v.registry ≡ t.within) ×
      FilterHears number (filter_after f (hook_of t.heard.said v)) ts later

  -- an output goes through these notices, some of whose texts and lines may find no memory: from each output machine that it agrees with to
  -- what the
  -- notices make of that
  pub record RowFollowsBut (but : ℕ → Bool) (x : RegistryValue) (row : Lined N E F) (ns : List Notice) (y : RegistryValue)
      (later : Lined N E F) : Type 0 where
    pub fated : List Fated
    pub told : heards_of fated ≡ heards ns
    pub number : later.id ≡ row.id
    pub config : later.output.layer.config ≡ row.output.layer.config
    pub starved : later.output.layer.output.starved ≡ starved_by fated row.output.layer.output.starved
    pub filter : FilterHears row.id.index row.output.filter ns later.output.filter
    pub agreed : (o : PlainOut N) → AgreesBut n line_of own but x (Some row.id.index) row.output.layer o →
        Agrees n line_of own y (Some row.id.index) later.output.layer (out_run n o fated)

  abbrev pub RowFollows : RegistryValue → Lined N E F → List Notice → RegistryValue → Lined N E F → Type 0
  RowFollows x row ns y later = RowFollowsBut none_excepted x row ns y later

  abbrev pub EachFollowsBut : (ℕ → Bool) → (Lined N E F → List Notice) → RegistryValue → List (Lined N E F) → RegistryValue →
      List (Lined N E F) → Type 0
  EachFollowsBut but ns x [] y [] = Unit {0}
  EachFollowsBut but ns x [] y (m ∷ ms) = ⊥
  EachFollowsBut but ns x (l ∷ ls) y [] = ⊥
  EachFollowsBut but ns x (l ∷ ls) y (m ∷ ms) = RowFollowsBut but x l (ns l) y m × EachFollowsBut but ns x ls y ms

  abbrev pub EachFollows : (Lined N E F → List Notice) → RegistryValue → List (Lined N E F) → RegistryValue → List (Lined N E F) → Type 0
  EachFollows ns x rows y later = EachFollowsBut none_excepted ns x rows y later
