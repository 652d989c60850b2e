-- A layer below a filter, which is told what that filter and all filters above it pass.
use Rattle.std.specs.Prelude.{◌≡◌, ◌&&◌, ℕ, suc, Bool, true, false, List, ◌∷◌, Option, Some, None, Result, is_some}
use Rattle.std.specs.Result.{result_ok}
use Rattle.tracing_core_fields.specs.PlainMetadata.{PlainMetadata}
use Rattle.tracing_core_fields.specs.requests.PlainRequests.{PlainEvent}
use Rattle.span_registry_layers_store.specs.RegistryCalls.{FilterGives}
use Rattle.span_registry_layers_store.specs.Registries.{RegistryValue}
use Rattle.span_registry_layers_store.specs.Verdicts.{passes_at}
use Rattle.span_registry_layers_store.specs.declared.filter_map.FilterId.{FilterId}
use Rattle.span_registry_layers_store.specs.declared.filter_map.TooManyFilters.{TooManyFilters}
use Rattle.span_registry_layers_layers.specs.Combined.{Both, Then}
use Rattle.span_registry_layers_layers.specs.Contexts.{span_in}
use Rattle.span_registry_layers_layers.specs.FilterViews.{View}
use Rattle.span_registry_layers_layers.specs.Notices.{Attached, Called, Dispatched, Notice, OnEvent, OnFollows, OnIdChange, OnSpan}
use Rattle.span_registry_layers_layers.specs.declared.filter.Filter.{Ghosts}
use Rattle.span_registry_layers_layers.specs.declared.filtered.Filtered.{Filtered}
use Rattle.span_registry_layers_layers.specs.declared.layer.Layer.{Ghosts as LayerGhosts}

-- what can be seen under a filter
abbrev pub under : ℕ → View → View
under filter v = record v { mask = Some filter }

-- whether the span is open, and was passed
abbrev pub is_seen : View → ℕ → Bool
is_seen v id = is_some (span_in v id)

abbrev pub own_number : Option FilterId → List ℕ → List ℕ
own_number None ns = ns
own_number (Some filter) ns = filter.index ∷ ns

module _ {F : Type 0} (g : Ghosts F) where
  -- what the filter, asked again, may answer of an event
  abbrev pub MayPass : F → PlainEvent → View → Bool → Type 0
  MayPass filter e v b = Both (g.answers filter e.metadata v) (g.event_answers filter e v) b

  -- whether the layer may be told: of a span that it sees, of both that one follows from the other, of an event that the filter, asked
  -- again, passes, and of a new id where it sees the old one
  abbrev pub MayHear : F → Notice → Bool → Type 0
  MayHear filter (Called (OnSpan id call) v left) b = b ≡ is_seen v id
  MayHear filter (Called (OnFollows span follows) v left) b = b ≡ (is_seen v span && is_seen v follows)
  MayHear filter (Called (OnEvent e) v left) b = MayPass filter e v b
  MayHear filter (Called (OnIdChange old new) v left) b = b ≡ is_seen v old
  MayHear filter (Dispatched handle) b = b ≡ true
  MayHear filter (Attached r) b = b ≡ true

  -- the filter hears of calls on spans alone
  abbrev pub heard : F → Notice → F
  heard filter (Called (OnSpan id call) v left) = g.after filter (call v)
  heard filter (Called (OnFollows span follows) v left) = filter
  heard filter (Called (OnEvent e) v left) = filter
  heard filter (Called (OnIdChange old new) v left) = filter
  heard filter (Dispatched handle) = filter
  heard filter (Attached r) = filter

module _ {L F : Type 0} (g : Ghosts F) (h : LayerGhosts L) where
  -- the filter hears of it and the layer is told, or both stay, as the registry does
  abbrev pub HearsIf : Bool → Filtered L F → (View → RegistryValue → Notice) → View → RegistryValue → Filtered L F → Type 0
  HearsIf true x n v left y = h.told x.layer (n v left) y.layer × (y ≡ record x { filter = heard g x.filter (n v left); layer = y.layer })
  HearsIf false x n v left y = (y ≡ x) × (left ≡ v.registry)

  abbrev pub Hears : Filtered L F → (View → RegistryValue → Notice) → View → RegistryValue → Filtered L F → Type 0
  Hears x n v left y = (b : Bool) × MayHear g x.filter (n v left) b × HearsIf b x n v left y

  -- with a number it hears what its filter sees, and without one nothing
  abbrev pub HearsAt : Option FilterId → Filtered L F → (View → RegistryValue → Notice) → View → RegistryValue → Filtered L F → Type 0
  HearsAt None x n v left y = (y ≡ x) × (left ≡ v.registry)
  HearsAt (Some filter) x n v left y = Hears x n (under filter.index v) left y

  -- calls on a span are told by what was said of it when it was made, and of a hub the layer is told in any case
  abbrev pub NotifiedAt : Option FilterId → Filtered L F → Notice → Filtered L F → Type 0
  NotifiedAt i x (Called said v left) y = HearsAt i x (Called said) v left y
  NotifiedAt i x (Dispatched handle) y = h.told x.layer (Dispatched handle) y.layer × (y ≡ record x { layer = y.layer })
  NotifiedAt i x (Attached r) y = Unit {0}

  -- the registry numbers its filter, where it has room for one more, and the layer is attached to the registry as it is then
  abbrev pub Attaches : Filtered L F → Notice → Filtered L F → Type 0
  Attaches x (Attached r) y =
      (given : Result FilterId TooManyFilters) × (later : RegistryValue) × FilterGives r given later ×
      h.told x.layer (Attached later) y.layer
      × (y ≡ record x { layer = y.layer; id = result_ok given })
  Attaches x other y = Unit {0}

  abbrev pub FilteredTold : Filtered L F → Notice → Filtered L F → Type 0
  FilteredTold x n y = NotifiedAt x.id x n y × Attaches x n y

  -- what is kept of the filter is what all filters down to it, asked again, said when the span was made
  abbrev pub KeptUnder : FilterId → Filtered L F → PlainMetadata → View → Bool → List Bool → Bool → Type 0
  KeptUnder filter x m v passes verdicts some =
      (own : Bool) × Then (g.answers x.filter m (under filter.index v)) passes own × (passes_at verdicts filter.index ≡ own)
      × h.kept x.layer m (under filter.index v) own verdicts some

  abbrev pub KeptAt : Option FilterId → Filtered L F → PlainMetadata → View → Bool → List Bool → Bool → Type 0
  KeptAt None x m v passes verdicts some = some ≡ false
  KeptAt (Some filter) x m v passes verdicts some = KeptUnder filter x m v passes verdicts some

  abbrev pub FilteredKept : Filtered L F → PlainMetadata → View → Bool → List Bool → Bool → Type 0
  FilteredKept x m v passes verdicts some = KeptAt x.id x m v passes verdicts some

  abbrev pub numbers_in : Filtered L F → List ℕ
  numbers_in x = own_number x.id (h.numbers x.layer)

  abbrev pub filters_in : Filtered L F → ℕ
  filters_in x = suc (h.filters x.layer)

  -- the filter and the layer are consistent
  abbrev pub BothKeep : Filtered L F → Type 0
  BothKeep x = g.honest x.filter × h.honest x.layer
