-- What outputs are told of spans.
use Rattle.std.specs.Prelude.{◌≡◌, ◌&&◌, ℕ, Bool, true, false, List, [], ◌∷◌, map, Option, Some, is_some}
use Rattle.tracing_core_moments.specs.declared.at.At.{At}
use Rattle.span_registry_layers_store.specs.RegistryCalls.{ClosesNext}
use Rattle.span_registry_layers_store.specs.Registries.{RegistryValue}
use Rattle.span_registry_layers_store.specs.Views.{seen}
use Rattle.span_registry_layers_layers.specs.FilterViews.{Closed, Hook, View}
use Rattle.span_registry_layers_layers.specs.Notices.{Dispatched, Followed, Spanned}
use Rattle.span_registry_layers_layers.specs.Several.{EachInTurn}
use Rattle.span_registry_layers_layers.specs.declared.filter.Filter.{Ghosts}
use Rattle.span_registry_layers_layers.specs.declared.filtered.Filtered.{Filtered}
use Rattle.span_registry_layers_layers.specs.declared.layer.Layer.{Ghosts as LayerGhosts}
use Rattle.span_registry_layers.specs.OutputSlots.{TellsIf, marked, view_of, with_layer}
use Rattle.span_registry_layers.specs.declared.output_slot.OutputSlot.{OutputSlot}

-- an output sees an open span that its filter passed when it was made
abbrev pub sees : {O : Type 0} → RegistryValue → ℕ → OutputSlot O → Bool
sees x id row = is_some (seen x (Some row.id.index) id)

-- of each output, in order, whether it sees the span
abbrev pub each_sees : {O : Type 0} → RegistryValue → ℕ → List (OutputSlot O) → List Bool
each_sees x id rows = map (λ row. sees x id row) rows

abbrev pub with_output : {L F : Type 0} → F → L → OutputSlot (Filtered L F) → OutputSlot (Filtered L F)
with_output filter layer row = record row { output = record row.output { layer = layer; filter = filter } }

module _ {L F : Type 0} (g : Ghosts F) (h : LayerGhosts L) where
  -- the filter and the layer of an output are told of a call on a span, by what they see and by the registry as the layer leaves it
  abbrev pub Hears : ℕ → (View → Hook) → View → OutputSlot (Filtered L F) → RegistryValue → OutputSlot (Filtered L F) → Type 0
  Hears id call v row y later =
      h.told row.output.layer (Spanned id call v y) later.output.layer ×
      (later ≡ with_output (g.after row.output.filter (call v)) later.output.layer row)

  abbrev pub HearsIf : Bool → ℕ → (View → Hook) → View → OutputSlot (Filtered L F) → RegistryValue → OutputSlot (Filtered L F) → Type 0
  HearsIf true id call v row y later = Hears id call v row y later
  HearsIf false id call v row y later = (later ≡ row) × (y ≡ v.registry)

  -- an output that sees the span is told of a call on it
  abbrev pub TellsSpan : (View → Hook) → ℕ → At → RegistryValue → OutputSlot (Filtered L F) → RegistryValue → OutputSlot (Filtered L F) →
      Type 0
  TellsSpan call id at x row y later = HearsIf (sees x id row) id call (view_of at x row) row y later

  -- the same of a span that was made, with a mark of whether it was passed
  abbrev pub TellsMade : (View → Hook) → ℕ → At → RegistryValue → OutputSlot (Filtered L F) → RegistryValue → OutputSlot (Filtered L F) →
      Type 0
  TellsMade call id at x row y later = TellsSpan call id at x (marked (sees x id row) row) y later

  -- an output that sees both spans is told that the one follows from the other
  abbrev pub TellsFollows : ℕ → ℕ → At → RegistryValue → OutputSlot (Filtered L F) → RegistryValue → OutputSlot (Filtered L F) → Type 0
  TellsFollows id follows at x row y later =
      TellsIf h (sees x id row && sees x follows row) row.output.layer (Followed id follows) (view_of at x row) y later.output.layer
      × (later ≡ with_layer later.output.layer row)

  -- a layer is told that a hub took the stack
  abbrev pub TellsDispatch : Option ℕ → OutputSlot (Filtered L F) → OutputSlot (Filtered L F) → Type 0
  TellsDispatch dispatch row later =
      h.told row.output.layer (Dispatched dispatch) later.output.layer × (later ≡ with_layer later.output.layer row)

  -- the spans of these ids close, each told once, in this order, to the outputs that see it, and then forgotten
  abbrev pub ClosesEach : List ℕ → At → RegistryValue → List (OutputSlot (Filtered L F)) → RegistryValue →
      List (OutputSlot (Filtered L F)) → Type 0
  ClosesEach [] at x rows y later = (y ≡ x) × (later ≡ rows)
  ClosesEach (id ∷ ids) at x rows y later =
      (told : List (OutputSlot (Filtered L F))) × (z : RegistryValue) × EachInTurn (TellsSpan (Closed id) id at) x rows z told
      × ((without : RegistryValue) × ClosesNext z id without × ClosesEach ids at without told y later)
