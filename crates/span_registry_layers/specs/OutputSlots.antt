-- What one output is told.
use Rattle.std.specs.Prelude.{◌≡◌, ◌⊎◌, ◌++◌, ◌||◌, ℕ, Bool, true, false, Some, List, [], ◌∷◌, map}
use Rattle.tracing_core_moments.specs.declared.at.At.{At}
use Rattle.tracing_core_fields.specs.PlainMetadata.{PlainMetadata}
use Rattle.tracing_core_fields.specs.requests.PlainRequests.{PlainEvent}
use Rattle.span_registry_layers_store.specs.Registries.{RegistryValue}
use Rattle.span_registry_layers_layers.specs.Combined.{Then}
use Rattle.span_registry_layers_layers.specs.FilterViews.{View}
use Rattle.span_registry_layers_layers.specs.Notices.{Notice, Happened}
use Rattle.span_registry_layers_layers.specs.declared.filter.Filter.{Ghosts}
use Rattle.span_registry_layers_layers.specs.declared.filtered.Filtered.{Filtered}
use Rattle.span_registry_layers_layers.specs.declared.layer.Layer.{Ghosts as LayerGhosts}
use Rattle.span_registry_layers.specs.declared.output_slot.OutputSlot.{OutputSlot}

-- what the filter of an output may look at
abbrev pub view_of : {O : Type 0} → At → RegistryValue → OutputSlot O → View
view_of at x row = record { at = at; registry = x; mask = Some row.id.index }

-- with what the filter answered of the last request, of which the output is told where that passes
abbrev pub marked : {O : Type 0} → Bool → OutputSlot O → OutputSlot O
marked passed row = record row { passed = passed; told = passed }

-- its filter passed the last request's callsite, or it was told of that request
abbrev pub is_marked : {O : Type 0} → OutputSlot O → Bool
is_marked row = row.passed || row.told

abbrev pub filters_of : {L F : Type 0} → List (OutputSlot (Filtered L F)) → List F
filters_of rows = map (λ row. row.output.filter) rows

-- the numbers of all filters: of each output its own, and those in its layer
abbrev pub numbers_of : {L F : Type 0} → LayerGhosts L → List (OutputSlot (Filtered L F)) → List ℕ
numbers_of h [] = []
numbers_of h (row ∷ rows) = row.id.index ∷ (h.numbers row.output.layer ++ numbers_of h rows)

-- each becomes one that is so related to it
abbrev pub EachBecomes : {A B : Type 0} → (A → B → Type 0) → List A → List B → Type 0
EachBecomes R [] [] = Unit {0}
EachBecomes R [] (y ∷ ys) = ⊥
EachBecomes R (x ∷ xs) [] = ⊥
EachBecomes R (x ∷ xs) (y ∷ ys) = R x y × EachBecomes R xs ys

abbrev pub with_layer : {L F : Type 0} → L → OutputSlot (Filtered L F) → OutputSlot (Filtered L F)
with_layer layer row = record row { output = record row.output { layer = layer } }

-- what may be answered; or, where nobody was asked, refusal, and each answer that may be given refuses
abbrev pub Fresh : (Bool → Type 0) → Bool → Type 0
Fresh P b = P b ⊎ ((b ≡ false) × ((a : Bool) → P a → a ≡ false))

-- whether a filter passes a callsite in a place, asked again
abbrev pub Afresh : {F : Type 0} → Ghosts F → F → PlainMetadata → View → Bool → Type 0
Afresh g f m v b = Fresh (g.answers f m v) b

-- a layer is told, by what it sees and by the registry as it leaves it, or stays, as the registry does
abbrev pub TellsIf : {L : Type 0} → LayerGhosts L → Bool → L → (View → RegistryValue → Notice) → View → RegistryValue → L → Type 0
TellsIf h true layer n v y later = h.told layer (n v y) later
TellsIf h false layer n v y later = (later ≡ layer) × (y ≡ v.registry)

-- with these marks
abbrev pub with_marks : {O : Type 0} → Bool → Bool → OutputSlot O → OutputSlot O
with_marks passed told row = record row { passed = passed; told = told }

-- what the filters of outputs answered of the last request's callsite, one for each output, in order: the mask of the request
abbrev pub marks_of : {O : Type 0} → List (OutputSlot O) → List Bool
marks_of rows = map (λ row. row.passed) rows

-- its filter is asked of a callsite, by these answers; what it answers is marked, and the output is told nothing
abbrev pub AsksCallsite : {L F : Type 0} → (F → PlainMetadata → View → Bool → Type 0) → PlainMetadata → At → RegistryValue →
    OutputSlot (Filtered L F) → OutputSlot (Filtered L F) → Type 0
AsksCallsite A m at x row asked = A row.output.filter m (view_of at x row) asked.passed × (asked ≡ with_marks asked.passed false row)

module _ {L F : Type 0} (g : Ghosts F) where
  -- its filter is asked of the callsite, by these answers, and then of the event; what it answers of the callsite and whether it passes
  -- both are marked
  abbrev pub AsksEventBy : (F → PlainMetadata → View → Bool → Type 0) → PlainEvent → At → RegistryValue → OutputSlot (Filtered L F) →
      OutputSlot (Filtered L F) → Type 0
  AsksEventBy A e at x row asked =
      A row.output.filter e.metadata (view_of at x row) asked.passed
      × Then (g.event_answers row.output.filter e (view_of at x row)) asked.passed asked.told
      × (asked ≡ with_marks asked.passed asked.told row)

  -- the same by an answer that its filter may give there
  abbrev pub AsksEvent : PlainEvent → At → RegistryValue → OutputSlot (Filtered L F) → OutputSlot (Filtered L F) → Type 0
  AsksEvent e at x row asked = AsksEventBy g.answers e at x row asked

-- its layer is told of the event where it is marked so, and else stays
abbrev pub TellsEvent : {L F : Type 0} → LayerGhosts L → PlainEvent → At → RegistryValue → OutputSlot (Filtered L F) → RegistryValue →
    OutputSlot (Filtered L F) → Type 0
TellsEvent h e at x row y later =
    TellsIf h row.told row.output.layer (Happened e) (view_of at x row) y later.output.layer × (later ≡ with_layer later.output.layer row)
