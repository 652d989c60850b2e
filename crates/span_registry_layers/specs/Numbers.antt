-- Each filter of a stack has a number of its own, so that what is kept with a span tells of each.
use Rattle.std.specs.Prelude.{◌≡◌, ◌⊎◌, ℕ, Bool, true, false, List, [], ◌∷◌, Option, None, Result, Ok}
use Rattle.tracing_core_moments.specs.declared.at.At.{At}
use Rattle.tracing_core_fields.specs.requests.Calls.{Call, ReplyTo}
use Rattle.tracing_core_fields.specs.requests.Lists.{Every}
use Rattle.tracing_core_fields.specs.PlainMetadata.{PlainMetadata}
use Rattle.tracing_core_fields.specs.requests.PlainRequests.{PlainAttributes, PlainEvent, explicit_parent}
use Rattle.tracing_core_fields.specs.declared.requests.refusal.RequestError.{RequestError}
use Rattle.span_registry_layers_store.specs.Registries.{RegistryValue, knows}
use Rattle.span_registry_layers_store.specs.Verdicts.{all_pass, passes_at}
use Rattle.span_registry_layers_layers.specs.FilterNumbers.{AreNumbers}
use Rattle.span_registry_layers_layers.specs.declared.filter.Filter.{Ghosts}
use Rattle.span_registry_layers_layers.specs.declared.filtered.Filtered.{Filtered}
use Rattle.span_registry_layers_layers.specs.declared.layer.Layer.{Ghosts as LayerGhosts}
use Rattle.span_registry_layers.specs.CommonAnswers.{AsksFrom}
use Rattle.span_registry_layers.specs.Calls.{MakesSpan, SpanAsked}
use Rattle.span_registry_layers.specs.Moves.{Moves}
use Rattle.span_registry_layers.specs.OutputSlots.{Afresh, filters_of, numbers_of, view_of}
use Rattle.span_registry_layers.specs.Stacks.{EventAsked, PassesAsked, StackValue, cleared}
use Rattle.span_registry_layers.specs.declared.output_slot.OutputSlot.{OutputSlot}

-- each filter, also those in the outputs' layers, has a number below 64, and no two have the same
abbrev pub HasNumbers : {L F : Type 0} → LayerGhosts L → StackValue (Filtered L F) → Type 0
HasNumbers h s = AreNumbers 64 (numbers_of h s.rows)

module _ {L F : Type 0} (g : Ghosts F) (h : LayerGhosts L) where
  -- no call changes the numbers
  abbrev pub NumbersStay : Type 0
  NumbersStay = (s : StackValue (Filtered L F)) (c : Call) (r : ReplyTo c) (t : StackValue (Filtered L F)) → Moves g h s c r t →
      numbers_of h t.rows ≡ numbers_of h s.rows

  -- what is kept with a span is, under the filter's number, an answer that it may give, and under those of the filters in the layer what
  -- they may say then
  abbrev pub RowSaid : PlainMetadata → At → RegistryValue → List Bool → OutputSlot (Filtered L F) → Type 0
  RowSaid m at x verdicts row =
      g.answers row.output.filter m (view_of at x row) (passes_at verdicts row.id.index)
      × ((heard : Bool) × h.kept row.output.layer m (view_of at x row) (passes_at verdicts row.id.index) verdicts heard)

  -- so it is of each output, when a span is made
  abbrev pub VerdictsAreOwn : Type 0
  VerdictsAreOwn =
      (m : PlainMetadata) (at : At) (s : StackValue (Filtered L F)) (verdicts : List Bool) (some : Bool) → HasNumbers h s →
      AsksFrom g h m at s.registry all_pass false s.rows verdicts some →
      Every (RowSaid m at s.registry verdicts) s.rows

  -- the one output's filter, asked again, refused the span, which is dropped; or it passed it, and the span is made with verdicts that all
  -- pass
  abbrev pub OneDecides : PlainAttributes → At → OutputSlot (Filtered L F) → StackValue (Filtered L F) → Result (Option ℕ) RequestError →
      StackValue (Filtered L F) → Type 0
  OneDecides a at row s r t =
      (Afresh g row.output.filter a.metadata (view_of at s.registry row) false × (r ≡ Ok None) × (t ≡ cleared s))
      ⊎ (g.answers row.output.filter a.metadata (view_of at s.registry row) true × MakesSpan g h a at all_pass s r t)

  -- so it is in a stack of one output, which has the first number and whose layer has no filters, where a parent that is named is open
  abbrev pub OneOutputDecides : Type 0
  OneOutputDecides =
      (a : PlainAttributes) (at : At) (row : OutputSlot (Filtered L F)) (s : StackValue (Filtered L F)) (r : Result (Option ℕ) RequestError)
      (t : StackValue (Filtered L F)) → s.rows ≡ row ∷ [] → numbers_of h (row ∷ []) ≡ 0 ∷ [] →
      knows s.registry (explicit_parent a.parent) ≡ true → SpanAsked g h a at s r t → OneDecides a at row s r t

  -- an event that no filter passes, asked again, changes no layer and no filter, where the filters are honest
  abbrev pub DroppedTellsNobody : Type 0
  DroppedTellsNobody =
      (e : PlainEvent) (at : At) (s t : StackValue (Filtered L F)) → Every (λ f. g.honest f) (filters_of s.rows) →
      PassesAsked g s e.metadata at false → EventAsked g h e at s (Ok tt) t → t ≡ cleared s

  -- nor does a span, which is dropped, where a parent that is named is open
  abbrev pub DroppedSpanTellsNobody : Type 0
  DroppedSpanTellsNobody =
      (a : PlainAttributes) (at : At) (s : StackValue (Filtered L F)) (r : Result (Option ℕ) RequestError) (t : StackValue (Filtered L F)) →
      Every (λ f. g.honest f) (filters_of s.rows) →
      PassesAsked g s a.metadata at false → knows s.registry (explicit_parent a.parent) ≡ true → SpanAsked g h a at s r t → (r ≡ Ok None) ×
      (t ≡ cleared s)
