-- What calls on spans answer, and leave of a stack.
use Rattle.std.specs.Prelude.{◌≡◌, ◌⊎◌, ℕ, Bool, true, false, List, ◌∷◌, Option, Some, None, Result, Ok, Err}
use Rattle.tracing_core_moments.specs.declared.at.At.{At}
use Rattle.tracing_core_fields.specs.declared.requests.current_span.CurrentSpan.{CurrentSpan}
use Rattle.tracing_core_fields.specs.declared.requests.current_span.CurrentSpan.TheVariants.{Outside, Inside}
use Rattle.tracing_core_fields.specs.requests.Refusals.{or_refused}
use Rattle.tracing_core_fields.specs.requests.Lists.{Every}
use Rattle.tracing_core_fields.specs.PlainMetadata.{PlainMetadata}
use Rattle.tracing_core_fields.specs.requests.PlainRequests.{PlainAttributes, PlainValues, explicit_parent}
use Rattle.tracing_core_fields.specs.declared.requests.refusal.RequestError.{RequestError}
use Rattle.tracing_core_fields.specs.declared.requests.refusal.RequestError.TheVariants.{UnknownParent}
use Rattle.span_registry_layers_store.specs.RegistryCalls.{ClosesNext, EntryGives, IsSettled, SpanGives, clone_gives, close_refusal}
use Rattle.span_registry_layers_store.specs.RegistryCalls.{follow_refusal, is_closed, open_refusal}
use Rattle.span_registry_layers_store.specs.SlotIndependence.{SameButSlots, ids_of}
use Rattle.span_registry_layers_store.specs.Registries.{RegistryValue, closing_in, current_on, knows, swept, without_entry, without_handle}
use Rattle.span_registry_layers_store.specs.Verdicts.{all_pass}
use Rattle.span_registry_layers_layers.specs.FilterViews.{Closed, Entered, Exited, Recorded, SpanMade}
use Rattle.span_registry_layers_layers.specs.Several.{EachInTurn}
use Rattle.span_registry_layers_layers.specs.declared.filter.Filter.{Ghosts}
use Rattle.span_registry_layers_layers.specs.declared.filtered.Filtered.{Filtered}
use Rattle.span_registry_layers_layers.specs.declared.layer.Layer.{Ghosts as LayerGhosts}
use Rattle.span_registry_layers.specs.CommonAnswers.{AsksFrom}
use Rattle.span_registry_layers.specs.OutputSlots.{Afresh, view_of}
use Rattle.span_registry_layers.specs.SpanNotices.{ClosesEach, TellsFollows, TellsMade, TellsSpan}
use Rattle.span_registry_layers.specs.Stacks.{RowsInTurn, StackValue, cleared, is_refused}
use Rattle.span_registry_layers.specs.declared.output_slot.OutputSlot.{OutputSlot}

-- with another value of the registry
abbrev pub over : {O : Type 0} → RegistryValue → StackValue O → StackValue O
over x s = record s { registry = x }

-- where the registry took the call, outputs are told; else the stack stays
abbrev pub WhereTaken : {O A : Type 0} → Result A RequestError → StackValue O → (StackValue O → Type 0) → StackValue O → Type 0
WhereTaken (Ok done) s leaves t = leaves t
WhereTaken (Err e) s leaves t = t ≡ s

-- one more handle of an open span
abbrev pub CloneGives : {O : Type 0} → ℕ → StackValue O → Result ℕ RequestError → StackValue O → Type 0
CloneGives id s r t = ((r, t.registry) ≡ clone_gives s.registry id) × (t ≡ over t.registry s)

abbrev pub inside : Option ℕ → CurrentSpan
inside None = Outside
inside (Some id) = Inside id

-- the span that the lane is in
abbrev pub current_in : {O : Type 0} → StackValue O → ℕ → CurrentSpan
current_in s lane = inside (current_on s.registry lane)

module _ {L F : Type 0} (g : Ghosts F) (h : LayerGhosts L) where
  -- the next span closes, where one does
  abbrev pub ClosesOne : At → StackValue (Filtered L F) → Bool → StackValue (Filtered L F) → Type 0
  ClosesOne at s true t =
      (id : ℕ) × (z : RegistryValue) × EachInTurn (TellsSpan g h (Closed id) id at) s.registry s.rows z t.rows × ClosesNext z id t.registry
      × (ids_of (closing_in s.registry) ≡ id ∷ ids_of (closing_in t.registry)) × SameButSlots (swept s.registry) (swept t.registry)
      × (t ≡ record s { registry = t.registry; rows = t.rows })
  ClosesOne at s false t = IsSettled s.registry × (t ≡ s)

  -- all spans close that nothing keeps open, each told once, a child before its parent, to the outputs that see it; the others are left,
  -- but for slots
  abbrev pub Closes : At → StackValue (Filtered L F) → StackValue (Filtered L F) → Type 0
  Closes at s t =
      ClosesEach g h (ids_of (closing_in s.registry)) at s.registry s.rows t.registry t.rows × SameButSlots (swept s.registry) t.registry ×
      IsSettled t.registry
      × (t ≡ record s { registry = t.registry; rows = t.rows })

  -- the registry makes the span, with these verdicts, and the outputs that see it are told
  abbrev pub MakesSpan : PlainAttributes → At → List Bool → StackValue (Filtered L F) → Result (Option ℕ) RequestError →
      StackValue (Filtered L F) → Type 0
  MakesSpan a at verdicts s r t =
      (given : Result ℕ RequestError) × (x : RegistryValue) × SpanGives s.registry a.metadata a.parent at.lane verdicts given x ×
      Made given x
    where
      Made : Result ℕ RequestError → RegistryValue → Type 0
      Made (Ok id) x = (r ≡ Ok (Some id)) × RowsInTurn (TellsMade g h (SpanMade a id) id at) (over x s) t
      Made (Err e) x = (r ≡ Err e) × (t ≡ s)

  -- values are recorded on an open span
  abbrev pub RecordGives : ℕ → PlainValues → At → StackValue (Filtered L F) → Result (Unit {0}) RequestError → StackValue (Filtered L F) →
      Type 0
  RecordGives id values at s r t =
      (r ≡ or_refused (open_refusal s.registry id) tt) × WhereTaken r s (RowsInTurn (TellsSpan g h (Recorded id values) id at) s) t

  -- an open span follows from another one
  abbrev pub FollowsGives : ℕ → ℕ → At → StackValue (Filtered L F) → Result (Unit {0}) RequestError → StackValue (Filtered L F) → Type 0
  FollowsGives id follows at s r t =
      (r ≡ or_refused (follow_refusal s.registry id follows) tt) × WhereTaken r s (RowsInTurn (TellsFollows g h id follows at) s) t

  -- the lane enters an open span
  abbrev pub EnterGives : ℕ → At → StackValue (Filtered L F) → Result (Unit {0}) RequestError → StackValue (Filtered L F) → Type 0
  EnterGives id at s r t =
      (x : RegistryValue) × EntryGives s.registry at.lane id r x × WhereTaken r s (RowsInTurn (TellsSpan g h (Entered id) id at) (over x s))
      t

  -- the lane leaves a span: the entry goes, the exit is told, and then the closes are
  abbrev pub ExitGives : ℕ → At → StackValue (Filtered L F) → StackValue (Filtered L F) → Type 0
  ExitGives id at s t =
      let x = without_entry s.registry at.lane id in
      (told : StackValue (Filtered L F)) × RowsInTurn (TellsSpan g h (Exited id) id at) (over x s) told × Closes at told t

  abbrev pub CloseUnless : Option RequestError → ℕ → At → StackValue (Filtered L F) → Bool → StackValue (Filtered L F) → Type 0
  CloseUnless None id at s r t = (r ≡ is_closed t.registry id) × Closes at (over (without_handle s.registry id) s) t
  CloseUnless (Some refusal) id at s r t = (r ≡ false) × (t ≡ s)

  -- a handle is given up, where there is one, and then the closes are told; the answer is whether the span closed
  abbrev pub CloseGives : ℕ → At → StackValue (Filtered L F) → Bool → StackValue (Filtered L F) → Type 0
  CloseGives id at s r t = CloseUnless (close_refusal s.registry id) id at s r t

  abbrev pub SpanWhere : Bool → PlainAttributes → At → List Bool → StackValue (Filtered L F) → Result (Option ℕ) RequestError →
      StackValue (Filtered L F) → Type 0
  SpanWhere true a at verdicts s r t = MakesSpan a at verdicts s r t
  SpanWhere false a at verdicts s r t = (r ≡ Ok None) × (t ≡ cleared s)

  -- the filters are asked: a span is made where one of the outputs' filters passes it, and each answer is kept with it; else it is dropped
  abbrev pub SpanBy : PlainAttributes → At → StackValue (Filtered L F) → Result (Option ℕ) RequestError → StackValue (Filtered L F) → Type 0
  SpanBy a at s r t =
      (verdicts : List Bool) × (some : Bool) × AsksFrom g h a.metadata at s.registry all_pass false s.rows verdicts some ×
      SpanWhere some a at verdicts s r t

  -- each output's filter, asked again, refuses the callsite
  abbrev pub AllRefuse : PlainMetadata → At → StackValue (Filtered L F) → Type 0
  AllRefuse m at s = Every (λ (row : OutputSlot (Filtered L F)). Afresh g row.output.filter m (view_of at s.registry row) false) s.rows

  -- the same, each output's filter asked again: where all refuse it is dropped, and else made
  abbrev pub SpanAfresh : PlainAttributes → At → StackValue (Filtered L F) → Result (Option ℕ) RequestError → StackValue (Filtered L F) →
      Type 0
  SpanAfresh a at s r t =
      (AllRefuse a.metadata at s × (r ≡ Ok None) × (t ≡ cleared s))
      ⊎ ((verdicts : List Bool) × AsksFrom g h a.metadata at s.registry all_pass false s.rows verdicts true × MakesSpan a at verdicts s r t)

  abbrev pub SpanUnless : Bool → PlainAttributes → At → StackValue (Filtered L F) → Result (Option ℕ) RequestError →
      StackValue (Filtered L F) → Type 0
  SpanUnless true a at s r t = (r ≡ Ok None) × (t ≡ cleared s)
  SpanUnless false a at s r t = SpanBy a at s r t

  abbrev pub SpanKnown : Bool → StackValue (Filtered L F) → (Result (Option ℕ) RequestError → StackValue (Filtered L F) → Type 0) →
      Result (Option ℕ) RequestError → StackValue (Filtered L F) → Type 0
  SpanKnown true s gives r t = gives r t
  SpanKnown false s gives r t = (r ≡ Err UnknownParent) × (t ≡ s)

  -- a span is made where its named parent is open and some filter, asked again, passes it; else it is dropped
  abbrev pub SpanAsked : PlainAttributes → At → StackValue (Filtered L F) → Result (Option ℕ) RequestError → StackValue (Filtered L F) →
      Type 0
  SpanAsked a at s r t = SpanKnown (knows s.registry (explicit_parent a.parent)) s (SpanAfresh a at s) r t

  -- the same, nobody asked where it is refused
  abbrev pub NewSpanUnless : Bool → PlainAttributes → At → StackValue (Filtered L F) → Result (Option ℕ) RequestError →
      StackValue (Filtered L F) → Type 0
  NewSpanUnless refused a at s r t = SpanKnown (knows s.registry (explicit_parent a.parent)) s (SpanUnless refused a at s) r t

  -- the same, nobody asked where what is kept refuses it
  abbrev pub SpanCached : PlainAttributes → At → StackValue (Filtered L F) → Result (Option ℕ) RequestError → StackValue (Filtered L F) →
      Type 0
  SpanCached a at s r t = NewSpanUnless (is_refused s a.metadata) a at s r t

  -- the same, by what each filter answers now
  abbrev pub SpanByAnswers : PlainAttributes → At → StackValue (Filtered L F) → Result (Option ℕ) RequestError → StackValue (Filtered L F) →
      Type 0
  SpanByAnswers a at s r t = NewSpanUnless false a at s r t

  -- what the filters answer of a new span, and whether one passes it: nobody is asked where it is refused
  abbrev pub AsksUnless : Bool → PlainMetadata → At → StackValue (Filtered L F) → List Bool → Bool → Type 0
  AsksUnless true m at s verdicts some = some ≡ false
  AsksUnless false m at s verdicts some = AsksFrom g h m at s.registry all_pass false s.rows verdicts some
