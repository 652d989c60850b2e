-- A tree of layers over a registry: each layer is told what all filters on the way down to it pass.
use Rattle.std.specs.Prelude.{◌≡◌, ◌<◌, ◌≤◌, ◌+◌, ℕ, Bool, true, false, List, [], ◌∷◌, Option, Some, None, Result, Ok, Err}
use Rattle.tracing_core_moments.specs.declared.at.At.{At}
use Rattle.tracing_core_fields.specs.requests.Calls.{Call, ReplyTo, DispatchRegistered, CallsiteRegistered, Asked, HintAsked, SpanMade}
use Rattle.tracing_core_fields.specs.requests.Calls.{Recorded, FollowsRecorded, EventAsked, EventDispatched, Entered, Exited, Cloned}
use Rattle.tracing_core_fields.specs.requests.Calls.{Dropped, CloseTried, CurrentAsked}
use Rattle.tracing_core_fields.specs.declared.requests.current_span.CurrentSpan.{CurrentSpan}
use Rattle.tracing_core_fields.specs.declared.requests.current_span.CurrentSpan.TheVariants.{Inside, Outside}
use Rattle.tracing_core_fields.specs.requests.Refusals.{or_refused}
use Rattle.tracing_core_fields.specs.declared.requests.interest.InterestInner.TheVariants.{Sometimes}
use Rattle.tracing_core_fields.specs.PlainMetadata.{PlainMetadata}
use Rattle.tracing_core_fields.specs.requests.PlainRequests.{PlainAttributes, PlainEvent, PlainValues, explicit_parent}
use Rattle.tracing_core_fields.specs.declared.requests.refusal.RequestError.{RequestError}
use Rattle.tracing_core_fields.specs.declared.requests.refusal.RequestError.TheVariants.{UnknownParent}
use Rattle.span_registry_layers_store.specs.RegistryCalls.{ClosesNext, EntryGives, IsSettled, SpanGives, clone_gives, close_refusal}
use Rattle.span_registry_layers_store.specs.RegistryCalls.{follow_refusal, is_closed, open_refusal}
use Rattle.span_registry_layers_store.specs.SlotIndependence.{SameButSlots, ids_of}
use Rattle.span_registry_layers_store.specs.Registries.{RegistryValue, closing_in, current_on, knows, swept, without_entry, without_handle}
use Rattle.span_registry_layers_layers.specs.Combined.{Both}
use Rattle.span_registry_layers_layers.specs.FilterViews.{Hook, View}
use Rattle.span_registry_layers_layers.specs.FilterViews as looks
use Rattle.span_registry_layers_layers.specs.Notices.{Attached, Dispatched, Followed, Happened, Notice, Spanned}
use Rattle.span_registry_layers_layers.specs.FilterNumbers.{AreNumbers, more_filters, numbers_from}
use Rattle.span_registry_layers_layers.specs.declared.attached.AttachError.{AttachError}
use Rattle.span_registry_layers_layers.specs.declared.layer.Layer.{Ghosts}
use Rattle.span_registry_layers_layers.specs.declared.layer.layered.Layered.{Layered}

-- all that can be seen
abbrev pub whole : At → RegistryValue → View
whole at x = record { at = at; registry = x; mask = None }

-- with another value of the registry
abbrev pub over : {L : Type 0} → RegistryValue → Layered L RegistryValue → Layered L RegistryValue
over x s = record s { inner = x }

abbrev pub inside : Option ℕ → CurrentSpan
inside None = Outside
inside (Some id) = Inside id

-- where the registry took the call, the layers are told; else all stays
abbrev pub WhereTaken : {T A : Type 0} → Result A RequestError → T → (T → Type 0) → T → Type 0
WhereTaken (Ok done) s leaves t = leaves t
WhereTaken (Err e) s leaves t = t ≡ s

-- where it passes, so; else otherwise
abbrev pub Where : Bool → Type 0 → Type 0 → Type 0
Where true P Q = P
Where false P Q = Q

-- one more handle of an open span
abbrev pub CloneGives : {L : Type 0} → ℕ → Layered L RegistryValue → Result ℕ RequestError → Layered L RegistryValue → Type 0
CloneGives id s r t = ((r, t.inner) ≡ clone_gives s.inner id) × (t ≡ over t.inner s)

module _ {L : Type 0} (g : Ghosts L) where
  -- each filter has a number of its own, which the registry gave
  abbrev pub IsAttached : Layered L RegistryValue → Type 0
  IsAttached s = AreNumbers s.inner.filters (g.numbers s.layer) × (s.inner.filters ≤ 64)

  -- the layers are told, and may write slots
  abbrev pub LayersTold : (RegistryValue → Notice) → Layered L RegistryValue → Layered L RegistryValue → Type 0
  LayersTold n s t = g.told s.layer (n t.inner) t.layer

  -- a hub took the tree
  abbrev pub DispatchTold : Option ℕ → Layered L RegistryValue → Layered L RegistryValue → Type 0
  DispatchTold handle s t = g.told s.layer (Dispatched handle) t.layer × (t ≡ record s { layer = t.layer })

  -- some layer is to be told of a request on the callsite: no layer vetoes it, and all filters down to that one pass it
  abbrev pub IsMade : Layered L RegistryValue → PlainMetadata → At → Bool → Type 0
  IsMade s m at b = Both (g.answers s.layer m (whole at s.inner)) (λ some. (verdicts : List Bool) ×
      g.kept s.layer m (whole at s.inner) true verdicts some) b

  -- an event that no layer vetoes is told
  abbrev pub TellsEvent : PlainEvent → At → Layered L RegistryValue → Layered L RegistryValue → Type 0
  TellsEvent e at s t =
      (b : Bool) × Both (g.answers s.layer e.metadata (whole at s.inner)) (g.event_answers s.layer e (whole at s.inner)) b
      × Where b (LayersTold (Happened e (whole at s.inner)) s t) (t ≡ s)

  -- a parent that is named has to be open
  abbrev pub EventGives : PlainEvent → At → Layered L RegistryValue → Result (Unit {0}) RequestError → Layered L RegistryValue → Type 0
  EventGives e at s r t = Where (knows s.inner (explicit_parent e.parent)) ((r ≡ Ok tt) × TellsEvent e at s t) ((r ≡ Err UnknownParent) ×
      (t ≡ s))

  abbrev pub Made : PlainAttributes → At → Layered L RegistryValue → RegistryValue → Result ℕ RequestError →
      Result (Option ℕ) RequestError → Layered L RegistryValue → Type 0
  Made a at s x (Ok id) r t = (r ≡ Ok (Some id)) × LayersTold (Spanned id (looks.SpanMade a id) (whole at x)) (over x s) t
  Made a at s x (Err e) r t = (r ≡ Err e) × (t ≡ s)

  -- the registry makes the span with these verdicts, and the layers are told
  abbrev pub MakesSpan : PlainAttributes → At → List Bool → Layered L RegistryValue → Result (Option ℕ) RequestError →
      Layered L RegistryValue → Type 0
  MakesSpan a at verdicts s r t =
      (given : Result ℕ RequestError) × (x : RegistryValue) × SpanGives s.inner a.metadata a.parent at.lane verdicts given x ×
      Made a at s x given r t

  abbrev pub IsDropped : Layered L RegistryValue → Result (Option ℕ) RequestError → Layered L RegistryValue → Type 0
  IsDropped s r t = (r ≡ Ok None) × (t ≡ s)

  -- a span is made with what its filters say of it, asked again, where one of the layers is to be told
  abbrev pub AsksSpan : PlainAttributes → At → Layered L RegistryValue → Result (Option ℕ) RequestError → Layered L RegistryValue → Type 0
  AsksSpan a at s r t =
      (verdicts : List Bool) × (some : Bool) × g.kept s.layer a.metadata (whole at s.inner) true verdicts some ×
      Where some (MakesSpan a at verdicts s r t) (IsDropped s r t)

  -- a named parent has to be open, and a span that a layer vetoes is dropped
  abbrev pub NewSpanGives : PlainAttributes → At → Layered L RegistryValue → Result (Option ℕ) RequestError → Layered L RegistryValue →
      Type 0
  NewSpanGives a at s r t =
      Where (knows s.inner (explicit_parent a.parent))
      ((b : Bool) × g.answers s.layer a.metadata (whole at s.inner) b × Where b (AsksSpan a at s r t) (IsDropped s r t))
      ((r ≡ Err UnknownParent) × (t ≡ s))

  abbrev pub RecordGives : ℕ → PlainValues → At → Layered L RegistryValue → Result (Unit {0}) RequestError → Layered L RegistryValue →
      Type 0
  RecordGives id values at s r t =
      (r ≡ or_refused (open_refusal s.inner id) tt) ×
      WhereTaken r s (LayersTold (Spanned id (looks.Recorded id values) (whole at s.inner)) s) t

  abbrev pub FollowsGives : ℕ → ℕ → At → Layered L RegistryValue → Result (Unit {0}) RequestError → Layered L RegistryValue → Type 0
  FollowsGives id follows at s r t =
      (r ≡ or_refused (follow_refusal s.inner id follows) tt) × WhereTaken r s (LayersTold (Followed id follows (whole at s.inner)) s) t

  abbrev pub EnterGives : ℕ → At → Layered L RegistryValue → Result (Unit {0}) RequestError → Layered L RegistryValue → Type 0
  EnterGives id at s r t =
      (x : RegistryValue) × EntryGives s.inner at.lane id r x ×
      WhereTaken r s (LayersTold (Spanned id (looks.Entered id) (whole at x)) (over x s)) t

  -- the spans of these ids close, each told once, in this order, and then forgotten
  abbrev pub ClosesEach : List ℕ → At → RegistryValue → L → RegistryValue → L → Type 0
  ClosesEach [] at x layer y later = (y ≡ x) × (later ≡ layer)
  ClosesEach (id ∷ ids) at x layer y later =
      (told : L) × (z : RegistryValue) × g.told layer (Spanned id (looks.Closed id) (whole at x) z) told
      × ((without : RegistryValue) × ClosesNext z id without × ClosesEach ids at without told y later)

  -- the next span closes, where one does
  abbrev pub ClosesOne : At → Layered L RegistryValue → Bool → Layered L RegistryValue → Type 0
  ClosesOne at s true t =
      (id : ℕ) × (z : RegistryValue) × g.told s.layer (Spanned id (looks.Closed id) (whole at s.inner) z) t.layer × ClosesNext z id t.inner
      × (ids_of (closing_in s.inner) ≡ id ∷ ids_of (closing_in t.inner)) × SameButSlots (swept s.inner) (swept t.inner)
  ClosesOne at s false t = IsSettled s.inner × (t ≡ s)

  -- all spans close that nothing keeps open, each told once, a child before its parent; the others are left, but for slots
  abbrev pub Closes : At → Layered L RegistryValue → Layered L RegistryValue → Type 0
  Closes at s t = ClosesEach (ids_of (closing_in s.inner)) at s.inner s.layer t.inner t.layer × SameButSlots (swept s.inner) t.inner

  -- the entry goes, the exit is told, and then the closes are
  abbrev pub ExitGives : ℕ → At → Layered L RegistryValue → Layered L RegistryValue → Type 0
  ExitGives id at s t =
      let x = without_entry s.inner at.lane id in
      (told : Layered L RegistryValue) × LayersTold (Spanned id (looks.Exited id) (whole at x)) (over x s) told × Closes at told t

  abbrev pub CloseUnless : Option RequestError → ℕ → At → Layered L RegistryValue → Bool → Layered L RegistryValue → Type 0
  CloseUnless None id at s r t = (r ≡ is_closed t.inner id) × Closes at (over (without_handle s.inner id) s) t
  CloseUnless (Some refusal) id at s r t = (r ≡ false) × (t ≡ s)

  -- a handle is given up, where there is one, and then the closes are told; the answer is whether the span closed
  abbrev pub CloseGives : ℕ → At → Layered L RegistryValue → Bool → Layered L RegistryValue → Type 0
  CloseGives id at s r t = CloseUnless (close_refusal s.inner id) id at s r t

  abbrev pub AnswersOf : Layered L RegistryValue → PlainMetadata → At → Bool → Type 0
  AnswersOf s m at b = IsAttached s → IsMade s m at b

  -- what a call may answer and leave
  abbrev pub Moves : Layered L RegistryValue → (c : Call) → ReplyTo c → Layered L RegistryValue → Type 0
  Moves s (DispatchRegistered dispatch) r t = DispatchTold dispatch s t
  Moves s (CallsiteRegistered m) k t = (k ≡ Sometimes) × (t ≡ s)
  Moves s (Asked m at) r t = AnswersOf s m at r × (t ≡ s)
  Moves s HintAsked r t = (r ≡ None) × (t ≡ s)
  Moves s (SpanMade a at) r t = IsAttached s → NewSpanGives a at s r t
  Moves s (Recorded id values at) r t = RecordGives id values at s r t
  Moves s (FollowsRecorded id follows at) r t = FollowsGives id follows at s r t
  Moves s (EventAsked e at) r t = (r ≡ true) × (t ≡ s)
  Moves s (EventDispatched e at) r t = EventGives e at s r t
  Moves s (Entered id at) r t = EnterGives id at s r t
  Moves s (Exited id at) r t = ExitGives id at s t
  Moves s (Cloned id at) r t = CloneGives id s r t
  Moves s (Dropped id at) r t = (closed : Bool) × CloseGives id at s closed t
  Moves s (CloseTried id at) r t = CloseGives id at s r t
  Moves s (CurrentAsked at) r t = (r ≡ inside (current_on s.inner at.lane)) × (t ≡ s)

  -- each filter keeps its number, whatever is called, and the registry gives no further one
  abbrev pub StayAttached : Type 0
  StayAttached =
      (s : Layered L RegistryValue) (c : Call) (r : ReplyTo c) (t : Layered L RegistryValue) → Moves s c r t → IsAttached s →
      (g.numbers t.layer ≡ g.numbers s.layer) × (t.inner.filters ≡ s.inner.filters) × IsAttached t

  -- the filters of a layer are numbered, where the registry takes them; else both come back
  abbrev pub AttachGives : L → RegistryValue → Result (Layered L RegistryValue) (AttachError L RegistryValue) → Type 0
  AttachGives layer x (Ok s) =
      (x.filters + g.filters layer ≤ 64) × g.told layer (Attached x) s.layer × (s.inner ≡ more_filters (g.filters layer) x)
      × (g.numbers s.layer ≡ numbers_from x.filters (g.filters layer)) × IsAttached s
  AttachGives layer x (Err back) = (64 < x.filters + g.filters layer) × (back.layer ≡ layer) × (back.subscriber ≡ x)

module _ {L M : Type 0} (g : Ghosts L) (h : Ghosts M) (k : Ghosts (Layered L M)) where
  -- the filters of a further layer are numbered after those that are there, where the registry takes them; else both come back
  abbrev pub JoinGives : L → Layered M RegistryValue →
      Result (Layered (Layered L M) RegistryValue) (AttachError L (Layered M RegistryValue)) → Type 0
  JoinGives layer s (Ok t) =
      (s.inner.filters + g.filters layer ≤ 64) × g.told layer (Attached s.inner) t.layer.layer × (t.layer.inner ≡ s.layer)
      × (t.inner ≡ more_filters (g.filters layer) s.inner) × (IsAttached h s → IsAttached k t)
  JoinGives layer s (Err back) = (64 < s.inner.filters + g.filters layer) × (back.layer ≡ layer) × (back.subscriber ≡ s)
