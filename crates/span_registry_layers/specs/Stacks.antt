-- A stack as a value, and what an event leaves of it.
use Rattle.std.specs.Prelude.{◌≡◌, ◌||◌, ℕ, nat_lt, Bool, true, false, List, map, Option, Some, None, Result, Ok, Err}
use Rattle.std.specs.List.{list_any}
use Rattle.tracing_core_moments.specs.declared.at.At.{At}
use Rattle.tracing_core_fields.specs.requests.Interests.{PlainInterest}
use Rattle.tracing_core_fields.specs.PlainMetadata.{PlainMetadata}
use Rattle.tracing_core_fields.specs.requests.PlainRequests.{PlainEvent, explicit_parent}
use Rattle.tracing_core_fields.specs.declared.requests.refusal.RequestError.{RequestError}
use Rattle.tracing_core_fields.specs.declared.requests.refusal.RequestError.TheVariants.{UnknownParent}
use Rattle.span_registry_layers_store.specs.Registries.{RegistryValue, knows}
use Rattle.span_registry_layers_layers.specs.FilterViews.{View}
use Rattle.span_registry_layers_layers.specs.Several.{EachInTurn}
use Rattle.span_registry_layers_layers.specs.declared.filter.Filter.{Ghosts}
use Rattle.span_registry_layers_layers.specs.declared.filtered.Filtered.{Filtered}
use Rattle.span_registry_layers_layers.specs.declared.layer.Layer.{Ghosts as LayerGhosts}
use Rattle.span_registry_layers.specs.CommonAnswers.{SomePasses, SomePassesBy}
use Rattle.span_registry_layers.specs.OutputSlots.{Afresh, AsksCallsite, AsksEventBy, EachBecomes, TellsEvent, marked, marks_of}
use Rattle.span_registry_layers.specs.InterestCache.{CachesInterest, PlainCachedInterest, is_refused_by}
use Rattle.span_registry_layers.specs.declared.parts.StackParts.{StackParts}
use Rattle.span_registry_layers.specs.declared.output_slot.OutputSlot.{OutputSlot}

-- the spans, the outputs in order, the kept interests of callsites, and the kept hint
pub record StackValue (O : Type 0) : Type 0 where
  pub registry : RegistryValue
  pub rows : List (OutputSlot O)
  pub interest_cache : List PlainCachedInterest
  pub hint : Option ℕ

abbrev pub plain_stack : {O : Type 0} → StackParts O → StackValue O
plain_stack s = record { registry = s.registry; rows = s.rows.items; interest_cache = s.interest_cache; hint = s.hint }

-- a level is above the hint, where there is one
abbrev pub is_above : Option ℕ → ℕ → Bool
is_above None level = false
is_above (Some top) level = nat_lt top level

-- what is kept refuses the callsite: its level is above the hint, or nobody is interested in it
abbrev pub is_refused : {O : Type 0} → StackValue O → PlainMetadata → Bool
is_refused s m = is_above s.hint m.level || list_any (is_refused_by m) s.interest_cache

-- no filter passed the last request
abbrev pub cleared : {O : Type 0} → StackValue O → StackValue O
cleared s = record s { rows = map (marked false) s.rows }

-- with another kept hint
abbrev pub with_hint : {O : Type 0} → Option ℕ → StackValue O → StackValue O
with_hint hint s = record s { hint = hint }

-- the outputs become others that are so related to them, and the rest stays
abbrev pub RowsBecome : {O : Type 0} → (OutputSlot O → OutputSlot O → Type 0) → StackValue O → StackValue O → Type 0
RowsBecome R s t = EachBecomes R s.rows t.rows × (t ≡ record s { rows = t.rows })

-- they do so in turn, and each sees the slots that those before it wrote
abbrev pub RowsInTurn : {O : Type 0} → (RegistryValue → OutputSlot O → RegistryValue → OutputSlot O → Type 0) → StackValue O →
    StackValue O → Type 0
RowsInTurn R s t = EachInTurn R s.registry s.rows t.registry t.rows × (t ≡ record s { registry = t.registry; rows = t.rows })

-- a parent that is named has to be open; else the stack stays
abbrev pub WhereKnown : {O : Type 0} → Bool → StackValue O → (StackValue O → Type 0) → Result (Unit {0}) RequestError → StackValue O →
    Type 0
WhereKnown true s leaves r t = (r ≡ Ok tt) × leaves t
WhereKnown false s leaves r t = (r ≡ Err UnknownParent) × (t ≡ s)

-- some filter passes
abbrev pub some_passes : List Bool → Bool
some_passes mask = list_any (λ passed. passed) mask

module _ {L F : Type 0} (g : Ghosts F) where
  abbrev pub PassesUnless : Bool → StackValue (Filtered L F) → PlainMetadata → At → Bool → Type 0
  PassesUnless true s m at b = b ≡ false
  PassesUnless false s m at b = SomePasses g m at s.registry s.rows b

  -- whether some filter passes the callsite, and false where what is kept refuses it
  abbrev pub PassesCached : StackValue (Filtered L F) → PlainMetadata → At → Bool → Type 0
  PassesCached s m at b = PassesUnless (is_refused s m) s m at b

  -- the same, by what the filters answer now
  abbrev pub PassesByAnswers : StackValue (Filtered L F) → PlainMetadata → At → Bool → Type 0
  PassesByAnswers s m at b = PassesUnless false s m at b

  -- the same, each filter asked again
  abbrev pub PassesAsked : StackValue (Filtered L F) → PlainMetadata → At → Bool → Type 0
  PassesAsked s m at b = SomePassesBy (Afresh g) m at s.registry s.rows b

  -- each output's filter is asked of a callsite, and what it answers is marked; where it is refused nobody is asked, and no mark is left
  abbrev pub MarksUnless : Bool → PlainMetadata → At → StackValue (Filtered L F) → StackValue (Filtered L F) → Type 0
  MarksUnless true m at s t = t ≡ cleared s
  MarksUnless false m at s t = RowsBecome (AsksCallsite g.answers m at s.registry) s t

  -- the answer to a question is whether some mark is left
  abbrev pub QuestionUnless : Bool → PlainMetadata → At → StackValue (Filtered L F) → Bool → StackValue (Filtered L F) → Type 0
  QuestionUnless refused m at s b t = MarksUnless refused m at s t × (b ≡ some_passes (marks_of t.rows))

  -- a question, nobody asked where what is kept refuses it
  abbrev pub QuestionCached : PlainMetadata → At → StackValue (Filtered L F) → Bool → StackValue (Filtered L F) → Type 0
  QuestionCached m at s b t = QuestionUnless (is_refused s m) m at s b t

  -- a question, by what each filter answers now
  abbrev pub QuestionByAnswers : PlainMetadata → At → StackValue (Filtered L F) → Bool → StackValue (Filtered L F) → Type 0
  QuestionByAnswers m at s b t = QuestionUnless false m at s b t

  -- a question, every filter asked again: the marks are what each answers, and nothing else changes
  abbrev pub QuestionAsked : PlainMetadata → At → StackValue (Filtered L F) → Bool → StackValue (Filtered L F) → Type 0
  QuestionAsked m at s b t = RowsBecome (AsksCallsite (Afresh g) m at s.registry) s t × (b ≡ some_passes (marks_of t.rows))

module _ {L F : Type 0} (g : Ghosts F) (h : LayerGhosts L) where
  -- the outputs' own filters are asked, by these answers, and then each output is told, in order, whose filter passes the event
  abbrev pub TellsAllBy : (F → PlainMetadata → View → Bool → Type 0) → PlainEvent → At → StackValue (Filtered L F) →
      StackValue (Filtered L F) → Type 0
  TellsAllBy A e at s t =
      (asked : StackValue (Filtered L F)) × RowsBecome (AsksEventBy g A e at s.registry) s asked × RowsInTurn (TellsEvent h e at) asked t

  -- the same by answers that the filters may give there
  abbrev pub TellsAll : PlainEvent → At → StackValue (Filtered L F) → StackValue (Filtered L F) → Type 0
  TellsAll e at s t = TellsAllBy g.answers e at s t

  -- the same, each filter asked again
  abbrev pub TellsAfresh : PlainEvent → At → StackValue (Filtered L F) → StackValue (Filtered L F) → Type 0
  TellsAfresh e at s t = TellsAllBy (Afresh g) e at s t

  abbrev pub TellsUnless : Bool → PlainEvent → At → StackValue (Filtered L F) → StackValue (Filtered L F) → Type 0
  TellsUnless true e at s t = t ≡ cleared s
  TellsUnless false e at s t = TellsAll e at s t

  -- an event, every filter asked again
  abbrev pub EventAsked : PlainEvent → At → StackValue (Filtered L F) → Result (Unit {0}) RequestError → StackValue (Filtered L F) → Type 0
  EventAsked e at s r t = WhereKnown (knows s.registry (explicit_parent e.parent)) s (TellsAfresh e at s) r t

  -- an event, nobody asked where it is refused
  abbrev pub EventUnless : Bool → PlainEvent → At → StackValue (Filtered L F) → Result (Unit {0}) RequestError → StackValue (Filtered L F) →
      Type 0
  EventUnless refused e at s r t = WhereKnown (knows s.registry (explicit_parent e.parent)) s (TellsUnless refused e at s) r t

  -- an event, nobody asked where what is kept refuses it
  abbrev pub EventCached : PlainEvent → At → StackValue (Filtered L F) → Result (Unit {0}) RequestError → StackValue (Filtered L F) → Type 0
  EventCached e at s r t = EventUnless (is_refused s e.metadata) e at s r t

  -- an event, by what each filter answers now
  abbrev pub EventByAnswers : PlainEvent → At → StackValue (Filtered L F) → Result (Unit {0}) RequestError → StackValue (Filtered L F) →
      Type 0
  EventByAnswers e at s r t = EventUnless false e at s r t

-- an interest is kept of a callsite, where there is room
abbrev pub Registers : {O : Type 0} → PlainMetadata → PlainInterest → StackValue O → StackValue O → Type 0
Registers m k s t = CachesInterest m k s.interest_cache t.interest_cache × (t ≡ record s { interest_cache = t.interest_cache })
