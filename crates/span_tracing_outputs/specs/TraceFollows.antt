-- What a call of a stack with sinks makes of its output machines, and what its sinks take.
use Rattle.std.specs.Prelude.{◌≡◌, ◌≤◌, ℕ, Bool, true, false, List, [], ◌∷◌, length, map, Option, Some, None, Result, Ok, Err, slice_set}
use Rattle.std.specs.List.{list_any}
use Rattle.tracing_core_fields.specs.PlainMetadata.{PlainMetadata}
use Rattle.tracing_core_fields.specs.requests.Calls.{Call, ReplyTo, DispatchRegistered, CallsiteRegistered, Asked, HintAsked, SpanMade}
use Rattle.tracing_core_fields.specs.requests.Calls.{Recorded, FollowsRecorded, EventAsked, EventDispatched, Entered, Exited, Cloned}
use Rattle.tracing_core_fields.specs.requests.Calls.{Dropped, CloseTried, CurrentAsked}
use Rattle.tracing_core_fields.specs.requests.PlainRequests.{PlainAttributes, PlainEvent, explicit_parent}
use Rattle.tracing_core_fields.specs.requests.Refusals.{or_refused}
use Rattle.tracing_core_moments.specs.declared.at.At.{At}
use Rattle.tracing_core_fields.specs.declared.requests.refusal.RequestError.{RequestError}
use Rattle.tracing_core_fields.specs.declared.requests.refusal.RequestError.TheVariants.{OutOfMemory, UnknownParent}
use Rattle.span_registry_layers_store.specs.SlotIndependence.{bare}
use Rattle.span_registry_layers_store.specs.RegistryCalls.{clone_gives, close_refusal, follow_refusal, is_closed, open_refusal}
use Rattle.span_registry_layers_store.specs.RegistryCalls.{span_refusal}
use Rattle.span_registry_layers_store.specs.Laws.{IsSound}
use Rattle.span_registry_layers_store.specs.Registries.{RegistryValue, knows, swept, with_entry, without_entry, without_handle}
use Rattle.span_registry_layers_store.specs.Verdicts.{all_pass}
use Rattle.span_registry_layers_layers.specs.Combined.{Then}
use Rattle.span_registry_layers_layers.specs.FilterNumbers.{numbers_from}
use Rattle.span_registry_layers_layers.specs.FilterViews.{View}
use Rattle.span_registry_layers_layers.specs.declared.filter.Filter.{Ghosts as FilterGhosts}
use Rattle.span_registry_layers_layers.specs.declared.layer.Layer.{Ghosts as LayerGhosts}
use Rattle.span_registry_layers.specs.CommonAnswers.{CommonInterest, common_hint}
use Rattle.span_registry_layers.specs.CacheValidity.{CacheIsValid}
use Rattle.span_registry_layers.specs.Calls.{AllRefuse, current_in, over}
use Rattle.span_registry_layers.specs.OutputSlots.{Afresh, filters_of, marked, marks_of, view_of}
use Rattle.span_registry_layers.specs.SpanNotices.{each_sees}
use Rattle.span_registry_layers.specs.Stacks.{PassesAsked, Registers, cleared, with_hint}
use Rattle.event_formatter_text.specs.declared.format_fields.FormatFields.{Ghosts}
use Rattle.event_formatter_text.specs.declared.settings.Settings.{Settings}
use Rattle.event_formatter.specs.formats.Contexts.{PlainContext}
use Rattle.span_tracing_outputs.specs.SinkLines.{TakesLists}
use Rattle.span_tracing_outputs.specs.OutputNotices.{Notice, close_told, enter_told, exit_told, span_told}
use Rattle.span_tracing_outputs.specs.OutputMachines as calls
use Rattle.span_tracing_outputs.specs.OutputMachines.{PlainLine, rested}
use Rattle.span_tracing_outputs.specs.OutputFolds.{EachAgrees, EachGoes, Fates, Numbered, call_lists, event_lists, outs_told}
use Rattle.span_tracing_outputs.specs.StackFollows.{IfTaken, made_in}
use Rattle.span_tracing_outputs.specs.TraceStacks.{IsAtRest, TraceMoves, TraceStackValue}
use Rattle.span_tracing_outputs.specs.Turns.{AreDistinct, Lined, Lines, keys_of}

-- an output machine whose lines were handed on
abbrev pub at_rest : {N : Type 0} → Numbered N → Numbered N
at_rest o = record o { out = rested o.out }

-- the lines that output machines offer
abbrev pub lines_offered : {N : Type 0} → List (Numbered N) → List (List PlainLine)
lines_offered [] = []
lines_offered (o ∷ outs) = o.out.lines ∷ lines_offered outs

-- no notices
abbrev pub untold : ℕ → List Notice
untold number = []

-- the numbers of the outputs' filters, in order
abbrev pub numbers_in : {N E F : Type 0} → List (Lined N E F) → List ℕ
numbers_in [] = []
numbers_in (row ∷ rows) = row.id.index ∷ numbers_in rows

-- numbers are the first ones, in order, and a verdict is kept for each
abbrev pub AreFirst : List ℕ → Type 0
AreFirst ns = (ns ≡ numbers_from 0 (length ns)) × (length ns ≤ 64)

-- verdicts with an answer under each number
abbrev pub verdicts_from : List Bool → List ℕ → List Bool → List Bool
verdicts_from before [] answers = before
verdicts_from before (number ∷ numbers) [] = before
verdicts_from before (number ∷ numbers) (answer ∷ answers) = verdicts_from (slice_set before number answer) numbers answers

-- some filter passes
abbrev pub some_passes : List Bool → Bool
some_passes answers = list_any (λ passed. passed) answers

-- why a call is refused; what isn't refused may find no memory
abbrev pub RefusedBy : Option RequestError → RequestError → Type 0
RefusedBy None e = e ≡ OutOfMemory
RefusedBy (Some refusal) e = e ≡ refusal

-- each filter answers of a callsite, there and then
abbrev pub EachAnswers : {N E F : Type 0} → (F → PlainMetadata → View → Bool → Type 0) → PlainMetadata → At → RegistryValue →
    List (Lined N E F) → List Bool → Type 0
EachAnswers A m at x [] [] = Unit {0}
EachAnswers A m at x [] (passed ∷ later) = ⊥
EachAnswers A m at x (row ∷ rows) [] = ⊥
EachAnswers A m at x (row ∷ rows) (passed ∷ later) = A row.output.filter m (view_of at x row) passed × EachAnswers A m at x rows later

module _ {N E F : Type 0} (g : FilterGhosts F) where
  -- each filter, asked again, answers of the callsite of an event, and then of the event: which pass the callsite, and which are told
  abbrev pub EachAsked : PlainEvent → At → RegistryValue → List (Lined N E F) → List Bool → List Bool → Type 0
  EachAsked e at x [] [] [] = Unit {0}
  EachAsked e at x (row ∷ rows) (p ∷ passed) (t ∷ told) =
      Afresh g row.output.filter e.metadata (view_of at x row) p × Then (g.event_answers row.output.filter e (view_of at x row)) p t ×
      EachAsked e at x rows passed told
  EachAsked e at x rows passed told = ⊥

module _ {N E F S : Type 0} (g : FilterGhosts F) where
  -- what is kept of the filters' answers is right, the registry is sound, no two layers have the same key, the outputs' filters have the
  -- first numbers, each output has its sink, and none keeps a line
  pub record IsReady (x : TraceStackValue N E F S) : Type 0 where
    pub valid : CacheIsValid g x.stack
    pub sound : IsSound x.stack.registry
    pub keys : AreDistinct (keys_of x.stack.rows)
    pub numbers : AreFirst (numbers_in x.stack.rows)
    pub rest : IsAtRest x.stack x.sinks

module _ {N E F S : Type 0} (n : Ghosts N) (line_of : E → Settings → PlainContext → PlainEvent → Option (List ℕ)) (g : FilterGhosts F)
    (takes : S → At → PlainLine → S → Type 0) where
  -- the outputs go on as these machines do, which are told this with these fates, and each sink took the lines of its machine
  pub record OutputsGo (at : At) (told : List (List Notice)) (fates : Fates) (outs : List (Numbered N))
      (x y : TraceStackValue N E F S) : Type 0 where
    pub goes : EachGoes n line_of g told x.stack.rows fates y.stack.rows
    pub agreed : EachAgrees n line_of g y.stack.registry y.stack.rows (map at_rest (outs_told n told outs fates))
    pub sinks : TakesLists takes at (lines_offered (outs_told n told outs fates)) x.sinks y.sinks

  -- each output is told its list, which leaves this skeleton; with some fates they go on as any machines do that they agree with
  pub record StepGoes (at : At) (lists : List (Numbered N) → List (List Notice)) (left : RegistryValue)
      (x y : TraceStackValue N E F S) : Type 0 where
    pub fates : Fates
    pub skeleton : bare y.stack.registry ≡ left
    pub outputs : (outs : List (Numbered N)) → EachAgrees n line_of g x.stack.registry x.stack.rows outs →
        OutputsGo at (lists outs) fates outs x y

  -- no output is told anything, but for marks, and no sink takes anything
  pub record Rests (x y : TraceStackValue N E F S) : Type 0 where
    pub sinks : y.sinks ≡ x.sinks
    pub rows : map (marked false) y.stack.rows ≡ map (marked false) x.stack.rows
    pub agreed : (outs : List (Numbered N)) → EachAgrees n line_of g x.stack.registry x.stack.rows outs →
        EachAgrees n line_of g y.stack.registry y.stack.rows outs

  -- the filters answer, and are marked, and those outputs are told of the event whose filter passed it
  abbrev pub EventTold : PlainEvent → At → TraceStackValue N E F S → TraceStackValue N E F S → Type 0
  EventTold e at x y =
      let k = bare x.stack.registry in
      (passed : List Bool) × (told : List Bool) × EachAsked g e at x.stack.registry x.stack.rows passed told ×
      StepGoes at (event_lists k at e told) k x y × (marks_of y.stack.rows ≡ passed)

  -- where a parent that is named is open; else all stays
  abbrev pub EventIf : Bool → PlainEvent → At → TraceStackValue N E F S → Result (Unit {0}) RequestError → TraceStackValue N E F S → Type 0
  EventIf true e at x r y = (r ≡ Ok tt) × EventTold e at x y
  EventIf false e at x r y = (r ≡ Err UnknownParent) × (y ≡ x)

  -- where the call is taken outputs are told; else all stays
  abbrev pub TakenUnless : {A : Type 0} → Option RequestError → Result A RequestError → TraceStackValue N E F S → Type 0 →
      TraceStackValue N E F S → Type 0
  TakenUnless refusal (Ok done) x goes y = (refusal ≡ None) × goes
  TakenUnless refusal (Err e) x goes y = RefusedBy refusal e × (y ≡ x)

  -- the filters answer of a span, and some passes it: it has the next id, and those outputs are told of it, see it and are marked, whose
  -- filter passed it
  abbrev pub MadeGoes : PlainAttributes → At → TraceStackValue N E F S → ℕ → TraceStackValue N E F S → Type 0
  MadeGoes a at x id y =
      let k = bare x.stack.registry in
      (passed : List Bool) × EachAnswers g.answers a.metadata at x.stack.registry x.stack.rows passed × (some_passes passed ≡ true) ×
      (span_refusal x.stack.registry a.parent ≡ None) × (id ≡ k.next_id)
      × (let made = made_in n line_of g k a at (verdicts_from all_pass (numbers_in x.stack.rows) passed) in
      StepGoes at (call_lists (span_told made at (calls.Made a) k.next_id)) made x y)
      × (each_sees y.stack.registry id y.stack.rows ≡ passed) × (marks_of y.stack.rows ≡ passed)

  -- a handle goes, and then the closes are told; where there is none all stays
  abbrev pub CloseIf : Option RequestError → ℕ → At → TraceStackValue N E F S → Bool → TraceStackValue N E F S → Type 0
  CloseIf None id at x r y =
      let k = bare x.stack.registry in
      (r ≡ is_closed y.stack.registry id) × StepGoes at (call_lists (close_told k at id)) (swept (without_handle k id)) x y
  CloseIf (Some refusal) id at x r y = (r ≡ false) × (y ≡ x)

  -- some output's filter passes the callsite
  abbrev pub SomePassesSpan : PlainMetadata → At → TraceStackValue N E F S → Type 0
  SomePassesSpan m at x =
      (passed : List Bool) × EachAnswers g.answers m at x.stack.registry x.stack.rows passed × (some_passes passed ≡ true)

  module _ (h : LayerGhosts (Lines N E)) where
    -- a span that each filter refuses, asked again, is dropped: marks alone change; and only for one that some filter passes is there no
    -- memory
    abbrev pub NewSpanGoes : PlainAttributes → At → TraceStackValue N E F S → Result (Option ℕ) RequestError → TraceStackValue N E F S →
        Type 0
    NewSpanGoes a at x (Ok None) y =
        (knows x.stack.registry (explicit_parent a.parent) ≡ true) × AllRefuse g h a.metadata at x.stack × (y.stack ≡ cleared x.stack) ×
        Rests x y
    NewSpanGoes a at x (Ok (Some id)) y = MadeGoes a at x id y
    NewSpanGoes a at x (Err e) y = RefusedBy (span_refusal x.stack.registry a.parent) e ×
        (e ≡ OutOfMemory → SomePassesSpan a.metadata at x) × (y ≡ x)

    -- A question: each output's filter answers, asked again, and is marked; some mark is the answer. Marks alone change.
    abbrev pub QuestionGoes : PlainMetadata → At → TraceStackValue N E F S → Bool → TraceStackValue N E F S → Type 0
    QuestionGoes m at x r y =
        EachAnswers (Afresh g) m at x.stack.registry x.stack.rows (marks_of y.stack.rows) × (r ≡ some_passes (marks_of y.stack.rows))
        × PassesAsked g x.stack m at r × (cleared y.stack ≡ cleared x.stack) × Rests x y

    -- what a call answers, and what it makes of the outputs and of the sinks
    abbrev pub TraceGoes : TraceStackValue N E F S → (c : Call) → ReplyTo c → TraceStackValue N E F S → Type 0
    TraceGoes x (DispatchRegistered dispatch) r y = y ≡ x
    TraceGoes x (CallsiteRegistered m) r y = CommonInterest g m (filters_of x.stack.rows) r × Registers m r x.stack y.stack × Rests x y
    TraceGoes x (Asked m at) r y = QuestionGoes m at x r y
    TraceGoes x HintAsked r y = (r ≡ common_hint g (Some 0) (filters_of x.stack.rows)) × (y.stack ≡ with_hint r x.stack) × Rests x y
    TraceGoes x (SpanMade a at) r y = NewSpanGoes a at x r y
    TraceGoes x (Recorded id values at) r y =
        let k = bare x.stack.registry in
        (r ≡ or_refused (open_refusal x.stack.registry id) tt) ×
        IfTaken r x (StepGoes at (call_lists (span_told k at (calls.Recorded values) id)) k x y) y
    TraceGoes x (FollowsRecorded id follows at) r y = (r ≡ or_refused (follow_refusal x.stack.registry id follows) tt) × (y ≡ x)
    TraceGoes x (EventAsked e at) r y = (r ≡ true) × (y ≡ x)
    TraceGoes x (EventDispatched e at) r y = EventIf (knows x.stack.registry (explicit_parent e.parent)) e at x r y
    TraceGoes x (Entered id at) r y =
        let k = bare x.stack.registry in
        TakenUnless (open_refusal x.stack.registry id) r x (StepGoes at (call_lists (enter_told k at id)) (with_entry k at.lane id) x y) y
    TraceGoes x (Exited id at) r y = let k = bare x.stack.registry in
        StepGoes at (call_lists (exit_told k at id)) (swept (without_entry k at.lane id)) x y
    TraceGoes x (Cloned id at) r y = ((r, y.stack.registry) ≡ clone_gives x.stack.registry id) × (y.stack ≡ over y.stack.registry x.stack) ×
        Rests x y
    TraceGoes x (Dropped id at) r y = (closed : Bool) × CloseIf (close_refusal x.stack.registry id) id at x closed y
    TraceGoes x (CloseTried id at) r y = CloseIf (close_refusal x.stack.registry id) id at x r y
    TraceGoes x (CurrentAsked at) r y = (r ≡ current_in x.stack at.lane) × (y ≡ x)

    -- so it is of each call, which leaves a stack that is ready as ready. Where no output is told anything, each goes through no notices
    pub record TraceFollows : Type 0 where
      pub goes : (x : TraceStackValue N E F S) (c : Call) (r : ReplyTo c) (y : TraceStackValue N E F S) → IsReady g x →
          TraceMoves g h takes x c r y → TraceGoes x c r y
      pub ready : (x : TraceStackValue N E F S) (c : Call) (r : ReplyTo c) (y : TraceStackValue N E F S) → IsReady g x →
          TraceMoves g h takes x c r y → IsReady g y
      pub same : (x : TraceStackValue N E F S) → Rests x x
      pub rests : (at : At) (x y : TraceStackValue N E F S) → IsReady g x → Rests x y →
          StepGoes at (call_lists untold) (bare y.stack.registry) x y
      pub numbers : (x : RegistryValue) (rows : List (Lined N E F)) (outs : List (Numbered N)) → EachAgrees n line_of g x rows outs →
          map (λ o. o.number) outs ≡ numbers_in rows
