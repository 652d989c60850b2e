-- Handing lines over leaves the filters' word: a stack with sinks is as consistent as its stack.
use Rattle.std.specs.Prelude.{◌≡◌, List, [], ◌∷◌, map, Some, refl}
use Rattle.std.proofs.Common.{ap, sym, subst}
use Rattle.tracing_core_moments.specs.declared.at.At.{At}
use Rattle.tracing_core_fields.specs.requests.Calls.{Call, ReplyTo, DispatchRegistered, CallsiteRegistered, Asked, HintAsked, SpanMade}
use Rattle.tracing_core_fields.specs.requests.Calls.{Recorded, FollowsRecorded, EventAsked, EventDispatched, Entered, Exited, Cloned}
use Rattle.tracing_core_fields.specs.requests.Calls.{Dropped, CloseTried, CurrentAsked}
use Rattle.tracing_core_fields.specs.requests.Steady.{SameWord}
use Rattle.span_registry_layers_layers.specs.declared.filter.Filter.{Ghosts as FilterGhosts}
use Rattle.span_registry_layers_layers.specs.declared.layer.Layer.{Ghosts as LayerGhosts}
use Rattle.span_registry_layers.specs.CommonAnswers.{CommonInterest, common_hint}
use Rattle.span_registry_layers.specs.CacheValidity.{CacheIsValid, CacheIsValidFor}
use Rattle.span_registry_layers.specs.OutputSlots.{filters_of}
use Rattle.span_registry_layers.specs.Steadiness.{stack_stays}
use Rattle.span_tracing_outputs.specs.SinkLines.{HandsOver, cleared_row}
use Rattle.span_tracing_outputs.specs.OutputMachines.{PlainLine}
use Rattle.span_tracing_outputs.specs.StackFollows.{LinedStack}
use Rattle.span_tracing_outputs.specs.TraceStacks.{ThenHandsOver, TraceMoves, TraceStackValue}
use Rattle.span_tracing_outputs.specs.Turns.{Lined, Lines}

pub same_filters : {N E F : Type 0} (rows : List (Lined N E F)) → filters_of (map cleared_row rows) ≡ filters_of rows
same_filters [] = refl
same_filters (row ∷ rows) = ap (λ (fs : List _). row.output.filter ∷ fs) (same_filters rows)

module _ {N E F S : Type 0} (g : FilterGhosts F) (h : LayerGhosts (Lines N E)) (takes : S → At → PlainLine → S → Type 0) where
  -- a stack is valid, and says what another one said
  abbrev StaysAs : LinedStack N E F → LinedStack N E F → Type 0
  StaysAs s t =
      CacheIsValid g t
      × SameWord (λ m k. CommonInterest g m (filters_of s.rows) k) (λ m k. CommonInterest g m (filters_of t.rows) k)
      (common_hint g (Some 0) (filters_of s.rows)) (common_hint g (Some 0) (filters_of t.rows))

  abbrev StaysBy : LinedStack N E F → List F → LinedStack N E F → Type 0
  StaysBy s fs t =
      CacheIsValidFor g fs t.interest_cache t.hint
      × SameWord (λ m k. CommonInterest g m (filters_of s.rows) k) (λ m k. CommonInterest g m fs k)
      (common_hint g (Some 0) (filters_of s.rows)) (common_hint g (Some 0) fs)

  hands_stay : (at : At) (s mid : LinedStack N E F) (sinks : List S) (t : LinedStack N E F) (sinks_after : List S) →
      HandsOver takes at mid sinks t sinks_after → StaysAs s mid → StaysAs s t
  hands_stay at s mid sinks t sinks_after over w =
      subst (StaysAs s) (sym over.1) (subst (λ (fs : List F). StaysBy s fs mid) (sym (same_filters mid.rows)) w)

  then_stays : (at : At) (x : TraceStackValue N E F S) (c : Call) (r : ReplyTo c) (y : TraceStackValue N E F S) →
      ThenHandsOver g h takes at x c r y → CacheIsValid g x.stack → StaysAs x.stack y.stack
  then_stays at x c r y w valid = hands_stay at x.stack w.0 x.sinks y.stack y.sinks w.2 (stack_stays g h x.stack c r w.0 w.1 valid)

  pub trace_stays : (x : TraceStackValue N E F S) (c : Call) (r : ReplyTo c) (y : TraceStackValue N E F S) → TraceMoves g h takes x c r y →
      CacheIsValid g x.stack →
      CacheIsValid g y.stack
      × SameWord (λ m k. CommonInterest g m (filters_of x.stack.rows) k) (λ m k. CommonInterest g m (filters_of y.stack.rows) k)
      (common_hint g (Some 0) (filters_of x.stack.rows)) (common_hint g (Some 0) (filters_of y.stack.rows))
  trace_stays x (DispatchRegistered dispatch) r y w valid = stack_stays g h x.stack (DispatchRegistered dispatch) r y.stack w.0 valid
  trace_stays x (CallsiteRegistered m) r y w valid = stack_stays g h x.stack (CallsiteRegistered m) r y.stack w.0 valid
  trace_stays x (Asked m at) r y w valid = stack_stays g h x.stack (Asked m at) r y.stack w.0 valid
  trace_stays x HintAsked r y w valid = stack_stays g h x.stack HintAsked r y.stack w.0 valid
  trace_stays x (SpanMade a at) r y w valid = then_stays at x (SpanMade a at) r y w valid
  trace_stays x (Recorded id values at) r y w valid = then_stays at x (Recorded id values at) r y w valid
  trace_stays x (FollowsRecorded id follows at) r y w valid = then_stays at x (FollowsRecorded id follows at) r y w valid
  trace_stays x (EventAsked e at) r y w valid = stack_stays g h x.stack (EventAsked e at) r y.stack w.0 valid
  trace_stays x (EventDispatched e at) r y w valid = then_stays at x (EventDispatched e at) r y w valid
  trace_stays x (Entered id at) r y w valid = then_stays at x (Entered id at) r y w valid
  trace_stays x (Exited id at) r y w valid = then_stays at x (Exited id at) r y w valid
  trace_stays x (Cloned id at) r y w valid = stack_stays g h x.stack (Cloned id at) r y.stack w.0 valid
  trace_stays x (Dropped id at) r y w valid = then_stays at x (Dropped id at) r y w valid
  trace_stays x (CloseTried id at) r y w valid = then_stays at x (CloseTried id at) r y w valid
  trace_stays x (CurrentAsked at) r y w valid = stack_stays g h x.stack (CurrentAsked at) r y.stack w.0 valid
