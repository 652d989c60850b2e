-- What a caller misses who makes no request at a callsite in which nobody is interested.
use Rattle.std.specs.Prelude.{◌≡◌, Bool, true, false, Some, slice_get}
use Rattle.tracing_core_fields.specs.PlainMetadata.{PlainMetadata}
use Rattle.tracing_core.specs.declared.hub.index.CallsiteIndex.{CallsiteIndex}
use Rattle.tracing_core_fields.specs.requests.Lists.{Every}
use Rattle.tracing_core_fields.specs.declared.requests.subscriber.Subscriber.{Ghosts as SubscriberGhosts}
use Rattle.span_registry_layers_layers.specs.declared.filter.Filter.{Ghosts as FilterGhosts}
use Rattle.span_registry_layers_layers.specs.declared.layer.Layer.{Ghosts as LayerGhosts}
use Rattle.span_tracing_outputs.specs.TraceStacks.{TraceStackValue}
use Rattle.span_tracing_outputs.specs.Turns.{Lines}
use Rattle.span_tracing_skeleton.specs.Looking.{known}
use Rattle.span_tracing_skeleton.specs.PlainData.{Request, EventStep, SpanStep}
use Rattle.span_tracing_skeleton.specs.Skeleton.{Answers, Unasked, Wanted, Dropped, Passed, Heard}
use Rattle.span_tracing_steps.specs.Interests.{KeepsWord, is_off_at}
use Rattle.span_tracing_laws.specs.runs.StepFollows.{IsAnswered, Traced, skeleton_of}

-- no filter passes an event, so that no output is told of it
abbrev pub TellsNobody : Answers → Type 0
TellsNobody Unasked = Unit {0}
TellsNobody (Wanted b) = ⊥
TellsNobody Dropped = ⊥
TellsNobody (Passed passed) = ⊥
TellsNobody (Heard passed told) = Every (λ (p : Bool). p ≡ false) passed × Every (λ (t : Bool). t ≡ false) told

-- no filter passes a span, so that it isn't made
abbrev pub MakesNone : Answers → Type 0
MakesNone Unasked = Unit {0}
MakesNone (Wanted b) = ⊥
MakesNone Dropped = Unit {0}
MakesNone (Passed passed) = ⊥
MakesNone (Heard passed told) = ⊥

module _ {N E F S : Type 0} (g : FilterGhosts F) (h : LayerGhosts (Lines N E)) (sg : SubscriberGhosts (TraceStackValue N E F S)) where
  -- it is kept of a callsite that nobody is interested in it, and what is kept is right of each stack
  pub record IsOff (v : Traced N E F S) (index : CallsiteIndex) (m : PlainMetadata) : Type 0 where
    pub word : KeepsWord sg v
    pub stands : slice_get (skeleton_of v).callsites index.0 ≡ Some m
    pub off : is_off_at v.hub.callsites index ≡ true

  -- then an event there is told to nobody, and a span isn't made
  pub record SkipsNothing : Type 0 where
    pub event : (v : Traced N E F S) (index : CallsiteIndex) (m : PlainMetadata) (e : Request) (a : Answers) → IsOff v index m →
        known (skeleton_of v) e.callsite false ≡ Some m → IsAnswered g h v (EventStep e) a → TellsNobody a
    pub span : (v : Traced N E F S) (index : CallsiteIndex) (m : PlainMetadata) (s : Request) (a : Answers) → IsOff v index m →
        known (skeleton_of v) s.callsite true ≡ Some m → IsAnswered g h v (SpanStep s) a → MakesNone a
