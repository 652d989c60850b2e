-- Laws of steps and runs.
use Rattle.std.specs.Prelude.{◌≡◌, ◌==◌, if◌then◌else◌, is_some, Bool, Err, ℕ, false, List, Option, Some, None, Result, Ok}
use Rattle.tracing_core_fields.specs.PlainMetadata.{PlainMetadata}
use Rattle.tracing_core_fields.specs.requests.Interests.{PlainInterest}
use Rattle.span_tracing_outputs.specs.OutputFolds.{Numbered}
use Rattle.span_tracing_outputs.specs.TraceFollows.{IsReady, some_passes}
use Rattle.span_tracing_skeleton.specs.declared.refusal.Refusal.{Refusal}
use Rattle.span_tracing_steps.specs.Asking.{AsksAnew}
use Rattle.span_tracing_steps.specs.FilterSwaps.{SwapGives}
use Rattle.span_tracing_steps.specs.Interests.{KeepsWord}
use Rattle.span_tracing_steps.specs.Setup.{AddGives, RegisterGives, with_thread, without_retired}
use Rattle.tracing_core_fields.specs.requests.PlainRequests.{PlainEvent}
use Rattle.tracing_core_moments.specs.declared.at.At.{At}
use Rattle.tracing_core_fields.specs.declared.requests.subscriber.Subscriber.{Ghosts as SubscriberGhosts}
use Rattle.span_registry_layers_layers.specs.declared.filter.Filter.{Ghosts as FilterGhosts}
use Rattle.span_registry_layers_layers.specs.declared.layer.Layer.{Ghosts as LayerGhosts}
use Rattle.event_formatter_text.specs.declared.format_fields.FormatFields.{Ghosts}
use Rattle.event_formatter_text.specs.declared.settings.Settings.{Settings}
use Rattle.event_formatter.specs.formats.Contexts.{PlainContext}
use Rattle.span_tracing_outputs.specs.OutputMachines.{PlainLine}
use Rattle.span_tracing_outputs.specs.OutputFilters.{StackSwap}
use Rattle.span_tracing_outputs.specs.OutputSettings.{outputs_in, stack_set}
use Rattle.span_tracing_outputs.specs.TraceStacks.{TraceStackValue}
use Rattle.span_tracing_outputs.specs.Turns.{Lines}
use Rattle.span_tracing_skeleton.specs.PlainData.{AnyStep, EnabledStep, PlainStep, Request, SpanStep}
use Rattle.span_tracing_skeleton.specs.declared.call.Reply.{Reply}
use Rattle.span_tracing_skeleton.specs.declared.call.Reply.TheVariants.{Enabled, Span}
use Rattle.span_tracing_skeleton.specs.declared.call.EnabledCall.{EnabledCall}
use Rattle.span_tracing_skeleton.specs.declared.call.SpanName.{SpanName}
use Rattle.span_tracing_skeleton.specs.declared.queue_call.QueueCall.{QueueCall}
use Rattle.span_tracing_steps.specs.AnySteps.{AnyStepGives}
use Rattle.span_tracing_steps.specs.States.{PlainThread, new_state, stack_in}
use Rattle.span_registry_layers_store.specs.SlotIndependence.{bare}
use Rattle.span_tracing_skeleton.specs.Counting.{IsCounted}
use Rattle.span_tracing_skeleton.specs.Looking.{named, reach}
use Rattle.span_tracing_skeleton.specs.Setup.{with_callsite, with_stack}
use Rattle.span_tracing_skeleton.specs.Skeleton.{Skeleton}
use Rattle.span_tracing_steps.specs.Steps.{StepGives}
use Rattle.span_tracing_laws.specs.runs.DrivenSinks.{drives, holds}
use Rattle.span_tracing_laws.specs.runs.SwappedOutputs.{stack_filtered, swapped_at}
use Rattle.span_tracing_laws.specs.runs.KeptStacks.{OutsAgree, StackKeeps, StackStays, TraceKeeps}
use Rattle.span_tracing_laws.specs.runs.Runs.{Road, RunFollows, RunGives}
use Rattle.span_tracing_laws.specs.runs.SpanMasks.{SpanIsRead}
use Rattle.span_tracing_laws.specs.runs.StepMasks.{IsMask, marks_at, mask_of}
use Rattle.span_tracing_laws.specs.runs.StepFollows.{Follows, TraceIsReady, Traced, registry_of, skeleton_of}

-- a callsite that isn't known is kept behind the others; a known one, and a refused call, change nothing
abbrev pub Registers : Skeleton → PlainMetadata → Result PlainInterest Refusal → Skeleton → Type 0
Registers s m (Ok interest) t = t ≡ (if is_some (named s.callsites m.callsite) then s else with_callsite s m)
Registers s m (Err refusal) t = t ≡ s

module _ {N E F S : Type 0} (n : Ghosts N) (line_of : E → Settings → PlainContext → PlainEvent → Option (List ℕ)) (g : FilterGhosts F)
    (takes : S → At → PlainLine → S → Type 0) (h : LayerGhosts (Lines N E)) (sg : SubscriberGhosts (TraceStackValue N E F S)) where
  -- Each step of a trace over stacks with sinks follows the skeleton and the output machines, and leaves the trace ready for the next one.
  -- What was answered of a span that is made can be read off it: it is what the outputs see. The marks that an event, a question or a new
  -- span leaves in the stack that it asked are what each output's filter answered; a question is answered by whether one passed, and a
  -- span is dropped where none did.
  pub record StepsFollow : Type 0 where
    pub each : (v : Traced N E F S) (step : PlainStep) (reply : Reply) (w : Traced N E F S) → TraceIsReady g h v →
        StepGives sg registry_of stack_set v step reply w → Follows n line_of g takes h v step reply w × TraceIsReady g h w
    pub read : (v : Traced N E F S) (q : Request) (name : SpanName) (w : Traced N E F S) → TraceIsReady g h v →
        StepGives sg registry_of stack_set v (SpanStep q) (Span (Some name)) w → SpanIsRead v q name w
    pub masked : (v : Traced N E F S) (step : PlainStep) (reply : Reply) (w : Traced N E F S) → TraceIsReady g h v →
        StepGives sg registry_of stack_set v step reply w → IsMask g v step reply (mask_of v step reply w)
    pub wanted : (v : Traced N E F S) (call : EnabledCall) (b : Bool) (w : Traced N E F S) → TraceIsReady g h v →
        StepGives sg registry_of stack_set v (EnabledStep call) (Enabled b) w →
        some_passes (marks_at (reach (skeleton_of v) call.lane) w) ≡ b
    pub dropped : (v : Traced N E F S) (q : Request) (w : Traced N E F S) → TraceIsReady g h v →
        StepGives sg registry_of stack_set v (SpanStep q) (Span None) w → some_passes (marks_at (reach (skeleton_of v) q.lane) w) ≡ false

  -- so does a run of steps, on each road
  abbrev pub RunsFollow : (ℕ → QueueCall → List S → Reply → List S → Type 0) → (List S → Bool) → Type 0
  RunsFollow calls held = (road : Road) (v : Traced N E F S) (steps : List AnyStep) (replies : List Reply) (w : Traced N E F S) →
      TraceIsReady g h v → RunGives sg calls held road v steps replies w →
      RunFollows n line_of g takes calls held h road v steps replies w × TraceIsReady g h w

  -- A trace whose filters were all asked anew: it is ready, and keeps all but what filters and outputs were last told. What is kept of the
  -- interest in callsites is right, whatever it was before.
  pub record AskedFollows (v w : Traced N E F S) : Type 0 where
    pub ready : TraceIsReady g h w
    pub keeps : TraceKeeps n line_of g v w
    pub word : KeepsWord sg w

  -- A trace whose output let another filter change places with its own: it is ready, and its skeleton is the same. The stack of the output
  -- has the filter there, all else of the stacks is the same but for what filters and outputs were last told, and outputs agree with the
  -- machines that they agreed with. What is kept of the interest in callsites stays right.
  pub record SwapFollows (v : Traced N E F S) (output : ℕ) (filter : F) (w : Traced N E F S) : Type 0 where
    pub ready : TraceIsReady g h w
    pub skeleton : skeleton_of w ≡ skeleton_of v
    pub stays : (stack : ℕ) → StackStays (stack_filtered stack (swapped_at (skeleton_of v) output) filter (stack_in v stack))
        (stack_in w stack)
    pub agrees : (stack : ℕ) (outs : List (Numbered N)) → OutsAgree n line_of g (stack_in v stack) outs →
        OutsAgree n line_of g (stack_in w stack) outs
    pub word : KeepsWord sg v → KeepsWord sg w

  -- Setup calls leave a trace ready, and its outputs, spans, filters and sinks as they were. A stack that is added while it is ready stands
  -- under the next number, with a handle and its outputs counted; a callsite that is registered stands behind the others. A call that
  -- lets filters change places leaves a trace so, too, but for that filter, where the one that comes is honest.
  pub record SetupFollows : Type 0 where
    pub added : (sinks_in : TraceStackValue N E F S → ℕ) (v : Traced N E F S) (x : TraceStackValue N E F S) (handle : ℕ)
        (w : Traced N E F S) → TraceIsReady g h v → IsReady g x →
        AddGives sg outputs_in sinks_in v x (Ok handle) w → TraceIsReady g h w × StackKeeps n line_of g (Some x) (stack_in w v.hub.next) ×
        ((stack : ℕ) → (stack == v.hub.next) ≡ false → StackKeeps n line_of g (stack_in v stack) (stack_in w stack)) ×
        (skeleton_of w ≡ with_stack (skeleton_of v) (bare (registry_of x)) (outputs_in x) (sinks_in x))
    pub registered : (v : Traced N E F S) (m : PlainMetadata) (r : Result PlainInterest Refusal) (w : Traced N E F S) →
        TraceIsReady g h v → RegisterGives sg v m r w →
        TraceIsReady g h w × ((stack : ℕ) → StackKeeps n line_of g (stack_in v stack) (stack_in w stack)) ×
        Registers (skeleton_of v) m r (skeleton_of w)
    pub swapped : (v : Traced N E F S) (output : ℕ) (filter : F) (reply : Reply) (w : Traced N E F S) (back : F) → TraceIsReady g h v →
        g.honest filter → SwapGives sg registry_of (λ x place f y b. StackSwap g x place f y b) v output filter reply w back →
        SwapFollows v output filter w
    pub asked : (v w : Traced N E F S) → TraceIsReady g h v → AsksAnew sg v w → AskedFollows v w

  -- Each stack of a trace is held by as many as it counts: of a new trace, and of a ready one after each setup call, step and run. What
  -- follows from that the law of skeletons says (`StaysCounted`).
  pub record TraceStaysCounted (calls : ℕ → QueueCall → List S → Reply → List S → Type 0) (held : List S → Bool) : Type 0 where
    pub new : IsCounted (skeleton_of {N = N} {E = E} {F = F} {S = S} new_state)
    pub lane_added : (v : Traced N E F S) (thread : PlainThread) → IsCounted (skeleton_of v) → IsCounted (skeleton_of
        (with_thread v thread))
    pub taken : (v : Traced N E F S) (number : ℕ) → IsCounted (skeleton_of v) → IsCounted (skeleton_of (without_retired v number))
    pub added : (sinks_in : TraceStackValue N E F S → ℕ) (v : Traced N E F S) (x : TraceStackValue N E F S) (handle : ℕ)
        (w : Traced N E F S) → TraceIsReady g h v → IsReady g x →
        AddGives sg outputs_in sinks_in v x (Ok handle) w → IsCounted (skeleton_of v) → IsCounted (skeleton_of w)
    pub registered : (v : Traced N E F S) (m : PlainMetadata) (r : Result PlainInterest Refusal) (w : Traced N E F S) →
        TraceIsReady g h v → RegisterGives sg v m r w → IsCounted (skeleton_of v) → IsCounted (skeleton_of w)
    pub swapped : (v : Traced N E F S) (output : ℕ) (filter : F) (reply : Reply) (w : Traced N E F S) (back : F) → TraceIsReady g h v →
        g.honest filter → SwapGives sg registry_of (λ x place f y b. StackSwap g x place f y b) v output filter reply w back →
        IsCounted (skeleton_of v) → IsCounted (skeleton_of w)
    -- a step that doesn't have to wait for a held line, and any step
    pub acted : (v : Traced N E F S) (step : PlainStep) (reply : Reply) (w : Traced N E F S) → TraceIsReady g h v →
        StepGives sg registry_of stack_set v step reply w → IsCounted (skeleton_of v) → IsCounted (skeleton_of w)
    pub stepped : (v : Traced N E F S) (step : AnyStep) (reply : Reply) (w : Traced N E F S) → TraceIsReady g h v →
        AnyStepGives sg registry_of stack_set (drives calls) (holds held) v step reply w → IsCounted (skeleton_of v) →
        IsCounted (skeleton_of w)
    pub asked : (v w : Traced N E F S) → TraceIsReady g h v → AsksAnew sg v w → IsCounted (skeleton_of v) → IsCounted (skeleton_of w)
    pub ran : (road : Road) (v : Traced N E F S) (steps : List AnyStep) (replies : List Reply) (w : Traced N E F S) → TraceIsReady g h v →
        RunGives sg calls held road v steps replies w → IsCounted (skeleton_of v) → IsCounted (skeleton_of w)
