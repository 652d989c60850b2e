-- Steps and runs of a trace that is ready.
use Rattle.std.specs.Prelude.{ℕ, List, Option}
use Rattle.tracing_core_fields.specs.requests.PlainRequests.{PlainEvent}
use Rattle.tracing_core_fields.specs.declared.requests.subscriber.Subscriber.{Ghosts as SubscriberGhosts}
use Rattle.span_registry_layers_layers.specs.declared.filter.Filter.{Ghosts as FilterGhosts}
use Rattle.span_registry_layers_layers.specs.declared.layer.Layer.{Ghosts as LayerGhosts}
use Rattle.event_formatter_text.specs.declared.format_fields.FormatFields.{Ghosts}
use Rattle.event_formatter_text.specs.declared.settings.Settings.{Settings}
use Rattle.event_formatter.specs.formats.Contexts.{PlainContext}
use Rattle.tracing_appender_queue.specs.declared.queued.fate.Fate.{Fate}
use Rattle.tracing_appender_rolling.specs.folders.Contents.{Contents}
use Rattle.span_tracing_outputs.specs.OutputSettings.{stack_set}
use Rattle.span_tracing_outputs.specs.TraceStacks.{TraceStackValue}
use Rattle.span_tracing_outputs.specs.Turns.{Lines}
use Rattle.span_tracing_outputs.specs.sinks.AnySinks.{TakesAny}
use Rattle.span_tracing_outputs.specs.sinks.Routed.{Routed, TakesRouted}
use Rattle.span_tracing_outputs.specs.sinks.SinkCalls.{CallsIn, outputs_hold}
use Rattle.span_tracing_outputs.specs.declared.sinks.any_sink.AnySink.{AnySink}
use Rattle.span_tracing_skeleton.specs.PlainData.{AnyStep}
use Rattle.span_tracing_skeleton.specs.declared.call.Reply.{Reply}
use Rattle.span_tracing_laws.specs.runs.AnySteps.{AnyFollows}
use Rattle.span_tracing_laws.specs.runs.DrivenSinks.{drives, holds}
use Rattle.span_tracing_laws.specs.runs.Files.{FileTrace, RunsToFiles}
use Rattle.span_tracing_steps.specs.Runs.{Road, RunGives}
use Rattle.span_tracing_laws.specs.runs.StepFollows.{TraceIsReady, registry_of}
use Rattle.span_tracing_steps.specs.AnySteps.{AnyStepGives}

-- a step, and steps in order, as a trace over rolling files takes them
abbrev pub FileStepGives : {N E F D Q : Type 0} → (D → Option Contents) → (D → ℕ) →
    SubscriberGhosts (TraceStackValue N E F (Routed (AnySink D Q))) → FileTrace N E F D Q → AnyStep → Reply → FileTrace N E F D Q → Type 0
FileStepGives contents failed s v step reply w =
    AnyStepGives s registry_of stack_set (drives (CallsIn contents failed)) (holds outputs_hold) v step reply w

abbrev pub FileRunGives : {N E F D Q : Type 0} → (D → Option Contents) → (D → ℕ) →
    SubscriberGhosts (TraceStackValue N E F (Routed (AnySink D Q))) → Road → FileTrace N E F D Q → List AnyStep → List Reply →
    FileTrace N E F D Q → Type 0
FileRunGives contents failed s road v steps replies w =
    RunGives s registry_of stack_set (drives (CallsIn contents failed)) (holds outputs_hold) road v steps replies w

-- A step: what the trace's parts make of it. Where the trace is ready, as it is where it has no stack, when a ready stack was added, and
-- after each step, the step is refused while a line is held, or follows the skeleton and the output machines, or is a call on a sink's
-- queue, which leaves the skeleton and the outputs as they were; and it leaves the trace ready.
pub record IsStep {N E F D Q : Type 0} (contents : D → Option Contents) (failed : D → ℕ)
    (settles : Q → List ℕ → Fate → Q → Type 0) (s : SubscriberGhosts (TraceStackValue N E F (Routed (AnySink D Q)))) (n : Ghosts N)
    (line_of : E → Settings → PlainContext → PlainEvent → Option (List ℕ)) (g : FilterGhosts F) (h : LayerGhosts (Lines N E))
    (v : FileTrace N E F D Q) (step : AnyStep) (reply : Reply) (w : FileTrace N E F D Q) : Type 0 where
  pub gives : FileStepGives contents failed s v step reply w
  pub follows : TraceIsReady g h v → AnyFollows n line_of g (TakesRouted (TakesAny contents failed settles)) (CallsIn contents failed)
      outputs_hold h v
      step reply w × TraceIsReady g h w

-- so does a run on each road, and its sinks and files are told of
abbrev pub RunsReady : {N E F D Q : Type 0} → (D → Option Contents) → (D → ℕ) → (Q → List ℕ → Fate → Q → Type 0) → Ghosts N →
    (E → Settings → PlainContext → PlainEvent → Option (List ℕ)) → FilterGhosts F → LayerGhosts (Lines N E) → Road →
    FileTrace N E F D Q → List AnyStep → List Reply → FileTrace N E F D Q → Type 0
RunsReady contents failed settles n line_of g h road v steps replies w = TraceIsReady g h v →
    RunsToFiles contents failed n line_of g settles h road v steps replies w × TraceIsReady g h w
