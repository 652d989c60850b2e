-- What any step makes of a ready trace.
use Rattle.std.specs.Prelude.{◌≡◌, ◌⊎◌, ℕ, Bool, true, false, List, Option}
use Rattle.tracing_core_fields.specs.requests.PlainRequests.{PlainEvent}
use Rattle.tracing_core_moments.specs.declared.at.At.{At}
use Rattle.tracing_core_fields.specs.declared.requests.subscriber.Subscriber.{Ghosts as SubscriberGhosts}
use Rattle.span_registry_layers_layers.specs.declared.filter.Filter.{Ghosts as FilterGhosts}
use Rattle.span_registry_layers_layers.specs.declared.layer.Layer.{Ghosts as LayerGhosts}
use Rattle.event_formatter_text.specs.declared.format_fields.FormatFields.{Ghosts}
use Rattle.event_formatter_text.specs.declared.settings.Settings.{Settings}
use Rattle.event_formatter.specs.formats.Contexts.{PlainContext}
use Rattle.span_tracing_outputs.specs.OutputMachines.{PlainLine}
use Rattle.span_tracing_outputs.specs.OutputSettings.{stack_set}
use Rattle.span_tracing_outputs.specs.TraceStacks.{TraceStackValue}
use Rattle.span_tracing_outputs.specs.Turns.{Lines}
use Rattle.span_tracing_skeleton.specs.PlainData.{AnyStep, OfQueue, OfTrace}
use Rattle.span_tracing_skeleton.specs.declared.call.Reply.{Reply}
use Rattle.span_tracing_skeleton.specs.declared.call.Reply.TheVariants.{Refused}
use Rattle.span_tracing_skeleton.specs.declared.queue_call.QueueCall.{QueueCall}
use Rattle.span_tracing_skeleton.specs.declared.refusal.Refusal.TheVariants.{Busy}
use Rattle.span_tracing_steps.specs.AnySteps.{AnyStepGives, holds_in}
use Rattle.span_tracing_steps.specs.SinkCalls.{DriveGives}
use Rattle.span_tracing_laws.specs.runs.DrivenSinks.{DriveKeeps, drives, holds}
use Rattle.span_tracing_laws.specs.runs.StepFollows.{Follows, TraceIsReady, Traced, registry_of}

module _ {N E F S : Type 0} (n : Ghosts N) (line_of : E → Settings → PlainContext → PlainEvent → Option (List ℕ)) (g : FilterGhosts F)
    (takes : S → At → PlainLine → S → Type 0) (calls : ℕ → QueueCall → List S → Reply → List S → Type 0) (held : List S → Bool)
    (h : LayerGhosts (Lines N E)) where
  -- while a line is held, a step is refused and changes nothing, save a call on a sink's queue, which leaves the skeleton and the outputs
  -- as they are; else a step follows the skeleton and the output machines
  abbrev pub AnyFollows : Traced N E F S → AnyStep → Reply → Traced N E F S → Type 0
  AnyFollows v (OfTrace step) reply w =
      ((holds_in (holds held) v ≡ true) × (reply ≡ Refused Busy) × (w ≡ v)) ⊎
      ((holds_in (holds held) v ≡ false) × Follows n line_of g takes h v step reply w)
  AnyFollows v (OfQueue ask) reply w = DriveGives (drives calls) v ask.sink ask.call reply w × DriveKeeps n line_of g v w

  -- and so any step leaves the trace ready
  pub record AnyStepsFollow (sg : SubscriberGhosts (TraceStackValue N E F S)) : Type 0 where
    pub each : (v : Traced N E F S) (step : AnyStep) (reply : Reply) (w : Traced N E F S) → TraceIsReady g h v →
        AnyStepGives sg registry_of stack_set (drives calls) (holds held) v step reply w →
        AnyFollows v step reply w × TraceIsReady g h w
