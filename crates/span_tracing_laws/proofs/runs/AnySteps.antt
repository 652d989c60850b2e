-- Any step leaves a ready trace ready.
use Rattle.std.proofs.Common.{◌≡◌, ℕ, Bool, inl, inr, List, length, Option, sym, subst}
use Rattle.tracing_core_fields.specs.requests.PlainRequests.{PlainEvent}
use Rattle.tracing_core_moments.specs.declared.at.At.{At}
use Rattle.tracing_core_fields.specs.declared.requests.subscriber.Subscriber.{Ghosts as SubscriberGhosts}
use Rattle.span_registry_layers_layers.specs.declared.filter.Filter.{Ghosts as FilterGhosts}
use Rattle.span_registry_layers_layers.specs.declared.layer.Layer.{Ghosts as LayerGhosts}
use Rattle.event_formatter_text.specs.declared.format_fields.FormatFields.{Ghosts}
use Rattle.event_formatter_text.specs.declared.settings.Settings.{Settings}
use Rattle.event_formatter.specs.formats.Contexts.{PlainContext}
use Rattle.span_tracing_outputs.specs.OutputMachines.{PlainLine}
use Rattle.span_tracing_outputs.specs.OutputSettings.{stack_set}
use Rattle.span_tracing_outputs.specs.TraceStacks.{TraceStackValue}
use Rattle.span_tracing_outputs.specs.Turns.{Lines}
use Rattle.span_tracing_skeleton.specs.PlainData.{AnyStep, OfQueue, OfTrace}
use Rattle.span_tracing_skeleton.specs.declared.call.Reply.{Reply}
use Rattle.span_tracing_skeleton.specs.declared.queue_call.QueueCall.{QueueCall}
use Rattle.span_tracing_steps.specs.AnySteps.{AnyStepGives}
use Rattle.span_tracing_laws.specs.runs.AnySteps.{AnyFollows, AnyStepsFollow}
use Rattle.span_tracing_laws.specs.runs.DrivenSinks.{drives, holds}
use Rattle.span_tracing_laws.specs.runs.Laws.{StepsFollow}
use Rattle.span_tracing_laws.specs.runs.StepFollows.{TraceIsReady, Traced, registry_of}
use Rattle.span_tracing_laws.proofs.runs.DrivenSinks.{drive_keeps, drive_ready}

module _ {N E F S : Type 0} (n : Ghosts N) (line_of : E → Settings → PlainContext → PlainEvent → Option (List ℕ)) (g : FilterGhosts F)
    (takes : S → At → PlainLine → S → Type 0) (calls : ℕ → QueueCall → List S → Reply → List S → Type 0) (held : List S → Bool)
    (h : LayerGhosts (Lines N E)) (sg : SubscriberGhosts (TraceStackValue N E F S))
    (counts : (number : ℕ) (call : QueueCall) (olds : List S) (reply : Reply) (news : List S) → calls number call olds reply news →
    length news ≡ length olds) (law : StepsFollow n line_of g takes h sg) where
  each : (v : Traced N E F S) (step : AnyStep) (reply : Reply) (w : Traced N E F S) → TraceIsReady g h v →
      AnyStepGives sg registry_of stack_set (drives calls) (holds held) v step reply w →
      AnyFollows n line_of g takes calls held h v step reply w × TraceIsReady g h w
  each v (OfTrace step) reply w ready (inl (is, told, same)) = (inl (is, told, same), subst (TraceIsReady g h) (sym same) ready)
  each v (OfTrace step) reply w ready (inr (free, goes)) =
      let one = law.each v step reply w ready goes in (inr (free, one.0), one.1)
  each v (OfQueue ask) reply w ready goes = (
    (goes, drive_keeps n line_of g takes h calls counts v ask.sink ask.call reply w goes),
    drive_ready n line_of g takes h calls counts v ask.sink ask.call reply w ready goes,
  )

  pub any_steps_follow : AnyStepsFollow n line_of g takes calls held h sg
  any_steps_follow = record { each = each }
