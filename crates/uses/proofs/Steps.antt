-- A step of a trace that is told, or answered, in another way.
use Rattle.std.proofs.Common.{◌≡◌, ℕ, List, Option, subst}
use Rattle.tracing_core.specs.PlainRequests.{PlainEvent}
use Rattle.tracing_core.specs.Subscriber.{Ghosts as SubscriberGhosts}
use Rattle.span_registry_layers.specs.Filter.{Ghosts as FilterGhosts}
use Rattle.span_registry_layers.specs.Layer.{Ghosts as LayerGhosts}
use Rattle.span_tracing.specs.FormatFields.{Ghosts}
use Rattle.event_formatter.specs.Settings.{Settings}
use Rattle.span_tracing.specs.Contexts.{PlainContext}
use Rattle.tracing_appender.specs.Contents.{Contents}
use Rattle.tracing_appender.specs.Fate.{Fate}
use Rattle.span_tracing.specs.TraceStacks.{TraceStackValue}
use Rattle.span_tracing.specs.Turns.{Lines}
use Rattle.span_tracing.specs.Routed.{Routed}
use Rattle.span_tracing.specs.AnySink.{AnySink}
use Rattle.span_tracing.specs.PlainData.{AnyStep, OfTrace, PlainStep}
use Rattle.span_tracing.specs.Reply.{Reply}
use Rattle.span_tracing.specs.Reply.TheVariants.{Done}
use Rattle.span_tracing.specs.Steps.{StepGives}
use Rattle.span_tracing.specs.OutputSettings.{stack_set}
use Rattle.span_tracing.specs.StepFollows.{registry_of}
use Rattle.span_tracing.proofs.StepsOfTraces.{done_step}
use Rattle.span_tracing.specs.Files.{FileTrace}
use Rattle.span_tracing.specs.Ready.{FileStepGives, IsStep}

module _ {N E F D Q : Type 0} {settles : Q → List ℕ → Fate → Q → Type 0} (contents : D → Option Contents) (failed : D → ℕ)
    (s : SubscriberGhosts (TraceStackValue N E F (Routed (AnySink D Q)))) (n : Ghosts N)
    (line_of : E → Settings → PlainContext → PlainEvent → Option (List ℕ)) (g : FilterGhosts F) (h : LayerGhosts (Lines N E))
    (v : FileTrace N E F D Q) where
  -- what a step gives, told as another one that is the same
  pub gives_named : (a b : AnyStep) (reply : Reply) (w : FileTrace N E F D Q) → a ≡ b →
      IsStep contents failed settles s n line_of g h v a reply w → FileStepGives contents failed s v b reply w
  gives_named a b reply w is step = subst (λ x. FileStepGives contents failed s v x reply w) is step.gives

  -- and with its answer
  pub gives_told : (a : AnyStep) (reply other : Reply) (w : FileTrace N E F D Q) → reply ≡ other →
      IsStep contents failed settles s n line_of g h v a reply w → FileStepGives contents failed s v a other w
  gives_told a reply other w is step = subst (λ r. FileStepGives contents failed s v a r w) is step.gives

  -- a step that is answered to be done
  pub gives_done : (step : PlainStep) (reply : Reply) (w : FileTrace N E F D Q) → reply ≡ Done →
      IsStep contents failed settles s n line_of g h v (OfTrace step) reply w → StepGives s registry_of stack_set v step reply w
  gives_done step reply w done is = done_step contents failed s v step reply w is.gives done
