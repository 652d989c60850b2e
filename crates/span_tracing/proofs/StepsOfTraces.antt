-- What a step's answer tells.
use Rattle.std.proofs.Common.{◌≡◌, ◌∙◌, ℕ, inl, inr, Option, sym}
use Rattle.tracing_core_fields.specs.declared.requests.subscriber.Subscriber.{Ghosts as SubscriberGhosts}
use Rattle.tracing_appender_rolling.specs.folders.Contents.{Contents}
use Rattle.span_tracing_outputs.specs.OutputSettings.{stack_set}
use Rattle.span_tracing_outputs.specs.TraceStacks.{TraceStackValue}
use Rattle.span_tracing_outputs.specs.sinks.Routed.{Routed}
use Rattle.span_tracing_outputs.specs.declared.sinks.any_sink.AnySink.{AnySink}
use Rattle.span_tracing_skeleton.specs.PlainData.{OfTrace, PlainStep}
use Rattle.span_tracing_skeleton.specs.declared.call.Reply.{Reply}
use Rattle.span_tracing_skeleton.specs.declared.call.Reply.TheVariants.{Done, Refused}
use Rattle.span_tracing_skeleton.specs.declared.refusal.Refusal.TheVariants.{Busy}
use Rattle.span_tracing_steps.specs.Steps.{StepGives}
use Rattle.span_tracing_laws.specs.runs.Files.{FileTrace}
use Rattle.span_tracing_laws.specs.runs.StepFollows.{registry_of}
use Rattle.span_tracing.specs.Ready.{FileStepGives}

-- A step that is answered to be done found no line held.
pub done_step : {N E F D Q : Type 0} (contents : D → Option Contents) (failed : D → ℕ)
    (s : SubscriberGhosts (TraceStackValue N E F (Routed (AnySink D Q)))) (v : FileTrace N E F D Q) (step : PlainStep) (reply : Reply)
    (w : FileTrace N E F D Q) → FileStepGives contents failed s v (OfTrace step) reply w → reply ≡ Done →
    StepGives s registry_of stack_set v step reply w
done_step contents failed s v step reply w (inl (held, told, same)) done =
    absurd (let clash : Done ≡ Refused Busy = sym done ∙ told in cc)
done_step contents failed s v step reply w (inr (free, gives)) done = gives
