-- Calls that are made one by one, seen as a run.
use Rattle.std.specs.Prelude.{ℕ, List, [], ◌∷◌, ◌++◌, Option}
use Rattle.tracing_core_fields.specs.requests.PlainRequests.{PlainEvent}
use Rattle.tracing_core_fields.specs.declared.requests.subscriber.Subscriber.{Ghosts as SubscriberGhosts}
use Rattle.span_registry_layers_layers.specs.declared.filter.Filter.{Ghosts as FilterGhosts}
use Rattle.span_registry_layers_layers.specs.declared.layer.Layer.{Ghosts as LayerGhosts}
use Rattle.event_formatter_text.specs.declared.format_fields.FormatFields.{Ghosts}
use Rattle.event_formatter_text.specs.declared.settings.Settings.{Settings}
use Rattle.event_formatter.specs.formats.Contexts.{PlainContext}
use Rattle.tracing_appender_queue.specs.declared.queued.fate.Fate.{Fate}
use Rattle.tracing_appender_rolling.specs.folders.Contents.{Contents}
use Rattle.span_tracing_outputs.specs.TraceStacks.{TraceStackValue}
use Rattle.span_tracing_outputs.specs.Turns.{Lines}
use Rattle.span_tracing_outputs.specs.sinks.Routed.{Routed}
use Rattle.span_tracing_outputs.specs.declared.sinks.any_sink.AnySink.{AnySink}
use Rattle.span_tracing_skeleton.specs.PlainData.{AnyStep}
use Rattle.span_tracing_skeleton.specs.declared.call.Reply.{Reply}
use Rattle.span_tracing_steps.specs.Runs.{Caching, Road}
use Rattle.span_tracing_laws.specs.runs.Files.{FileTrace}
use Rattle.span_tracing.specs.Ready.{FileRunGives, FileStepGives, RunsReady}

module _ {N E F D Q : Type 0} (contents : D → Option Contents) (failed : D → ℕ)
    (sg : SubscriberGhosts (TraceStackValue N E F (Routed (AnySink D Q)))) where
  -- a call is a run of one step, and a run with one that begins where it ended is one run
  pub record CallsMakeRuns : Type 0 where
    pub call : (v : FileTrace N E F D Q) (step : AnyStep) (reply : Reply) (w : FileTrace N E F D Q) →
        FileStepGives contents failed sg v step reply w → FileRunGives contents failed sg Caching v (step ∷ []) (reply ∷ []) w
    pub joined : (road : Road) (v : FileTrace N E F D Q) (steps : List AnyStep) (replies : List Reply) (mid : FileTrace N E F D Q)
        (more : List AnyStep) (later : List Reply) (w : FileTrace N E F D Q) → FileRunGives contents failed sg road v steps replies mid →
        FileRunGives contents failed sg road mid more later w →
        FileRunGives contents failed sg road v (steps ++ more) (replies ++ later) w

  -- what becomes of replies, sinks and files in a run, however its steps were called
  abbrev pub EachRunIsReady : (Q → List ℕ → Fate → Q → Type 0) → Ghosts N → (E → Settings → PlainContext → PlainEvent → Option (List ℕ)) → FilterGhosts F →
      LayerGhosts (Lines N E) → Type 0
  EachRunIsReady settles n line_of g h = (road : Road) (v : FileTrace N E F D Q) (steps : List AnyStep)
      (replies : List Reply) (w : FileTrace N E F D Q) → FileRunGives contents failed sg road v steps replies w →
      RunsReady contents failed settles n line_of g h road v steps replies w
