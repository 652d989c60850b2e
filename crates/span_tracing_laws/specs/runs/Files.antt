-- Which bytes stand in which file after a run.
use Rattle.std.specs.Prelude.{◌≡◌, ℕ, List, [], Option, Some, None, slice_get}
use Rattle.tracing_core_fields.specs.requests.PlainRequests.{PlainEvent}
use Rattle.tracing_core_moments.specs.declared.at.At.{At}
use Rattle.tracing_appender_rolling.specs.folders.Contents.{Contents}
use Rattle.event_formatter_text.specs.declared.makers.route.Route.{Route}
use Rattle.span_registry_layers_layers.specs.declared.filter.Filter.{Ghosts as FilterGhosts}
use Rattle.span_registry_layers_layers.specs.declared.layer.Layer.{Ghosts as LayerGhosts}
use Rattle.event_formatter_text.specs.declared.format_fields.FormatFields.{Ghosts}
use Rattle.event_formatter_text.specs.declared.settings.Settings.{Settings}
use Rattle.event_formatter.specs.formats.Contexts.{PlainContext}
use Rattle.span_tracing_outputs.specs.OutputMachines.{PlainLine}
use Rattle.span_tracing_outputs.specs.TraceStacks.{TraceStackValue}
use Rattle.span_tracing_outputs.specs.Turns.{Lines}
use Rattle.tracing_appender_rolling.specs.PrunedSinks.{AgreesSink, PrunedSink}
use Rattle.span_tracing_outputs.specs.sinks.Fates.{LeftBy, NoneDropped}
use Rattle.span_tracing_outputs.specs.sinks.Routed.{Routed, TakesRouted, sent_to}
use Rattle.span_tracing_outputs.specs.sinks.SinkCalls.{CallsIn, outputs_hold}
use Rattle.span_tracing_outputs.specs.sinks.QueueFiles.{NoneMissed, QueueStands}
use Rattle.span_tracing_outputs.specs.sinks.SinkTurns.{QueueMeetsAll, SinkMeetsAll, SinkTurn, came_in, turns_for}
use Rattle.span_tracing_outputs.specs.sinks.LinesInFiles.{LinesStand}
use Rattle.span_tracing_outputs.specs.sinks.AnySinks.{TakesAny, bytes_in}
use Rattle.span_tracing_outputs.specs.declared.sinks.any_sink.AnySink.{AnySink}
use Rattle.span_tracing_outputs.specs.declared.sinks.any_sink.AnySink.TheVariants.{Direct, Queued, Live}
use Rattle.span_tracing_outputs.specs.declared.sinks.live.LiveSink.{LiveSink}
use Rattle.span_tracing_outputs.specs.declared.sinks.sink.RollingSink.{RollingSink}
use Rattle.span_tracing_outputs.specs.sinks.LiveSinks.{TakesLives}
use Rattle.tracing_appender_queue.specs.declared.queued.fate.Fate.{Fate}
use Rattle.tracing_appender_queue.specs.declared.queued.queued_sink.QueuedSink.{QueuedSink}
use Rattle.span_tracing_skeleton.specs.PlainData.{AnyStep}
use Rattle.span_tracing_skeleton.specs.declared.call.Reply.{Reply}
use Rattle.span_tracing_steps.specs.States.{stack_in}
use Rattle.span_tracing_laws.specs.runs.StepFollows.{Traced}
use Rattle.span_tracing_laws.specs.runs.Runs.{AgreesPlain, Plain, Road, RunFollows, StepWithMask, lines_of, turns_of}

-- the sinks of the output at a place, with their route
abbrev pub routed_at : {N E F S : Type 0} → Option (TraceStackValue N E F (Routed S)) → ℕ → Option (Routed S)
routed_at None place = None
routed_at (Some x) place = slice_get x.sinks place

-- the sinks of a stack's outputs
abbrev pub stack_sinks : {N E F S : Type 0} → Option (TraceStackValue N E F S) → List S
stack_sinks None = []
stack_sinks (Some x) = x.sinks

-- a trace whose lines go to sinks by routes
abbrev pub FileTrace : Type 0 → Type 0 → Type 0 → Type 0 → Type 0 → Type 0
FileTrace N E F D Q = Traced N E F (Routed (AnySink D Q))

module _ {N E F D Q : Type 0} (n : Ghosts N) where
  -- what comes to the sink with a number of the output at a place, in order, as the plain machine has it: those lines of the output's
  -- machine that the route sends there, and the calls on its queue
  abbrev pub sink_turns : FileTrace N E F D Q → Plain N → List StepWithMask → ℕ → ℕ → ℕ → Route → List SinkTurn
  sink_turns v p turns stack place number route =
      turns_for (stack_sinks (stack_in v stack)) place number route (turns_of n p turns stack)

module _ {N E F D Q : Type 0} (contents : D → Option Contents) (failed : D → ℕ) (n : Ghosts N) (line_of : E → Settings → PlainContext →
    PlainEvent → Option (List ℕ)) (g : FilterGhosts F) where
  -- Where a direct sink of an output dropped no line and its folder's contents are known, exactly those lines of the output's machine that
  -- the route sends to it stand in its files, but in those that retention removed: behind what was found there and was handed over before,
  -- whole and in order, each in the file of the period in which the greatest moment so far lay.
  abbrev pub FilesStand : FileTrace N E F D Q → List StepWithMask → FileTrace N E F D Q → Type 0
  FilesStand v turns w =
      (p : Plain N) → AgreesPlain n line_of g v p → (stack place number : ℕ) (olds news : Routed (AnySink D Q))
      (old new : RollingSink D) → routed_at (stack_in v stack) place ≡ Some olds → routed_at (stack_in w stack) place ≡ Some news →
      slice_get olds.sinks number ≡ Some (Direct old) → slice_get news.sinks number ≡ Some (Direct new) → NoneDropped old new →
      (s : PrunedSink) →
      AgreesSink contents old.appender s → (c : Contents) → contents new.appender.folder ≡ Some c →
      (run : List (At × PlainLine)) × (slice_get (lines_of n p turns stack) place ≡ Some run) ×
      ((led : LeftBy contents (sent_to olds.route number run) s old.appender new.appender) × LinesStand led.last c)

  -- Exactly those lines of the output's machine that the route sends to a queued sink came to its queue, in order, and between them the
  -- calls on the queue. Each line was queued, dropped, held or lost as the queue says, or found no memory; what a worker's step took went
  -- to the files at the step's moment; and nothing else was written.
  abbrev pub QueuesWork : FileTrace N E F D Q → List StepWithMask → FileTrace N E F D Q → Type 0
  QueuesWork v turns w =
      (p : Plain N) → AgreesPlain n line_of g v p → (stack place number : ℕ) (olds news : Routed (AnySink D Q))
      (old new : QueuedSink D) → routed_at (stack_in v stack) place ≡ Some olds → routed_at (stack_in w stack) place ≡ Some news →
      slice_get olds.sinks number ≡ Some (Queued old) → slice_get news.sinks number ≡ Some (Queued new) →
      (run : List (At × PlainLine)) × (slice_get (lines_of n p turns stack) place ≡ Some run) ×
      (came_in (sink_turns n v p turns stack place number olds.route) ≡ sent_to olds.route number run) ×
      QueueMeetsAll contents failed (sink_turns n v p turns stack place number olds.route) old new

  -- Where no line found no memory at a queued sink, and its appender agreed with a sink before: exactly the lines that the steps of workers
  -- took stand in its files, each handed over at its step's moment, behind what was found there and handed over before; and what waits, is
  -- held and was counted follows from what waited before.
  abbrev pub QueueFilesStand : FileTrace N E F D Q → List StepWithMask → FileTrace N E F D Q → Type 0
  QueueFilesStand v turns w =
      (p : Plain N) → AgreesPlain n line_of g v p → (stack place number : ℕ) (olds news : Routed (AnySink D Q))
      (old new : QueuedSink D) → routed_at (stack_in v stack) place ≡ Some olds → routed_at (stack_in w stack) place ≡ Some news →
      slice_get olds.sinks number ≡ Some (Queued old) → slice_get news.sinks number ≡ Some (Queued new) → NoneMissed old new →
      (s : PrunedSink) → AgreesSink contents old.appender s →
      QueueStands contents failed (sink_turns n v p turns stack place number olds.route) old new s

  module _ (settles : Q → List ℕ → Fate → Q → Type 0) where
    -- a sink met just that, and these are its lines
    pub record SinkMet (v : FileTrace N E F D Q) (p : Plain N) (turns : List StepWithMask) (w : FileTrace N E F D Q) (stack place : ℕ)
        (olds : Routed (AnySink D Q)) (run : List (At × PlainLine)) (number : ℕ) (old : AnySink D Q) : Type 0 where
      pub news : Routed (AnySink D Q)
      pub new : AnySink D Q
      pub stands : routed_at (stack_in w stack) place ≡ Some news
      pub route : news.route ≡ olds.route
      pub its : slice_get news.sinks number ≡ Some new
      pub lines : came_in (sink_turns n v p turns stack place number olds.route) ≡ sent_to olds.route number run
      pub met : SinkMeetsAll contents failed settles (sink_turns n v p turns stack place number olds.route) old new

    -- Each sink of each output of each stack met just what came to it, whatever came to the other sinks: those lines of the output's machine
    -- that the route sends there, in order, each at its own moment, and the calls on its queue. What that says of looks, openings and writes
    -- over any folder the laws of sinks tell.
    abbrev pub SinksMetTheirs : FileTrace N E F D Q → List StepWithMask → FileTrace N E F D Q → Type 0
    SinksMetTheirs v turns w =
        (p : Plain N) → AgreesPlain n line_of g v p → (stack place : ℕ) (olds : Routed (AnySink D Q)) →
        routed_at (stack_in v stack) place ≡ Some olds →
        (run : List (At × PlainLine)) × (slice_get (lines_of n p turns stack) place ≡ Some run) ×
        ((number : ℕ) (old : AnySink D Q) → slice_get olds.sinks number ≡ Some old → SinkMet v p turns w stack place olds run number old)

    -- Exactly those lines of the output's machine that the route sends to a live sink were offered to its queue, in order, and the sink
    -- counted those that found no memory, and those that a closed queue lost.
    abbrev pub LivesTake : FileTrace N E F D Q → List StepWithMask → FileTrace N E F D Q → Type 0
    LivesTake v turns w =
        (p : Plain N) → AgreesPlain n line_of g v p → (stack place number : ℕ) (olds news : Routed (AnySink D Q))
        (old new : LiveSink Q) → routed_at (stack_in v stack) place ≡ Some olds → routed_at (stack_in w stack) place ≡ Some news →
        slice_get olds.sinks number ≡ Some (Live old) → slice_get news.sinks number ≡ Some (Live new) →
        (run : List (At × PlainLine)) × (slice_get (lines_of n p turns stack) place ≡ Some run) ×
        TakesLives settles (bytes_in (sent_to olds.route number run)) old new

    module _ (h : LayerGhosts (Lines N E)) where
      -- a run, what came to its sinks, what the files of direct ones hold, what the queues of queued ones did and
      -- their files hold, and what came to live queues
      pub record RunsToFiles (road : Road) (v : FileTrace N E F D Q) (steps : List AnyStep) (replies : List Reply) (w : FileTrace N E F D Q) :
          Type 0 where
        pub run : RunFollows n line_of g (TakesRouted (TakesAny contents failed settles)) (CallsIn contents failed) outputs_hold h road v steps
            replies w
        pub sinks : SinksMetTheirs v run.turns w
        pub files : FilesStand v run.turns w
        pub queues : QueuesWork v run.turns w
        pub queue_files : QueueFilesStand v run.turns w
        pub lives : LivesTake v run.turns w

      abbrev pub FilesFollow : Type 0
      FilesFollow = (road : Road) (v : FileTrace N E F D Q) (steps : List AnyStep) (replies : List Reply) (w : FileTrace N E F D Q) →
          RunFollows n line_of g (TakesRouted (TakesAny contents failed settles)) (CallsIn contents failed) outputs_hold h road v steps replies w →
          RunsToFiles road v steps replies w
