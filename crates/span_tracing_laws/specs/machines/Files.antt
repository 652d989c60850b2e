-- What files hold that such lines alone came to.
use Rattle.std.specs.Prelude.{◌≡◌, ℕ, ℤ, List, [], Option, Some, IfSome, slice_get}
use Rattle.tracing_core_fields.specs.requests.PlainRequests.{PlainEvent}
use Rattle.tracing_appender_rolling.specs.folders.Contents.{Contents, bytes_at}
use Rattle.tracing_appender_rolling.specs.PrunedSinks.{AgreesSink, PrunedSink, pruned_text}
use Rattle.tracing_appender_rolling.specs.Sinks.{PlainSink, file_text, period_text}
use Rattle.tracing_appender_queue.specs.declared.queued.queued_sink.QueuedSink.{QueuedSink}
use Rattle.span_registry_layers_layers.specs.declared.filter.Filter.{Ghosts as FilterGhosts}
use Rattle.event_formatter_text.specs.declared.format_fields.FormatFields.{Ghosts}
use Rattle.event_formatter_text.specs.declared.settings.Settings.{Settings}
use Rattle.event_formatter.specs.formats.Contexts.{PlainContext}
use Rattle.span_tracing_outputs.specs.sinks.Fates.{NoneDropped}
use Rattle.span_tracing_outputs.specs.sinks.QueueFiles.{NoneMissed}
use Rattle.span_tracing_outputs.specs.sinks.Routed.{Routed}
use Rattle.span_tracing_outputs.specs.declared.sinks.any_sink.AnySink.{AnySink}
use Rattle.span_tracing_outputs.specs.declared.sinks.any_sink.AnySink.TheVariants.{Direct, Queued}
use Rattle.span_tracing_outputs.specs.declared.sinks.sink.RollingSink.{RollingSink}
use Rattle.span_tracing_steps.specs.States.{stack_in}
use Rattle.span_tracing_laws.specs.runs.Files.{FileTrace, FilesStand, QueueFilesStand, QueuesWork, routed_at}
use Rattle.span_tracing_laws.specs.runs.Runs.{StepWithMask}
use Rattle.span_tracing_laws.specs.machines.Lines.{AreHanded, AreWaiting}

-- A file of a sink that was handed such lines alone is such a text, if the text that its opening found is: by its name, where retention
-- left it, and by its period.
pub record FilesKeep (line_is text_is : List ℕ → Type 0) : Type 0 where
  pub empty : text_is []
  pub named : (s : PlainSink) (name : List ℕ) → AreHanded line_is s.handed → IfSome (s.found name) text_is →
      IfSome (file_text s name) text_is
  pub left : (p : PrunedSink) (name : List ℕ) → AreHanded line_is p.sink.handed → IfSome (p.sink.found name) text_is →
      IfSome (pruned_text p name) text_is
  pub period : (s : PlainSink) (period : ℤ) (found : Option (List ℕ)) → AreHanded line_is s.handed → IfSome found text_is →
      IfSome (period_text s period found) text_is

-- what the file of a name holds, if the text that its opening found was such
abbrev pub FileHolds : (List ℕ → Type 0) → (List ℕ → Type 0) → PrunedSink → Contents → List ℕ → Type 0
FileHolds text_is holds s c name = IfSome (s.sink.found name) text_is → IfSome (bytes_at c.files name) holds

module _ {N E F D Q : Type 0} (contents : D → Option Contents) (line_is text_is holds : List ℕ → Type 0) where
  -- so of all files of each direct sink of a stack's output at a place, where the sink dropped no line in the run, was handed such lines
  -- alone before it, and the contents of its folder are known
  abbrev pub SinksHold : FileTrace N E F D Q → FileTrace N E F D Q → ℕ → ℕ → Type 0
  SinksHold v w stack place =
      (number : ℕ) (olds news : Routed (AnySink D Q)) (old new : RollingSink D) → routed_at (stack_in v stack) place ≡ Some olds →
      routed_at (stack_in w stack) place ≡ Some news →
      slice_get olds.sinks number ≡ Some (Direct old) → slice_get news.sinks number ≡ Some (Direct new) → NoneDropped old new →
      (s : PrunedSink) →
      AgreesSink contents old.appender s → AreHanded line_is s.sink.handed →
      (c : Contents) → contents new.appender.folder ≡ Some c → (name : List ℕ) → FileHolds text_is holds s c name

  -- So of those of each queued sink where no line found no memory, and of which such lines alone waited and were handed over before. And
  -- such lines alone wait after it then.
  abbrev pub QueuesHold : FileTrace N E F D Q → FileTrace N E F D Q → ℕ → ℕ → Type 0
  QueuesHold v w stack place =
      (number : ℕ) (olds news : Routed (AnySink D Q)) (old new : QueuedSink D) → routed_at (stack_in v stack) place ≡ Some olds →
      routed_at (stack_in w stack) place ≡ Some news →
      slice_get olds.sinks number ≡ Some (Queued old) → slice_get news.sinks number ≡ Some (Queued new) → NoneMissed old new →
      AreWaiting line_is old.waiting → (s : PrunedSink) →
      AgreesSink contents old.appender s →
      AreWaiting line_is new.waiting
      × (AreHanded line_is s.sink.handed → (c : Contents) → contents new.appender.folder ≡ Some c → (name : List ℕ) →
      FileHolds text_is holds s c name)

module _ {N E F D Q : Type 0} (contents : D → Option Contents) (failed : D → ℕ) (n : Ghosts N) (line_of : E → Settings → PlainContext →
    PlainEvent → Option (List ℕ)) (g : FilterGhosts F) where
  -- what a run promises of the files of direct sinks and of queued ones
  pub record OutputsReachFiles (v : FileTrace N E F D Q) (turns : List StepWithMask) (w : FileTrace N E F D Q) : Type 0 where
    pub files : FilesStand contents failed n line_of g v turns w
    pub queues : QueuesWork contents failed n line_of g v turns w
    pub queue_files : QueueFilesStand contents failed n line_of g v turns w
