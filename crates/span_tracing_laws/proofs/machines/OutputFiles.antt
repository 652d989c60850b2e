-- What the files of an output hold after a run, where its lines are such.
use Rattle.std.proofs.Common.{◌&&◌, not, ℕ, List, [], ◌∷◌, Option, IfSome, slice_get, sym, subst}
use Rattle.std.proofs.ByRecursion.{All-append}
use Rattle.tracing_core_fields.specs.requests.PlainRequests.{PlainEvent}
use Rattle.tracing_core_moments.specs.declared.at.At.{At}
use Rattle.tracing_appender_rolling.specs.folders.Contents.{Contents, bytes_at}
use Rattle.tracing_appender_rolling.specs.PrunedSinks.{PrunedSink, is_named, pruned_at, removed_if, with_line}
use Rattle.tracing_appender_rolling.specs.Sinks.{is_past, was_opened}
use Rattle.tracing_appender_rolling.specs.declared.appender.RollingFileAppender.{RollingFileAppender}
use Rattle.span_registry_layers_layers.specs.declared.filter.Filter.{Ghosts as FilterGhosts}
use Rattle.event_formatter_text.specs.declared.format_fields.FormatFields.{Ghosts}
use Rattle.event_formatter_text.specs.declared.settings.Settings.{Settings}
use Rattle.event_formatter.specs.formats.Contexts.{PlainContext}
use Rattle.span_tracing_outputs.specs.OutputMachines.{PlainLine}
use Rattle.span_tracing_outputs.specs.sinks.Fates.{LeavesAll, LeftBy}
use Rattle.span_tracing_outputs.specs.sinks.Routed.{sent_to}
use Rattle.span_tracing_outputs.specs.sinks.Runs.{handed_in}
use Rattle.span_tracing_outputs.specs.sinks.LinesInFiles.{LinesStand}
use Rattle.span_tracing_outputs.specs.sinks.Takes.{moment_of}
use Rattle.span_tracing_laws.specs.machines.Files.{FilesKeep, OutputsReachFiles, QueuesHold, SinksHold}
use Rattle.span_tracing_laws.specs.machines.Lines.{AreHanded, AreRun}
use Rattle.span_tracing_laws.specs.runs.Files.{FileTrace}
use Rattle.span_tracing_laws.specs.runs.Runs.{AgreesPlain, Plain, StepWithMask, lines_of}
use Rattle.span_tracing_laws.proofs.machines.QueueFiles.{queues_hold}
use Rattle.span_tracing_laws.proofs.machines.SinkLines.{found_if, handed_are, left_holds, sent_are}

module _ {D : Type 0} (contents : D → Option Contents) (P T R : List ℕ → Type 0) where
  found_after : (p : PrunedSink) (run : List (At × PlainLine)) (a b : RollingFileAppender D) (last : PrunedSink) (name : List ℕ) →
      LeavesAll contents p run a b last → IfSome (p.sink.found name) T → IfSome (last.sink.found name) T
  found_after p [] a b last name (same, left) is = subst (λ (q : PrunedSink). IfSome (q.sink.found name) T) (sym left) is
  found_after p (x ∷ xs) a b last name (c, mid, known, handed, later) is =
      let m = moment_of x.0 in
      let names = removed_if (is_past p.sink m) p.sink.names c in
      found_after (with_line (pruned_at p m c) x.1.bytes m) xs mid b last name later
      (found_if T (is_named name names && not (was_opened p.sink name)) (p.sink.found name) is)

  module _ (files : FilesKeep P T) (give : (text : List ℕ) → T text → R text) where
    file_holds : (run : List (At × PlainLine)) (s : PrunedSink) (a b : RollingFileAppender D) (led : LeftBy contents run s a b)
        (c : Contents) → LinesStand led.last c → AreRun P run → AreHanded P s.sink.handed → (name : List ℕ) →
        IfSome (s.sink.found name) T →
        IfSome (bytes_at c.files name) R
    file_holds run s a b led c stand are before name found =
        left_holds P T R files give led.last c stand
        (subst (AreHanded P) (sym led.handed) (All-append _ s.sink.handed (handed_in run) before (handed_are P run are)))
        name
        (found_after s run a b led.last name led.leaves found)

module _ {N E F D Q : Type 0} (contents : D → Option Contents) (failed : D → ℕ) (n : Ghosts N) (line_of : E → Settings → PlainContext →
    PlainEvent → Option (List ℕ)) (g : FilterGhosts F) (P T R : List ℕ → Type 0) (files : FilesKeep P T)
    (give : (text : List ℕ) → T text → R text) where
  pub outputs_hold : (v : FileTrace N E F D Q) (turns : List StepWithMask) (w : FileTrace N E F D Q) →
      OutputsReachFiles contents failed n line_of g v turns w → (p : Plain N) → AgreesPlain n line_of g v p → (stack place : ℕ) →
      IfSome (slice_get (lines_of n p turns stack) place) (AreRun P) →
      SinksHold contents P T R v w stack place × QueuesHold contents P T R v w stack place
  outputs_hold v turns w reach p agrees stack place are = (
    λ number olds news old new before after old_is new_is none s keeps handed c known name found.
        let (run, run_is, (led, lines)) =
        reach.files p agrees stack place number olds news old new before after old_is new_is none s keeps c known in
        let its : AreRun P run = subst (λ (x : Option (List (At × PlainLine))). IfSome x (AreRun P)) run_is are in
        file_holds contents P T R files give (sent_to olds.route number run) s old.appender new.appender led c lines
        (sent_are P olds.route number run its) handed name found,
    queues_hold contents failed n line_of g P T R files give v turns w reach p agrees stack place are,
  )
