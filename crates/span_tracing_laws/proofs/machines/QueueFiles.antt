-- What the files of a queued sink hold after a run, where such lines alone came to it.
use Rattle.std.proofs.Common.{ℕ, Bool, true, false, not, ◌&&◌, List, [], ◌∷◌, Option, IfSome, sym, subst}
use Rattle.std.proofs.ByRecursion.{All-append}
use Rattle.std.proofs.Common.{◌≡◌, refl, slice_get}
use Rattle.tracing_core_fields.specs.requests.PlainRequests.{PlainEvent}
use Rattle.tracing_core_moments.specs.declared.at.At.{At}
use Rattle.tracing_core_moments.specs.declared.moment.Moment.{Moment}
use Rattle.tracing_core_moments.specs.Moments.{is_moment}
use Rattle.tracing_appender_rolling.specs.folders.Contents.{Contents}
use Rattle.tracing_appender_rolling.specs.PrunedSinks.{PrunedSink, is_named, pruned_at, removed_if}
use Rattle.tracing_appender_rolling.specs.Sinks.{PlainSink, is_past, was_opened, with_handed}
use Rattle.tracing_appender_queue.specs.declared.queued.queued_sink.QueuedSink.{QueuedSink}
use Rattle.tracing_appender_queue.specs.queued.QueuedWork.{left_at}
use Rattle.tracing_appender_queue.specs.worker.Batches.{lines_in}
use Rattle.tracing_appender_queue.specs.worker.Steps.{with_lines}
use Rattle.span_registry_layers_layers.specs.declared.filter.Filter.{Ghosts as FilterGhosts}
use Rattle.span_tracing_skeleton.specs.declared.queue_call.QueueCall.TheVariants.{Admit, Shutdown, Work}
use Rattle.event_formatter_text.specs.declared.format_fields.FormatFields.{Ghosts}
use Rattle.event_formatter_text.specs.declared.settings.Settings.{Settings}
use Rattle.event_formatter.specs.formats.Contexts.{PlainContext}
use Rattle.span_tracing_outputs.specs.OutputMachines.{PlainLine}
use Rattle.span_tracing_outputs.specs.sinks.QueueFiles.{StepLeads, TurnLeads, TurnsLead, handed_all}
use Rattle.span_tracing_outputs.specs.sinks.SinkTurns.{Asked, Came, SinkTurn, came_in}
use Rattle.span_tracing_laws.specs.runs.Files.{FileTrace, sink_turns}
use Rattle.span_tracing_laws.specs.runs.Runs.{AgreesPlain, Plain, StepWithMask}
use Rattle.span_tracing_laws.specs.machines.Files.{FilesKeep, OutputsReachFiles, QueuesHold}
use Rattle.span_tracing_laws.specs.machines.Lines.{AreHanded, AreRun, AreWaiting}
use Rattle.span_tracing_laws.specs.runs.Runs.{lines_of}
use Rattle.span_tracing_laws.proofs.machines.QueueLines.{hands_are, waits_are}
use Rattle.span_tracing_laws.proofs.machines.SinkLines.{found_if, left_holds, sent_are}

-- lines that are handed over change nothing of what openings found
found_with : (s : PlainSink) (lines : List (List ℕ)) (m : Moment) → (with_lines s lines m).found ≡ s.found
found_with s [] m = refl
found_with s (l ∷ ls) m = found_with (with_handed s (record { line = l; moment = m })) ls m

module _ (T : List ℕ → Type 0) where
  found_left : (p : PrunedSink) (lines : List (List ℕ)) (m : Moment) (c : Contents) (name : List ℕ) →
      IfSome (p.sink.found name) T → IfSome ((left_at p lines m c).sink.found name) T
  found_left p [] m c name is = is
  found_left p (l ∷ ls) m c name is =
      let names = removed_if (is_past p.sink m) p.sink.names c in
      subst (λ (found : List ℕ → Option (List ℕ)). IfSome (found name) T)
      (sym (found_with (pruned_at p m c).sink (l ∷ ls) m))
      (found_if T (is_named name names && not (was_opened p.sink name)) (p.sink.found name) is)

  -- a sink that is the one before
  same_found : (p last : PrunedSink) (name : List ℕ) → last ≡ p → IfSome (p.sink.found name) T →
      IfSome (last.sink.found name) T
  same_found p last name same is = subst (λ (q : PrunedSink). IfSome (q.sink.found name) T) (sym same) is

  module _ {D : Type 0} (contents : D → Option Contents) (failed : D → ℕ) where
    found_step : (b : Bool) (k : ℕ) (m : Moment) (p : PrunedSink) (old : QueuedSink D) (last : PrunedSink) (name : List ℕ) →
        StepLeads contents failed b k m p old last → IfSome (p.sink.found name) T → IfSome (last.sink.found name) T
    found_step true k m p old last name (c, known, left) is =
        let lines = lines_in k old.waiting.queue in
        same_found (left_at p lines m c) last name left (found_left p lines m c name is)
    found_step false k m p old last name same is = same_found p last name same is

    found_turn : (t : SinkTurn) (p : PrunedSink) (old : QueuedSink D) (last : PrunedSink) (name : List ℕ) →
        TurnLeads contents failed t p old last → IfSome (p.sink.found name) T → IfSome (last.sink.found name) T
    found_turn (Came run) p old last name same is = same_found p last name same is
    found_turn (Asked (Work k m) reply) p old last name leads is = found_step (is_moment m) k m p old last name leads is
    found_turn (Asked Admit reply) p old last name same is = same_found p last name same is
    found_turn (Asked Shutdown reply) p old last name same is = same_found p last name same is

    found_turns : (ts : List SinkTurn) (p : PrunedSink) (old new : QueuedSink D) (last : PrunedSink) (name : List ℕ) →
        TurnsLead contents failed ts p old new last → IfSome (p.sink.found name) T → IfSome (last.sink.found name) T
    found_turns [] p old new last name (done, same) is = same_found p last name same is
    found_turns (t ∷ ts) p old new last name (mid, next, met, leads, later) is =
        found_turns ts next mid new last name later (found_turn t p old next name leads is)

module _ {N E F D Q : Type 0} (contents : D → Option Contents) (failed : D → ℕ) (n : Ghosts N) (line_of : E → Settings → PlainContext →
    PlainEvent → Option (List ℕ)) (g : FilterGhosts F) (P T R : List ℕ → Type 0) (files : FilesKeep P T)
    (give : (text : List ℕ) → T text → R text) where
  pub queues_hold : (v : FileTrace N E F D Q) (turns : List StepWithMask) (w : FileTrace N E F D Q) →
      OutputsReachFiles contents failed n line_of g v turns w → (p : Plain N) → AgreesPlain n line_of g v p → (stack place : ℕ) →
      IfSome (slice_get (lines_of n p turns stack) place) (AreRun P) → QueuesHold contents P T R v w stack place
  queues_hold v turns w reach p agrees stack place are number olds news old new before after old_is new_is none waiting s keeps =
      let (run, run_is, came, met) = reach.queues p agrees stack place number olds news old new before after old_is new_is in
      let stands = reach.queue_files p agrees stack place number olds news old new before after old_is new_is none s keeps in
      let ts = sink_turns n v p turns stack place number olds.route in
      let its : AreRun P run = subst (λ (x : Option (List (At × PlainLine))). IfSome x (AreRun P)) run_is are in
      let come : AreRun P (came_in ts) = subst (AreRun P) (sym came) (sent_are P olds.route number run its) in (
        subst (AreWaiting P) (sym stands.leaves.waiting) (waits_are P ts old.waiting come waiting),
        λ handed c known name found.
            left_holds P T R files give stands.leaves.last c (stands.stand c known)
            (subst (AreHanded P) (sym stands.leaves.handed)
            (All-append _ s.sink.handed (handed_all ts old.waiting) handed (hands_are P ts old.waiting come waiting)))
            name
            (found_turns T contents failed ts s old new stands.leaves.last name stands.leaves.led found),
      )
