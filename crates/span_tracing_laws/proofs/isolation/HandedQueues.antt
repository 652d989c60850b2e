-- Which lines workers' steps hand to files, whatever folders refuse and cut short.
use Rattle.std.proofs.Common.{◌≡◌, ◌∙◌, ◌<◌, ◌-◌, ◌^◌, ℕ, Bool, true, false, List, [], ◌∷◌, ◌++◌, Option, refl, sym, ap, subst}
use Rattle.std.proofs.lemmas.List.{append-nil, append_assoc}
use Rattle.tracing_core_moments.specs.declared.moment.Moment.{Moment}
use Rattle.tracing_core_moments.specs.Moments.{is_moment}
use Rattle.tracing_appender_rolling.specs.FilesByTries.{HandedInTurn}
use Rattle.tracing_appender_rolling.specs.Looks.{Held}
use Rattle.tracing_appender_rolling.specs.Names.{FileNames}
use Rattle.tracing_appender_rolling.specs.Sinks.{Handed}
use Rattle.tracing_appender_rolling.specs.declared.appender.RollingFileAppender.{RollingFileAppender}
use Rattle.tracing_appender_rolling.specs.folders.Contents.{Contents}
use Rattle.tracing_appender_queue.specs.declared.queued.queued_sink.QueuedSink.{QueuedSink}
use Rattle.tracing_appender_queue.specs.queued.ExactCounts.{DropsAreExact}
use Rattle.tracing_appender_queue.specs.queued.LineFates.{WaitingLines}
use Rattle.tracing_appender_queue.specs.queued.QueuedWork.{WorkGoesInTurn, handed_at}
use Rattle.tracing_appender_queue.specs.worker.Batches.{lines_in}
use Rattle.tracing_appender_queue.specs.worker.Steps.{LinesTo}
use Rattle.span_tracing_skeleton.specs.declared.call.Reply.{Reply}
use Rattle.span_tracing_skeleton.specs.declared.queue_call.QueueCall.TheVariants.{Admit, Shutdown, Work}
use Rattle.span_tracing_outputs.specs.sinks.AnySinks.{WorksIf}
use Rattle.span_tracing_outputs.specs.sinks.QueueFiles.{handed_all, handed_by, handed_if, waits_after, waits_all}
use Rattle.span_tracing_outputs.specs.sinks.SinkTurns.{Asked, Came, QueueMeets, QueueMeetsAll, SinkTurn}
use Rattle.span_tracing_laws.specs.isolation.FaultyFolders.{OpenedAndHanded, WaitedAndHanded}
use Rattle.span_tracing_laws.proofs.isolation.QueueTurns.{none_more, none_twice, turn_leaves}

-- lines that are handed over behind others
pub handed_then : (names : FileNames) (a b c : Held) (xs ys : List Handed) → HandedInTurn names a xs b → HandedInTurn names b ys c →
    HandedInTurn names a (xs ++ ys) c
handed_then names a b c [] ys first later = subst (λ (k : Held). HandedInTurn names k ys c) first later
handed_then names a b c (x ∷ xs) ys (next, answer, fed, over, rested, rests, rest) later =
    (next, answer, fed, over, rested, rests, handed_then names rested b c xs ys rest later)

module _ {D : Type 0} (contents : D → Option Contents) (failed : D → ℕ) (exact : DropsAreExact) (go : WorkGoesInTurn) (names : FileNames)
    (m : Moment) (c : Contents) (opened : Held) where
  abbrev Opened : List Handed → RollingFileAppender D → Type 0
  Opened lines a = OpenedAndHanded contents names m c opened lines a

  -- where nothing was written
  unwritten : (earlier : List Handed) (a b : RollingFileAppender D) → b ≡ a → Opened earlier a → Opened (earlier ++ []) b
  unwritten earlier a b same before =
      subst (λ (lines : List Handed). Opened lines b) (sym (append-nil earlier)) (subst (Opened earlier) (sym same) before)

  works_hand : (in_range : Bool) (k : ℕ) (at : Moment) (old : QueuedSink D) (reply : Reply) (new : QueuedSink D) →
      WorksIf contents failed in_range k at old reply new → new.waiting.missed ≡ old.waiting.missed → old.waiting.missed < 2 ^ 64 - 1 →
      (earlier : List Handed) → Opened earlier old.appender → Opened (earlier ++ handed_if in_range k at old.waiting) new.appender
  works_hand true k at old reply new (batch, goes, told) none few earlier before =
      let (fates, next, work, missed, holds) = goes.files before.now before.holds in
      let no = none_more old.waiting.missed batch.missed few (sym (ap (λ (w : WaitingLines). w.missed) goes.waiting) ∙ none) in
      let taken = lines_in k old.waiting.queue in
      let lines = subst (λ (its : FileNames). LinesTo its at before.now taken fates work.step.last) before.named work.step.lines in
      let turns = subst (HandedInTurn names before.now (handed_at at taken)) (sym work.step.sink_left)
      (go names at before.now work.step.last taken fates (sym missed ∙ no) lines) in
      record {
        named = goes.names ∙ before.named;
        opening = before.opening;
        now = next;
        handed = handed_then names opened before.now next earlier (handed_at at taken) before.handed turns;
        holds = holds;
      }
  works_hand false k at old reply new (told, is) none few earlier before =
      unwritten earlier old.appender new.appender (ap (λ (s : QueuedSink D). s.appender) is) before

  turn_hands : (t : SinkTurn) (old new : QueuedSink D) → QueueMeets contents failed t old new →
      new.waiting.missed ≡ old.waiting.missed → old.waiting.missed < 2 ^ 64 - 1 → (earlier : List Handed) → Opened earlier old.appender →
      Opened (earlier ++ handed_by t old.waiting) new.appender
  turn_hands (Came lines) old new goes none few earlier before = unwritten earlier old.appender new.appender goes.files before
  turn_hands (Asked (Work k at) reply) old new goes none few earlier before =
      works_hand (is_moment at) k at old reply new goes none few earlier before
  turn_hands (Asked Admit reply) old new goes none few earlier before = unwritten earlier old.appender new.appender goes.2 before
  turn_hands (Asked Shutdown reply) old new goes none few earlier before = unwritten earlier old.appender new.appender goes.2 before

  pub all_hand : (ts : List SinkTurn) (old new : QueuedSink D) → QueueMeetsAll contents failed ts old new →
      new.waiting.missed ≡ old.waiting.missed → old.waiting.missed < 2 ^ 64 - 1 → (earlier : List Handed) → Opened earlier old.appender →
      WaitedAndHanded contents names m c opened earlier ts old new
  all_hand [] old new same none few earlier before = record {
    waiting = ap (λ (s : QueuedSink D). s.waiting) same;
    handed = unwritten earlier old.appender new.appender (ap (λ (s : QueuedSink D). s.appender) same) before;
  }
  all_hand (t ∷ ts) old new (mid, first, rest) none few earlier before =
      let one = none_twice contents failed exact t ts old mid new first rest none few in
      let left = turn_leaves contents failed exact t old mid first one.first few in
      let its = handed_by t old.waiting in
      let later = all_hand ts mid new rest one.rest one.below (earlier ++ its) (turn_hands t old mid first one.first few earlier before) in
      record {
        waiting = later.waiting ∙ ap (waits_all ts) left;
        handed =
            subst (λ (lines : List Handed). Opened lines new.appender)
            (append_assoc earlier its (handed_all ts mid.waiting)
            ∙ ap (λ (w : WaitingLines). earlier ++ (its ++ handed_all ts w)) left) later.handed;
      }
