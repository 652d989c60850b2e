-- Queues that are alike stay so while the same lines and calls come to them.
use Rattle.std.proofs.Common.{◌≡◌, ◌∙◌, ◌<◌, ◌-◌, ◌^◌, ℕ, Bool, true, false, List, [], ◌∷◌, Option, sym, ap, subst}
use Rattle.tracing_core_moments.specs.declared.at.At.{At}
use Rattle.tracing_core_moments.specs.declared.moment.Moment.{Moment}
use Rattle.tracing_core_moments.specs.Moments.{is_moment}
use Rattle.tracing_appender_rolling.specs.Appenders.{Holds}
use Rattle.tracing_appender_rolling.specs.Builders.{builder_names}
use Rattle.tracing_appender_rolling.specs.Names.{FileNames}
use Rattle.tracing_appender_rolling.specs.declared.appender.RollingFileAppender.{RollingFileAppender}
use Rattle.tracing_appender_rolling.specs.folders.Contents.{Contents}
use Rattle.tracing_appender_queue.specs.declared.queued.fate.Fate.{Fate}
use Rattle.tracing_appender_queue.specs.declared.queued.queued_sink.QueuedSink.{QueuedSink}
use Rattle.tracing_appender_queue.specs.declared.worker.step.Written.{Written}
use Rattle.tracing_appender_queue.specs.queued.ExactCounts.{DropsAreExact}
use Rattle.tracing_appender_queue.specs.queued.LineFates.{SettlesAll, WaitingLines}
use Rattle.tracing_appender_queue.specs.worker.Batches.{lines_in}
use Rattle.tracing_appender_queue.specs.worker.Steps.{LinesTo, StepsHaveOneEnd, flushed_if, last_whole}
use Rattle.span_tracing_skeleton.specs.declared.call.Reply.{Reply}
use Rattle.span_tracing_skeleton.specs.declared.queue_call.QueueCall.TheVariants.{Admit, Shutdown, Work}
use Rattle.span_tracing_outputs.specs.OutputMachines.{PlainLine}
use Rattle.span_tracing_outputs.specs.sinks.AnySinks.{WorksIf}
use Rattle.span_tracing_outputs.specs.sinks.QueueFiles.{waits_after}
use Rattle.span_tracing_outputs.specs.sinks.SinkTurns.{Asked, Came, QueueMeets, QueueMeetsAll, SinkTurn}
use Rattle.span_tracing_laws.specs.isolation.IsolatedOutputs.{AppendersAlike, QueuesAlike}
use Rattle.span_tracing_laws.specs.isolation.OutputTurns.{came_some, comings}
use Rattle.span_tracing_laws.proofs.isolation.QueueTurns.{none_more, none_twice, turn_leaves}

module _ {D : Type 0} (contents : D → Option Contents) (failed : D → ℕ) (exact : DropsAreExact) (one_end : StepsHaveOneEnd) where
  -- where nothing was written
  unwritten : (a b x y : RollingFileAppender D) → x ≡ a → y ≡ b → AppendersAlike contents a b → AppendersAlike contents x y
  unwritten a b x y first second alike =
      subst (λ (z : RollingFileAppender D). AppendersAlike contents z y) (sym first)
      (subst (AppendersAlike contents a) (sym second) alike)

  works_alike : (b : Bool) (k : ℕ) (m : Moment) (old : QueuedSink D) (reply : Reply) (new its : QueuedSink D) (answer : Reply)
      (same : QueuedSink D) → WorksIf contents failed b k m old reply new → WorksIf contents failed b k m its answer same →
      new.waiting.missed ≡ old.waiting.missed → old.waiting.missed < 2 ^ 64 - 1 → same.waiting.missed ≡ its.waiting.missed →
      its.waiting.missed < 2 ^ 64 - 1 → QueuesAlike contents old its → AppendersAlike contents new.appender same.appender
  works_alike true k m old reply new its answer same (batch, goes, told) (batched, also, also_told) none few nor low alike =
      let (fates, next, work, missed, holds) = goes.files alike.files.held alike.files.one in
      let (fates_also, next_also, work_also, missed_also, holds_also) = also.files alike.files.held alike.files.other in
      let no = none_more old.waiting.missed batch.missed few (sym (ap (λ (w : WaitingLines). w.missed) goes.waiting) ∙ none) in
      let none_also = none_more its.waiting.missed batched.missed low (sym (ap (λ (w : WaitingLines). w.missed) also.waiting) ∙ nor) in
      let names = builder_names old.appender.builder in
      let lines = subst (λ (ls : List (List ℕ)). LinesTo names m alike.files.held ls fates_also work_also.step.last)
      (ap (λ (w : WaitingLines). lines_in k w.queue) alike.waiting)
      (subst (λ (n : FileNames). LinesTo n m alike.files.held (lines_in k its.waiting.queue) fates_also work_also.step.last)
      alike.files.names work_also.step.lines) in
      let ends = one_end names m alike.files.held work.step.last work_also.step.last (lines_in k old.waiting.queue) fates fates_also
      (sym missed ∙ no) (sym missed_also ∙ none_also) work.step.lines lines in
      let same_next : next_also ≡ next =
      work_also.step.sink_left
      ∙ ap (λ (fs : List Written). flushed_if (last_whole false fs) work_also.step.last) (sym ends.0)
      ∙ ap (flushed_if (last_whole false fates)) (sym ends.1)
      ∙ sym work.step.sink_left in
      record {
        names = also.names ∙ alike.files.names ∙ sym goes.names;
        held = next;
        one = holds;
        other = subst (Holds contents same.appender) same_next holds_also;
      }
  works_alike false k m old reply new its answer same (told, is) (also_told, also) none few nor low alike =
      unwritten old.appender its.appender new.appender same.appender (ap (λ (s : QueuedSink D). s.appender) is)
      (ap (λ (s : QueuedSink D). s.appender) also) alike.files

  turn_files : (t : SinkTurn) (old new its same : QueuedSink D) → QueueMeets contents failed t old new →
      QueueMeets contents failed t its same → new.waiting.missed ≡ old.waiting.missed → old.waiting.missed < 2 ^ 64 - 1 →
      same.waiting.missed ≡ its.waiting.missed → its.waiting.missed < 2 ^ 64 - 1 → QueuesAlike contents old its →
      AppendersAlike contents new.appender same.appender
  turn_files (Came lines) old new its same goes also none few nor low alike =
      unwritten old.appender its.appender new.appender same.appender goes.files also.files alike.files
  turn_files (Asked (Work k m) reply) old new its same goes also none few nor low alike =
      works_alike (is_moment m) k m old reply new its reply same goes also none few nor low alike
  turn_files (Asked Admit reply) old new its same goes also none few nor low alike =
      unwritten old.appender its.appender new.appender same.appender goes.2 also.2 alike.files
  turn_files (Asked Shutdown reply) old new its same goes also none few nor low alike =
      unwritten old.appender its.appender new.appender same.appender goes.2 also.2 alike.files

  pub queues_alike : (ts : List SinkTurn) (old new its same : QueuedSink D) → QueueMeetsAll contents failed ts old new →
      QueueMeetsAll contents failed ts its same → new.waiting.missed ≡ old.waiting.missed → old.waiting.missed < 2 ^ 64 - 1 →
      same.waiting.missed ≡ its.waiting.missed → its.waiting.missed < 2 ^ 64 - 1 → QueuesAlike contents old its →
      QueuesAlike contents new same
  queues_alike [] old new its same goes also none few nor low alike =
      subst (λ (z : QueuedSink D). QueuesAlike contents z same) (sym goes) (subst (QueuesAlike contents old) (sym also) alike)
  queues_alike (t ∷ ts) old new its same (mid, first, rest) (middle, its_first, its_rest) none few nor low alike =
      let one = none_twice contents failed exact t ts old mid new first rest none few in
      let two = none_twice contents failed exact t ts its middle same its_first its_rest nor low in
      let next : QueuesAlike contents mid middle = record {
        waiting = turn_leaves contents failed exact t its middle its_first two.first low
            ∙ ap (waits_after t) alike.waiting
            ∙ sym (turn_leaves contents failed exact t old mid first one.first few);
        files = turn_files t old mid its middle first its_first one.first few two.first low alike;
      } in
      queues_alike ts mid new middle same rest its_rest one.rest one.below two.rest two.below next

  -- turns in which no line comes leave the sink as it is
  still : (fates : List Fate) (old mid : QueuedSink D) → SettlesAll old.waiting [] fates mid.waiting → mid.appender ≡ old.appender →
      mid ≡ old
  still [] old mid settled files =
      ap (λ (w : WaitingLines). record mid { waiting = w }) settled
      ∙ ap (λ (a : RollingFileAppender D). record mid { waiting = old.waiting; appender = a }) files
  still (f ∷ fs) old mid settled files = absurd settled

  some_met : (lines : List (At × PlainLine)) (ts : List SinkTurn) (old mid new : QueuedSink D) →
      QueueMeets contents failed (Came lines) old mid → QueueMeetsAll contents failed ts mid new →
      QueueMeetsAll contents failed (came_some lines ts) old new
  some_met [] ts old mid new first rest =
      subst (λ (s : QueuedSink D). QueueMeetsAll contents failed ts s new) (still first.fates old mid first.settled first.files) rest
  some_met (line ∷ lines) ts old mid new first rest = (mid, first, rest)

  pub comings_met : (ts : List SinkTurn) (old new : QueuedSink D) → QueueMeetsAll contents failed ts old new →
      QueueMeetsAll contents failed (comings ts) old new
  comings_met [] old new same = same
  comings_met (Came lines ∷ ts) old new (mid, first, rest) =
      some_met lines (comings ts) old mid new first (comings_met ts mid new rest)
  comings_met (Asked call reply ∷ ts) old new (mid, first, rest) = (mid, first, comings_met ts mid new rest)
