-- What a step of a worker leaves of the sink and its files.
use Rattle.std.proofs.Common.{◌≡◌, ◌∙◌, refl, sym, ap, subst, ℕ, Bool, true, false, List, [], ◌∷◌, ◌++◌, length, Option, Some, append_assoc}
use Rattle.std.proofs.lemmas.List.{append-nil}
use Rattle.tracing_appender_rolling.specs.declared.appender.RollingFileAppender.{RollingFileAppender}
use Rattle.tracing_core_moments.specs.declared.moment.Moment.{Moment}
use Rattle.tracing_appender_rolling.specs.Names.{FileNames}
use Rattle.tracing_appender_rolling.specs.Builders.{builder_names}
use Rattle.tracing_appender_rolling.specs.folders.Contents.{Contents}
use Rattle.tracing_appender_rolling.specs.Looks.{Held}
use Rattle.tracing_appender_rolling.specs.Appenders.{Holds}
use Rattle.tracing_appender_rolling.specs.Sinks.{Handed, PlainSink, with_handed, period_in, period_name}
use Rattle.tracing_appender_rolling.specs.PrunedSinks.{PrunedSink, AgreesSink, KeptIn, MatchesSink, pruned_at}
use Rattle.tracing_appender_rolling.proofs.FaultlessSwitch.{files_by_period}
use Rattle.tracing_appender_queue.specs.declared.worker.step.Written.{Written}
use Rattle.tracing_appender_queue.specs.worker.Batches.{lines_in}
use Rattle.tracing_appender_queue.specs.worker.Steps.{missed_in, last_whole, flushed_if, HandsAll, HoldsFlushed, LinesSink, with_lines}
use Rattle.tracing_appender_queue.specs.worker.Steps.{with_left}
use Rattle.tracing_appender_queue.specs.queued.LineFates.{WaitingLines, more}
use Rattle.tracing_appender_queue.specs.queued.HeldLines.{worked}
use Rattle.tracing_appender_queue.specs.queued.QueuedWork.{WorkTo, LinesLeft, LinesStand, handed_at}

lines_names : (s : PlainSink) (lines : List (List ℕ)) (m : Moment) → (with_lines s lines m).names ≡ s.names
lines_names s [] m = refl
lines_names s (l ∷ ls) m = lines_names (with_handed s (record { line = l; moment = m })) ls m

lines_opened : (s : PlainSink) (lines : List (List ℕ)) (m : Moment) → (with_lines s lines m).opened ≡ s.opened
lines_opened s [] m = refl
lines_opened s (l ∷ ls) m = lines_opened (with_handed s (record { line = l; moment = m })) ls m

lines_handed : (s : PlainSink) (lines : List (List ℕ)) (m : Moment) → (with_lines s lines m).handed ≡ s.handed ++ handed_at m lines
lines_handed s [] m = sym (append-nil s.handed)
lines_handed s (l ∷ ls) m =
    let h : Handed = record { line = l; moment = m } in
    lines_handed (with_handed s h) ls m ∙ append_assoc s.handed (h ∷ []) (handed_at m ls)

module _ {D : Type 0} (contents : D → Option Contents) where
  flushed_holds : (whole : Bool) (h : Held) (a : RollingFileAppender D) → HoldsFlushed contents whole h a →
      Holds contents a (flushed_if whole h)
  flushed_holds true h a holds = holds
  flushed_holds false h a holds = holds

  pub works_from : (names : FileNames) (m : Moment) (k : ℕ) (h : Held) (old new : WaitingLines) (taken missed : ℕ)
      (a : RollingFileAppender D) → new ≡ worked k missed old → taken ≡ length (lines_in k old.queue) →
      HandsAll contents names m h (lines_in k old.queue) missed a →
      (fates : List Written) × (next : Held) × WorkTo names m k (record { waiting = old; files = h }) taken fates
      (record { waiting = new; files = next }) × (missed ≡ missed_in fates) × Holds contents a next
  works_from names m k h old new taken missed a left count (fates, last, lines, misses, flushed) = (
    fates,
    flushed_if (last_whole false fates) last,
    record {
      step = record { last = last; lines = lines; count = count; queue_left = ap (λ (w : WaitingLines). w.queue) left; sink_left = refl };
      held = ap (λ (w : WaitingLines). w.held) left;
      lost = ap (λ (w : WaitingLines). w.lost) left;
      missed = ap (λ (w : WaitingLines). w.missed) left ∙ ap (more old.missed) misses;
    },
    misses,
    flushed_holds (last_whole false fates) last a flushed,
  )

  stand : (q : PrunedSink) (b : RollingFileAppender D) → AgreesSink contents b q → (d : Contents) → contents b.folder ≡ Some d →
      LinesStand q d
  stand q b agrees d is =
      let all : MatchesSink d (builder_names b.builder) b.boundary b.current q =
      subst (λ (o : Option Contents). KeptIn o (builder_names b.builder) b.boundary b.current q) is agrees in
      record {
        files = all.files;
        periods = λ m is_m stands. all.files (period_name q.sink (period_in q.sink m)) ∙
            files_by_period q m is_m all.opened_moment all.handed_moments stands;
      }

  pub lines_left : (lines : List (List ℕ)) (m : Moment) (c : Contents) (p : PrunedSink) (a b : RollingFileAppender D) →
      LinesSink contents p lines m c a b → LinesLeft contents lines m c p a b
  lines_left [] m c p a b (agrees, counts) = record {
    last = p;
    last_is = refl;
    agrees = agrees;
    names = refl;
    opened = refl;
    handed = sym (append-nil p.sink.handed);
    counts = counts;
    stand = stand p b agrees;
  }
  lines_left (l ∷ ls) m c p a b (agrees, counts, opens) =
      let q = pruned_at p m c in
      record {
        last = with_left q (l ∷ ls) m;
        last_is = refl;
        agrees = agrees;
        names = lines_names q.sink (l ∷ ls) m;
        opened = lines_opened q.sink (l ∷ ls) m;
        handed = lines_handed q.sink (l ∷ ls) m;
        counts = counts;
        stand = stand (with_left q (l ∷ ls) m) b agrees;
      }
