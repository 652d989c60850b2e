-- Counts of a queue through any lines and calls.
use Rattle.std.proofs.Common.{◌≡◌, ◌∙◌, ◌≤◌, ◌+◌, ◌-◌, ◌^◌, ℕ, zero, suc, Bool, true, false, if◌then◌else◌, List, [], ◌∷◌, ◌++◌, Option}
use Rattle.std.proofs.Common.{Some}
use Rattle.std.proofs.Common.{None, Result, Ok, Err, arith, refl, sym, ap, subst}
use Rattle.tracing_core_moments.specs.declared.moment.Moment.{Moment}
use Rattle.tracing_core_moments.specs.Moments.{is_moment}
use Rattle.tracing_appender_rolling.specs.folders.Contents.{Contents}
use Rattle.tracing_appender_queue.specs.Queue.{Queue, after_mark, after_take, closed, first_taken, mark_next, marked, takes_mark}
use Rattle.tracing_appender_queue.specs.declared.queued.fate.AdmitError.{AdmitError}
use Rattle.tracing_appender_queue.specs.declared.queued.fate.AdmitError.TheVariants as admit
use Rattle.tracing_appender_queue.specs.declared.queued.fate.Fate.{Fate}
use Rattle.tracing_appender_queue.specs.declared.queued.queued_sink.QueuedSink.{QueuedSink}
use Rattle.tracing_appender_queue.specs.declared.state.MarkError.{MarkError}
use Rattle.tracing_appender_queue.specs.declared.state.MarkError.TheVariants as mark
use Rattle.tracing_appender_queue.specs.queued.ExactCounts.{DropsAreExact}
use Rattle.tracing_appender_queue.specs.queued.HeldLines.{admitted_as, moved_first, without_first}
use Rattle.tracing_appender_queue.specs.queued.LineFates.{WaitingLines, dropped_in, lost_in, more}
use Rattle.tracing_appender_queue.specs.worker.Batches.{close_if, line_next, queue_after, queue_in}
use Rattle.span_tracing_skeleton.specs.declared.call.Reply.{Reply}
use Rattle.span_tracing_skeleton.specs.declared.queue_call.QueueCall.{QueueCall}
use Rattle.span_tracing_skeleton.specs.declared.queue_call.QueueCall.TheVariants.{Admit, Shutdown, Work}
use Rattle.span_tracing_outputs.specs.sinks.AnySinks.{CallsQueue, Shuts, WorksIf, bytes_in}
use Rattle.span_tracing_outputs.specs.sinks.SinkTurns.{Asked, Came, QueueMeetsAll, SinkTurn}
use Rattle.span_tracing_laws.specs.queue_steps.QueueCounts.{QueueCounts, QueuesCount}

dropped_both : (one two : List Fate) → dropped_in (one ++ two) ≡ dropped_in one + dropped_in two
dropped_both [] two = omega arith
dropped_both (f ∷ fs) two = let later = dropped_both fs two in omega (arith, later)

lost_both : (one two : List Fate) → lost_in (one ++ two) ≡ lost_in one + lost_in two
lost_both [] two = omega arith
lost_both (f ∷ fs) two = let later = lost_both fs two in omega (arith, later)

more_most : (x a : ℕ) → more x a ≤ 2 ^ 64 - 1
more_most x a = omega arith

more_none : (x : ℕ) → x ≤ 2 ^ 64 - 1 → more x 0 ≡ x
more_none x few = omega (arith, few)

more_both : (x a b : ℕ) → more (more x a) b ≡ more x (a + b)
more_both x a b = omega arith

-- a count that rose twice
rose_twice : (x mid y a b c : ℕ) → x ≤ 2 ^ 64 - 1 → mid ≡ more x a → (mid ≤ 2 ^ 64 - 1 → y ≡ more mid b) → c ≡ a + b → y ≡ more x c
rose_twice x mid y a b c few one two sum =
    two (subst (λ (k : ℕ). k ≤ 2 ^ 64 - 1) (sym one) (more_most x a)) ∙ ap (λ (k : ℕ). more k b) one ∙ more_both x a b ∙
    ap (more x) (sym sum)

-- a queue's kind, and what it dropped
abbrev kept : Queue → Bool × ℕ
kept q = (q.lossy, q.dropped)

either : (b : Bool) (x y q : Queue) → kept x ≡ kept q → kept y ≡ kept q → kept (if b then x else y) ≡ kept q
either true x y q one other = one
either false x y q one other = other

first_keeps : (q : Queue) (lines : List (List ℕ)) → kept (first_taken q lines) ≡ kept q
first_keeps q [] = refl
first_keeps q (line ∷ lines) = refl

take_keeps : (q : Queue) → kept (after_take q) ≡ kept q
take_keeps q = either (mark_next q) (closed q) (first_taken q q.queued) q refl (first_keeps q q.queued)

close_keeps : (q : Queue) → kept (close_if q) ≡ kept q
close_keeps q = either (mark_next q) (after_take q) q q (take_keeps q) refl

after_keeps : (rest : Queue → Queue) (q : Queue) (next : Option (List ℕ)) → ((r : Queue) → kept (rest r) ≡ kept r) →
    kept (queue_after rest q next) ≡ kept q
after_keeps rest q None keeps = close_keeps q
after_keeps rest q (Some line) keeps = keeps (after_take q) ∙ take_keeps q

work_keeps : (k : ℕ) (q : Queue) → kept (queue_in k q) ≡ kept q
work_keeps zero q = close_keeps q
work_keeps (suc k) q = after_keeps (queue_in k) q (line_next q) (work_keeps k)

mark_keeps : (q : Queue) → kept (after_mark q) ≡ kept q
mark_keeps q = either (takes_mark q) (marked q) q q refl refl

-- what a call leaves as it was
record Same (w new : WaitingLines) : Type 0 where
  pub kept_is : kept new.queue ≡ kept w.queue
  pub lost : new.lost ≡ w.lost
  pub none : w.held ≡ [] → new.held ≡ []

still : (w : WaitingLines) → Same w w
still w = record { kept_is = refl; lost = refl; none = λ is. is }

moved_same : (w : WaitingLines) (held : List (List ℕ)) → w.held ≡ held → Same w (moved_first w held)
moved_same w [] is = still w
moved_same w (line ∷ lines) is = record {
  kept_is = refl;
  lost = refl;
  none = λ empty. absurd (let odd : line ∷ lines ≡ [] = sym is ∙ empty in cc);
}

given_same : (w : WaitingLines) (held : List (List ℕ)) → w.held ≡ held → Same w (without_first w held)
given_same w [] is = still w
given_same w (line ∷ lines) is = record {
  kept_is = refl;
  lost = refl;
  none = λ empty. absurd (let odd : line ∷ lines ≡ [] = sym is ∙ empty in cc);
}

admitted_same : (result : Result (Unit {0}) AdmitError) (w : WaitingLines) → Same w (admitted_as result w)
admitted_same (Ok done) w = moved_same w w.held refl
admitted_same (Err admit.NothingHeld) w = still w
admitted_same (Err admit.Closed) w = given_same w w.held refl
admitted_same (Err admit.NoRoom) w = still w
admitted_same (Err admit.OutOfMemory) w = still w

module _ {D : Type 0} (contents : D → Option Contents) (failed : D → ℕ) (exact : DropsAreExact) where
  works_same : (b : Bool) (k : ℕ) (m : Moment) (old : QueuedSink D) (reply : Reply) (new : QueuedSink D) →
      WorksIf contents failed b k m old reply new → Same old.waiting new.waiting
  works_same true k m old reply new (batched, works, told) =
      subst (Same old.waiting) (sym works.waiting)
      (record { kept_is = work_keeps k old.waiting.queue; lost = refl; none = λ empty. empty })
  works_same false k m old reply new (told, is) =
      subst (λ (s : QueuedSink D). Same old.waiting s.waiting) (sym is) (still old.waiting)

  shut_same : (result : Result (Unit {0}) MarkError) (old new : QueuedSink D) → Shuts old result new → Same old.waiting new.waiting
  shut_same (Ok done) old new shuts =
      subst (Same old.waiting) (sym shuts.0)
      (record { kept_is = mark_keeps old.waiting.queue; lost = refl; none = λ empty. empty })
  shut_same (Err mark.MarkSent) old new shuts = subst (Same old.waiting) (sym shuts.0) (still old.waiting)
  shut_same (Err mark.NoRoom) old new shuts = subst (Same old.waiting) (sym shuts.0) (still old.waiting)

  call_same : (call : QueueCall) (old : QueuedSink D) (reply : Reply) (new : QueuedSink D) → CallsQueue contents failed call old reply new →
      Same old.waiting new.waiting
  call_same (Work k m) old reply new goes = works_same (is_moment m) k m old reply new goes
  call_same Admit old reply new (result, admits, files, told) =
      subst (Same old.waiting) (sym admits.left) (admitted_same result old.waiting)
  call_same Shutdown old reply new (result, shuts, files, told) = shut_same result old new shuts

  counts : (ts : List SinkTurn) (old new : QueuedSink D) → QueueMeetsAll contents failed ts old new → QueueCounts contents failed ts old new
  counts [] old new is = record {
    fates = [];
    told = (refl, is);
    lossy = ap (λ (s : QueuedSink D). s.waiting.queue.lossy) is;
    dropped = λ few. ap (λ (s : QueuedSink D). s.waiting.queue.dropped) is ∙ sym (more_none old.waiting.queue.dropped few);
    lost = λ few. ap (λ (s : QueuedSink D). s.waiting.lost) is ∙ sym (more_none old.waiting.lost few);
    waiting = λ waits. refl;
    none_held = λ drops empty. (ap (λ (s : QueuedSink D). s.waiting.held) is ∙ empty, refl);
  }
  counts (Came lines ∷ ts) old new (mid, first, rest) =
      let one = exact old.waiting mid.waiting (bytes_in lines) first.fates first.settled in
      let later = counts ts mid new rest in
      record {
        fates = first.fates ++ later.fates;
        told = (mid, first.fates, later.fates, refl, first.settled, first.files, later.told);
        lossy = later.lossy ∙ one.lossy;
        dropped = λ few. rose_twice old.waiting.queue.dropped mid.waiting.queue.dropped new.waiting.queue.dropped (dropped_in first.fates)
            (dropped_in later.fates) (dropped_in (first.fates ++ later.fates)) few (one.dropped few) later.dropped
            (dropped_both first.fates later.fates);
        lost = λ few. rose_twice old.waiting.lost mid.waiting.lost new.waiting.lost (lost_in first.fates) (lost_in later.fates)
            (lost_in (first.fates ++ later.fates)) few (one.lost few) later.lost (lost_both first.fates later.fates);
        waiting = λ waits.
            let a : dropped_in first.fates ≡ 0 = one.waiting waits in
            let b : dropped_in later.fates ≡ 0 = later.waiting (one.lossy ∙ waits) in
            dropped_both first.fates later.fates ∙ omega (arith, a, b);
        none_held = λ drops empty.
            let a = one.none_held drops empty in
            let b = later.none_held (one.lossy ∙ drops) a.0 in
            let none : lost_in first.fates ≡ 0 = a.1 in
            let more_none_lost : lost_in later.fates ≡ 0 = b.1 in
            (b.0, lost_both first.fates later.fates ∙ omega (arith, none, more_none_lost));
      }
  counts (Asked call reply ∷ ts) old new (mid, first, rest) =
      let same = call_same call old reply mid first in
      let lossy : mid.waiting.queue.lossy ≡ old.waiting.queue.lossy = ap (λ (p : Bool × ℕ). p.0) same.kept_is in
      let dropped : mid.waiting.queue.dropped ≡ old.waiting.queue.dropped = ap (λ (p : Bool × ℕ). p.1) same.kept_is in
      let later = counts ts mid new rest in
      record {
        fates = later.fates;
        told = (mid, first, later.told);
        lossy = later.lossy ∙ lossy;
        dropped = λ few. later.dropped (subst (λ (k : ℕ). k ≤ 2 ^ 64 - 1) (sym dropped) few) ∙
            ap (λ (k : ℕ). more k (dropped_in later.fates)) dropped;
        lost = λ few. later.lost (subst (λ (k : ℕ). k ≤ 2 ^ 64 - 1) (sym same.lost) few) ∙
            ap (λ (k : ℕ). more k (lost_in later.fates)) same.lost;
        waiting = λ waits. later.waiting (lossy ∙ waits);
        none_held = λ drops empty. later.none_held (lossy ∙ drops) (same.none empty);
      }

  pub queues_count : QueuesCount contents failed
  queues_count = record { each = counts }
