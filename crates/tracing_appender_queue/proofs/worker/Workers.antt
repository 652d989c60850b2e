-- Steps of workers, cut in parts and in another order.
use Rattle.std.proofs.Common.{◌≡◌, ◌≢◌, ◌==◌, ℕ, suc, ◌+◌, Bool, true, false, cond, List, [], ◌∷◌, ◌++◌, length, refl, ap, subst, sym, ◌∙◌}
use Rattle.std.proofs.Common.{arith}
use Rattle.std.proofs.lemmas.Bool.{eq-eqb, eqb-true, ne_eqb, false≢true}
use Rattle.std.proofs.lemmas.List.{length-append, append-nil}
use Rattle.tracing_core_moments.specs.declared.moment.Moment.{Moment}
use Rattle.tracing_appender_rolling.specs.Names.{FileNames}
use Rattle.tracing_appender_rolling.specs.folders.Contents.{IsSound}
use Rattle.tracing_appender_rolling.specs.Looks.{Held}
use Rattle.tracing_appender_rolling.proofs.FaultlessFolder.{flush_still}
use Rattle.tracing_appender_rolling.proofs.NoFileLost.{line_sound}
use Rattle.tracing_appender_queue.specs.Queue.{Queue}
use Rattle.tracing_appender_queue.specs.declared.worker.step.Written.{Written}
use Rattle.tracing_appender_queue.specs.worker.Batches.{lines_in, queue_in}
use Rattle.tracing_appender_queue.specs.worker.Steps.{is_missed, missed_in, last_whole, LineTo, LinesTo, flushed_if, AllWhole}
use Rattle.tracing_appender_queue.specs.worker.Workers.{Worker, StepTo, StepsTo, total, StepsMayBeCut, StepsMayChangePlaces}
use Rattle.tracing_appender_queue.proofs.worker.CutSteps.{cut}
use Rattle.tracing_appender_queue.proofs.worker.FolderAfterSteps.{folders_cut}
use Rattle.tracing_appender_queue.proofs.worker.StepDeterminism.{steps_once}

-- folders that refuse nothing
lines_sound : (names : FileNames) (m : Moment) (h last : Held) (lines : List (List ℕ)) (fates : List Written) → IsSound h.contents →
    AllWhole fates → LinesTo names m h lines fates last → IsSound last.contents
lines_sound names m h last [] [] sound whole so = subst (λ (x : Held). IsSound x.contents) (sym so) sound
lines_sound names m h last [] (f ∷ fs) sound whole so = absurd so
lines_sound names m h last (l ∷ ls) [] sound whole so = absurd so
lines_sound names m h last (l ∷ ls) (f ∷ fs) sound (is, whole) (next, first, rest) =
    lines_sound names m next last ls fs (line_sound names m h l next.boundary next.current next.faults next.contents sound
    (subst (λ (x : Written). LineTo names m h l x next) is first)) whole rest

flushed_sound : (h : Held) (whole : Bool) → IsSound h.contents → IsSound (flushed_if whole h).contents
flushed_sound h true sound = λ n. (flush_still h.contents h.current).next n ∙ sound (suc n)
flushed_sound h false sound = sound

-- fates of two parts
whole_first : (one two : List Written) → AllWhole (one ++ two) → AllWhole one
whole_first [] two whole = tt
whole_first (f ∷ fs) two (is, whole) = (is, whole_first fs two whole)

whole_second : (one two : List Written) → AllWhole (one ++ two) → AllWhole two
whole_second [] two whole = whole
whole_second (f ∷ fs) two (is, whole) = whole_second fs two whole

none_missed : (fates : List Written) → AllWhole fates → missed_in fates ≡ 0
none_missed [] whole = refl
none_missed (f ∷ fs) (is, whole) = ap (λ b. cond b (suc (missed_in fs)) (missed_in fs)) (ap is_missed is) ∙ none_missed fs whole

-- two steps are one
both : (names : FileNames) (m : Moment) (j k : ℕ) (w middle last : Worker) (a b : ℕ) (one two : List Written) → IsSound w.sink.contents →
    AllWhole one → AllWhole two →
    StepTo names m j w a one middle → StepTo names m k middle b two last → StepTo names m (j + k) w (a + b) (one ++ two) last
both names m j k w middle last a b one two sound whole_one whole_two s t =
    let q = w.queue in
    let cuts = cut j k q in
    let on_queue : LinesTo names m middle.sink (lines_in k (queue_in j q)) two t.last =
    subst (λ (r : Queue). LinesTo names m middle.sink (lines_in k r) two t.last) s.queue_left t.lines in
    let next : LinesTo names m (flushed_if (last_whole false one) s.last) (lines_in k (queue_in j q)) two t.last =
    subst (λ (x : Held). LinesTo names m x (lines_in k (queue_in j q)) two t.last) s.sink_left on_queue in
    let c = folders_cut names m w.sink s.last t.last (lines_in j q) (lines_in k (queue_in j q)) one two
    (lines_sound names m w.sink s.last (lines_in j q) one sound whole_one s.lines) whole_two s.lines next in
    record {
      last = c.0;
      lines = subst (λ (ls : List (List ℕ)). LinesTo names m w.sink ls (one ++ two) c.0) (sym cuts.0) c.1;
      count =
          ap (λ n. n + b) s.count
          ∙ ap (λ n. length (lines_in j q) + n) (t.count ∙ ap (λ (r : Queue). length (lines_in k r)) s.queue_left)
          ∙ sym (length-append (lines_in j q) (lines_in k (queue_in j q)))
          ∙ ap length (sym cuts.0);
      queue_left = t.queue_left ∙ ap (queue_in k) s.queue_left ∙ sym cuts.1;
      sink_left = t.sink_left ∙ sym c.2;
    }

module _ (names : FileNames) (m : Moment) where
  alone : (k : ℕ) (w middle last : Worker) (taken first rest : ℕ) (fates one more : List Written) → StepTo names m k w first one middle →
      rest ≡ 0 → more ≡ [] → last ≡ middle → taken ≡ first + rest → fates ≡ one ++ more → StepTo names m (k + 0) w taken fates last
  alone k w middle last taken first rest fates one more step none empty same count are =
      let size : k ≡ k + 0 = omega arith in
      let number : first ≡ taken = omega (arith, none, count) in
      let all : one ≡ fates = sym (append-nil one) ∙ ap (λ (xs : List Written). one ++ xs) (sym empty) ∙ sym are in
      subst (λ n. StepTo names m n w taken fates last) size
      (subst (λ n. StepTo names m k w n fates last) number
      (subst (λ (xs : List Written). StepTo names m k w first xs last) all
      (subst (λ (x : Worker). StepTo names m k w first one x) (sym same) step)))

  as_one : (k : ℕ) (ks : List ℕ) (w last : Worker) (taken : ℕ) (fates : List Written) → IsSound w.sink.contents → AllWhole fates →
      StepsTo names m (k ∷ ks) w taken fates last → StepTo names m (total (k ∷ ks)) w taken fates last
  as_one k [] w last taken fates sound whole (middle, first, rest, one, more, step, (none, empty, same), count, are) =
      alone k w middle last taken first rest fates one more step none empty same count are
  as_one k (j ∷ js) w last taken fates sound whole (middle, first, rest, one, more, step, later, count, are) =
      let split = subst AllWhole are whole in
      let whole_one = whole_first one more split in
      let whole_more = whole_second one more split in
      let behind = flushed_sound step.last (last_whole false one)
      (lines_sound names m w.sink step.last (lines_in k w.queue) one sound whole_one step.lines) in
      let tail = as_one j js middle last rest more (subst (λ (x : Held). IsSound x.contents) (sym step.sink_left) behind) whole_more
      later in
      subst (λ n. StepTo names m (k + total (j ∷ js)) w n fates last) (sym count)
      (subst (λ (xs : List Written). StepTo names m (k + total (j ∷ js)) w (first + rest) xs last) (sym are)
      (both names m k (total (j ∷ js)) w middle last first rest one more sound whole_one whole_more step tail))

worker_same : (a b : Worker) → a.queue ≡ b.queue → a.sink ≡ b.sink → a ≡ b
worker_same a b queues sinks = λ i. record { queue = queues i; sink = sinks i }

pub steps_cut : StepsMayBeCut
steps_cut names m k ks w last taken fates sound whole steps =
    let one = as_one names m k ks w last taken fates sound whole steps in (
      one,
      λ other number others fed step.
          let ends = steps_once names m w.sink one.last step.last (lines_in (total (k ∷ ks)) w.queue) fates others (none_missed fates whole)
          fed one.lines step.lines in (
            worker_same other last (step.queue_left ∙ sym one.queue_left)
                (step.sink_left ∙ ap (λ (xs : List Written). flushed_if (last_whole false xs) step.last) (sym ends.0) ∙
                ap (flushed_if (last_whole false fates)) (sym ends.1) ∙ sym one.sink_left),
            step.count ∙ sym one.count,
          ),
    )

-- workers by number, and the same ones but for one
abbrev with_worker : (ℕ → Worker) → ℕ → Worker → ℕ → Worker
with_worker ws number w k = cond (k == number) w (ws k)

placed : (ws : ℕ → Worker) (number : ℕ) (w : Worker) → with_worker ws number w number ≡ w
placed ws number w = ap (λ b. cond b w (ws number)) (eq-eqb number number refl)

apart : (k number : ℕ) → k ≢ number → (k == number) ≡ false
apart k number differs = ne_eqb k number differs

elsewhere : (ws : ℕ → Worker) (number k : ℕ) (w : Worker) → k ≢ number → with_worker ws number w k ≡ ws k
elsewhere ws number k w differs = ap (λ b. cond b w (ws k)) (apart k number differs)

pub steps_swapped : StepsMayChangePlaces
steps_swapped names one other m n k l ws middle last a b fates others differ first second = (
  with_worker ws other (last other),
  record {
    step =
        subst (λ (x : Worker). StepTo (names other) n l x b others (with_worker ws other (last other) other))
        (first.others_stay other (λ e. differ (sym e)))
        (subst (λ (x : Worker). StepTo (names other) n l (middle other) b others x) (sym (placed ws other (last other))) second.step);
    others_stay = λ j differs. elsewhere ws other j (last other) differs;
  },
  record {
    step =
        subst (λ (x : Worker). StepTo (names one) m k x a fates (last one)) (sym (elsewhere ws other one (last other) differ))
        (subst (λ (x : Worker). StepTo (names one) m k (ws one) a fates x) (sym (second.others_stay one differ)) first.step);
    others_stay = λ j differs. by_case j differs (j == other) refl;
  },
)
  where
    by_case : (j : ℕ) → j ≢ one → (is : Bool) → (j == other) ≡ is → last j ≡ cond (j == other) (last other) (ws j)
    by_case j differs true is = ap last (eqb-true j other is) ∙ sym (ap (λ c. cond c (last other) (ws j)) is)
    by_case j differs false is =
        second.others_stay j (λ same. false≢true (sym is ∙ eq-eqb j other same)) ∙ first.others_stay j differs ∙
        sym (ap (λ c. cond c (last other) (ws j)) is)
