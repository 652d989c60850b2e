-- Steps of workers over queued sinks, cut in parts and in another order.
use Rattle.std.proofs.Common.{◌≡◌, ◌≢◌, ◌==◌, ◌∙◌, refl, sym, ap, subst, ℕ, suc, ◌+◌, Bool, true, false, cond, List, [], ◌∷◌, ◌++◌, arith}
use Rattle.std.proofs.lemmas.Bool.{eq-eqb, eqb-true, ne_eqb, false≢true}
use Rattle.tracing_core_moments.specs.declared.moment.Moment.{Moment}
use Rattle.tracing_appender_rolling.specs.Names.{FileNames}
use Rattle.tracing_appender_queue.specs.declared.worker.step.Written.{Written}
use Rattle.tracing_appender_queue.specs.declared.worker.step.Written.TheVariants.{Whole, Failed, Missed}
use Rattle.tracing_appender_queue.specs.worker.Steps.{missed_in, is_missed, AllWhole}
use Rattle.tracing_appender_queue.specs.worker.Workers.{Worker, StepsTo}
use Rattle.tracing_appender_queue.proofs.worker.Workers.{steps_cut}
use Rattle.tracing_appender_queue.specs.queued.LineFates.{more}
use Rattle.tracing_appender_queue.specs.queued.QueuedWork.{QueuedFiles, WorkTo, WorksTo, WorkMayBeCut, WorkMayChangePlaces, worker_of}
use Rattle.tracing_appender_queue.proofs.queued.ExactCounts.{more_more}

missed_append : (one two : List Written) → missed_in (one ++ two) ≡ missed_in one + missed_in two
missed_append [] two = omega arith
missed_append (Whole ∷ fs) two = missed_append fs two
missed_append (Failed fault ∷ fs) two = missed_append fs two
missed_append (Missed ∷ fs) two = omega (arith, missed_append fs two)

none_missed : (fates : List Written) → AllWhole fates → missed_in fates ≡ 0
none_missed [] whole = refl
none_missed (f ∷ fs) (is, whole) = ap (λ b. cond b (suc (missed_in fs)) (missed_in fs)) (ap is_missed is) ∙ none_missed fs whole

same_files : (a b : QueuedFiles) → a.waiting.queue ≡ b.waiting.queue → a.waiting.held ≡ b.waiting.held → a.waiting.lost ≡ b.waiting.lost →
    a.waiting.missed ≡ b.waiting.missed → a.files ≡ b.files → a ≡ b
same_files a b queues helds losts misses files = λ i. record {
  waiting =
      record { queue = queues i; held = helds i; lost = losts i; missed = misses i };
  files = files i;
}

module _ (names : FileNames) (m : Moment) where
  all_held : (ks : List ℕ) (s last : QueuedFiles) (taken : ℕ) (fates : List Written) → WorksTo names m ks s taken fates last →
      last.waiting.held ≡ s.waiting.held
  all_held [] s last taken fates (none, empty, same) = ap (λ (x : QueuedFiles). x.waiting.held) same
  all_held (k ∷ ks) s last taken fates (middle, first, rest, one, later, step, behind, count, are) =
      all_held ks middle last rest later behind ∙ step.held

  all_lost : (ks : List ℕ) (s last : QueuedFiles) (taken : ℕ) (fates : List Written) → WorksTo names m ks s taken fates last →
      last.waiting.lost ≡ s.waiting.lost
  all_lost [] s last taken fates (none, empty, same) = ap (λ (x : QueuedFiles). x.waiting.lost) same
  all_lost (k ∷ ks) s last taken fates (middle, first, rest, one, later, step, behind, count, are) =
      all_lost ks middle last rest later behind ∙ step.lost

  all_missed : (k : ℕ) (ks : List ℕ) (s last : QueuedFiles) (taken : ℕ) (fates : List Written) →
      WorksTo names m (k ∷ ks) s taken fates last → last.waiting.missed ≡ more s.waiting.missed (missed_in fates)
  all_missed k [] s last taken fates (middle, first, rest, one, later, step, (none, empty, same), count, are) =
      let all : missed_in one ≡ missed_in fates = omega (arith, missed_append one later, ap missed_in empty, ap missed_in are) in
      ap (λ (x : QueuedFiles). x.waiting.missed) same ∙ step.missed ∙ ap (more s.waiting.missed) all
  all_missed k (j ∷ js) s last taken fates (middle, first, rest, one, later, step, behind, count, are) =
      all_missed j js middle last rest later behind
      ∙ ap (λ n. more n (missed_in later)) step.missed
      ∙ more_more s.waiting.missed (missed_in one) (missed_in later)
      ∙ ap (more s.waiting.missed) (sym (missed_append one later) ∙ sym (ap missed_in are))

  as_steps : (ks : List ℕ) (s last : QueuedFiles) (taken : ℕ) (fates : List Written) → WorksTo names m ks s taken fates last →
      StepsTo names m ks (worker_of s) taken fates (worker_of last)
  as_steps [] s last taken fates (none, empty, same) = (none, empty, ap worker_of same)
  as_steps (k ∷ ks) s last taken fates (middle, first, rest, one, later, step, behind, count, are) =
      (worker_of middle, first, rest, one, later, step.step, as_steps ks middle last rest later behind, count, are)

pub work_cut : WorkMayBeCut
work_cut names m k ks s last taken fates sound whole works =
    let cuts = steps_cut names m k ks (worker_of s) (worker_of last) taken fates sound whole
    (as_steps names m (k ∷ ks) s last taken fates works) in
    let helds = all_held names m (k ∷ ks) s last taken fates works in
    let losts = all_lost names m (k ∷ ks) s last taken fates works in
    let misses = all_missed names m k ks s last taken fates works in (
      record { step = cuts.0; held = helds; lost = losts; missed = misses },
      λ other number others fed work.
          let ends = cuts.1 (worker_of other) number others fed work.step in (
            same_files other last (ap (λ (x : Worker). x.queue) ends.0) (work.held ∙ sym helds) (work.lost ∙ sym losts)
                (work.missed ∙ ap (more s.waiting.missed) (fed ∙ sym (none_missed fates whole)) ∙ sym misses)
                (ap (λ (x : Worker). x.sink) ends.0),
            ends.1,
          ),
    )

-- sinks by number, and the same ones but for one
abbrev with_sink : (ℕ → QueuedFiles) → ℕ → QueuedFiles → ℕ → QueuedFiles
with_sink sinks number s k = cond (k == number) s (sinks k)

placed : (sinks : ℕ → QueuedFiles) (number : ℕ) (s : QueuedFiles) → with_sink sinks number s number ≡ s
placed sinks number s = ap (λ b. cond b s (sinks number)) (eq-eqb number number refl)

elsewhere : (sinks : ℕ → QueuedFiles) (number k : ℕ) (s : QueuedFiles) → k ≢ number → with_sink sinks number s k ≡ sinks k
elsewhere sinks number k s differs = ap (λ b. cond b s (sinks k)) (ne_eqb k number differs)

pub work_swapped : WorkMayChangePlaces
work_swapped names one other m n k l sinks middle last a b fates others differ first second = (
  with_sink sinks other (last other),
  record {
    work =
        subst (λ (x : QueuedFiles). WorkTo (names other) n l x b others (with_sink sinks other (last other) other))
        (first.others_stay other (λ e. differ (sym e)))
        (subst (λ (x : QueuedFiles). WorkTo (names other) n l (middle other) b others x) (sym (placed sinks other (last other)))
        second.work);
    others_stay = λ j differs. elsewhere sinks other j (last other) differs;
  },
  record {
    work =
        subst (λ (x : QueuedFiles). WorkTo (names one) m k x a fates (last one)) (sym (elsewhere sinks other one (last other) differ))
        (subst (λ (x : QueuedFiles). WorkTo (names one) m k (sinks one) a fates x) (sym (second.others_stay one differ)) first.work);
    others_stay = λ j differs. by_case j differs (j == other) refl;
  },
)
  where
    by_case : (j : ℕ) → j ≢ one → (is : Bool) → (j == other) ≡ is → last j ≡ cond (j == other) (last other) (sinks j)
    by_case j differs true is = ap last (eqb-true j other is) ∙ sym (ap (λ c. cond c (last other) (sinks j)) is)
    by_case j differs false is =
        second.others_stay j (λ same. false≢true (sym is ∙ eq-eqb j other same)) ∙ first.others_stay j differs ∙
        sym (ap (λ c. cond c (last other) (sinks j)) is)
