-- A step of a worker over a queued sink, and two steps that take as many lines.
use Rattle.std.proofs.Common.{◌≡◌, ◌∙◌, ◌<◌, ◌≤◌, ◌+◌, ◌-◌, ◌^◌, ℕ, suc, List, [], ◌∷◌, ◌++◌, Bool, false, Option, arith, refl, sym, ap}
use Rattle.std.proofs.Common.{subst}
use Rattle.std.specs.Prelude.{if◌then◌else◌}
use Rattle.std.proofs.lemmas.List.{append-nil}
use Rattle.tracing_core_moments.specs.declared.moment.Moment.{Moment}
use Rattle.tracing_appender_rolling.specs.Appenders.{Holds}
use Rattle.tracing_appender_rolling.specs.Builders.{builder_names}
use Rattle.tracing_appender_rolling.specs.Looks.{Held}
use Rattle.tracing_appender_rolling.specs.Names.{FileNames}
use Rattle.tracing_appender_rolling.specs.declared.faults.Faults.{Faults}
use Rattle.tracing_appender_rolling.specs.folders.Contents.{Contents, IsSound}
use Rattle.tracing_appender_queue.specs.declared.queued.queued_sink.QueuedSink.{QueuedSink}
use Rattle.tracing_appender_queue.specs.declared.worker.step.Batched.{Batched}
use Rattle.tracing_appender_queue.specs.declared.worker.step.Written.{Written}
use Rattle.tracing_appender_queue.specs.queued.LineFates.{more}
use Rattle.tracing_appender_queue.specs.queued.QueuedWork.{QueuedFiles, WorkMayBeCut, WorkTo, WorksFrom, WorksTo}
use Rattle.tracing_appender_queue.specs.worker.Batches.{lines_in}
use Rattle.tracing_appender_queue.specs.worker.Steps.{AllWhole, is_missed, last_whole, missed_in}
use Rattle.tracing_appender_queue.specs.worker.Workers.{total}
use Rattle.span_tracing_outputs.specs.sinks.AnySinks.{WorksQueued}
use Rattle.span_tracing_outputs.specs.sinks.QueueFiles.{NoneMissed}
use Rattle.span_tracing_laws.specs.queue_steps.WorkCuts.{NoneLost, SameWork}
use Rattle.span_tracing_laws.proofs.queue_steps.FailedWrites.{all_whole, flush_faults, writes_grow}

-- a count that stayed below the greatest number
none_more : (old a : ℕ) → old < 2 ^ 64 - 1 → more old a ≡ old → a ≡ 0
none_more old a few same = omega (arith, few, same)

neither_more : (old middle last a b : ℕ) → old < 2 ^ 64 - 1 → middle ≡ more old a → last ≡ more middle b → last ≡ old → (a ≡ 0) × (b ≡ 0)
neither_more old middle last a b few first second same = (omega (arith, few, first, second, same), omega (arith, few, first, second, same))

between : (a b c : ℕ) → a ≤ b → b ≤ c → c ≡ a → (b ≡ a) × (c ≡ b)
between a b c first second same = (omega (arith, first, second, same), omega (arith, first, second, same))

few_of : (a : ℕ) → a < 2 ^ 64 - 1 → a ≤ 2 ^ 64 - 1
few_of a few = omega (arith, few)

both_whole : (one two : List Written) → AllWhole one → AllWhole two → AllWhole (one ++ two)
both_whole [] two whole also = also
both_whole (f ∷ fs) two whole also = (whole.0, both_whole fs two whole.1 also)

none_missed : (fates : List Written) → AllWhole fates → missed_in fates ≡ 0
none_missed [] whole = refl
none_missed (f ∷ fs) (is, whole) =
    ap (λ (b : Bool). if b then suc (missed_in fs) else missed_in fs) (ap is_missed is) ∙ none_missed fs whole

sum_alone : (b : ℕ) → b ≡ b + 0
sum_alone b = omega arith

module _ (names : FileNames) (m : Moment) where
  -- what a step adds to the count of writes that failed
  step_grows : (k : ℕ) (s next : QueuedFiles) (taken : ℕ) (fates : List Written) → WorkTo names m k s taken fates next →
      missed_in fates ≡ 0 → s.files.faults.writes ≤ 2 ^ 64 - 1 →
      (next.files.faults.writes ≤ 2 ^ 64 - 1) × (s.files.faults.writes ≤ next.files.faults.writes)
  step_grows k s next taken fates work none few =
      let grows = writes_grow names m s.files work.step.last (lines_in k s.waiting.queue) fates work.step.lines none few in
      let end : next.files.faults.writes ≡ work.step.last.faults.writes =
      ap (λ (h : Held). h.faults.writes) work.step.sink_left ∙
      ap (λ (f : Faults). f.writes) (flush_faults (last_whole false fates) work.step.last) in (
        subst (λ (n : ℕ). n ≤ 2 ^ 64 - 1) (sym end) grows.few,
        subst (λ (n : ℕ). s.files.faults.writes ≤ n) (sym end) grows.least,
      )

  step_whole : (k : ℕ) (s next : QueuedFiles) (taken : ℕ) (fates : List Written) → WorkTo names m k s taken fates next →
      missed_in fates ≡ 0 → s.files.faults.writes < 2 ^ 64 - 1 → next.files.faults.writes ≡ s.files.faults.writes → AllWhole fates
  step_whole k s next taken fates work none few stayed =
      let end : next.files.faults.writes ≡ work.step.last.faults.writes =
      ap (λ (h : Held). h.faults.writes) work.step.sink_left ∙
      ap (λ (f : Faults). f.writes) (flush_faults (last_whole false fates) work.step.last) in
      all_whole names m s.files work.step.last (lines_in k s.waiting.queue) fates work.step.lines none few (sym end ∙ stayed)

  -- two steps are one, and no other end has such a step to which no memory is refused
  pub record AreOne (k l : ℕ) (s last : QueuedFiles) (a b : ℕ) (fates : List Written) : Type 0 where
    pub work : WorkTo names m (k + l) s (a + b) fates last
    pub fed : missed_in fates ≡ 0
    pub alone : (other : QueuedFiles) (c : ℕ) (all : List Written) → missed_in all ≡ 0 → WorkTo names m (k + l) s c all other →
        (other ≡ last) × (c ≡ a + b)

  two_are_one : WorkMayBeCut → (k l : ℕ) (s middle last : QueuedFiles) (a b : ℕ) (first second : List Written) →
      WorkTo names m k s a first middle → WorkTo names m l middle b second last → IsSound s.files.contents → AllWhole first →
      AllWhole second → AreOne k l s last a b (first ++ second)
  two_are_one cut k l s middle last a b first second one two sound whole also =
      let rest : WorksTo names m (l ∷ []) middle b second last =
      (last, b, 0, second, [], two, (refl, refl, refl), sum_alone b, sym (append-nil second)) in
      let steps : WorksTo names m (k ∷ l ∷ []) s (a + b) (first ++ second) last =
      (middle, a, b, first, second, one, rest, refl, refl) in
      let all_whole = both_whole first second whole also in
      let sum : total (k ∷ l ∷ []) ≡ k + l = omega arith in
      let joined = cut names m k (l ∷ []) s last (a + b) (first ++ second) sound all_whole steps in
      record {
        work = subst (λ (n : ℕ). WorkTo names m n s (a + b) (first ++ second) last) sum joined.0;
        fed = none_missed (first ++ second) all_whole;
        alone = λ other c all none work.
            joined.1 other c all none (subst (λ (n : ℕ). WorkTo names m n s c all other) (sym sum) work);
      }

module _ {D : Type 0} (contents : D → Option Contents) (failed : D → ℕ) (m : Moment) where
  abbrev files_of : QueuedSink D → Held → QueuedFiles
  files_of sink h = record { waiting = sink.waiting; files = h }

  -- what two steps leave of a sink
  pub record Joined (k l : ℕ) (old two : QueuedSink D) (a b : ℕ) (h : Held) : Type 0 where
    pub fates : List Written
    pub last : Held
    pub one : AreOne (builder_names old.appender.builder) m k l (files_of old h) (files_of two last) a b fates
    pub holds : Holds contents two.appender last
    pub names : builder_names two.appender.builder ≡ builder_names old.appender.builder

  pub works_from : (k l : ℕ) (old two : QueuedSink D) (a b : ℕ) (h : Held) → Joined k l old two a b h →
      WorksFrom contents (k + l) m h (record { taken = a + b; missed = 0 }) old two
  works_from k l old two a b h j = (j.fates, j.last, j.one.work, sym j.one.fed, j.holds)

  pub sinks_join : WorkMayBeCut → (k l : ℕ) (old middle two : QueuedSink D) (a b : Batched) →
      WorksQueued contents failed k m old a middle → WorksQueued contents failed l m middle b two → (h : Held) →
      Holds contents old.appender h → IsSound h.contents → NoneLost old two → Joined k l old two a.taken b.taken h
  sinks_join cut k l old middle two a b first second h holds sound kept =
      let names = builder_names old.appender.builder in
      let (fates, mid, work, misses, held) = first.files h holds in
      let (laters, last, next, missing, also) = second.files mid held in
      let behind : WorkTo names m l (files_of middle mid) b.taken laters (files_of two last) =
      subst (λ (n : FileNames). WorkTo n m l (files_of middle mid) b.taken laters (files_of two last)) first.names next in
      let none = neither_more old.waiting.missed middle.waiting.missed two.waiting.missed (missed_in fates) (missed_in laters)
      kept.memory.not_full work.missed behind.missed kept.memory.stayed in
      let few : h.faults.writes < 2 ^ 64 - 1 =
      subst (λ (f : Faults). f.writes < 2 ^ 64 - 1) holds.counts kept.not_full in
      let stayed : last.faults.writes ≡ h.faults.writes =
      sym (ap (λ (f : Faults). f.writes) also.counts) ∙ kept.written ∙ ap (λ (f : Faults). f.writes) holds.counts in
      let grows = step_grows names m k (files_of old h) (files_of middle mid) a.taken fates work none.0 (few_of h.faults.writes few) in
      let later = step_grows names m l (files_of middle mid) (files_of two last) b.taken laters behind none.1 grows.0 in
      let same = between h.faults.writes mid.faults.writes last.faults.writes grows.1 later.1 stayed in
      let written = step_whole names m k (files_of old h) (files_of middle mid) a.taken fates work none.0 few same.0 in
      let more_written = step_whole names m l (files_of middle mid) (files_of two last) b.taken laters behind none.1
      (subst (λ (n : ℕ). n < 2 ^ 64 - 1) (sym same.0) few) same.1 in
      record {
        fates = fates ++ laters;
        last = last;
        one = two_are_one names m cut k l (files_of old h) (files_of middle mid) (files_of two last) a.taken b.taken fates laters
            work behind sound written more_written;
        holds = also;
        names = second.names ∙ first.names;
      }

  -- and of one to which one step came
  pub sinks_same : (k l : ℕ) (old two one : QueuedSink D) (a b : ℕ) (c : Batched) (h : Held) → Joined k l old two a b h →
      Holds contents old.appender h → WorksQueued contents failed (k + l) m old c one → NoneMissed old one →
      (c.taken ≡ a + b) × SameWork contents two one
  sinks_same k l old two one a b c h j holds all fed =
      let (alls, other, whole, missed, too) = all.files h holds in
      let full : missed_in alls ≡ 0 = none_more old.waiting.missed (missed_in alls) fed.not_full (sym whole.missed ∙ fed.stayed) in
      let ends = j.one.alone (files_of one other) c.taken alls full whole in (
        ends.1,
        record {
          waiting = ap (λ (s : QueuedFiles). s.waiting) ends.0;
          names = all.names ∙ sym j.names;
          files = j.last;
          holds_one = j.holds;
          holds_other = subst (λ (x : Held). Holds contents one.appender x) (ap (λ (s : QueuedFiles). s.files) ends.0) too;
        },
      )
