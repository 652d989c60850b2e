-- One turn of a step, and its end.
use Rattle.std.proofs.Common.{◌≡◌, Bool, true, false, cond, ℕ, ℤ, suc, ◌+◌, ◌-◌, ◌<◌, List, [], ◌∷◌, ◌++◌, length, inl, inr, refl, ap}
use Rattle.std.proofs.Common.{subst, sym, ◌∙◌, append_assoc, arith, Option, Some, Result, Ok, Err}
use Rattle.std.proofs.lemmas.List.{append-nil}
use Rattle.tracing_core_moments.specs.declared.moment.Moment.{Moment}
use Rattle.tracing_core_moments.specs.Moments.{period_at, end_of, is_due, latest_of}
use Rattle.tracing_appender_rolling.specs.declared.folders.fault.FileNumber.{FileNumber}
use Rattle.tracing_appender_rolling.specs.declared.folders.fault.FolderError.{FolderError}
use Rattle.tracing_appender_rolling.specs.declared.folders.fault.FolderError.TheVariants.{Fault, OutOfMemory}
use Rattle.tracing_appender_rolling.specs.declared.faults.Faults.{Faults}
use Rattle.tracing_appender_rolling.specs.declared.appender.RollingFileAppender.{RollingFileAppender}
use Rattle.tracing_appender_rolling.specs.Names.{FileNames}
use Rattle.tracing_appender_rolling.specs.folders.Contents.{Contents}
use Rattle.tracing_appender_rolling.specs.Sinks.{PlainSink, running_moment, running_period, is_past, with_handed}
use Rattle.tracing_appender_rolling.specs.Looks.{Held}
use Rattle.tracing_appender_rolling.specs.Appenders.{Holds}
use Rattle.tracing_appender_rolling.specs.LineHandover.{HandsTo, HandsLine}
use Rattle.tracing_appender_rolling.specs.Builders.{builder_names}
use Rattle.tracing_appender_rolling.specs.AnyFolder.{Seen, LineAt, seen_of}
use Rattle.tracing_appender_rolling.specs.PrunedSinks.{PrunedSink, AgreesSink, HandsSink, IsOpenIn, OpensAfter, without, with_line}
use Rattle.tracing_appender_rolling.specs.PrunedSinks.{removed_if, pruned_at}
use Rattle.tracing_appender_rolling.proofs.Files.{running_more}
use Rattle.tracing_appender_rolling.proofs.Handover.{known_in, opens_stay}
use Rattle.tracing_appender_rolling.proofs.PeriodFacts.{latest_not_due}
use Rattle.tracing_appender_rolling.proofs.OutOfMemory.{starved_known}
use Rattle.tracing_appender_queue.specs.Queue.{Queue, after_take}
use Rattle.tracing_appender_queue.specs.declared.worker.step.Written.{Written}
use Rattle.tracing_appender_queue.specs.worker.Batches.{line_next, lines_in, queue_in}
use Rattle.tracing_appender_queue.specs.worker.Steps.{is_missed, is_whole, answer_of, missed_in, last_whole, with_lines, with_left, LineTo}
use Rattle.tracing_appender_queue.specs.worker.Steps.{LinesTo, LinesAt, LinesAnywhere, FlushedAt, HandsOne, HandsAll, HoldsFlushed}
use Rattle.tracing_appender_queue.specs.worker.Steps.{LinesSink}
use Rattle.tracing_appender_queue.proofs.worker.CutSteps.{lines_step, queue_step}

less : (k t : ℕ) → t < k → k - t ≡ suc (k - (t + 1))
less k t lt = omega (arith, lt)

module _ (k t : ℕ) (lt : t < k) (q : Queue) (line : List ℕ) (next : line_next q ≡ Some line) where
  lines_turn : lines_in (k - t) q ≡ line ∷ lines_in (k - (t + 1)) (after_take q)
  lines_turn = ap (λ n. lines_in n q) (less k t lt) ∙ lines_step (k - (t + 1)) q (Some line) next

  pub queue_turn : queue_in (k - t) q ≡ queue_in (k - (t + 1)) (after_take q)
  queue_turn = ap (λ n. queue_in n q) (less k t lt) ∙ queue_step (k - (t + 1)) q (Some line) next

  -- the lines so far, and those that are left
  pub done_turn : (r : Queue) (slice : List ℕ) (all done : List (List ℕ)) → r ≡ after_take q → slice ≡ line → all ≡ done ++
      lines_in (k - t) q → all ≡ (done ++ slice ∷ []) ++ lines_in (k - (t + 1)) r
  done_turn r slice all done left same so =
      so
      ∙ ap (λ (xs : List (List ℕ)). done ++ xs) lines_turn
      ∙ ap (λ (l : List ℕ). done ++ l ∷ lines_in (k - (t + 1)) (after_take q)) (sym same)
      ∙ ap (λ (p : Queue). done ++ slice ∷ lines_in (k - (t + 1)) p) (sym left)
      ∙ sym (append_assoc done (slice ∷ []) (lines_in (k - (t + 1)) r))

pub length_turn : (done : List (List ℕ)) (line : List ℕ) (t : ℕ) → length done ≡ t → length (done ++ line ∷ []) ≡ t + 1
length_turn [] line t e = omega (arith, e)
length_turn (l ∷ ls) line t e = let rest = length_turn ls line (length ls) refl in let size : suc (length ls) ≡ t = e in
    ap suc rest ∙ omega (arith, size)

-- no line is left to take
pub ended : (n : ℕ) (q : Queue) → n ≡ 0 → lines_in n q ≡ []
ended n q e = ap (λ m. lines_in m q) e

pub all_done : (all done rest : List (List ℕ)) → all ≡ done ++ rest → rest ≡ [] → all ≡ done
all_done all done rest e none = e ∙ ap (λ (xs : List (List ℕ)). done ++ xs) none ∙ append-nil done

-- one more line
lines_added : (s : PlainSink) (done : List (List ℕ)) (line : List ℕ) (m : Moment) →
    with_lines s (done ++ line ∷ []) m ≡ with_handed (with_lines s done m) (record { line = line; moment = m })
lines_added s [] line m = refl
lines_added s (l ∷ ls) line m = lines_added (with_handed s (record { line = l; moment = m })) ls line m

fates_added : (names : FileNames) (m : Moment) (h : Held) (done : List (List ℕ)) (fates : List Written) (middle next : Held) (line : List ℕ)
    (fate : Written) → LinesTo names m h done fates middle → LineTo names m middle line fate next →
    LinesTo names m h (done ++ line ∷ []) (fates ++ fate ∷ []) next
fates_added names m h [] [] middle next line fate so one = (next, subst (λ (x : Held). LineTo names m x line fate next) so one, refl)
fates_added names m h [] (f ∷ fs) middle next line fate so one = absurd so
fates_added names m h (l ∷ ls) [] middle next line fate so one = absurd so
fates_added names m h (l ∷ ls) (f ∷ fs) middle next line fate (further, first, rest) one =
    (further, first, fates_added names m further ls fs middle next line fate rest one)

pub lines_at_added : (names : FileNames) (m : Moment) (s : Seen) (done : List (List ℕ)) (fates : List Written) (middle next : Seen)
    (line : List ℕ) (fate : Written) → LinesAt names m s done fates middle → LineAt names m (length line) (answer_of fate) middle next →
    LinesAt names m s (done ++ line ∷ []) (fates ++ fate ∷ []) next
lines_at_added names m s [] [] middle next line fate so one =
    (next, subst (λ (x : Seen). LineAt names m (length line) (answer_of fate) x next) so one, refl)
lines_at_added names m s [] (f ∷ fs) middle next line fate so one = absurd so
lines_at_added names m s (l ∷ ls) [] middle next line fate so one = absurd so
lines_at_added names m s (l ∷ ls) (f ∷ fs) middle next line fate (further, first, rest) one =
    (further, first, lines_at_added names m further ls fs middle next line fate rest one)

missed_first : (b : Bool) → cond b (suc 0) 0 ≡ 0 + cond b 1 0
missed_first true = refl
missed_first false = refl

missed_behind : (b : Bool) (n k : ℕ) (more : ℕ) → more ≡ n + k → cond b (suc more) more ≡ cond b (suc n) n + k
missed_behind true n k more e = omega (arith, e)
missed_behind false n k more e = e

missed_added : (fates : List Written) (fate : Written) → missed_in (fates ++ fate ∷ []) ≡ missed_in fates + cond (is_missed fate) 1 0
missed_added [] fate = missed_first (is_missed fate)
missed_added (f ∷ fs) fate = missed_behind (is_missed f) (missed_in fs) (cond (is_missed fate) 1 0) (missed_in (fs ++ fate ∷ []))
    (missed_added fs fate)

pub counts_missed : (b : Bool) (missed more : ℕ) → b ≡ true → more ≡ missed + 1 → more ≡ missed + cond b 1 0
counts_missed true missed more is e = e
counts_missed false missed more is e = cc

pub counts_fed : (b : Bool) (missed more : ℕ) → b ≡ false → more ≡ missed → more ≡ missed + cond b 1 0
counts_fed true missed more is e = cc
counts_fed false missed more is e = omega (arith, e)

whole_added : (before : Bool) (fates : List Written) (fate : Written) → last_whole before (fates ++ fate ∷ []) ≡ is_whole fate
whole_added before [] fate = refl
whole_added before (f ∷ fs) fate = whole_added (is_whole f) fs fate

-- the moment of the last line is no later than the latest seen
running_last : (s : PlainSink) (line : List ℕ) (lines : List (List ℕ)) (m : Moment) → (r : Moment) ×
    (running_moment (with_lines s (line ∷ lines) m).opened (with_lines s (line ∷ lines) m).handed ≡ latest_of r m)
running_last s line [] m = (running_moment s.opened s.handed, running_more s.opened s.handed (record { line = line; moment = m }))
running_last s line (l ∷ ls) m = running_last (with_handed s (record { line = line; moment = m })) l ls m

not_due_again : (s : PlainSink) (line : List ℕ) (lines : List (List ℕ)) (m : Moment) →
    is_due (end_of (with_lines s (line ∷ lines) m).names.kind (running_period (with_lines s (line ∷ lines) m))) m.seconds ≡ false
not_due_again s line lines m =
    let t = with_lines s (line ∷ lines) m in
    let r = running_last s line lines m in
    subst (λ (x : Moment). is_due (end_of t.names.kind (period_at t.names.kind x)) m.seconds ≡ false) (sym r.1)
    (latest_not_due t.names.kind r.0 m)

-- what the lines so far left
module _ {D : Type 0} (contents : D → Option Contents) (names : FileNames) (m : Moment) where
  abbrev pub HandedSoFar : Held → List (List ℕ) → ℕ → Bool → RollingFileAppender D → Type 0
  HandedSoFar h done missed whole b =
      (fates : List Written) × (middle : Held) × LinesTo names m h done fates middle × (missed ≡ missed_in fates) ×
      (whole ≡ last_whole false fates) × Holds contents b middle

  abbrev pub LeftSoFar : PrunedSink → List (List ℕ) → Contents → RollingFileAppender D → RollingFileAppender D → Type 0
  LeftSoFar p [] c a b = b ≡ a
  LeftSoFar p (line ∷ lines) c a b = LinesSink contents p (line ∷ lines) m c a b

  pub record SoFar (a b : RollingFileAppender D) (missed : ℕ) (whole : Bool) (done : List (List ℕ)) : Type 0 where
    pub handed : (h : Held) → Holds contents a h → HandedSoFar h done missed whole b
    pub left : missed ≡ 0 → (c : Contents) (p : PrunedSink) → contents a.folder ≡ Some c → AgreesSink contents a p → LeftSoFar p done c a b

  pub none_so_far : (a : RollingFileAppender D) → SoFar a a 0 false []
  none_so_far a = record { handed = λ h holds. ([], h, refl, refl, refl, holds); left = λ none c p is agrees. refl }

  none_missed : (b : Bool) (missed more : ℕ) → more ≡ missed + cond b 1 0 → more ≡ 0 → (missed ≡ 0) × (b ≡ false)
  none_missed true missed more e none = absurd (omega (arith, e, none))
  none_missed false missed more e none = (omega (arith, e, none), refl)

  left_added : (a b next : RollingFileAppender D) (done : List (List ℕ)) (line : List ℕ) (c : Contents) (p : PrunedSink) →
      contents a.folder ≡ Some c → AgreesSink contents a p → LeftSoFar p done c a b →
      ((d : Contents) (q : PrunedSink) → contents b.folder ≡ Some d → AgreesSink contents b q → HandsSink contents q line m d b next) →
      LeftSoFar p (done ++ line ∷ []) c a next
  left_added a b next [] line c p is agrees same one =
      let h = one c p (ap (λ (x : RollingFileAppender D). contents x.folder) same ∙ is)
      (subst (λ (x : RollingFileAppender D). AgreesSink contents x p) (sym same) agrees) in (
        h.agrees,
        h.counts ∙ ap (λ (x : RollingFileAppender D). x.faults) same,
        subst (λ (f : FileNumber). OpensAfter (is_past p.sink m) f next.current c.open_files (contents next.folder))
            (ap (λ (x : RollingFileAppender D). x.current) same) h.opens,
      )
  left_added a b next (l ∷ ls) line c p is agrees (left, counts, opens) one =
      let q = with_left (pruned_at p m c) (l ∷ ls) m in
      let at = known_in (contents b.folder) (builder_names b.builder) b.boundary b.current q left in
      let h = one at.0 q at.1 left in
      let early = not_due_again (pruned_at p m c).sink l ls m in
      let open_on = subst (λ due. OpensAfter due b.current next.current at.0.open_files (contents next.folder)) early h.opens in
      let stay = λ (fs : List ℕ) (there : IsOpenIn (contents b.folder) fs). let same : at.0.open_files ≡ fs =
      subst (λ (o : Option Contents). IsOpenIn o fs) at.1 there in subst (IsOpenIn (contents next.folder)) same open_on.0 in
      let kept = subst (λ due. AgreesSink contents next (with_line (without (removed_if due q.sink.names at.0) q) line m)) early h.agrees
      in (
        subst (λ (s : PlainSink). AgreesSink contents next (record (pruned_at p m c) { sink = s }))
            (sym (lines_added (pruned_at p m c).sink (l ∷ ls) line m)) kept,
        h.counts ∙
            counts,
        opens_stay (is_past p.sink m) a.current b.current next.current c.open_files (contents b.folder) (contents next.folder)
            open_on.1 stay opens,
      )

  -- one turn
  pub turn : (a b next : RollingFileAppender D) (missed more : ℕ) (whole : Bool) (done : List (List ℕ)) (line : List ℕ) (fate : Written) →
      SoFar a b missed whole done → more ≡ missed + cond (is_missed fate) 1 0 →
      ((h : Held) → Holds contents b h → HandsOne contents names m h line fate next) →
      (is_missed fate ≡ false → (d : Contents) (q : PrunedSink) → contents b.folder ≡ Some d → AgreesSink contents b q →
      HandsSink contents q line m d b next) →
      SoFar a next more (is_whole fate) (done ++ line ∷ [])
  turn a b next missed more whole done line fate so count handed left = record {
    handed = λ h holds.
        let (fates, middle, lines, missed_is, whole_is, held) = so.handed h holds in
        let (further, one, there) = handed middle held in (
          fates ++ fate ∷ [],
          further,
          fates_added names m h done fates middle further line fate lines one,
          count ∙
              ap (λ n. n + cond (is_missed fate) 1 0) missed_is ∙ sym (missed_added fates fate),
          sym (whole_added false fates fate),
          there,
        );
    left = λ none c p is start.
        let before = none_missed (is_missed fate) missed more count none in
        left_added a b next done line c p is start (so.left before.0 c p is start) (left before.1);
  }

  pub left_ends : (a b next : RollingFileAppender D) (done : List (List ℕ)) (c : Contents) (p : PrunedSink) → AgreesSink contents a p →
      LeftSoFar p done c a b → ((q : PrunedSink) → AgreesSink contents b q → AgreesSink contents next q) → next.faults ≡ b.faults →
      next.current ≡ b.current → ((fs : List ℕ) → IsOpenIn (contents b.folder) fs → IsOpenIn (contents next.folder) fs) →
      LinesSink contents p done m c a next
  left_ends a b next [] c p agrees same flush counts current stay = (
    flush p (subst (λ (x : RollingFileAppender D). AgreesSink contents x p) (sym same) agrees),
    counts ∙
        ap (λ (x : RollingFileAppender D). x.faults) same,
  )
  left_ends a b next (l ∷ ls) c p agrees (left, kept, opens) flush counts current stay = (
    flush (with_left (pruned_at p m c) (l ∷ ls) m) left,
    counts ∙ kept,
    opens_stay (is_past p.sink m) a.current b.current next.current
        c.open_files (contents b.folder) (contents next.folder) current stay opens,
  )

  pub handed_ends : (h : Held) (done all : List (List ℕ)) (missed : ℕ) (whole : Bool) (b next : RollingFileAppender D) → all ≡ done →
      HandedSoFar h done missed whole b → ((x : Held) → Holds contents b x → HoldsFlushed contents whole x next) →
      HandsAll contents names m h all missed next
  handed_ends h done all missed whole b next is (fates, middle, lines, missed_is, whole_is, held) flush = (
    fates,
    middle,
    subst (λ (xs : List (List ℕ)). LinesTo names m h xs fates middle) (sym is) lines,
    missed_is,
    subst (λ w. HoldsFlushed contents w middle next) whole_is (flush middle held),
  )

-- the same over any folder
abbrev pub SeenSoFar : FileNames → Moment → Seen → List (List ℕ) → ℕ → Seen → Type 0
SeenSoFar names m s done missed t = (fates : List Written) × LinesAt names m s done fates t × (missed ≡ missed_in fates)

pub seen_turn : (names : FileNames) (m : Moment) (s t next : Seen) (missed more : ℕ) (done : List (List ℕ)) (line : List ℕ)
    (fate : Written) → SeenSoFar names m s done missed t → more ≡ missed + cond (is_missed fate) 1 0 →
    LineAt names m (length line) (answer_of fate) t next → SeenSoFar names m s (done ++ line ∷ []) more next
seen_turn names m s t next missed more done line fate (fates, lines, is) count one = (
  fates ++ fate ∷ [],
  lines_at_added names m s done fates t next line fate lines one,
  count ∙
      ap (λ n. n + cond (is_missed fate) 1 0) is ∙ sym (missed_added fates fate),
)

pub seen_ends : {D : Type 0} (failed : D → ℕ) (m : Moment) (done all : List (List ℕ)) (missed : ℕ) (a b next : RollingFileAppender D) →
    all ≡ done → SeenSoFar (builder_names a.builder) m (seen_of failed a) done missed (seen_of failed b) →
    FlushedAt (seen_of failed b) (seen_of failed next) → LinesAnywhere failed m all missed a next
seen_ends failed m done all missed a b next is (fates, lines, count) flush = (
  fates,
  seen_of failed b,
  subst (λ (xs : List (List ℕ)). LinesAt (builder_names a.builder) m (seen_of failed a) xs fates
      (seen_of failed b)) (sym is) lines,
  count,
  flush,
)

-- a line that was handed over leaves known contents
abbrev IsKnown : Option Contents → Type 0
IsKnown after = (d : Contents) × (after ≡ Some d)

hands_known : (names : FileNames) (m : Moment) (h : Held) (line : List ℕ) (r : Result (Unit {0}) FolderError) (b : Option ℤ)
    (f : FileNumber) (l : Faults) (after : Option Contents) → HandsTo names m h line r b f l after → IsKnown after
hands_known names m h line (Ok done) b f l after over = (over.writes.left.contents, over.writes.left.is)
hands_known names m h line (Err (Fault fault)) b f l after over = (over.writes.left.contents, over.writes.left.is)
hands_known names m h line (Err OutOfMemory) b f l after (inl missed) = starved_known names m h.faults l h.contents after missed.left
hands_known names m h line (Err OutOfMemory) b f l after (inr over) = (over.writes.left.contents, over.writes.left.is)

pub hands_one : {D : Type 0} (contents : D → Option Contents) (names : FileNames) (m : Moment) (h : Held) (line : List ℕ) (fate : Written)
    (a : RollingFileAppender D) → HandsLine contents names m h line (answer_of fate) a → HandsOne contents names m h line fate a
hands_one contents names m h line fate a over =
    let known = hands_known names m h line (answer_of fate) a.boundary a.current a.faults (contents a.folder) over in (
      record { boundary = a.boundary; current = a.current; faults = a.faults; contents = known.0 },
      subst (λ (o : Option Contents). HandsTo names m h line (answer_of fate) a.boundary a.current a.faults o) known.1 over,
      record { folder = known.1; until = refl; open_file = refl; counts = refl },
    )
