-- The files of a queued sink hold just the lines that workers took.
use Rattle.std.proofs.Common.{◌≡◌, ◌∙◌, ◌≤◌, ◌<◌, ◌+◌, ◌-◌, ◌^◌, ℕ, Bool, true, false, if◌then◌else◌, inl, inr, List, [], ◌∷◌, ◌++◌, Option}
use Rattle.std.proofs.Common.{Some, None, Result, Ok, Err, arith, refl, sym, ap, subst}
use Rattle.std.proofs.lemmas.List.{append-nil, append_assoc}
use Rattle.tracing_core_moments.specs.declared.moment.Moment.{Moment}
use Rattle.tracing_core_moments.specs.Moments.{is_moment}
use Rattle.tracing_appender_rolling.specs.folders.Contents.{Contents}
use Rattle.tracing_appender_rolling.specs.Builders.{builder_names}
use Rattle.tracing_appender_rolling.specs.PrunedSinks.{AgreesSink, KeepsEveryFile, KeptIn, PrunedSink}
use Rattle.tracing_appender_rolling.specs.Sinks.{Handed, PlainSink, with_handed}
use Rattle.tracing_appender_rolling.proofs.FaultlessSwitch.{pruned_none}
use Rattle.tracing_appender_rolling.specs.declared.appender.RollingFileAppender.{RollingFileAppender}
use Rattle.tracing_appender_queue.specs.declared.queued.fate.AdmitError.{AdmitError}
use Rattle.tracing_appender_queue.specs.declared.queued.fate.AdmitError.TheVariants as admit
use Rattle.tracing_appender_queue.specs.declared.queued.fate.Fate.{Fate}
use Rattle.tracing_appender_queue.specs.declared.queued.queued_sink.QueuedSink.{QueuedSink}
use Rattle.tracing_appender_queue.specs.declared.state.MarkError.{MarkError}
use Rattle.tracing_appender_queue.specs.declared.state.MarkError.TheVariants as mark
use Rattle.tracing_appender_queue.specs.worker.Batches.{lines_in, queue_in}
use Rattle.tracing_appender_queue.specs.worker.Steps.{with_left, with_lines}
use Rattle.tracing_appender_queue.specs.queued.QueuedWork.{handed_at, left_at}
use Rattle.tracing_appender_queue.specs.queued.ExactCounts.{DropsAreExact}
use Rattle.tracing_appender_queue.specs.queued.HeldLines.{admitted_as, moved_first, without_first, worked}
use Rattle.tracing_appender_queue.specs.queued.LineFates.{SettlesAll, WaitingLines, is_missed, missed_in, more, settled_as}
use Rattle.span_tracing_skeleton.specs.declared.call.Reply.{Reply}
use Rattle.span_tracing_skeleton.specs.declared.queue_call.QueueCall.TheVariants.{Admit, Shutdown, Work}
use Rattle.span_tracing_outputs.specs.sinks.AnySinks.{Shuts, WorksIf, admit_reply, bytes_in, shutdown_reply}
use Rattle.span_tracing_outputs.specs.sinks.Fates.{with_all}
use Rattle.span_tracing_outputs.specs.sinks.QueueFiles.{Leaves, QueuesStand, StepLeads, TurnLeads, TurnsLead, after_admit, after_shutdown}
use Rattle.span_tracing_outputs.specs.sinks.QueueFiles.{handed_all, handed_by, handed_if, settled_by, waits_after, waits_all, worked_if}
use Rattle.span_tracing_outputs.proofs.sinks.Fates.{with_more}
use Rattle.span_tracing_outputs.proofs.sinks.LinesInFiles.{stands}
use Rattle.span_tracing_outputs.specs.sinks.SinkTurns.{Asked, Came, QueueMeets, QueueMeetsAll, SinkTurn}

-- lines of which none found no memory
none_missed : (fate : Fate) (fates : List Fate) → missed_in (fate ∷ fates) ≡ 0 → (is_missed fate ≡ false) × (missed_in fates ≡ 0)
none_missed fate fates none = by_head (is_missed fate) refl none where
  by_head : (b : Bool) → is_missed fate ≡ b → (if is_missed fate then 1 else 0) + missed_in fates ≡ 0 →
      (is_missed fate ≡ false) × (missed_in fates ≡ 0)
  by_head true is sum =
      let one : 1 + missed_in fates ≡ 0 = sym (ap (λ (c : Bool). (if c then 1 else 0) + missed_in fates) is) ∙
      sum in absurd (omega (arith, one))
  by_head false is sum =
      let rest : 0 + missed_in fates ≡ 0 = sym (ap (λ (c : Bool). (if c then 1 else 0) + missed_in fates) is) ∙ sum in
      (is, omega (arith, rest))

settled_plain : (w new : WaitingLines) (lines : List (List ℕ)) (fates : List Fate) → SettlesAll w lines fates new → missed_in fates ≡ 0 →
    new ≡ settled_by lines w
settled_plain w new [] [] is none = is
settled_plain w new [] (f ∷ fs) is none = absurd is
settled_plain w new (l ∷ ls) [] is none = absurd is
settled_plain w new (l ∷ ls) (f ∷ fs) (inl came, rest) none =
    settled_plain (settled_as f l w) new ls fs rest (none_missed f fs none).1 ∙
    ap (λ (g : Fate). settled_by ls (settled_as g l w)) came
settled_plain w new (l ∷ ls) (f ∷ fs) (inr missed, rest) none =
    absurd (let clash : true ≡ false = sym (ap is_missed missed.0) ∙ (none_missed f fs none).0 in cc)

-- sinks that were handed lines
with_both : (s : PlainSink) (hs gs : List Handed) → with_all (with_all s hs) gs ≡ with_all s (hs ++ gs)
with_both s hs gs = ap (λ (all : List Handed). record s { handed = all }) (append_assoc s.handed hs gs)

lines_all : (s : PlainSink) (lines : List (List ℕ)) (m : Moment) → with_lines s lines m ≡ with_all s (handed_at m lines)
lines_all s [] m = ap (λ (handed : List Handed). record s { handed = handed }) (sym (append-nil s.handed))
lines_all s (l ∷ ls) m =
    let h : Handed = record { line = l; moment = m } in lines_all (with_handed s h) ls m ∙ with_more s h (handed_at m ls)

none_more_handed : (p : PrunedSink) → p ≡ record p { sink = with_all p.sink [] }
none_more_handed p = ap (λ (handed : List Handed). record p { sink = record p.sink { handed = handed } }) (sym (append-nil p.sink.handed))

whole_left : (p : PrunedSink) (lines : List (List ℕ)) (m : Moment) (c : Contents) → KeepsEveryFile p.sink.names →
    left_at p lines m c ≡ record p { sink = with_all p.sink (handed_at m lines) }
whole_left p [] m c all = none_more_handed p
whole_left p (l ∷ ls) m c all =
    ap (λ (q : PrunedSink). with_left q (l ∷ ls) m) (pruned_none p m c all)
    ∙ ap (λ (s : PlainSink). record p { sink = s }) (lines_all p.sink (l ∷ ls) m)

-- counts that stop at the greatest number
more_least : (x a : ℕ) → x ≤ 2 ^ 64 - 1 → x ≤ more x a
more_least x a few = omega (arith, few)

more_most : (x a : ℕ) → more x a ≤ 2 ^ 64 - 1
more_most x a = omega arith

none_more : (x a : ℕ) → x < 2 ^ 64 - 1 → more x a ≡ x → a ≡ 0
none_more x a few same = omega (arith, few, same)

more_none : (x : ℕ) → x ≤ 2 ^ 64 - 1 → more x 0 ≡ x
more_none x few = omega (arith, few)

moved_missed : (w : WaitingLines) (held : List (List ℕ)) → (moved_first w held).missed ≡ w.missed
moved_missed w [] = refl
moved_missed w (line ∷ lines) = refl

given_missed : (w : WaitingLines) (held : List (List ℕ)) → (without_first w held).missed ≡ w.missed
given_missed w [] = refl
given_missed w (line ∷ lines) = refl

admitted_missed : (result : Result (Unit {0}) AdmitError) (w : WaitingLines) → (admitted_as result w).missed ≡ w.missed
admitted_missed (Ok done) w = moved_missed w w.held
admitted_missed (Err admit.NothingHeld) w = refl
admitted_missed (Err admit.Closed) w = given_missed w w.held
admitted_missed (Err admit.NoRoom) w = refl
admitted_missed (Err admit.OutOfMemory) w = refl

admitted_so : (result : Result (Unit {0}) AdmitError) (w : WaitingLines) → admitted_as result w ≡ after_admit (admit_reply result) w
admitted_so (Ok done) w = refl
admitted_so (Err admit.NothingHeld) w = refl
admitted_so (Err admit.Closed) w = refl
admitted_so (Err admit.NoRoom) w = refl
admitted_so (Err admit.OutOfMemory) w = refl

module _ {D : Type 0} where
  shut_so : (result : Result (Unit {0}) MarkError) (old new : QueuedSink D) → Shuts old result new →
      new.waiting ≡ after_shutdown (shutdown_reply result) old.waiting
  shut_so (Ok done) old new goes = goes.0
  shut_so (Err mark.MarkSent) old new goes = goes.0
  shut_so (Err mark.NoRoom) old new goes = goes.0

  shut_missed : (result : Result (Unit {0}) MarkError) (old new : QueuedSink D) → Shuts old result new →
      new.waiting.missed ≡ old.waiting.missed
  shut_missed (Ok done) old new goes = ap (λ (w : WaitingLines). w.missed) goes.0
  shut_missed (Err mark.MarkSent) old new goes = ap (λ (w : WaitingLines). w.missed) goes.0
  shut_missed (Err mark.NoRoom) old new goes = ap (λ (w : WaitingLines). w.missed) goes.0

module _ {D : Type 0} (contents : D → Option Contents) (failed : D → ℕ) (exact : DropsAreExact) where
  abbrev Few : QueuedSink D → Type 0
  Few s = s.waiting.missed ≤ 2 ^ 64 - 1

  -- the count of lines that found no memory never falls
  record Grows (old new : QueuedSink D) : Type 0 where
    pub few : Few new
    pub most : old.waiting.missed ≤ new.waiting.missed

  grows_by : (old new : QueuedSink D) (a : ℕ) → new.waiting.missed ≡ more old.waiting.missed a → Few old → Grows old new
  grows_by old new a is few = record {
    few = subst (λ (k : ℕ). k ≤ 2 ^ 64 - 1) (sym is) (more_most old.waiting.missed a);
    most = subst (λ (k : ℕ). old.waiting.missed ≤ k) (sym is) (more_least old.waiting.missed a few);
  }

  grows_not : (old new : QueuedSink D) → new.waiting.missed ≡ old.waiting.missed → Few old → Grows old new
  grows_not old new same few = grows_by old new 0 (same ∙ sym (more_none old.waiting.missed few)) few

  work_grows : (b : Bool) (k : ℕ) (m : Moment) (old : QueuedSink D) (reply : Reply) (new : QueuedSink D) →
      WorksIf contents failed b k m old reply new → Few old → Grows old new
  work_grows true k m old reply new (batched, works, told) few =
      grows_by old new batched.missed (ap (λ (w : WaitingLines). w.missed) works.waiting) few
  work_grows false k m old reply new (told, same) few =
      grows_not old new (ap (λ (s : QueuedSink D). s.waiting.missed) same) few

  turn_grows : (t : SinkTurn) (old new : QueuedSink D) → QueueMeets contents failed t old new → Few old → Grows old new
  turn_grows (Came lines) old new goes few =
      grows_by old new (missed_in goes.fates) ((exact old.waiting new.waiting (bytes_in lines) goes.fates goes.settled).missed few) few
  turn_grows (Asked (Work k m) reply) old new goes few = work_grows (is_moment m) k m old reply new goes few
  turn_grows (Asked Admit reply) old new (result, admits, files, told) few =
      grows_not old new (ap (λ (w : WaitingLines). w.missed) admits.left ∙ admitted_missed result old.waiting) few
  turn_grows (Asked Shutdown reply) old new (result, shuts, files, told) few = grows_not old new (shut_missed result old new shuts) few

  all_grow : (ts : List SinkTurn) (old new : QueuedSink D) → QueueMeetsAll contents failed ts old new → Few old → Grows old new
  all_grow [] old new same few = grows_not old new (ap (λ (s : QueuedSink D). s.waiting.missed) same) few
  all_grow (t ∷ ts) old new (mid, first, rest) few =
      let one = turn_grows t old mid first few in
      let later = all_grow ts mid new rest one.few in
      let below : old.waiting.missed ≤ mid.waiting.missed = one.most in
      let above : mid.waiting.missed ≤ new.waiting.missed = later.most in
      record { few = later.few; most = omega (arith, below, above) }

  -- contents are known where an appender agrees with a sink
  known_at : (o : Option Contents) (a : RollingFileAppender D) (p : PrunedSink) → contents a.folder ≡ o → AgreesSink contents a p →
      (c : Contents) × (contents a.folder ≡ Some c)
  known_at None a p is agrees =
      absurd (subst (λ (o : Option Contents). KeptIn o (builder_names a.builder) a.boundary a.current p) is agrees)
  known_at (Some c) a p is agrees = (c, is)

  -- nothing was written
  resting : (waits : WaitingLines) (leads : PrunedSink → Type 0) (old new : QueuedSink D) (p : PrunedSink) → new.waiting ≡ waits → leads p →
      new.appender ≡ old.appender → AgreesSink contents old.appender p → Leaves contents failed waits [] leads old new p
  resting waits leads old new p is led files agrees = record {
    waiting = is;
    last = p;
    led = led;
    agrees = subst (λ (a : RollingFileAppender D). AgreesSink contents a p) (sym files) agrees;
    names = refl;
    opened = refl;
    handed = sym (append-nil p.sink.handed);
    whole = λ all. none_more_handed p;
    faults = ap (λ (a : RollingFileAppender D). a.faults) files;
  }

  worked_plain : (k missed : ℕ) (w : WaitingLines) → missed ≡ 0 → w.missed ≤ 2 ^ 64 - 1 →
      worked k missed w ≡ record w { queue = queue_in k w.queue }
  worked_plain k missed w none few =
      ap (λ (a : ℕ). worked k a w) none ∙
      ap (λ (a : ℕ). record w { queue = queue_in k w.queue; missed = a }) (more_none w.missed few)

  works : (b : Bool) (k : ℕ) (m : Moment) (old : QueuedSink D) (reply : Reply) (new : QueuedSink D) (p : PrunedSink) →
      WorksIf contents failed b k m old reply new → new.waiting.missed ≡ old.waiting.missed → old.waiting.missed < 2 ^ 64 - 1 →
      AgreesSink contents old.appender p → Leaves contents failed (worked_if b k old.waiting) (handed_if b k m old.waiting)
      (λ last. StepLeads contents failed b k m p old last) old new p
  works true k m old reply new p (batched, goes, told) same few agrees =
      let none : batched.missed ≡ 0 = none_more old.waiting.missed batched.missed few
      (sym (ap (λ (w : WaitingLines). w.missed) goes.waiting) ∙ same) in
      let at = known_at (contents old.appender.folder) old.appender p refl agrees in
      let left = goes.left none at.0 p at.1 agrees in
      record {
        waiting = goes.waiting ∙ worked_plain k batched.missed old.waiting none (omega (arith, few));
        last = left.last;
        led = (at.0, at.1, left.last_is);
        agrees = left.agrees;
        names = left.names;
        opened = left.opened;
        handed = left.handed;
        whole = λ all. left.last_is ∙ whole_left p (lines_in k old.waiting.queue) m at.0 all;
        faults = left.counts;
      }
  works false k m old reply new p (told, is) same few agrees =
      resting old.waiting (λ last. last ≡ p) old new p (ap (λ (s : QueuedSink D). s.waiting) is) refl
      (ap (λ (s : QueuedSink D). s.appender) is) agrees

  one_turn : (t : SinkTurn) (old new : QueuedSink D) (p : PrunedSink) → QueueMeets contents failed t old new →
      new.waiting.missed ≡ old.waiting.missed → old.waiting.missed < 2 ^ 64 - 1 → AgreesSink contents old.appender p →
      Leaves contents failed (waits_after t old.waiting) (handed_by t old.waiting) (λ last. TurnLeads contents failed t p old last) old new p
  one_turn (Came lines) old new p goes same few agrees =
      let counts = (exact old.waiting new.waiting (bytes_in lines) goes.fates goes.settled).missed (omega (arith, few)) in
      let none : missed_in goes.fates ≡ 0 = none_more old.waiting.missed (missed_in goes.fates) few (sym counts ∙ same) in
      resting (settled_by (bytes_in lines) old.waiting) (λ last. last ≡ p) old new p
      (settled_plain old.waiting new.waiting (bytes_in lines) goes.fates goes.settled none) refl goes.files agrees
  one_turn (Asked (Work k m) reply) old new p goes same few agrees = works (is_moment m) k m old reply new p goes same few agrees
  one_turn (Asked Admit reply) old new p (result, admits, files, told) same few agrees =
      resting (after_admit reply old.waiting) (λ last. last ≡ p) old new p
      (admits.left ∙ admitted_so result old.waiting ∙ ap (λ (r : Reply). after_admit r old.waiting) (sym told)) refl files agrees
  one_turn (Asked Shutdown reply) old new p (result, shuts, files, told) same few agrees =
      resting (after_shutdown reply old.waiting) (λ last. last ≡ p) old new p
      (shut_so result old new shuts ∙ ap (λ (r : Reply). after_shutdown r old.waiting) (sym told)) refl files agrees

  many : (ts : List SinkTurn) (old new : QueuedSink D) (p : PrunedSink) → QueueMeetsAll contents failed ts old new →
      new.waiting.missed ≡ old.waiting.missed → old.waiting.missed < 2 ^ 64 - 1 → AgreesSink contents old.appender p →
      Leaves contents failed (waits_all ts old.waiting) (handed_all ts old.waiting) (λ last. TurnsLead contents failed ts p old new last)
      old new p
  many [] old new p is same few agrees =
      resting old.waiting (λ last. (new ≡ old) × (last ≡ p)) old new p (ap (λ (s : QueuedSink D). s.waiting) is) (is, refl)
      (ap (λ (s : QueuedSink D). s.appender) is) agrees
  many (t ∷ ts) old new p (mid, first, rest) same few agrees =
      let grown = turn_grows t old mid first (omega (arith, few)) in
      let later_grown = all_grow ts mid new rest grown.few in
      let below : old.waiting.missed ≤ mid.waiting.missed = grown.most in
      let above : mid.waiting.missed ≤ new.waiting.missed = later_grown.most in
      let mid_same : mid.waiting.missed ≡ old.waiting.missed = omega (arith, below, above, same) in
      let new_same : new.waiting.missed ≡ mid.waiting.missed = omega (arith, below, above, same) in
      let one = one_turn t old mid p first mid_same few agrees in
      let later = many ts mid new one.last rest new_same (omega (arith, few, mid_same)) one.agrees in
      record {
        waiting = later.waiting ∙ ap (waits_all ts) one.waiting;
        last = later.last;
        led = (mid, one.last, first, one.led, later.led);
        agrees = later.agrees;
        names = later.names ∙ one.names;
        opened = later.opened ∙ one.opened;
        handed = later.handed ∙ ap (λ (hs : List Handed). hs ++ handed_all ts mid.waiting) one.handed ∙
            append_assoc p.sink.handed (handed_by t old.waiting) (handed_all ts mid.waiting) ∙
            ap (λ (w : WaitingLines). p.sink.handed ++ (handed_by t old.waiting ++ handed_all ts w)) one.waiting;
        whole = λ all.
            later.whole (subst KeepsEveryFile (sym one.names) all)
            ∙ ap (λ (q : PrunedSink). record q { sink = with_all q.sink (handed_all ts mid.waiting) }) (one.whole all)
            ∙ ap (λ (s : PlainSink). record p { sink = s }) (with_both p.sink (handed_by t old.waiting) (handed_all ts mid.waiting))
            ∙ ap (λ (w : WaitingLines). record p { sink = with_all p.sink (handed_by t old.waiting ++ handed_all ts w) }) one.waiting;
        faults = later.faults ∙ one.faults;
      }

  pub queues_stand : QueuesStand contents failed
  queues_stand ts old new goes none p agrees =
      let all = many ts old new p goes none.stayed none.not_full agrees in
      record { leaves = all; stand = λ c known. stands contents all.last new.appender c all.agrees known }
