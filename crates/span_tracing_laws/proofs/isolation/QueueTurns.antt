-- What a turn leaves of a queue, where no line finds no memory.
use Rattle.std.proofs.Common.{◌≡◌, ◌∙◌, ◌≤◌, ◌<◌, ◌+◌, ◌-◌, ◌^◌, ℕ, Bool, true, false, if◌then◌else◌, inl, inr, List, [], ◌∷◌, Option}
use Rattle.std.proofs.Common.{Result, Ok, Err, arith, refl, sym, ap, subst}
use Rattle.tracing_core_moments.specs.declared.moment.Moment.{Moment}
use Rattle.tracing_core_moments.specs.Moments.{is_moment}
use Rattle.tracing_appender_rolling.specs.folders.Contents.{Contents}
use Rattle.tracing_appender_queue.specs.declared.queued.fate.AdmitError.{AdmitError}
use Rattle.tracing_appender_queue.specs.declared.queued.fate.AdmitError.TheVariants as admit
use Rattle.tracing_appender_queue.specs.declared.queued.fate.Fate.{Fate}
use Rattle.tracing_appender_queue.specs.declared.queued.queued_sink.QueuedSink.{QueuedSink}
use Rattle.tracing_appender_queue.specs.declared.state.MarkError.{MarkError}
use Rattle.tracing_appender_queue.specs.declared.state.MarkError.TheVariants as mark
use Rattle.tracing_appender_queue.specs.worker.Batches.{queue_in}
use Rattle.tracing_appender_queue.specs.queued.ExactCounts.{DropsAreExact}
use Rattle.tracing_appender_queue.specs.queued.HeldLines.{admitted_as, moved_first, without_first, worked}
use Rattle.tracing_appender_queue.specs.queued.LineFates.{SettlesAll, WaitingLines, is_missed, missed_in, more, settled_as}
use Rattle.span_tracing_skeleton.specs.declared.call.Reply.{Reply}
use Rattle.span_tracing_skeleton.specs.declared.queue_call.QueueCall.TheVariants.{Admit, Shutdown, Work}
use Rattle.span_tracing_outputs.specs.sinks.AnySinks.{Shuts, WorksIf, admit_reply, bytes_in, shutdown_reply}
use Rattle.span_tracing_outputs.specs.sinks.QueueFiles.{after_admit, after_shutdown, settled_by, waits_after, worked_if}
use Rattle.span_tracing_outputs.specs.sinks.SinkTurns.{Asked, Came, QueueMeets, QueueMeetsAll, SinkTurn}

none_missed : (fate : Fate) (fates : List Fate) → missed_in (fate ∷ fates) ≡ 0 → (is_missed fate ≡ false) × (missed_in fates ≡ 0)
none_missed fate fates none = by_head (is_missed fate) refl none where
  by_head : (b : Bool) → is_missed fate ≡ b → (if is_missed fate then 1 else 0) + missed_in fates ≡ 0 →
      (is_missed fate ≡ false) × (missed_in fates ≡ 0)
  by_head true is sum =
      let one : 1 + missed_in fates ≡ 0 = sym (ap (λ (c : Bool). (if c then 1 else 0) + missed_in fates) is) ∙
      sum in absurd (omega (arith, one))
  by_head false is sum =
      let rest : 0 + missed_in fates ≡ 0 = sym (ap (λ (c : Bool). (if c then 1 else 0) + missed_in fates) is) ∙ sum in
      (is, omega (arith, rest))

settled_plain : (w new : WaitingLines) (lines : List (List ℕ)) (fates : List Fate) → SettlesAll w lines fates new → missed_in fates ≡ 0 →
    new ≡ settled_by lines w
settled_plain w new [] [] is none = is
settled_plain w new [] (f ∷ fs) is none = absurd is
settled_plain w new (l ∷ ls) [] is none = absurd is
settled_plain w new (l ∷ ls) (f ∷ fs) (inl came, rest) none =
    settled_plain (settled_as f l w) new ls fs rest (none_missed f fs none).1 ∙
    ap (λ (g : Fate). settled_by ls (settled_as g l w)) came
settled_plain w new (l ∷ ls) (f ∷ fs) (inr missed, rest) none =
    absurd (let clash : true ≡ false = sym (ap is_missed missed.0) ∙ (none_missed f fs none).0 in cc)

-- counts that stop at the greatest number
more_least : (x a : ℕ) → x ≤ 2 ^ 64 - 1 → x ≤ more x a
more_least x a few = omega (arith, few)

more_most : (x a : ℕ) → more x a ≤ 2 ^ 64 - 1
more_most x a = omega arith

pub none_more : (x a : ℕ) → x < 2 ^ 64 - 1 → more x a ≡ x → a ≡ 0
none_more x a few same = omega (arith, few, same)

more_none : (x : ℕ) → x ≤ 2 ^ 64 - 1 → more x 0 ≡ x
more_none x few = omega (arith, few)

moved_missed : (w : WaitingLines) (held : List (List ℕ)) → (moved_first w held).missed ≡ w.missed
moved_missed w [] = refl
moved_missed w (line ∷ lines) = refl

given_missed : (w : WaitingLines) (held : List (List ℕ)) → (without_first w held).missed ≡ w.missed
given_missed w [] = refl
given_missed w (line ∷ lines) = refl

admitted_missed : (result : Result (Unit {0}) AdmitError) (w : WaitingLines) → (admitted_as result w).missed ≡ w.missed
admitted_missed (Ok done) w = moved_missed w w.held
admitted_missed (Err admit.NothingHeld) w = refl
admitted_missed (Err admit.Closed) w = given_missed w w.held
admitted_missed (Err admit.NoRoom) w = refl
admitted_missed (Err admit.OutOfMemory) w = refl

admitted_so : (result : Result (Unit {0}) AdmitError) (w : WaitingLines) → admitted_as result w ≡ after_admit (admit_reply result) w
admitted_so (Ok done) w = refl
admitted_so (Err admit.NothingHeld) w = refl
admitted_so (Err admit.Closed) w = refl
admitted_so (Err admit.NoRoom) w = refl
admitted_so (Err admit.OutOfMemory) w = refl

module _ {D : Type 0} where
  shut_so : (result : Result (Unit {0}) MarkError) (old new : QueuedSink D) → Shuts old result new →
      (new.waiting ≡ after_shutdown (shutdown_reply result) old.waiting) × (new.waiting.missed ≡ old.waiting.missed)
  shut_so (Ok done) old new goes = (goes.0, ap (λ (w : WaitingLines). w.missed) goes.0)
  shut_so (Err mark.MarkSent) old new goes = (goes.0, ap (λ (w : WaitingLines). w.missed) goes.0)
  shut_so (Err mark.NoRoom) old new goes = (goes.0, ap (λ (w : WaitingLines). w.missed) goes.0)

module _ {D : Type 0} (contents : D → Option Contents) (failed : D → ℕ) (exact : DropsAreExact) where
  abbrev Few : QueuedSink D → Type 0
  Few s = s.waiting.missed ≤ 2 ^ 64 - 1

  -- the count of lines that found no memory never falls
  record Grows (old new : QueuedSink D) : Type 0 where
    pub few : Few new
    pub most : old.waiting.missed ≤ new.waiting.missed

  grows_by : (old new : QueuedSink D) (a : ℕ) → new.waiting.missed ≡ more old.waiting.missed a → Few old → Grows old new
  grows_by old new a is few = record {
    few = subst (λ (k : ℕ). k ≤ 2 ^ 64 - 1) (sym is) (more_most old.waiting.missed a);
    most = subst (λ (k : ℕ). old.waiting.missed ≤ k) (sym is) (more_least old.waiting.missed a few);
  }

  grows_not : (old new : QueuedSink D) → new.waiting.missed ≡ old.waiting.missed → Few old → Grows old new
  grows_not old new same few = grows_by old new 0 (same ∙ sym (more_none old.waiting.missed few)) few

  work_grows : (b : Bool) (k : ℕ) (m : Moment) (old : QueuedSink D) (reply : Reply) (new : QueuedSink D) →
      WorksIf contents failed b k m old reply new → Few old → Grows old new
  work_grows true k m old reply new (batched, works, told) few =
      grows_by old new batched.missed (ap (λ (w : WaitingLines). w.missed) works.waiting) few
  work_grows false k m old reply new (told, same) few =
      grows_not old new (ap (λ (s : QueuedSink D). s.waiting.missed) same) few

  turn_grows : (t : SinkTurn) (old new : QueuedSink D) → QueueMeets contents failed t old new → Few old → Grows old new
  turn_grows (Came lines) old new goes few =
      grows_by old new (missed_in goes.fates) ((exact old.waiting new.waiting (bytes_in lines) goes.fates goes.settled).missed few) few
  turn_grows (Asked (Work k m) reply) old new goes few = work_grows (is_moment m) k m old reply new goes few
  turn_grows (Asked Admit reply) old new (result, admits, files, told) few =
      grows_not old new (ap (λ (w : WaitingLines). w.missed) admits.left ∙ admitted_missed result old.waiting) few
  turn_grows (Asked Shutdown reply) old new (result, shuts, files, told) few = grows_not old new (shut_so result old new shuts).1 few

  all_grow : (ts : List SinkTurn) (old new : QueuedSink D) → QueueMeetsAll contents failed ts old new → Few old → Grows old new
  all_grow [] old new same few = grows_not old new (ap (λ (s : QueuedSink D). s.waiting.missed) same) few
  all_grow (t ∷ ts) old new (mid, first, rest) few =
      let one = turn_grows t old mid first few in
      let later = all_grow ts mid new rest one.few in
      let below : old.waiting.missed ≤ mid.waiting.missed = one.most in
      let above : mid.waiting.missed ≤ new.waiting.missed = later.most in
      record { few = later.few; most = omega (arith, below, above) }

  -- where no line finds no memory in all turns, none does in the first, nor in the others
  pub record Missed (old mid new : QueuedSink D) : Type 0 where
    pub first : mid.waiting.missed ≡ old.waiting.missed
    pub rest : new.waiting.missed ≡ mid.waiting.missed
    pub below : mid.waiting.missed < 2 ^ 64 - 1

  pub none_twice : (t : SinkTurn) (ts : List SinkTurn) (old mid new : QueuedSink D) → QueueMeets contents failed t old mid →
      QueueMeetsAll contents failed ts mid new → new.waiting.missed ≡ old.waiting.missed → old.waiting.missed < 2 ^ 64 - 1 →
      Missed old mid new
  none_twice t ts old mid new first rest same few =
      let grown = turn_grows t old mid first (omega (arith, few)) in
      let later = all_grow ts mid new rest grown.few in
      let below : old.waiting.missed ≤ mid.waiting.missed = grown.most in
      let above : mid.waiting.missed ≤ new.waiting.missed = later.most in
      let same_first : mid.waiting.missed ≡ old.waiting.missed = omega (arith, below, above, same) in
      record { first = same_first; rest = omega (arith, below, above, same); below = omega (arith, few, same_first) }

  worked_plain : (k missed : ℕ) (w : WaitingLines) → missed ≡ 0 → w.missed ≤ 2 ^ 64 - 1 →
      worked k missed w ≡ record w { queue = queue_in k w.queue }
  worked_plain k missed w none few =
      ap (λ (a : ℕ). worked k a w) none ∙
      ap (λ (a : ℕ). record w { queue = queue_in k w.queue; missed = a }) (more_none w.missed few)

  works_leave : (b : Bool) (k : ℕ) (m : Moment) (old : QueuedSink D) (reply : Reply) (new : QueuedSink D) →
      WorksIf contents failed b k m old reply new → new.waiting.missed ≡ old.waiting.missed → old.waiting.missed < 2 ^ 64 - 1 →
      new.waiting ≡ worked_if b k old.waiting
  works_leave true k m old reply new (batched, goes, told) same few =
      let none : batched.missed ≡ 0 = none_more old.waiting.missed batched.missed few
      (sym (ap (λ (w : WaitingLines). w.missed) goes.waiting) ∙ same) in
      goes.waiting ∙ worked_plain k batched.missed old.waiting none (omega (arith, few))
  works_leave false k m old reply new (told, is) same few = ap (λ (s : QueuedSink D). s.waiting) is

  -- what waits after a turn
  pub turn_leaves : (t : SinkTurn) (old new : QueuedSink D) → QueueMeets contents failed t old new →
      new.waiting.missed ≡ old.waiting.missed → old.waiting.missed < 2 ^ 64 - 1 → new.waiting ≡ waits_after t old.waiting
  turn_leaves (Came lines) old new goes same few =
      let counts = (exact old.waiting new.waiting (bytes_in lines) goes.fates goes.settled).missed (omega (arith, few)) in
      let none : missed_in goes.fates ≡ 0 = none_more old.waiting.missed (missed_in goes.fates) few (sym counts ∙ same) in
      settled_plain old.waiting new.waiting (bytes_in lines) goes.fates goes.settled none
  turn_leaves (Asked (Work k m) reply) old new goes same few = works_leave (is_moment m) k m old reply new goes same few
  turn_leaves (Asked Admit reply) old new (result, admits, files, told) same few =
      admits.left ∙ admitted_so result old.waiting ∙ ap (λ (r : Reply). after_admit r old.waiting) (sym told)
  turn_leaves (Asked Shutdown reply) old new (result, shuts, files, told) same few =
      (shut_so result old new shuts).0 ∙ ap (λ (r : Reply). after_shutdown r old.waiting) (sym told)
