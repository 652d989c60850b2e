-- What a queue answers doesn't depend on its folder.
use Rattle.std.proofs.Common.{◌≡◌, ◌∙◌, inl, inr, ℕ, Bool, true, false, List, [], ◌∷◌, length, Option, Result, refl, sym}
use Rattle.std.proofs.Common.{ap, arith, subst, Ok, Err, ◌<◌, ◌≤◌}
use Rattle.tracing_core_moments.specs.declared.moment.Moment.{Moment}
use Rattle.tracing_core_moments.specs.Moments.{is_moment}
use Rattle.tracing_appender_rolling.specs.folders.Contents.{Contents}
use Rattle.tracing_appender_queue.specs.declared.queued.fate.AdmitError.{AdmitError}
use Rattle.tracing_appender_queue.specs.declared.state.MarkError.{MarkError}
use Rattle.tracing_appender_queue.specs.declared.state.MarkError.TheVariants as mark
use Rattle.tracing_appender_queue.specs.declared.queued.queued_sink.QueuedSink.{QueuedSink}
use Rattle.tracing_appender_queue.specs.queued.ExactCounts.{DropsAreExact}
use Rattle.tracing_appender_queue.specs.queued.HeldLines.{Admits, admits}
use Rattle.tracing_appender_queue.specs.queued.LineFates.{WaitingLines}
use Rattle.tracing_appender_queue.specs.worker.Batches.{lines_in}
use Rattle.span_tracing_skeleton.specs.declared.call.Reply.{Reply}
use Rattle.span_tracing_skeleton.specs.declared.call.Reply.TheVariants.{Refused, Worked}
use Rattle.span_tracing_skeleton.specs.declared.queue_call.QueueCall.TheVariants.{Admit, Shutdown, Work}
use Rattle.span_tracing_skeleton.specs.declared.refusal.Refusal.TheVariants.{OutOfMemory}
use Rattle.span_tracing_outputs.specs.sinks.AnySinks.{Shuts, WorksIf, admit_reply, shutdown_reply}
use Rattle.span_tracing_outputs.specs.sinks.QueueFiles.{waits_after}
use Rattle.span_tracing_outputs.specs.sinks.SinkTurns.{Asked, Came, QueueMeets, SinkTurn}
use Rattle.span_tracing_laws.specs.isolation.FaultyFolders.{ComeAlike, QueuesAnswerAlike}
use Rattle.span_tracing_laws.proofs.isolation.QueueTurns.{none_twice, turn_leaves}

module _ {D : Type 0} (contents : D → Option Contents) (failed : D → ℕ) where
  works_answer : (b : Bool) (k : ℕ) (m : Moment) (old its : QueuedSink D) (reply answer : Reply) (new same : QueuedSink D) →
      WorksIf contents failed b k m old reply new → WorksIf contents failed b k m its answer same → its.waiting ≡ old.waiting →
      answer ≡ reply
  works_answer true k m old its reply answer new same (batch, goes, told) (batched, also, also_told) alike =
      also_told
      ∙ ap Worked (also.taken ∙ ap (λ (w : WaitingLines). length (lines_in k w.queue)) alike ∙ sym goes.taken)
      ∙ sym told
  works_answer false k m old its reply answer new same (told, is) (also_told, also) alike = also_told ∙ sym told

  -- there is memory for the line that is admitted
  admits_so : (w new : WaitingLines) (result : Result (Unit {0}) AdmitError) (reply : Reply) → Admits w result new →
      reply ≡ admit_reply result → (reply ≡ Refused OutOfMemory → ⊥) → reply ≡ admit_reply (admits w)
  admits_so w new result reply is told fed = elim (is.answered) [
    | inl answered ↦ told ∙ ap admit_reply answered
    | inr (none, due) ↦ absurd (fed (told ∙ ap admit_reply none))
  ]

  -- the mark was put before or not, and there is room for it or not
  sent_twice : (w v : WaitingLines) → v ≡ w → w.queue.sent ≡ false → v.queue.sent ≡ true → ⊥
  sent_twice w v alike fresh sent =
      let clash : true ≡ false = sym sent ∙ ap (λ (x : WaitingLines). x.queue.sent) alike ∙ fresh in cc

  room_twice : (w v : WaitingLines) → v ≡ w → length w.queue.queued < w.queue.limit → v.queue.limit ≤ length v.queue.queued → ⊥
  room_twice w v alike room none =
      omega (arith, room, subst (λ (x : WaitingLines). x.queue.limit ≤ length x.queue.queued) alike none)

  shuts_so : (old its new same : QueuedSink D) (result also : Result (Unit {0}) MarkError) → its.waiting ≡ old.waiting →
      Shuts old result new → Shuts its also same → also ≡ result
  shuts_so old its new same (Ok done) (Ok too) alike goes its_goes = refl
  shuts_so old its new same (Ok done) (Err mark.MarkSent) alike goes its_goes =
      absurd (sent_twice old.waiting its.waiting alike goes.1 its_goes.1)
  shuts_so old its new same (Ok done) (Err mark.NoRoom) alike goes its_goes =
      absurd (room_twice old.waiting its.waiting alike goes.2 its_goes.2)
  shuts_so old its new same (Err mark.MarkSent) (Ok too) alike goes its_goes =
      absurd (sent_twice its.waiting old.waiting (sym alike) its_goes.1 goes.1)
  shuts_so old its new same (Err mark.MarkSent) (Err mark.MarkSent) alike goes its_goes = refl
  shuts_so old its new same (Err mark.MarkSent) (Err mark.NoRoom) alike goes its_goes =
      absurd (sent_twice its.waiting old.waiting (sym alike) its_goes.1 goes.1)
  shuts_so old its new same (Err mark.NoRoom) (Ok too) alike goes its_goes =
      absurd (room_twice its.waiting old.waiting (sym alike) its_goes.2 goes.2)
  shuts_so old its new same (Err mark.NoRoom) (Err mark.MarkSent) alike goes its_goes =
      absurd (sent_twice old.waiting its.waiting alike goes.1 its_goes.1)
  shuts_so old its new same (Err mark.NoRoom) (Err mark.NoRoom) alike goes its_goes = refl

  turn_answers : (t u : SinkTurn) (old new its same : QueuedSink D) → ComeAlike t u → QueueMeets contents failed t old new →
      QueueMeets contents failed u its same → its.waiting ≡ old.waiting → u ≡ t
  turn_answers (Came lines) (Came others) old new its same come goes also alike = ap Came (sym come)
  turn_answers (Asked (Work k m) reply) (Asked (Work l o) answer) old new its same (count, moment) goes also alike =
      let by_count = subst (λ (j : ℕ). WorksIf contents failed (is_moment o) j o its answer same) (sym count) also in
      let by_moment = subst (λ (n : Moment). WorksIf contents failed (is_moment n) k n its answer same) (sym moment) by_count in
      ap (λ (r : Reply). Asked (Work l o) r) (works_answer (is_moment m) k m old its reply answer new same goes by_moment alike)
      ∙ ap (λ (j : ℕ). Asked (Work j o) reply) (sym count) ∙ ap (λ (n : Moment). Asked (Work k n) reply) (sym moment)
  turn_answers (Asked Admit reply) (Asked Admit answer) old new its same (fed, too) (result, goes, files, told)
      (also, its_goes, its_files, its_told) alike =
      ap (Asked Admit)
      (admits_so its.waiting same.waiting also answer its_goes its_told too
      ∙ ap (λ (w : WaitingLines). admit_reply (admits w)) alike
      ∙ sym (admits_so old.waiting new.waiting result reply goes told fed))
  turn_answers (Asked Shutdown reply) (Asked Shutdown answer) old new its same come (result, goes, files, told)
      (also, its_goes, its_files, its_told) alike =
      ap (Asked Shutdown) (its_told ∙ ap shutdown_reply (shuts_so old its new same result also alike goes its_goes) ∙ sym told)
  turn_answers t u old new its same come goes also alike = absurd come

  pub queues_answer : DropsAreExact → QueuesAnswerAlike contents failed
  queues_answer exact [] [] old new its same come goes also none few nor low alike =
      (refl, ap (λ (s : QueuedSink D). s.waiting) also ∙ alike ∙ sym (ap (λ (s : QueuedSink D). s.waiting) goes))
  queues_answer exact [] (u ∷ us) old new its same come goes also none few nor low alike = absurd come
  queues_answer exact (t ∷ ts) [] old new its same come goes also none few nor low alike = absurd come
  queues_answer exact (t ∷ ts) (u ∷ us) old new its same come (mid, first, rest) (middle, its_first, its_rest) none few nor low alike =
      let one = none_twice contents failed exact t ts old mid new first rest none few in
      let two = none_twice contents failed exact u us its middle same its_first its_rest nor low in
      let turn = turn_answers t u old mid its middle come.0 first its_first alike in
      let waits = turn_leaves contents failed exact u its middle its_first two.first low
      ∙ ap (waits_after u) alike
      ∙ ap (λ (v : SinkTurn). waits_after v old.waiting) turn
      ∙ sym (turn_leaves contents failed exact t old mid first one.first few) in
      let later = queues_answer exact ts us mid new middle same come.1 rest its_rest one.rest one.below two.rest two.below waits in
      (ap (λ (v : SinkTurn). v ∷ us) turn ∙ ap (λ (vs : List SinkTurn). t ∷ vs) later.0, later.1)
