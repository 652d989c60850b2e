-- For its queue each call on a sink is a list of the queue's own calls. So all holds of it that holds of a queue after any calls.
use Rattle.std.specs.Prelude.{◌≡◌, ℕ, List, Result}
use Rattle.tracing_appender_queue.specs.Queue.{Queue, after_mark}
use Rattle.tracing_appender_queue.specs.History.{Call, queue_after}
use Rattle.tracing_appender_queue.specs.declared.queued.fate.Fate.{Fate}
use Rattle.tracing_appender_queue.specs.declared.queued.fate.AdmitError.{AdmitError}
use Rattle.tracing_appender_queue.specs.queued.LineFates.{WaitingLines, SettlesAll}
use Rattle.tracing_appender_queue.specs.queued.HeldLines.{Admits, worked}

abbrev pub GoesBy : Queue → Queue → Type 0
GoesBy old new = (calls : List Call) × (new ≡ queue_after old calls)

pub record QueueGoesByCalls : Type 0 where
  pub settling : (w new : WaitingLines) (lines : List (List ℕ)) (fates : List Fate) → SettlesAll w lines fates new →
      GoesBy w.queue new.queue
  pub working : (w : WaitingLines) (k missed : ℕ) → GoesBy w.queue (worked k missed w).queue
  pub admitting : (w new : WaitingLines) (result : Result (Unit {0}) AdmitError) → Admits w result new → GoesBy w.queue new.queue
  pub marking : (q : Queue) → GoesBy q (after_mark q)
