-- The first held line, and a step of a worker.
use Rattle.std.specs.Prelude.{◌≡◌, ◌⊎◌, ℕ, Bool, true, false, List, [], ◌∷◌, if◌then◌else◌, Result, Ok, Err}
use Rattle.tracing_appender_queue.specs.Queue.{Queue, accepts, with_line}
use Rattle.tracing_appender_queue.specs.worker.Batches.{queue_in}
use Rattle.tracing_appender_queue.specs.declared.queued.fate.AdmitError.{AdmitError}
use Rattle.tracing_appender_queue.specs.declared.queued.fate.AdmitError.TheVariants.{NothingHeld, Closed, NoRoom, OutOfMemory}
use Rattle.tracing_appender_queue.specs.queued.LineFates.{WaitingLines, more}

abbrev pub is_some_line : List (List ℕ) → Bool
is_some_line [] = false
is_some_line (line ∷ lines) = true

-- nothing waits yet
abbrev pub nothing_at : Queue → WaitingLines
nothing_at q = record { queue = q; held = []; lost = 0; missed = 0 }

abbrev pub admits_at : Queue → Result (Unit {0}) AdmitError
admits_at q = if q.accepting then (if accepts q then Ok tt else Err NoRoom) else Err Closed

abbrev pub admits_behind : List (List ℕ) → Queue → Result (Unit {0}) AdmitError
admits_behind [] q = Err NothingHeld
admits_behind (line ∷ lines) q = admits_at q

-- what is answered where there is memory: nothing is held; or the queue is closed; or it has no room; or the first held line is taken in
abbrev pub admits : WaitingLines → Result (Unit {0}) AdmitError
admits w = admits_behind w.held w.queue

-- the first held line goes into the queue
abbrev pub moved_first : WaitingLines → List (List ℕ) → WaitingLines
moved_first w [] = w
moved_first w (line ∷ lines) = record w { queue = with_line w.queue line; held = lines }

-- it is given up
abbrev pub without_first : WaitingLines → List (List ℕ) → WaitingLines
without_first w [] = w
without_first w (line ∷ lines) = record w { held = lines }

-- a refusal changes nothing, save that a closed queue gives up the first held line
abbrev pub admitted_as : Result (Unit {0}) AdmitError → WaitingLines → WaitingLines
admitted_as (Ok done) w = moved_first w w.held
admitted_as (Err NothingHeld) w = w
admitted_as (Err Closed) w = without_first w w.held
admitted_as (Err NoRoom) w = w
admitted_as (Err OutOfMemory) w = w

-- The first held line was offered: it was answered so, or there was no memory to take it in.
pub record Admits (w : WaitingLines) (result : Result (Unit {0}) AdmitError) (new : WaitingLines) : Type 0 where
  pub answered : (result ≡ admits w) ⊎ ((result ≡ Err OutOfMemory) × (admits w ≡ Ok tt))
  pub left : new ≡ admitted_as result w

-- a worker's step took so many lines, and so many of these found no memory
abbrev pub worked : ℕ → ℕ → WaitingLines → WaitingLines
worked k missed w = record w { queue = queue_in k w.queue; missed = more w.missed missed }
