-- What becomes of a line that comes to a queue with lines held beside it.
use Rattle.std.specs.Prelude.{◌≡◌, ◌⊎◌, ℕ, ◌+◌, ◌^◌, ◌-◌, min, Bool, true, false, if◌then◌else◌, List, [], ◌∷◌, ◌++◌}
use Rattle.tracing_appender_queue.specs.Queue.{Queue, accepts, with_line, one_dropped}
use Rattle.tracing_appender_queue.specs.declared.queued.fate.Fate.{Fate}
use Rattle.tracing_appender_queue.specs.declared.queued.fate.Fate.TheVariants.{Queued, Dropped, Held, Lost, Missed}

-- a queue, and what stands beside it
pub record WaitingLines : Type 0 where
  pub queue : Queue
  -- lines that it had no room for, in order
  pub held : List (List ℕ)
  -- how many lines it lost, as it was waiting and closed
  pub lost : ℕ
  -- how many lines found no memory; both counts stop at the greatest number
  pub missed : ℕ

abbrev pub more : ℕ → ℕ → ℕ
more count n = min (count + n) (2 ^ 64 - 1)

abbrev pub more_if : Bool → ℕ → ℕ
more_if true count = more count 1
more_if false count = count

abbrev pub is_lost : Fate → Bool
is_lost Queued = false
is_lost Dropped = false
is_lost Held = false
is_lost Lost = true
is_lost Missed = false

abbrev pub is_missed : Fate → Bool
is_missed Queued = false
is_missed Dropped = false
is_missed Held = false
is_missed Lost = false
is_missed Missed = true

abbrev pub is_dropped : Fate → Bool
is_dropped Queued = false
is_dropped Dropped = true
is_dropped Held = false
is_dropped Lost = false
is_dropped Missed = false

-- The queue takes it in exactly where it accepts. Else a lossy one drops it; a waiting one holds it while it is accepting, and loses it
-- once it is closed.
abbrev pub fate_at : Queue → Fate
fate_at q = if accepts q then Queued else (if q.lossy then Dropped else (if q.accepting then Held else Lost))

-- a line that finds held lines is held
abbrev pub fate_behind : List (List ℕ) → Queue → Fate
fate_behind [] q = fate_at q
fate_behind (line ∷ lines) q = Held

-- what becomes of the next line where there is memory for it
abbrev pub fate_of : WaitingLines → Fate
fate_of w = fate_behind w.held w.queue

-- which lines are kept, and so want memory
abbrev pub is_kept : Fate → Bool
is_kept Queued = true
is_kept Dropped = false
is_kept Held = true
is_kept Lost = false
is_kept Missed = false

-- that came about; or the line was to be kept, and found no memory
abbrev pub ComesTo : Fate → Fate → Type 0
ComesTo due fate = (fate ≡ due) ⊎ ((fate ≡ Missed) × (is_kept due ≡ true))

-- what a line of that fate makes of the queue
abbrev pub queue_as : Fate → List ℕ → Queue → Queue
queue_as Queued line q = with_line q line
queue_as Dropped line q = one_dropped q
queue_as Held line q = q
queue_as Lost line q = q
queue_as Missed line q = q

-- and of the held lines
abbrev pub held_as : Fate → List ℕ → List (List ℕ) → List (List ℕ)
held_as Queued line held = held
held_as Dropped line held = held
held_as Held line held = held ++ line ∷ []
held_as Lost line held = held
held_as Missed line held = held

abbrev pub settled_as : Fate → List ℕ → WaitingLines → WaitingLines
settled_as fate line w = record {
  queue = queue_as fate line w.queue;
  held = held_as fate line w.held;
  lost =
      more_if (is_lost fate) w.lost;
  missed = more_if (is_missed fate) w.missed;
}

-- A line came to the queue, and this became of it.
pub record SettlesLine (w : WaitingLines) (line : List ℕ) (fate : Fate) (new : WaitingLines) : Type 0 where
  pub came : ComesTo (fate_of w) fate
  pub left : new ≡ settled_as fate line w

-- lines one after another, and what became of each
abbrev pub SettlesAll : WaitingLines → List (List ℕ) → List Fate → WaitingLines → Type 0
SettlesAll w [] [] new = new ≡ w
SettlesAll w [] (fate ∷ fates) new = ⊥
SettlesAll w (line ∷ lines) [] new = ⊥
SettlesAll w (line ∷ lines) (fate ∷ fates) new = ComesTo (fate_of w) fate × SettlesAll (settled_as fate line w) lines fates new

abbrev pub lost_in : List Fate → ℕ
lost_in [] = 0
lost_in (fate ∷ fates) = (if is_lost fate then 1 else 0) + lost_in fates

abbrev pub missed_in : List Fate → ℕ
missed_in [] = 0
missed_in (fate ∷ fates) = (if is_missed fate then 1 else 0) + missed_in fates

abbrev pub dropped_in : List Fate → ℕ
dropped_in [] = 0
dropped_in (fate ∷ fates) = (if is_dropped fate then 1 else 0) + dropped_in fates
