-- What a worker does with the lines that it took.
use Rattle.std.specs.Prelude.{◌≡◌, ℕ, Bool, true, false, not, ◌&&◌, ◌==◌, List, [], ◌∷◌, length, Result}
use Rattle.std.specs.declared.io.Error.{Error}
use Rattle.tracing_appender_queue.specs.Queue.{Queue, mark_next}

-- there is nothing to take, and the mark is still to come
abbrev pub is_idle : Queue → Bool
is_idle q = (length q.queued == 0) && (not (mark_next q) && q.accepting)

-- the queue is closed where the mark was taken; else it accepts as before
abbrev pub Ends : Queue → Bool → Queue → Type 0
Ends q true new = new.accepting ≡ false
Ends q false new = new.accepting ≡ q.accepting

-- each line is written once, in order, whatever the writes before answered
abbrev pub WritesLines : {W : Type 0} → (W → List ℕ → Result (Unit {0}) Error → W → Type 0) → List (List ℕ) → W → W → Type 0
WritesLines writes [] old new = new ≡ old
WritesLines {W} writes (line ∷ lines) old new = (answer : Result (Unit {0}) Error) × (left : W) × writes old line answer left ×
    WritesLines writes lines left new
