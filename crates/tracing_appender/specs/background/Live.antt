-- What becomes of a line that comes to a queue whose lines are written elsewhere.
use Rattle.std.specs.Prelude.{◌≡◌, ℕ, List, [], ◌∷◌, ◌++◌, map}
use Rattle.tracing_appender.specs.declared.background.live.RecordedQueue.{RecordedQueue}
use Rattle.tracing_appender_queue.specs.declared.queued.fate.Fate.{Fate}
use Rattle.tracing_appender_queue.specs.declared.queued.fate.Fate.TheVariants.{Queued, Dropped, Held, Lost, Missed}

-- the lines that came
abbrev pub recorded : RecordedQueue → List (List ℕ)
recorded q = map (λ line. line.items) q.lines.items

-- it stands behind the others, or found no memory
abbrev pub Records : RecordedQueue → List ℕ → Fate → RecordedQueue → Type 0
Records old line Queued new = recorded new ≡ recorded old ++ line ∷ []
Records old line Dropped new = ⊥
Records old line Held new = ⊥
Records old line Lost new = ⊥
Records old line Missed new = recorded new ≡ recorded old

-- lines came one after another, and this became of each
abbrev pub SettlesEach : {Q : Type 0} → (Q → List ℕ → Fate → Q → Type 0) → List (List ℕ) → List Fate → Q → Q → Type 0
SettlesEach settles [] [] old new = new ≡ old
SettlesEach settles [] (fate ∷ fates) old new = ⊥
SettlesEach settles (line ∷ lines) [] old new = ⊥
SettlesEach {Q} settles (line ∷ lines) (fate ∷ fates) old new =
    (mid : Q) × settles old line fate mid × SettlesEach settles lines fates mid new
