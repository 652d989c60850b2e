-- What becomes of the lines of a sender, in a hold of the queue's lock.
use Rattle.std.specs.Prelude.{◌≡◌, ⊤, ℕ, Bool, not, ◌&&◌, false, List, [], ◌∷◌, Result, Ok, Err}
use Rattle.std.specs.IoError.{error_kind}
use Rattle.std.specs.declared.io.Error.{Error}
use Rattle.std.specs.declared.io.ErrorKind.{ErrorKind}
use Rattle.std.specs.declared.io.ErrorKind.TheVariants as kind
use Rattle.tracing_appender_queue.specs.Queue.{Queue, accepts}
use Rattle.tracing_appender_queue.specs.declared.queued.fate.Fate.{Fate}
use Rattle.tracing_appender_queue.specs.declared.queued.fate.Fate.TheVariants.{Queued, Dropped, Held, Lost, Missed}
use Rattle.tracing_appender_queue.specs.queued.LineFates.{ComesTo, fate_at, queue_as}

-- the queue doesn't drop lines, isn't closed and has no room
abbrev pub must_wait : Queue → Bool
must_wait q = not q.lossy && (q.accepting && not (accepts q))

-- Where nobody has to wait the queue is as it was. Else the lock was given up, and it is taken again once nobody has to wait.
pub record WaitsUntil (q new : Queue) : Type 0 where
  pub ready : must_wait new ≡ false
  pub same : must_wait q ≡ false → new ≡ q

-- the line was offered once nobody had to wait, and this became of it
pub record SendsLine (q : Queue) (line : List ℕ) (fate : Fate) (new : Queue) : Type 0 where
  pub ready : Queue
  pub waited : WaitsUntil q ready
  pub came : ComesTo (fate_at ready) fate
  pub left : new ≡ queue_as fate line ready

-- lines one after another, and what became of each
abbrev pub SendsAll : Queue → List (List ℕ) → List Fate → Queue → Type 0
SendsAll q [] [] new = new ≡ q
SendsAll q [] (fate ∷ fates) new = ⊥
SendsAll q (line ∷ lines) [] new = ⊥
SendsAll q (line ∷ lines) (fate ∷ fates) new = (left : Queue) × SendsLine q line fate left × SendsAll left lines fates new

abbrev pub HasKind : ErrorKind → Result ℕ Error → Type 0
HasKind k (Ok n) = ⊥
HasKind k (Err error) = error_kind error ≡ k

-- what a write of so many bytes answers
abbrev pub TellsFate : ℕ → Fate → Result ℕ Error → Type 0
TellsFate len Queued answer = answer ≡ Ok len
TellsFate len Dropped answer = answer ≡ Ok len
TellsFate len Held answer = ⊤
TellsFate len Lost answer = HasKind kind.Other answer
TellsFate len Missed answer = HasKind kind.OutOfMemory answer
