-- What the calls of a queue answer.
use Rattle.std.specs.Prelude.{◌≡◌, ℕ, List, [], ◌∷◌, true, false, Option, Some, None}
use Rattle.tracing_appender_queue.specs.declared.state.Offered.{Offered}
use Rattle.tracing_appender_queue.specs.declared.state.Offered.TheVariants.{Accepted, Dropped, NoRoom, Closed}
use Rattle.tracing_appender_queue.specs.declared.state.Refusal.{Refusal}
use Rattle.tracing_appender_queue.specs.declared.state.Refusal.TheVariants as refusal
use Rattle.tracing_appender_queue.specs.declared.state.Settled.{Settled}
use Rattle.tracing_appender_queue.specs.declared.state.Settled.TheVariants as settled
use Rattle.tracing_appender_queue.specs.declared.state.Taken.{Taken}
use Rattle.tracing_appender_queue.specs.declared.state.Taken.TheVariants.{Line, Mark}
use Rattle.tracing_appender_queue.specs.Queue.{Queue, accepts, accepted, with_line, one_dropped, mark_next, line_taken, closed}

abbrev pub Offers : Queue → List ℕ → Offered → Queue → Type 0
Offers q line (Accepted n) new = (accepts q ≡ true) × (n ≡ accepted q) × (new ≡ with_line q line)
Offers q line Dropped new = (accepts q ≡ false) × (q.lossy ≡ true) × (new ≡ one_dropped q)
Offers q line (NoRoom back) new = (accepts q ≡ false) × (q.lossy ≡ false) × (q.accepting ≡ true) × (back.items ≡ line) × (new ≡ q)
Offers q line (Closed back) new = (accepts q ≡ false) × (q.lossy ≡ false) × (q.accepting ≡ false) × (back.items ≡ line) × (new ≡ q)

-- the same of a line that is only lent
abbrev pub Settles : Queue → List ℕ → Settled → Queue → Type 0
Settles q line (settled.Accepted n) new = (accepts q ≡ true) × (n ≡ accepted q) × (new ≡ with_line q line)
Settles q line settled.Dropped new = (accepts q ≡ false) × (q.lossy ≡ true) × (new ≡ one_dropped q)
Settles q line settled.NoRoom new = (accepts q ≡ false) × (q.lossy ≡ false) × (q.accepting ≡ true) × (new ≡ q)
Settles q line settled.Closed new = (accepts q ≡ false) × (q.lossy ≡ false) × (q.accepting ≡ false) × (new ≡ q)

-- what becomes of a line that isn't taken in
abbrev pub TurnsAway : Queue → Refusal → Queue → Type 0
TurnsAway q refusal.Dropped new = (q.lossy ≡ true) × (new ≡ one_dropped q)
TurnsAway q refusal.NoRoom new = (q.lossy ≡ false) × (q.accepting ≡ true) × (new ≡ q)
TurnsAway q refusal.Closed new = (q.lossy ≡ false) × (q.accepting ≡ false) × (new ≡ q)

-- the next line before the mark, else the mark at the head, else nothing
abbrev pub Takes : Queue → Option Taken → Queue → Type 0
Takes q (Some (Line n line)) new = (mark_next q ≡ false) × (n ≡ q.handed) ×
    ((rest : List (List ℕ)) × (q.queued ≡ line.items ∷ rest) × (new ≡ line_taken q rest))
Takes q (Some Mark) new = (mark_next q ≡ true) × (new ≡ closed q)
Takes q None new = (mark_next q ≡ false) × (q.queued ≡ []) × (new ≡ q)
