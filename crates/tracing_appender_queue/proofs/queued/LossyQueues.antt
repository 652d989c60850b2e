-- A step of a worker leaves a queue lossy or waiting, as it was.
use Rattle.std.proofs.Common.{◌≡◌, ◌∙◌, refl, ℕ, zero, suc, Bool, true, false, if◌then◌else◌, List, [], ◌∷◌, Option, Some, None}
use Rattle.tracing_appender_queue.specs.Queue.{Queue, mark_next, closed, first_taken, after_take}
use Rattle.tracing_appender_queue.specs.worker.Batches.{line_next, close_if, queue_after, queue_in}

either : (b : Bool) (x y q : Queue) → x.lossy ≡ q.lossy → y.lossy ≡ q.lossy → (if b then x else y).lossy ≡ q.lossy
either true x y q one other = one
either false x y q one other = other

first_lossy : (q : Queue) (lines : List (List ℕ)) → (first_taken q lines).lossy ≡ q.lossy
first_lossy q [] = refl
first_lossy q (line ∷ lines) = refl

take_lossy : (q : Queue) → (after_take q).lossy ≡ q.lossy
take_lossy q = either (mark_next q) (closed q) (first_taken q q.queued) q refl (first_lossy q q.queued)

close_lossy : (q : Queue) → (close_if q).lossy ≡ q.lossy
close_lossy q = either (mark_next q) (after_take q) q q (take_lossy q) refl

after_lossy : (rest : Queue → Queue) (q : Queue) (next : Option (List ℕ)) → ((r : Queue) → (rest r).lossy ≡ r.lossy) →
    (queue_after rest q next).lossy ≡ q.lossy
after_lossy rest q None same = close_lossy q
after_lossy rest q (Some line) same = same (after_take q) ∙ take_lossy q

pub stays_lossy : (k : ℕ) (q : Queue) → (queue_in k q).lossy ≡ q.lossy
stays_lossy zero q = close_lossy q
stays_lossy (suc k) q = after_lossy (queue_in k) q (line_next q) (stays_lossy k)
