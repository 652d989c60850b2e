-- One more line that a worker takes.
use Rattle.std.proofs.Common.{◌≡◌, ◌∙◌, ap, arith, ℕ, suc, ◌+◌, ◌-◌, ◌<◌, List, [], ◌∷◌, ◌++◌, map, refl, Some, Vec}
use Rattle.std.specs.declared.alloc.Global.{Global}
use Rattle.tracing_appender_queue.specs.Queue.{Queue, after_take}
use Rattle.tracing_appender_queue.specs.worker.Batches.{line_next, lines_after, lines_in, queue_after, queue_in}

less : (k t : ℕ) → t < k → k - t ≡ suc (k - (t + 1))
less k t lt = omega (arith, lt)

module _ (k t : ℕ) (lt : t < k) (q : Queue) (line : List ℕ) (next : line_next q ≡ Some line) where
  pub queue_turn : queue_in (k - t) q ≡ queue_in (k - (t + 1)) (after_take q)
  queue_turn = ap (λ n. queue_in n q) (less k t lt) ∙ ap (queue_after (queue_in (k - (t + 1))) q) next

  pub lines_turn : lines_in (k - t) q ≡ line ∷ lines_in (k - (t + 1)) (after_take q)
  lines_turn = ap (λ n. lines_in n q) (less k t lt) ∙ ap (lines_after (lines_in (k - (t + 1))) q) next

pub bytes_added : (lines : List (Vec ℕ Global)) (line : Vec ℕ Global) (rest : List (List ℕ)) →
    map (λ (l : Vec ℕ Global). l.items) (lines ++ line ∷ []) ++ rest ≡ map (λ (l : Vec ℕ Global). l.items) lines ++ line.items ∷ rest
bytes_added [] line rest = refl
bytes_added (l ∷ ls) line rest = ap (λ xs. l.items ∷ xs) (bytes_added ls line rest)
