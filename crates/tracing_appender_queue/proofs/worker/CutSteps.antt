-- Steps that are cut in two, and the lines that they take.
use Rattle.std.proofs.Common.{◌≡◌, ℕ, zero, suc, ◌+◌, Bool, true, false, List, [], ◌∷◌, ◌++◌, take, refl, ap, sym, ◌∙◌, arith, cond, Option}
use Rattle.std.proofs.Common.{Some, None}
use Rattle.std.proofs.Math.Dec.{eqb-suc-zero}
use Rattle.tracing_appender_rolling.specs.Sinks.{with_handed}
use Rattle.tracing_appender_queue.specs.Queue.{Queue, at_head, one_less, mark_next, line_taken, closed, first_taken, after_take}
use Rattle.tracing_appender_queue.specs.worker.Batches.{first_of, line_next, close_if, lines_after, lines_in, queue_after, queue_in}
use Rattle.tracing_appender_queue.specs.worker.Batches.{before_mark, FirstLines, MayBeCut}
use Rattle.tracing_appender_queue.specs.worker.Steps.{SinksMayBeCut}

-- a step over a queue whose next line is known
pub lines_step : (k : ℕ) (q : Queue) (n : Option (List ℕ)) → line_next q ≡ n → lines_in (suc k) q ≡ lines_after (lines_in k) q n
lines_step k q n e = ap (lines_after (lines_in k) q) e

pub queue_step : (k : ℕ) (q : Queue) (n : Option (List ℕ)) → line_next q ≡ n → queue_in (suc k) q ≡ queue_after (queue_in k) q n
queue_step k q n e = ap (queue_after (queue_in k) q) e

-- where no line is next nothing is taken
pub lines_none : (k : ℕ) (q : Queue) → line_next q ≡ None → lines_in k q ≡ []
lines_none zero q e = refl
lines_none (suc k) q e = lines_step k q None e

pub queue_none : (k : ℕ) (q : Queue) → line_next q ≡ None → queue_in k q ≡ close_if q
queue_none zero q e = refl
queue_none (suc k) q e = queue_step k q None e

pub queue_none_left : (k : ℕ) (q : Queue) → k ≡ 0 → queue_in k q ≡ close_if q
queue_none_left k q none = ap (λ n. queue_in n q) none

-- a queue that was closed, or had no mark at its head
close_cases : (q : Queue) (b : Bool) → mark_next q ≡ b → cond b (close_if q ≡ closed q) (close_if q ≡ q)
close_cases q true e = ap (λ b. cond b (cond b (closed q) (first_taken q q.queued)) q) e
close_cases q false e = ap (λ b. cond b (after_take q) q) e

next_at_mark : (q : Queue) → mark_next q ≡ true → line_next q ≡ None
next_at_mark q e = ap (λ b. cond b None (first_of q.queued)) e

lines_close_by : (k : ℕ) (q : Queue) (b : Bool) → mark_next q ≡ b → lines_in k (close_if q) ≡ lines_in k q
lines_close_by k q true e = ap (lines_in k) (close_cases q true e) ∙ lines_none k (closed q) refl ∙ sym (lines_none k q (next_at_mark q e))
lines_close_by k q false e = ap (lines_in k) (close_cases q false e)

queue_close_by : (k : ℕ) (q : Queue) (b : Bool) → mark_next q ≡ b → queue_in k (close_if q) ≡ queue_in k q
queue_close_by k q true e = ap (queue_in k) (close_cases q true e) ∙ queue_none k (closed q) refl ∙ sym (close_cases q true e) ∙
    sym (queue_none k q (next_at_mark q e))
queue_close_by k q false e = ap (queue_in k) (close_cases q false e)

lines_close : (k : ℕ) (q : Queue) → lines_in k (close_if q) ≡ lines_in k q
lines_close k q = lines_close_by k q (mark_next q) refl

queue_close : (k : ℕ) (q : Queue) → queue_in k (close_if q) ≡ queue_in k q
queue_close k q = queue_close_by k q (mark_next q) refl

plus : (j k : ℕ) → suc j + k ≡ suc (j + k)
plus j k = omega arith

none_plus : (k : ℕ) → 0 + k ≡ k
none_plus k = omega arith

lines_cut_by : (j k : ℕ) (q : Queue) (n : Option (List ℕ)) → line_next q ≡ n →
    lines_in (j + k) (after_take q) ≡ lines_in j (after_take q) ++ lines_in k (queue_in j (after_take q)) →
    lines_in (suc j + k) q ≡ lines_in (suc j) q ++ lines_in k (queue_in (suc j) q)
lines_cut_by j k q None e more =
    lines_none (suc j + k) q e
    ∙ sym (ap (λ xs. xs ++ lines_in k (queue_in (suc j) q)) (lines_none (suc j) q e) ∙ ap (lines_in k) (queue_none (suc j) q e) ∙
    lines_close k q ∙ lines_none k q e)
lines_cut_by j k q (Some line) e more =
    ap (λ n. lines_in n q) (plus j k)
    ∙ lines_step (j + k) q (Some line) e
    ∙ ap (λ xs. line ∷ xs) more
    ∙ sym (ap (λ xs. xs ++ lines_in k (queue_in (suc j) q)) (lines_step j q (Some line) e) ∙
    ap (λ (r : Queue). (line ∷ lines_in j (after_take q)) ++ lines_in k r) (queue_step j q (Some line) e))

lines_cut : (j k : ℕ) (q : Queue) → lines_in (j + k) q ≡ lines_in j q ++ lines_in k (queue_in j q)
lines_cut zero k q = ap (λ n. lines_in n q) (none_plus k) ∙ sym (lines_close k q)
lines_cut (suc j) k q = lines_cut_by j k q (line_next q) refl (lines_cut j k (after_take q))

queue_cut_by : (j k : ℕ) (q : Queue) (n : Option (List ℕ)) → line_next q ≡ n →
    queue_in (j + k) (after_take q) ≡ queue_in k (queue_in j (after_take q)) → queue_in (suc j + k) q ≡ queue_in k (queue_in (suc j) q)
queue_cut_by j k q None e more = queue_none (suc j + k) q e ∙
    sym (ap (queue_in k) (queue_none (suc j) q e) ∙ queue_close k q ∙ queue_none k q e)
queue_cut_by j k q (Some line) e more =
    ap (λ n. queue_in n q) (plus j k) ∙ queue_step (j + k) q (Some line) e ∙ more ∙ sym (ap (queue_in k) (queue_step j q (Some line) e))

queue_cut : (j k : ℕ) (q : Queue) → queue_in (j + k) q ≡ queue_in k (queue_in j q)
queue_cut zero k q = ap (λ n. queue_in n q) (none_plus k) ∙ sym (queue_close k q)
queue_cut (suc j) k q = queue_cut_by j k q (line_next q) refl (queue_cut j k (after_take q))

pub cut : MayBeCut
cut j k q = (lines_cut j k q, queue_cut j k q)

pub sinks_cut : SinksMayBeCut
sinks_cut s [] second m = refl
sinks_cut s (line ∷ first) second m = sinks_cut (with_handed s (record { line = line; moment = m })) first second m

-- the first lines
next_is : (q : Queue) (m : Option ℕ) (ls : List (List ℕ)) → q.mark ≡ m → q.queued ≡ ls → line_next q ≡ cond (at_head m) None (first_of ls)
next_is q m ls e f = ap (λ x. cond (at_head x) None (first_of q.queued)) e ∙ ap (λ ys. cond (at_head m) None (first_of ys)) f

taken_is : (q : Queue) (m : Option ℕ) (l : List ℕ) (ls : List (List ℕ)) → q.mark ≡ m → at_head m ≡ false → q.queued ≡ l ∷ ls →
    after_take q ≡ line_taken q ls
taken_is q m l ls e h f = ap (λ b. cond b (closed q) (first_taken q q.queued)) (ap at_head e ∙ h) ∙ ap (first_taken q) f

one_more : (k : ℕ) (q : Queue) (m : Option ℕ) (l : List ℕ) (ls rest : List (List ℕ)) → q.mark ≡ m → at_head m ≡ false → q.queued ≡ l ∷ ls →
    lines_in k (line_taken q ls) ≡ rest → lines_in (suc k) q ≡ l ∷ rest
one_more k q m l ls rest e h f more =
    lines_step k q (Some l) (next_is q m (l ∷ ls) e f ∙ ap (λ b. cond b None (Some l)) h) ∙
    ap (λ r. l ∷ lines_in k r) (taken_is q m l ls e h f) ∙ ap (λ xs. l ∷ xs) more

not_head : (n : ℕ) → at_head (Some (suc n)) ≡ false
not_head n = eqb-suc-zero n

firsts : (k : ℕ) (q : Queue) (m : Option ℕ) (ls : List (List ℕ)) → q.mark ≡ m → q.queued ≡ ls → lines_in k q ≡ take k (before_mark m ls)
firsts zero q m ls e f = refl
firsts (suc k) q None [] e f = lines_none (suc k) q (next_is q None [] e f)
firsts (suc k) q None (l ∷ ls) e f = one_more k q None l ls (take k ls) e refl f (firsts k (line_taken q ls) None ls (ap one_less e) refl)
firsts (suc k) q (Some zero) ls e f = lines_none (suc k) q (next_is q (Some zero) ls e f)
firsts (suc k) q (Some (suc n)) [] e f = lines_none (suc k) q (next_is q (Some (suc n)) [] e f ∙ ap (λ b. cond b None None) (not_head n))
firsts (suc k) q (Some (suc n)) (l ∷ ls) e f =
    one_more k q (Some (suc n)) l ls (take k (take n ls)) e (not_head n) f
    (firsts k (line_taken q ls) (Some n) ls (ap one_less e ∙ ap Some (omega arith)) refl)

pub first_lines : FirstLines
first_lines k q = firsts k q q.mark q.queued refl refl
