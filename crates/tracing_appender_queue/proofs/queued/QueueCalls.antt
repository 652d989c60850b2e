-- Calls on a sink, as calls on its queue.
use Rattle.std.proofs.Common.{◌≡◌, ◌∙◌, refl, sym, ap, ℕ, zero, suc, Bool, true, false, if◌then◌else◌, List, [], ◌∷◌, ◌++◌, Option, Some}
use Rattle.std.proofs.Common.{None, Result, Ok, Err, inl, inr, ◌⊎◌}
use Rattle.std.proofs.lemmas.Bool.{false≢true}
use Rattle.tracing_appender_queue.specs.Queue.{Queue, accepts, with_line, one_dropped, mark_next, after_take}
use Rattle.tracing_appender_queue.specs.History.{Call, Offer, Take, PutMark, queue_with, queue_after}
use Rattle.tracing_appender_queue.specs.worker.Batches.{line_next, close_if, queue_in}
use Rattle.tracing_appender_queue.specs.worker.Batches as batches
use Rattle.tracing_appender_queue.specs.declared.queued.fate.Fate.{Fate}
use Rattle.tracing_appender_queue.specs.declared.queued.fate.Fate.TheVariants.{Queued, Dropped, Held, Lost, Missed}
use Rattle.tracing_appender_queue.specs.declared.queued.fate.AdmitError.{AdmitError}
use Rattle.tracing_appender_queue.specs.declared.queued.fate.AdmitError.TheVariants.{NothingHeld, Closed, NoRoom, OutOfMemory}
use Rattle.tracing_appender_queue.specs.queued.LineFates.{WaitingLines, SettlesAll, ComesTo, fate_of, fate_behind, settled_as, queue_as}
use Rattle.tracing_appender_queue.specs.queued.LineFates.{is_dropped}
use Rattle.tracing_appender_queue.specs.queued.HeldLines.{Admits, admits, admits_behind, moved_first, without_first}
use Rattle.tracing_appender_queue.specs.queued.QueueCalls.{GoesBy, QueueGoesByCalls}

after_append : (q : Queue) (one two : List Call) → queue_after q (one ++ two) ≡ queue_after (queue_after q one) two
after_append q [] two = refl
after_append q (c ∷ cs) two = after_append (queue_with q c) cs two

composed : (a b c : Queue) → GoesBy a b → GoesBy b c → GoesBy a c
composed a b c (one, is) (two, so) = (one ++ two, so ∙ ap (λ (q : Queue). queue_after q two) is ∙ sym (after_append a one two))

abbrev is_queued : Fate → Bool
is_queued Queued = true
is_queued Dropped = false
is_queued Held = false
is_queued Lost = false
is_queued Missed = false

was_accepted : (a l c : Bool) → is_queued (if a then Queued else (if l then Dropped else (if c then Held else Lost))) ≡ true → a ≡ true
was_accepted true l c is = refl
was_accepted false true c is = absurd (false≢true is)
was_accepted false false true is = absurd (false≢true is)
was_accepted false false false is = absurd (false≢true is)

was_refused : (a l c : Bool) → is_dropped (if a then Queued else (if l then Dropped else (if c then Held else Lost))) ≡ true →
    (a ≡ false) × (l ≡ true)
was_refused true l c is = absurd (false≢true is)
was_refused false true c is = (refl, refl)
was_refused false false true is = absurd (false≢true is)
was_refused false false false is = absurd (false≢true is)

accepted_behind : (held : List (List ℕ)) (q : Queue) → is_queued (fate_behind held q) ≡ true → accepts q ≡ true
accepted_behind [] q is = was_accepted (accepts q) q.lossy q.accepting is
accepted_behind (x ∷ xs) q is = absurd (false≢true is)

refused_behind : (held : List (List ℕ)) (q : Queue) → is_dropped (fate_behind held q) ≡ true → (accepts q ≡ false) × (q.lossy ≡ true)
refused_behind [] q is = was_refused (accepts q) q.lossy q.accepting is
refused_behind (x ∷ xs) q is = absurd (false≢true is)

-- with what was due, where that came about
due_queued : (due : Fate) → ComesTo due Queued → is_queued due ≡ true
due_queued due (inl same) = sym (ap is_queued same)
due_queued due (inr (missed, kept)) = absurd (false≢true (sym (ap is_queued missed)))

due_dropped : (due : Fate) → ComesTo due Dropped → is_dropped due ≡ true
due_dropped due (inl same) = sym (ap is_dropped same)
due_dropped due (inr (missed, kept)) = absurd (false≢true (sym (ap is_dropped missed)))

offered : (q : Queue) (line : List ℕ) → accepts q ≡ true → GoesBy q (with_line q line)
offered q line is = (Offer line ∷ [], sym (ap (λ (b : Bool). if b then with_line q line else (if q.lossy then one_dropped q else q)) is))

dropped : (q : Queue) (line : List ℕ) → accepts q ≡ false → q.lossy ≡ true → GoesBy q (one_dropped q)
dropped q line not_taken lossy = (
  Offer line ∷ [],
  sym (ap (λ (b : Bool). if b then with_line q line else (if q.lossy then one_dropped q else q)) not_taken ∙
      ap (λ (b : Bool). if b then one_dropped q else q) lossy),
)

settle_one : (w : WaitingLines) (line : List ℕ) (fate : Fate) → ComesTo (fate_of w) fate → GoesBy w.queue (queue_as fate line w.queue)
settle_one w line Queued came = offered w.queue line (accepted_behind w.held w.queue (due_queued (fate_of w) came))
settle_one w line Dropped came = let r = refused_behind w.held w.queue (due_dropped (fate_of w) came) in dropped w.queue line r.0 r.1
settle_one w line Held came = ([], refl)
settle_one w line Lost came = ([], refl)
settle_one w line Missed came = ([], refl)

settle_all : (w new : WaitingLines) (lines : List (List ℕ)) (fates : List Fate) → SettlesAll w lines fates new → GoesBy w.queue new.queue
settle_all w new [] [] is = ([], ap (λ (x : WaitingLines). x.queue) is)
settle_all w new [] (f ∷ fs) is = absurd is
settle_all w new (l ∷ ls) [] is = absurd is
settle_all w new (l ∷ ls) (f ∷ fs) (came, rest) =
    composed w.queue (queue_as f l w.queue) new.queue (settle_one w l f came) (settle_all (settled_as f l w) new ls fs rest)

closes : (b : Bool) (q : Queue) → GoesBy q (if b then after_take q else q)
closes true q = (Take ∷ [], refl)
closes false q = ([], refl)

next_goes : (rest : Queue → Queue) (q : Queue) (next : Option (List ℕ)) → ((r : Queue) → GoesBy r (rest r)) →
    GoesBy q (batches.queue_after rest q next)
next_goes rest q None goes = closes (mark_next q) q
next_goes rest q (Some line) goes = composed q (after_take q) (rest (after_take q)) (Take ∷ [], refl) (goes (after_take q))

work_goes : (k : ℕ) (q : Queue) → GoesBy q (queue_in k q)
work_goes zero q = closes (mark_next q) q
work_goes (suc k) q = next_goes (queue_in k) q (line_next q) (work_goes k)

abbrev is_done : Result (Unit {0}) AdmitError → Bool
is_done (Ok done) = true
is_done (Err e) = false

took_in : (c a : Bool) → is_done (if c then (if a then Ok tt else Err NoRoom) else Err Closed) ≡ true → a ≡ true
took_in true true is = refl
took_in true false is = absurd (false≢true is)
took_in false a is = absurd (false≢true is)

moved : (held : List (List ℕ)) (w : WaitingLines) → is_done (admits_behind held w.queue) ≡ true → GoesBy w.queue (moved_first w held).queue
moved [] w is = ([], refl)
moved (l ∷ ls) w is = offered w.queue l (took_in w.queue.accepting (accepts w.queue) is)

given_up : (held : List (List ℕ)) (w : WaitingLines) → GoesBy w.queue (without_first w held).queue
given_up [] w = ([], refl)
given_up (l ∷ ls) w = ([], refl)

along : (q new left : Queue) → new ≡ left → GoesBy q left → GoesBy q new
along q new left is (calls, so) = (calls, is ∙ so)

admit_goes : (w new : WaitingLines) (result : Result (Unit {0}) AdmitError) → Admits w result new → GoesBy w.queue new.queue
admit_goes w new (Ok done) a = along w.queue new.queue (moved_first w w.held).queue (ap (λ (x : WaitingLines). x.queue) a.left)
    (moved w.held w (fine a.answered))
  where
    fine : ((Ok done ≡ admits w) ⊎ ((Ok done ≡ Err OutOfMemory) × (admits w ≡ Ok tt))) → is_done (admits w) ≡ true
    fine (inl same) = sym (ap is_done same)
    fine (inr (no_memory, due)) = absurd (false≢true (sym (ap is_done no_memory)))
admit_goes w new (Err NothingHeld) a = ([], ap (λ (x : WaitingLines). x.queue) a.left)
admit_goes w new (Err Closed) a = along w.queue new.queue (without_first w w.held).queue (ap (λ (x : WaitingLines). x.queue) a.left)
    (given_up w.held w)
admit_goes w new (Err NoRoom) a = ([], ap (λ (x : WaitingLines). x.queue) a.left)
admit_goes w new (Err OutOfMemory) a = ([], ap (λ (x : WaitingLines). x.queue) a.left)

pub goes : QueueGoesByCalls
goes = record {
  settling = settle_all;
  working = λ w k missed. work_goes k w.queue;
  admitting = admit_goes;
  marking = λ q. (PutMark ∷ [], refl);
}
