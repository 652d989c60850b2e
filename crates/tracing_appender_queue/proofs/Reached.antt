-- A queue that calls led to stays one, whatever is done with it.
use Rattle.std.proofs.Common.{◌≡◌, ◌∙◌, ◌<◌, ◌&&◌, not, nat_lt, ℕ, Bool, true, false, if◌then◌else◌, List, [], ◌∷◌, ◌++◌, length, refl, sym, ap}
use Rattle.std.proofs.Common.{Vec, map, subst}
use Rattle.std.proofs.lemmas.Bool.{lt-ltb}
use Rattle.std.proofs.lemmas.List.{map-append}
use Rattle.std.specs.declared.alloc.Global.{Global}
use Rattle.tracing_appender_queue.specs.Queue.{Queue, accepts, after_take, closed, first_taken, line_taken, mark_next, marked, new_queue, one_dropped}
use Rattle.tracing_appender_queue.specs.Queue.{takes_mark, with_line}
use Rattle.tracing_appender_queue.specs.History.{Call, Offer, PutMark, Take, queue_after, queue_with}
use Rattle.tracing_appender_queue.specs.View.{IsReached}

after_more : (q : Queue) (calls : List Call) (call : Call) → queue_after q (calls ++ call ∷ []) ≡ queue_with (queue_after q calls) call
after_more q [] call = refl
after_more q (first ∷ calls) call = after_more (queue_with q first) calls call

reached_by : (call : Call) (q new : Queue) → new.limit ≡ q.limit → new.lossy ≡ q.lossy → new ≡ queue_with q call → IsReached q →
    IsReached new
reached_by call q new limit lossy is (calls, came) = (
  calls ++ call ∷ [],
  is
      ∙ ap (λ (x : Queue). queue_with x call) came
      ∙ sym (after_more (new_queue q.limit q.lossy) calls call)
      ∙ ap (λ (n : ℕ). queue_after (new_queue n q.lossy) (calls ++ call ∷ [])) (sym limit)
      ∙ ap (λ (b : Bool). queue_after (new_queue new.limit b) (calls ++ call ∷ [])) (sym lossy),
)

module _ (q new : Queue) where
  pub reached_line : (line : List ℕ) → accepts q ≡ true → new ≡ with_line q line → IsReached q → IsReached new
  reached_line line open_ is before =
      reached_by (Offer line) q new (ap (λ (x : Queue). x.limit) is) (ap (λ (x : Queue). x.lossy) is)
      (is ∙ ap (λ (b : Bool). if b then with_line q line else (if q.lossy then one_dropped q else q)) (sym open_)) before

  pub reached_drop : accepts q ≡ false → q.lossy ≡ true → new ≡ one_dropped q → IsReached q → IsReached new
  reached_drop full lossy is before =
      reached_by (Offer []) q new (ap (λ (x : Queue). x.limit) is) (ap (λ (x : Queue). x.lossy) is)
      (is
      ∙ ap (λ (b : Bool). if b then one_dropped q else q) (sym lossy)
      ∙ ap (λ (b : Bool). if b then with_line q [] else (if q.lossy then one_dropped q else q)) (sym full)) before

  pub reached_mark : q.sent ≡ false → length q.queued < q.limit → new ≡ marked q → IsReached q → IsReached new
  reached_mark fresh room is before =
      let lt : nat_lt (length q.queued) q.limit ≡ true = lt-ltb (length q.queued) q.limit room in
      let takes : takes_mark q ≡ true =
      ap (λ (b : Bool). not b && nat_lt (length q.queued) q.limit) fresh ∙ lt in
      reached_by PutMark q new (ap (λ (x : Queue). x.limit) is) (ap (λ (x : Queue). x.lossy) is)
      (is ∙ ap (λ (b : Bool). if b then marked q else q) (sym takes)) before

  pub reached_close : mark_next q ≡ true → new ≡ closed q → IsReached q → IsReached new
  reached_close head is before =
      reached_by Take q new (ap (λ (x : Queue). x.limit) is) (ap (λ (x : Queue). x.lossy) is)
      (is ∙ ap (λ (b : Bool). if b then closed q else first_taken q q.queued) (sym head)) before

  pub reached_take : (line : List ℕ) (rest : List (List ℕ)) → mark_next q ≡ false → q.queued ≡ line ∷ rest → new ≡ line_taken q rest →
      IsReached q → IsReached new
  reached_take line rest head first is before =
      reached_by Take q new (ap (λ (x : Queue). x.limit) is) (ap (λ (x : Queue). x.lossy) is)
      (is
      ∙ ap (first_taken q) (sym first)
      ∙ ap (λ (b : Bool). if b then closed q else first_taken q q.queued) (sym head)) before

-- the bytes of a deque's lines
abbrev pub bytes : List (Vec ℕ Global) → List (List ℕ)
bytes lines = map (λ (l : Vec ℕ Global). l.items) lines

-- a line was pushed behind those of a queue that takes it in, or found no memory
pub pushed : (q : Queue) (lines later : List (Vec ℕ Global)) (line : Vec ℕ Global) (ok : Bool) → q.queued ≡ bytes lines →
    later ≡ (if ok then lines ++ line ∷ [] else lines) → accepts q ≡ true → IsReached q → IsReached (record q { queued = bytes later })
pushed q lines later line true are is open_ before =
    reached_line q (record q { queued = bytes later }) line.items open_
    (ap (λ (ls : List (List ℕ)). record q { queued = ls })
    (ap bytes is ∙ map-append (λ (l : Vec ℕ Global). l.items) lines (line ∷ [])
    ∙ ap (λ (ls : List (List ℕ)). ls ++ line.items ∷ []) (sym are))) before
pushed q lines later line false are is open_ before =
    subst IsReached (ap (λ (ls : List (List ℕ)). record q { queued = ls }) (are ∙ ap bytes (sym is))) before
