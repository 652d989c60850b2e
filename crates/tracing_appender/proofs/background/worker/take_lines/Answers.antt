use Rattle.std.proofs.Common.{◌∙◌, ap, sym, arith, ℕ, ◌+◌, ◌-◌, ◌<◌, List, [], ◌++◌, ◌∷◌, map, vec_len, Vec}
use Rattle.std.specs.declared.alloc.Global.{Global}
use Rattle.tracing_appender_queue.specs.Queue.{Queue}
use Rattle.tracing_appender_queue.specs.worker.Batches.{lines_in, queue_in}
use Rattle.tracing_appender.proofs.background.TakenLines.{queue_turn, lines_turn, bytes_added}
use Rattle.tracing_appender.proofs.background.worker.take_lines.Goals as goal

pub loop-queue-preserved : goal.loop-queue-preserved
loop-queue-preserved c =
    let k = c.capacity-room.result in
    let i = c.loop-queue.invariant in
    let q = c.loop-queue.queue in
    let before = c.loop-queue.lines in
    let t = vec_len before in
    let line = c.in-Some.line in
    let next = c.in-Some.ensures.next.0 in
    let left = c.in-Some.ensures.next.1 in
    let grown = c.push_reserved.ensures.len in
    let lt : t < k = omega (arith, c.loop-queue-test.true, c.len.ensures) in
    let bytes = λ (xs : List (Vec ℕ Global)). map (λ (l : Vec ℕ Global). l.items) xs in
    record {
      within = omega (arith, grown, lt);
      room = c.push_reserved.ensures.capacity ∙ i.room;
      accepting = c.next_line.ensures.accepting ∙ i.accepting;
      queued =
          i.queued
          ∙ queue_turn k t lt q line.items next
          ∙ ap (λ (r : Queue). queue_in (k - (t + 1)) r) (sym left)
          ∙ ap (λ (n : ℕ). queue_in (k - n) c.next_line.new.queue) (sym grown);
      taken =
          i.taken
          ∙ ap (λ (xs : List (List ℕ)). bytes before.items ++ xs) (lines_turn k t lt q line.items next)
          ∙ sym (bytes_added before.items line _)
          ∙ ap (λ (r : Queue). bytes (before.items ++ line ∷ []) ++ lines_in (k - (t + 1)) r) (sym left)
          ∙ ap (λ (n : ℕ). bytes (before.items ++ line ∷ []) ++ lines_in (k - n) c.next_line.new.queue) (sym grown)
          ∙ ap (λ (xs : List (Vec ℕ Global)). bytes xs ++ lines_in (k - vec_len c.push_reserved.new.self) c.next_line.new.queue)
          (sym c.push_reserved.ensures.items);
    }
