use Rattle.std.proofs.Common.{◌≡◌, ◌≤◌, ◌-◌, ◌++◌, map, vec_capacity, vec_len}
use Rattle.tracing_appender_queue.specs.worker.Batches.{lines_in, queue_in}
use Rattle.tracing_appender.proofs.background.worker.take_lines.Given as goal

abbrev pub invariant-loop-queue : goal.invariant-loop-queue
invariant-loop-queue l = record {
  within : vec_len l.lines ≤ l.room;
  room : vec_capacity l.lines ≡ l.room;
  accepting : l.queue.accepting ≡ l.fn.queue.accepting;
  queued : queue_in l.room l.fn.queue ≡ queue_in (l.room - vec_len l.lines) l.queue;
  taken : lines_in l.room l.fn.queue ≡ map (λ line. line.items) l.lines.items ++ lines_in (l.room - vec_len l.lines) l.queue;
}

abbrev pub decreases-loop-queue : goal.decreases-loop-queue
decreases-loop-queue l = l.room - vec_len l.lines
