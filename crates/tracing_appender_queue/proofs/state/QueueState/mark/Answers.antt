use Rattle.std.proofs.Common.{◌≡◌, ◌<◌, ℕ, Vec, Some, length, arith, refl, ap, true}
use Rattle.std.proofs.Common.{rules}
use Rattle.std.proofs.lemmas.List.{length-map}
use Rattle.std.specs.declared.alloc.Global.{Global}
use Rattle.tracing_appender_queue.specs.View.{queue_of}
use Rattle.tracing_appender_queue.proofs.Reached.{reached_mark}
use Rattle.tracing_appender_queue.proofs.state.QueueState.mark.Goals as goal

pub invariant_of-self : goal.invariant_of-self
invariant_of-self c =
    let s = c.self.inside in
    let wide = length-map s.lines.items (λ (l : Vec ℕ Global). l.items) in
    let count : c.len-2.result ≡ length (queue_of s).queued = omega (arith, c.len-2.ensures, wide) in
    let room : length (queue_of s).queued < s.limit = omega (arith, c.len.ensures, c.if-len-self.false, wide) in
    record {
      room = grind arith;
      mark_in = grind arith;
      mark_sent = refl;
      none_left = c.self.invariant.none_left;
      reached = reached_mark (queue_of s) _ (search rules) room (ap (λ (n : ℕ). record (queue_of s) { mark = Some n; sent = true }) count)
          c.self.invariant.reached;
    }
