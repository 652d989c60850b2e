use Rattle.std.proofs.Common.{◌≡◌, refl}
use Rattle.std.proofs.Common.{rules, arith}
use Rattle.std.proofs.lemmas.Grind.{common_steps}
use Rattle.tracing_appender_queue.specs.View.{queue_of}
use Rattle.tracing_appender_queue.proofs.Reached.{pushed}
use Rattle.tracing_appender_queue.proofs.state.QueueState.settle.Goals as goal

pub invariant_of-self-2 : goal.invariant_of-self-2
invariant_of-self-2 c =
    let s = c.self.inside in
    record {
      room = grind (arith, common_steps);
      mark_in = grind (arith, common_steps);
      mark_sent = c.self.invariant.mark_sent;
      none_left = c.self.invariant.none_left;
      reached = pushed (queue_of s) s.lines.items c.push_back.new.self.items c.in_ok-copy.copy _ refl c.push_back.ensures.items (search rules)
          c.self.invariant.reached;
    }
