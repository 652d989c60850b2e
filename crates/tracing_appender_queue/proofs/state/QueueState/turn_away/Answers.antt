use Rattle.std.proofs.Common.{◌≡◌, refl}
use Rattle.std.proofs.Common.{rules}
use Rattle.tracing_appender_queue.specs.View.{queue_of}
use Rattle.tracing_appender_queue.proofs.Reached.{reached_drop}
use Rattle.tracing_appender_queue.proofs.state.QueueState.turn_away.Goals as goal

pub invariant_of-self : goal.invariant_of-self
invariant_of-self c =
    let s = c.self.inside in
    record {
      room = c.self.invariant.room;
      mark_in = c.self.invariant.mark_in;
      mark_sent = c.self.invariant.mark_sent;
      none_left = c.self.invariant.none_left;
      reached = reached_drop (queue_of s) _ (search rules) (search rules) (search rules) c.self.invariant.reached;
    }
