use Rattle.std.proofs.Common.{◌≡◌, None, take, drop}
use Rattle.tracing_core_fields.specs.Metadata.{plain_metadata}
use Rattle.tracing_core.specs.InterestsAndHints.{Each, Joins}
use Rattle.tracing_core.proofs.hub.asking.join_each.Given as goal

abbrev pub invariant-loop-subscriber : goal.invariant-loop-subscriber
invariant-loop-subscriber g l =
    record {
      done : Each (Joins g.S.Subscriber l.all (plain_metadata l.metadata) l.index) None (take l.subscriber-index l.fn.subscribers)
          (take l.subscriber-index l.subscribers) l.interest;
      left : drop l.subscriber-index l.subscribers ≡ drop l.subscriber-index l.fn.subscribers;
    }
