use Rattle.std.proofs.Common.{None, arith, refl}
use Rattle.tracing_core_fields.specs.Metadata.{plain_metadata}
use Rattle.tracing_core.specs.InterestsAndHints.{Joins}
use Rattle.tracing_core.proofs.EachElement.{each_next, each_end}
use Rattle.tracing_core.proofs.hub.asking.join_each.Goals as goal

pub loop-subscriber-init : goal.loop-subscriber-init
loop-subscriber-init g c = record { done = refl; left = refl }

pub loop-subscriber-preserved : goal.loop-subscriber-preserved
loop-subscriber-preserved g c =
    let turn = each_next (Joins g.S.Subscriber c.args.all (plain_metadata c.args.metadata.now) c.args.index) None c.loop-subscriber.interest
    c.join-interest.result
    c.args.subscribers.now c.loop-subscriber.subscribers c.loop-subscriber.subscriber-index c.subscriber-item.result
    c.join-interest.new.self
    (omega arith) (omega arith) c.loop-subscriber.invariant.done c.loop-subscriber.invariant.left c.join-interest.ensures in
    record { done = turn.0; left = turn.1 }

pub returns : goal.returns
returns g c =
    each_end (Joins g.S.Subscriber c.args.all (plain_metadata c.args.metadata.now) c.args.index) None c.loop-subscriber.interest
    c.args.subscribers.now c.loop-subscriber.subscribers c.loop-subscriber.subscriber-index
    (omega arith) (omega arith) c.loop-subscriber.invariant.done
