use Rattle.std.proofs.Common.{arith, refl}
use Rattle.tracing_core.specs.InterestsAndHints.{Raises}
use Rattle.tracing_core.proofs.EachElement.{each_next, each_end}
use Rattle.tracing_core.proofs.hub.asking.ask_hints.Goals as goal

pub loop-subscriber-init : goal.loop-subscriber-init
loop-subscriber-init g c = record { done = refl; left = refl }

pub loop-subscriber-preserved : goal.loop-subscriber-preserved
loop-subscriber-preserved g c =
    let turn = each_next (Raises g.S.Subscriber c.args.all) 0 c.loop-subscriber.greatest c.raise-greatest.result
    c.args.subscribers.now c.loop-subscriber.subscribers c.loop-subscriber.subscriber-index c.subscriber-item.result
    c.raise-greatest.new.self
    (omega arith) (omega arith) c.loop-subscriber.invariant.done c.loop-subscriber.invariant.left c.raise-greatest.ensures in
    record { done = turn.0; left = turn.1 }

pub returns : goal.returns
returns g c =
    each_end (Raises g.S.Subscriber c.args.all) 0 c.loop-subscriber.greatest c.args.subscribers.now c.loop-subscriber.subscribers
    c.loop-subscriber.subscriber-index
    (omega arith) (omega arith) c.loop-subscriber.invariant.done
