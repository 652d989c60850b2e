use Rattle.std.proofs.Common.{◌+◌, ap, arith, refl}
use Rattle.tracing_core.specs.InterestsAndHints.{RowAsked}
use Rattle.tracing_core.proofs.EachElement.{each_next, each_end}
use Rattle.tracing_core.proofs.hub.asking.ask_callsites.Goals as goal

pub loop-callsite-init : goal.loop-callsite-init
loop-callsite-init g c = record { counted = refl; done = refl; left = refl }

pub loop-callsite-preserved : goal.loop-callsite-preserved
loop-callsite-preserved g c =
    let turn = each_next (RowAsked g.S.Subscriber g.C.Callsite c.args.all) (0, c.args.subscribers.now)
    (c.loop-callsite.index, c.loop-callsite.subscribers) (c.loop-callsite.index + 1, c.ask.new.subscribers)
    c.args.callsites.now c.loop-callsite.callsites c.loop-callsite.callsite-index c.callsite-item.result c.ask.new.self
    (omega arith) (omega arith) c.loop-callsite.invariant.done c.loop-callsite.invariant.left (refl, c.ask.ensures) in
    record { counted = ap (λ n. n + 1) c.loop-callsite.invariant.counted; done = turn.0; left = turn.1 }

pub returns : goal.returns
returns g c = (
  c.loop-callsite.index,
  each_end (RowAsked g.S.Subscriber g.C.Callsite c.args.all) (0, c.args.subscribers.now) (c.loop-callsite.index, c.loop-callsite.subscribers)
      c.args.callsites.now c.loop-callsite.callsites c.loop-callsite.callsite-index
      (omega arith) (omega arith) c.loop-callsite.invariant.done,
)
