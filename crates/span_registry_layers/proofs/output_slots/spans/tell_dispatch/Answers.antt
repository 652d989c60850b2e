use Rattle.std.proofs.Common.{arith, refl}
use Rattle.span_registry_layers.specs.SpanNotices.{TellsDispatch}
use Rattle.span_registry_layers.proofs.EachElement.{becomes_next, becomes_end}
use Rattle.span_registry_layers.proofs.output_slots.spans.tell_dispatch.Goals as goal

pub loop-row-init : goal.loop-row-init
loop-row-init g c = record { done = tt; left = refl }

pub loop-row-preserved : goal.loop-row-preserved
loop-row-preserved g c =
    let turn = becomes_next (TellsDispatch g.F.Filter g.L.Layer c.args.dispatch.now) c.args.rows.now c.loop-row.rows c.loop-row.row-index
    c.row-item.result c.dispatch.new.self
    (omega arith) (omega arith) c.loop-row.invariant.done c.loop-row.invariant.left c.dispatch.ensures in
    record { done = turn.0; left = turn.1 }

pub returns : goal.returns
returns g c =
    becomes_end (TellsDispatch g.F.Filter g.L.Layer c.args.dispatch.now) c.args.rows.now c.loop-row.rows c.loop-row.row-index
    (omega arith) (omega arith) c.loop-row.invariant.done
