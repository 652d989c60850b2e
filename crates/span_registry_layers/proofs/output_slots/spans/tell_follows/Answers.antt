use Rattle.std.proofs.Common.{arith, refl}
use Rattle.span_registry_layers.specs.SpanNotices.{TellsFollows}
use Rattle.span_registry_layers_layers.proofs.EachElement.{turn_next, turns_end}
use Rattle.span_registry_layers.proofs.output_slots.spans.tell_follows.Goals as goal

pub loop-row-init : goal.loop-row-init
loop-row-init g c = record { done = refl; left = refl }

pub loop-row-preserved : goal.loop-row-preserved
loop-row-preserved g c =
    let turn = turn_next (TellsFollows g.F.Filter g.L.Layer c.args.span.now c.args.follows.now c.args.at) c.args.registry.now
    c.loop-row.registry c.follows_from.new.registry c.args.rows.now c.loop-row.rows c.loop-row.row-index c.row-item.result
    c.follows_from.new.self
    (omega arith) (omega arith) c.loop-row.invariant.done c.loop-row.invariant.left c.follows_from.ensures in
    record { done = turn.0; left = turn.1 }

pub returns : goal.returns
returns g c =
    turns_end (TellsFollows g.F.Filter g.L.Layer c.args.span.now c.args.follows.now c.args.at) c.args.registry.now c.loop-row.registry
    c.args.rows.now c.loop-row.rows c.loop-row.row-index (omega arith) (omega arith) c.loop-row.invariant.done
