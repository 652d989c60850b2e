use Rattle.std.proofs.Common.{arith, refl}
use Rattle.span_registry_layers.specs.SpanNotices.{TellsSpan}
use Rattle.span_registry_layers.specs.SpanSteps.{hook_of}
use Rattle.span_registry_layers_layers.proofs.EachElement.{turn_next, turns_end}
use Rattle.span_registry_layers.proofs.output_slots.spans.tell_step.Goals as goal

pub loop-row-init : goal.loop-row-init
loop-row-init g c = record { done = refl; left = refl }

pub loop-row-preserved : goal.loop-row-preserved
loop-row-preserved g c =
    let turn = turn_next (TellsSpan g.F.Filter g.L.Layer (hook_of c.args.step c.args.span.now) c.args.span.now c.args.at)
    c.args.registry.now c.loop-row.registry c.step.new.registry c.args.rows.now c.loop-row.rows c.loop-row.row-index c.row-item.result
    c.step.new.self
    (omega arith) (omega arith) c.loop-row.invariant.done c.loop-row.invariant.left c.step.ensures in
    record { done = turn.0; left = turn.1 }

pub returns : goal.returns
returns g c =
    turns_end (TellsSpan g.F.Filter g.L.Layer (hook_of c.args.step c.args.span.now) c.args.span.now c.args.at) c.args.registry.now
    c.loop-row.registry c.args.rows.now c.loop-row.rows c.loop-row.row-index (omega arith) (omega arith) c.loop-row.invariant.done
