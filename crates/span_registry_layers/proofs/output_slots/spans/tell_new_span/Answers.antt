use Rattle.std.proofs.Common.{arith, refl}
use Rattle.tracing_core_fields.specs.requests.PlainRequests.{plain_attributes}
use Rattle.span_registry_layers_layers.specs.FilterViews.{SpanMade}
use Rattle.span_registry_layers.specs.SpanNotices.{TellsMade}
use Rattle.span_registry_layers_layers.proofs.EachElement.{turn_next, turns_end}
use Rattle.span_registry_layers.proofs.output_slots.spans.tell_new_span.Goals as goal

pub loop-row-init : goal.loop-row-init
loop-row-init g c = record { done = refl; left = refl }

pub loop-row-preserved : goal.loop-row-preserved
loop-row-preserved g c =
    let turn = turn_next (TellsMade g.F.Filter g.L.Layer (SpanMade (plain_attributes c.args.attributes.now) c.args.span.now) c.args.span.now
    c.args.at) c.args.registry.now c.loop-row.registry c.new_span.new.registry c.args.rows.now c.loop-row.rows c.loop-row.row-index
    c.row-item.result c.new_span.new.self
    (omega arith) (omega arith) c.loop-row.invariant.done c.loop-row.invariant.left c.new_span.ensures in
    record { done = turn.0; left = turn.1 }

pub returns : goal.returns
returns g c =
    turns_end (TellsMade g.F.Filter g.L.Layer (SpanMade (plain_attributes c.args.attributes.now) c.args.span.now) c.args.span.now c.args.at)
    c.args.registry.now c.loop-row.registry c.args.rows.now c.loop-row.rows c.loop-row.row-index (omega arith) (omega arith)
    c.loop-row.invariant.done
