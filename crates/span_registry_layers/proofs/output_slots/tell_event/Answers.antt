use Rattle.std.proofs.Common.{arith, refl}
use Rattle.tracing_core_fields.specs.requests.PlainRequests.{plain_event}
use Rattle.span_registry_layers.specs.OutputSlots.{TellsEvent}
use Rattle.span_registry_layers_layers.proofs.EachElement.{turn_next, turns_end}
use Rattle.span_registry_layers.proofs.output_slots.tell_event.Goals as goal

pub loop-row-init : goal.loop-row-init
loop-row-init g c = record { done = refl; left = refl }

pub loop-row-preserved : goal.loop-row-preserved
loop-row-preserved g c =
    let turn = turn_next (TellsEvent g.L.Layer (plain_event c.args.event.now) c.args.at) c.args.registry.now c.loop-row.registry
    c.tell_event-in-loop-row.new.registry c.args.rows.now c.loop-row.rows c.loop-row.row-index c.row-item.result
    c.tell_event-in-loop-row.new.self
    (omega arith) (omega arith) c.loop-row.invariant.done c.loop-row.invariant.left c.tell_event-in-loop-row.ensures in
    record { done = turn.0; left = turn.1 }

pub returns : goal.returns
returns g c =
    turns_end (TellsEvent g.L.Layer (plain_event c.args.event.now) c.args.at) c.args.registry.now c.loop-row.registry c.args.rows.now
    c.loop-row.rows c.loop-row.row-index (omega arith) (omega arith) c.loop-row.invariant.done
