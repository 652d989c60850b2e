use Rattle.std.proofs.Common.{◌≡◌, take, drop}
use Rattle.tracing_core_fields.specs.requests.PlainRequests.{plain_event}
use Rattle.span_registry_layers_layers.specs.Several.{EachInTurn}
use Rattle.span_registry_layers.specs.OutputSlots.{TellsEvent}
use Rattle.span_registry_layers.proofs.output_slots.tell_event.Given as goal

abbrev pub invariant-loop-row : goal.invariant-loop-row
invariant-loop-row g l =
    record {
      done : EachInTurn (TellsEvent g.L.Layer (plain_event l.event) l.at) l.fn.registry (take l.row-index l.fn.rows) l.registry
          (take l.row-index l.rows);
      left : drop l.row-index l.rows ≡ drop l.row-index l.fn.rows;
    }
