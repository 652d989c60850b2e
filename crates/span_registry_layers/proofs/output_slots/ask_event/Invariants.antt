use Rattle.std.proofs.Common.{◌≡◌, take, drop}
use Rattle.tracing_core_fields.specs.requests.PlainRequests.{plain_event}
use Rattle.span_registry_layers.specs.OutputSlots.{AsksEvent, EachBecomes}
use Rattle.span_registry_layers.proofs.output_slots.ask_event.Given as goal

abbrev pub invariant-loop-row : goal.invariant-loop-row
invariant-loop-row g l =
    record {
      same : l.registry ≡ l.fn.registry;
      done : EachBecomes (AsksEvent g.F.Filter (plain_event l.event) l.at l.fn.registry) (take l.row-index l.fn.rows)
          (take l.row-index l.rows);
      left : drop l.row-index l.rows ≡ drop l.row-index l.fn.rows;
    }
