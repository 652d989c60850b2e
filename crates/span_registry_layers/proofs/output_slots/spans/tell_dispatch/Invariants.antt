use Rattle.std.proofs.Common.{◌≡◌, take, drop}
use Rattle.span_registry_layers.specs.OutputSlots.{EachBecomes}
use Rattle.span_registry_layers.specs.SpanNotices.{TellsDispatch}
use Rattle.span_registry_layers.proofs.output_slots.spans.tell_dispatch.Given as goal

abbrev pub invariant-loop-row : goal.invariant-loop-row
invariant-loop-row g l =
    record {
      done : EachBecomes (TellsDispatch g.F.Filter g.L.Layer l.dispatch) (take l.row-index l.fn.rows) (take l.row-index l.rows);
      left : drop l.row-index l.rows ≡ drop l.row-index l.fn.rows;
    }
