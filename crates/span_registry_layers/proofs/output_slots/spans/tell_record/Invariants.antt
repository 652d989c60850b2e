use Rattle.std.proofs.Common.{◌≡◌, take, drop}
use Rattle.tracing_core_fields.specs.requests.PlainRequests.{plain_record}
use Rattle.span_registry_layers_layers.specs.FilterViews.{Recorded}
use Rattle.span_registry_layers_layers.specs.Several.{EachInTurn}
use Rattle.span_registry_layers.specs.SpanNotices.{TellsSpan}
use Rattle.span_registry_layers.proofs.output_slots.spans.tell_record.Given as goal

abbrev pub invariant-loop-row : goal.invariant-loop-row
invariant-loop-row g l =
    record {
      done : EachInTurn (TellsSpan g.F.Filter g.L.Layer (Recorded l.span (plain_record l.values)) l.span l.at) l.fn.registry
          (take l.row-index l.fn.rows) l.registry (take l.row-index l.rows);
      left : drop l.row-index l.rows ≡ drop l.row-index l.fn.rows;
    }
