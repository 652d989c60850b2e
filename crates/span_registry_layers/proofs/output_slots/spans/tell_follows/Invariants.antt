use Rattle.std.proofs.Common.{◌≡◌, take, drop}
use Rattle.span_registry_layers_layers.specs.Several.{EachInTurn}
use Rattle.span_registry_layers.specs.SpanNotices.{TellsFollows}
use Rattle.span_registry_layers.proofs.output_slots.spans.tell_follows.Given as goal

abbrev pub invariant-loop-row : goal.invariant-loop-row
invariant-loop-row g l =
    record {
      done : EachInTurn (TellsFollows g.F.Filter g.L.Layer l.span l.follows l.at) l.fn.registry (take l.row-index l.fn.rows) l.registry
          (take l.row-index l.rows);
      left : drop l.row-index l.rows ≡ drop l.row-index l.fn.rows;
    }
