use Rattle.std.proofs.Common.{◌≡◌, take, drop}
use Rattle.tracing_core_fields.specs.Metadata.{plain_metadata}
use Rattle.span_registry_layers.specs.OutputSlots.{AsksCallsite, EachBecomes}
use Rattle.span_registry_layers.proofs.output_slots.ask_callsite.Given as goal

abbrev pub invariant-loop-row : goal.invariant-loop-row
invariant-loop-row g l =
    record {
      same : l.registry ≡ l.fn.registry;
      done : EachBecomes (AsksCallsite g.F.Filter.answers (plain_metadata l.metadata) l.at l.fn.registry) (take l.row-index l.fn.rows)
          (take l.row-index l.rows);
      left : drop l.row-index l.rows ≡ drop l.row-index l.fn.rows;
    }
