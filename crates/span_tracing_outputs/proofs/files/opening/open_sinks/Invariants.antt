use Rattle.std.specs.Vec.Iter.{into_iter_items}
use Rattle.span_tracing_outputs.specs.files.OpenedStack.{OpensSink, Pairs}
use Rattle.span_tracing_outputs.specs.files.OpenRefusals.{InOne, SinkRefuses}
use Rattle.span_tracing_outputs.specs.declared.files.open_error.OpenStackError.{OpenStackError}
use Rattle.span_tracing_outputs.proofs.files.opening.open_sinks.Given as goal

abbrev pub invariant-loop-spec : goal.invariant-loop-spec
invariant-loop-spec g l =
    record {
      opened : Pairs (OpensSink g.D.Folder.contents g.D.Folder.failed l.moment) l.yielded l.sinks.items;
      refused : (told : OpenStackError) → InOne (SinkRefuses g.D.Folder.failed l.fn.key told) (into_iter_items l.spec-iterator) →
          InOne (SinkRefuses g.D.Folder.failed l.fn.key told) l.fn.specs.items;
    }
