use Rattle.std.specs.Vec.Iter.{into_iter_items}
use Rattle.span_tracing_outputs.specs.files.OpenedStack.{OpensRouting, Pairs}
use Rattle.span_tracing_outputs.specs.files.OpenRefusals.{InOne, RoutingRefuses}
use Rattle.span_tracing_outputs.specs.declared.files.open_error.OpenStackError.{OpenStackError}
use Rattle.span_tracing_outputs.proofs.files.opening.open_routings.Given as goal

abbrev pub invariant-loop-routing : goal.invariant-loop-routing
invariant-loop-routing g l =
    record {
      opened : Pairs (OpensRouting g.D.Folder.contents g.D.Folder.failed l.moment) l.yielded l.opened.items;
      refused : (told : OpenStackError) → InOne (RoutingRefuses g.D.Folder.failed told) (into_iter_items l.routing-iterator) →
          InOne (RoutingRefuses g.D.Folder.failed told) l.fn.routings.items;
    }
