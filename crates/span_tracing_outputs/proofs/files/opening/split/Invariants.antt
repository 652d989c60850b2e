use Rattle.std.proofs.Common.{◌≡◌, map}
use Rattle.span_tracing_outputs.specs.files.OpenedStack.{Pairs, RowOf, routing_of}
use Rattle.span_tracing_outputs.specs.files.Threads.{lane_of}
use Rattle.span_tracing_outputs.proofs.files.opening.split.Given as goal

abbrev pub invariant-loop-spec : goal.invariant-loop-spec
invariant-loop-spec g l =
    record {
      rows : Pairs (RowOf (map lane_of l.threads)) l.yielded l.rows.items;
      routings : l.routings.items ≡ map routing_of l.yielded;
    }
