use Rattle.std.specs.Prelude.{◌≡◌, ◌++◌, map, take}
use Rattle.event_formatter.specs.fmt_layer.Builders.{SameButLanes}
use Rattle.event_formatter.specs.fmt_layer.Threads.{plain_lanes}
use Rattle.span_tracing_outputs.specs.files.Threads.{lane_of}
use Rattle.span_tracing_outputs.proofs.files.lane_thread.tell_threads.Given as goal

abbrev pub invariant-loop-thread : goal.invariant-loop-thread
invariant-loop-thread l =
    record {
      lanes : plain_lanes l.layer.threads ≡ plain_lanes l.fn.layer.threads ++ map lane_of (take l.thread-index l.threads);
      rest : SameButLanes l.fn.layer l.layer;
    }
