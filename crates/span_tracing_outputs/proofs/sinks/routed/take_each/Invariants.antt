use Rattle.std.proofs.Common.{◌≡◌, take, drop}
use Rattle.span_tracing_outputs.specs.sinks.Routed.{EachFrom, TakesSent}
use Rattle.span_tracing_outputs.proofs.sinks.routed.take_each.Given as goal

abbrev pub invariant-loop-sink : goal.invariant-loop-sink
invariant-loop-sink g l =
    record {
      done : EachFrom (TakesSent g.S.LineSink.takes l.route l.at (record { level = l.level; bytes = l.line })) 0
          (take l.sink-index l.fn.sinks) (take l.sink-index l.sinks);
      left : drop l.sink-index l.sinks ≡ drop l.sink-index l.fn.sinks;
      place : l.place ≡ l.sink-index;
    }
