use Rattle.std.proofs.Common.{◌≡◌, drop}
use Rattle.span_tracing_outputs.specs.sinks.SinkCalls.{sink_place}
use Rattle.span_tracing_outputs.proofs.has_sinks.place_in.Given as goal

abbrev pub invariant-loop-output : goal.invariant-loop-output
invariant-loop-output g l = sink_place (drop l.output l.outputs) l.output l.sink ≡ sink_place l.outputs 0 l.number
