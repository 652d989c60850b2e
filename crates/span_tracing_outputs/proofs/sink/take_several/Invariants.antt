use Rattle.std.proofs.Common.{length, map}
use Rattle.span_tracing_outputs.specs.SinkLines.{TakesAll}
use Rattle.span_tracing_outputs.specs.BufferedLines.{plain_line}
use Rattle.span_tracing_outputs.proofs.sink.take_several.Given as goal

abbrev pub invariant-loop-rest : goal.invariant-loop-rest
invariant-loop-rest g l = (later : _) → TakesAll g.S.LineSink.takes l.at (map plain_line l.rest) l.sink later →
    TakesAll g.S.LineSink.takes l.at (map plain_line l.fn.lines) l.initial.sink later

abbrev pub decreases-loop-rest : goal.decreases-loop-rest
decreases-loop-rest g l = length l.rest
