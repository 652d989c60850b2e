use Rattle.std.proofs.Common.{length, map}
use Rattle.tracing_appender.specs.background.Working.{WritesLines}
use Rattle.tracing_appender.proofs.background.worker.write_lines.Given as goal

abbrev pub invariant-loop-rest : goal.invariant-loop-rest
invariant-loop-rest g l = (later : _) → WritesLines g.W.LineOutput.writes (map (λ line. line.items) l.rest) l.writer later →
    WritesLines g.W.LineOutput.writes (map (λ line. line.items) l.fn.lines) l.initial.writer later

abbrev pub decreases-loop-rest : goal.decreases-loop-rest
decreases-loop-rest g l = length l.rest
