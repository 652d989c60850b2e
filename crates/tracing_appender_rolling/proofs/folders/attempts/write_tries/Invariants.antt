use Rattle.std.proofs.Common.{◌-◌}
use Rattle.tracing_appender_rolling.proofs.folders.InterruptedAttempts.{TriesLeft}
use Rattle.tracing_appender_rolling.proofs.folders.attempts.write_tries.Given as goal

abbrev pub invariant-loop : goal.invariant-loop
invariant-loop g l = TriesLeft 1001 (1001 - l.counter) l.bytes (g.A.Attempts.coming l.initial.file) (g.A.Attempts.coming l.file)
