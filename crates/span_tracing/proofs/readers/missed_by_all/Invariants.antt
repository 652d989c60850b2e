use Rattle.std.proofs.Common.{◌≡◌, drop}
use Rattle.span_tracing.specs.OutputReaders.{missed_by_all}
use Rattle.span_tracing.proofs.readers.missed_by_all.Given as goal

abbrev pub invariant-loop-sink : goal.invariant-loop-sink
invariant-loop-sink g l = missed_by_all l.missed (drop l.sink-index l.sinks) ≡ missed_by_all l.before l.sinks
