use Rattle.std.proofs.Common.{◌≡◌, drop}
use Rattle.span_tracing.specs.OutputReaders.{lost_by_all}
use Rattle.span_tracing.proofs.readers.lost_by_all.Given as goal

abbrev pub invariant-loop-sink : goal.invariant-loop-sink
invariant-loop-sink g l = lost_by_all l.lost (drop l.sink-index l.sinks) ≡ lost_by_all l.before l.sinks
