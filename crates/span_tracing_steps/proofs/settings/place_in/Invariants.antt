use Rattle.std.proofs.Common.{◌≡◌, drop}
use Rattle.span_tracing_skeleton.specs.Looking.{output_in}
use Rattle.span_tracing_steps.proofs.settings.place_in.Given as goal

abbrev pub invariant-loop-stack : goal.invariant-loop-stack
invariant-loop-stack l = output_in (drop l.stack l.counts) l.stack l.place ≡ output_in l.counts 0 l.output
