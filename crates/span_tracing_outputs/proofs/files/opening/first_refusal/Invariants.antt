use Rattle.std.proofs.Common.{length, Option}
use Rattle.span_tracing_skeleton.specs.declared.refusal.Refusal.{Refusal}
use Rattle.span_tracing_outputs.specs.files.OpenRefusals.{SinksTell}
use Rattle.span_tracing_outputs.proofs.files.opening.first_refusal.Given as goal

abbrev pub invariant-loop-rest : goal.invariant-loop-rest
invariant-loop-rest g l = (told : Option Refusal) → SinksTell l.rest told → SinksTell l.fn.sinks told

abbrev pub decreases-loop-rest : goal.decreases-loop-rest
decreases-loop-rest g l = length l.rest
