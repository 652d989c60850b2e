use Rattle.std.proofs.Common.{length, Option}
use Rattle.span_registry_layers_store.specs.declared.slot.OutputKey.{OutputKey}
use Rattle.span_tracing_skeleton.specs.declared.refusal.Refusal.{Refusal}
use Rattle.span_tracing_outputs.specs.files.OpenRefusals.{OutputsTell}
use Rattle.span_tracing_outputs.proofs.files.opening.names_refusal.Given as goal

abbrev pub invariant-loop-rest : goal.invariant-loop-rest
invariant-loop-rest g l = (told : Option (OutputKey × Refusal)) → OutputsTell l.rest told → OutputsTell l.fn.outputs told

abbrev pub decreases-loop-rest : goal.decreases-loop-rest
decreases-loop-rest g l = length l.rest
