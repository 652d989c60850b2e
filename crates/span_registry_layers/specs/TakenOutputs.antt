-- The outputs of a stack that is given up.
use Rattle.std.specs.Prelude.{List, map}
use Rattle.span_registry_layers.specs.declared.output.Output.{Output}
use Rattle.span_registry_layers.specs.declared.output_slot.OutputSlot.{OutputSlot}
use Rattle.span_registry_layers.specs.declared.stack.taking.IntoOutputs.{IntoOutputs}

-- an output without what the stack knows of it
abbrev pub output_of : {O : Type 0} → OutputSlot O → Output O
output_of row = record { key = row.key; output = row.output }

-- those that are left, in order
abbrev pub outputs_left : {O : Type 0} → IntoOutputs O → List (Output O)
outputs_left it = map output_of it.rows.items
