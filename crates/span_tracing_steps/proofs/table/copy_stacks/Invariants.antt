use Rattle.std.proofs.Common.{◌≡◌, map, take}
use Rattle.span_tracing_steps.specs.States.{held_stack}
use Rattle.span_tracing_steps.specs.Tables.{table_stack}
use Rattle.span_tracing_steps.proofs.table.copy_stacks.Given as goal

abbrev pub invariant-loop-registered : goal.invariant-loop-registered
invariant-loop-registered g l =
    map table_stack l.copy.items ≡ map (held_stack g.T.HasRegistry.registry_of) (take l.registered-index l.stacks)
