use Rattle.std.proofs.Common.{◌≡◌, map, take}
use Rattle.span_tracing_steps.specs.States.{plain_guard}
use Rattle.span_tracing_steps.specs.Tables.{table_guard}
use Rattle.span_tracing_steps.proofs.table.copy_guards.Given as goal

abbrev pub invariant-loop-guard : goal.invariant-loop-guard
invariant-loop-guard l = map table_guard l.copy.items ≡ map plain_guard (take l.guard-index l.guards)
