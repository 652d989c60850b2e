-- What a copy of a trace says.
use Rattle.std.specs.Prelude.{map, Option, Some, None}
use Rattle.tracing_core_fields.specs.OwnedMetadatas.{owned_plain}
use Rattle.span_registry_layers_store.specs.Copies.{table_registry}
use Rattle.span_tracing_skeleton.specs.Skeleton.{Skeleton, HeldStack, GuardValue}
use Rattle.span_tracing_steps.specs.States.{lane_default, plain_default}
use Rattle.span_tracing_steps.specs.declared.table.GuardRow.{GuardRow}
use Rattle.span_tracing_steps.specs.declared.table.StackTable.{StackTable}
use Rattle.span_tracing_steps.specs.declared.table.TraceTable.{TraceTable}

abbrev pub table_stack : StackTable → HeldStack
table_stack s = record { number = s.number; holds = s.holds; registry = table_registry s.registry }

abbrev pub table_guard : Option GuardRow → Option GuardValue
table_guard None = None
table_guard (Some guard) = Some (record { lane = guard.lane; restores = plain_default guard.restores })

-- the skeleton of the trace that was copied
abbrev pub table_skeleton : TraceTable → Skeleton
table_skeleton t = record {
  callsites = map owned_plain t.callsites.items;
  lanes = map lane_default t.lanes.items;
  given = t.given;
  outputs = t.outputs.items;
  sinks = t.sinks.items;
  stacks = map table_stack t.stacks.items;
  handles = t.handles.items;
  guards = map table_guard t.guards.items;
  default = plain_default t.global;
}
