-- What callsites, lanes and stacks that are added leave of a skeleton.
use Rattle.std.specs.Prelude.{◌+◌, ℕ, [], ◌∷◌, ◌++◌, Some}
use Rattle.tracing_core_fields.specs.PlainMetadata.{PlainMetadata}
use Rattle.span_registry_layers_store.specs.Registries.{RegistryValue}
use Rattle.span_tracing_skeleton.specs.Skeleton.{Skeleton, Unset}

abbrev pub with_callsite : Skeleton → PlainMetadata → Skeleton
with_callsite s m = record s { callsites = s.callsites ++ m ∷ [] }

-- with a lane without a default of its own
abbrev pub with_lane : Skeleton → Skeleton
with_lane s = record s { lanes = s.lanes ++ Unset ∷ [] }

-- with a stack of the next number, which has so many outputs and sinks, and a handle that holds it
abbrev pub with_stack : Skeleton → RegistryValue → ℕ → ℕ → Skeleton
with_stack s registry count sinks = record s {
  given = s.given + 1;
  outputs = s.outputs ++ count ∷ [];
  sinks = s.sinks ++ sinks ∷ [];
  stacks = s.stacks ++ (record { number = s.given; holds = 1; registry = registry }) ∷ [];
  handles = s.handles ++ Some s.given ∷ [];
}
