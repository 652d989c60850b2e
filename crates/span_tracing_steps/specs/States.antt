-- What a trace is without where it lies in memory: what its hub keeps, and its lists of numbers.
use Rattle.std.specs.Prelude.{ℕ, List, [], map, Option, Some, None, string_bytes, slice_get}
use Rattle.std.specs.Option.{option_map}
use Rattle.tracing_core_fields.specs.PlainMetadata.{PlainMetadata}
use Rattle.tracing_core.specs.Handles.{subscriber_with}
use Rattle.tracing_core.specs.Table.{Table, fresh, own_setting}
use Rattle.tracing_core.specs.TableRows.{KeptCallsite, KeptSubscriber}
use Rattle.tracing_core.specs.declared.guard.DefaultGuard.{DefaultGuard}
use Rattle.tracing_core.specs.declared.hub.index.CallsiteIndex.{CallsiteIndex}
use Rattle.tracing_core.specs.declared.hub.parts.Lane.{Lane}
use Rattle.tracing_core.specs.declared.hub.parts.LaneDefault.{LaneDefault}
use Rattle.tracing_core.specs.declared.hub.parts.LaneDefault.TheVariants as hub
use Rattle.span_registry_layers_store.specs.SlotIndependence.{bare}
use Rattle.span_registry_layers_store.specs.Registries.{RegistryValue, new_registry}
use Rattle.span_tracing_skeleton.specs.Looking.{inner}
use Rattle.span_tracing_skeleton.specs.Skeleton.{Skeleton, HeldStack, GuardValue, Default, Unset, Nowhere, Own}
use Rattle.span_tracing_steps.specs.Callsites.{own_metadata}
use Rattle.span_tracing_steps.specs.declared.callsite.TraceCallsite.{TraceCallsite}
use Rattle.span_tracing_steps.specs.declared.parts.Thread.{Thread}
use Rattle.span_tracing_steps.specs.declared.parts.TraceParts.{TraceParts}

-- a lane's name and thread
pub record PlainThread : Type 0 where
  pub name : Option (List ℕ)
  pub number : ℕ

abbrev pub plain_thread : Thread → PlainThread
plain_thread thread = record { name = option_map string_bytes thread.name; number = thread.thread_id }

-- what the hub keeps: stacks by their numbers with who holds them, callsites with the interest in them, lanes with their own defaults, and
-- the global default; the lanes' threads; by number how many outputs and how many sinks each stack has; by number what each handle leads
-- to, and each guard, where it isn't spent; and by number each stack that was released and waits to be taken
pub record StateValue (T : Type 0) : Type 0 where
  pub hub : Table T TraceCallsite
  pub threads : List PlainThread
  pub outputs : List ℕ
  pub sinks : List ℕ
  pub handles : List (Option (Option ℕ))
  pub guards : List (Option DefaultGuard)
  pub retired : List (Option T)

abbrev pub value_in : {T : Type 0} → TraceParts T → StateValue T
value_in p = record {
  hub = p.hub;
  threads = map plain_thread p.threads.items;
  outputs = p.outputs.items;
  sinks = p.sinks.items;
  handles = p.handles.items;
  guards = p.guards.items;
  retired = p.retired.items;
}

-- no callsite, no lane, no stack
abbrev pub new_state : {T : Type 0} → StateValue T
new_state = record { hub = fresh; threads = []; outputs = []; sinks = []; handles = []; guards = []; retired = [] }

abbrev pub callsites_of : List (KeptCallsite TraceCallsite) → List PlainMetadata
callsites_of rows = map (λ (row : KeptCallsite TraceCallsite). own_metadata row.callsite) rows

abbrev pub plain_default : LaneDefault → Default
plain_default hub.Unset = Unset
plain_default hub.Nothing = Nowhere
plain_default (hub.To number) = Own number

abbrev pub lane_default : Lane → Default
lane_default lane = plain_default (own_setting (Some lane))

abbrev pub plain_guard : Option DefaultGuard → Option GuardValue
plain_guard None = None
plain_guard (Some guard) = Some (record { lane = guard.lane; restores = plain_default guard.before })

module _ {T : Type 0} (registry_of : T → RegistryValue) where
  abbrev pub held_stack : KeptSubscriber T → HeldStack
  held_stack e = record { number = e.serial; holds = e.handles; registry = bare (registry_of e.subscriber) }

  abbrev pub skeleton_of : StateValue T → Skeleton
  skeleton_of v = record {
    callsites = callsites_of v.hub.callsites;
    lanes = map lane_default v.hub.lanes;
    given = v.hub.next;
    outputs = v.outputs;
    sinks = v.sinks;
    stacks = map held_stack v.hub.subscribers;
    handles = map inner v.handles;
    guards = map plain_guard v.guards;
    default = plain_default v.hub.global;
  }

  -- the registry of a stack without its slots; where there is none, what a new one would have
  abbrev pub registry_of_stack : Option T → RegistryValue
  registry_of_stack None = new_registry
  registry_of_stack (Some x) = bare (registry_of x)

module _ {T : Type 0} where
  -- the stack of the number, where somebody holds it
  abbrev pub held_in : StateValue T → ℕ → Option T
  held_in v stack = option_map (λ (e : KeptSubscriber T). e.subscriber) (subscriber_with stack v.hub.subscribers)

  abbrev pub or_retired : Option T → Option (Option T) → Option T
  or_retired None retired = inner retired
  or_retired (Some x) retired = Some x

  -- the stack of the number, also one that was released and waits to be taken
  abbrev pub stack_in : StateValue T → ℕ → Option T
  stack_in v stack = or_retired (held_in v stack) (slice_get v.retired stack)

  -- what a handle leads to
  abbrev pub behind : StateValue T → ℕ → Option ℕ
  behind v handle = inner (inner (slice_get v.handles handle))

-- the callsite at an index, where one is told
abbrev pub at_index : List PlainMetadata → Option CallsiteIndex → Option PlainMetadata
at_index callsites None = None
at_index callsites (Some index) = slice_get callsites index.0
