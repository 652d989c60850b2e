-- What decides replies: callsites, lanes, stacks with their spans, handles, guards and the global default, without texts, values, filters
-- and files.
use Rattle.std.specs.Prelude.{ℕ, List, [], Bool, Option}
use Rattle.tracing_core_fields.specs.PlainMetadata.{PlainMetadata}
use Rattle.span_registry_layers_store.specs.Registries.{RegistryValue}

-- where a default leads
pub data Default : Type 0 where
  -- none was set; a lane reaches the global default then
  Unset : Default
  -- nothing is reached
  Nowhere : Default
  -- the stack with this number
  Own : ℕ → Default

-- a stack that somebody holds: its number; how many hold it, which are handles, lanes' own defaults, guards that aren't spent and the
-- global default; and the registry of its spans, without slots
pub record HeldStack : Type 0 where
  pub number : ℕ
  pub holds : ℕ
  pub registry : RegistryValue

-- a guard of a lane, and the default that it gives back
pub record GuardValue : Type 0 where
  pub lane : ℕ
  pub restores : Default

-- callsites in order of registering, each with its identifier as the callsite of its fields; the lanes' own defaults; how many stacks were
-- given, and by number how many outputs and how many sinks each has; those that somebody holds, in order of their numbers; by number the
-- stack of each handle, and none for a spent one; by number each guard, and none for a spent one; and the global default
pub record Skeleton : Type 0 where
  pub callsites : List PlainMetadata
  pub lanes : List Default
  pub given : ℕ
  pub outputs : List ℕ
  pub sinks : List ℕ
  pub stacks : List HeldStack
  pub handles : List (Option ℕ)
  pub guards : List (Option GuardValue)
  pub default : Default

abbrev pub new_skeleton : Skeleton
new_skeleton = record {
  callsites = [];
  lanes = [];
  given = 0;
  outputs = [];
  sinks = [];
  stacks = [];
  handles = [];
  guards = [];
  default = Unset;
}

-- what the filters of the reached stack answered of a step
pub data Answers : Type 0 where
  -- nobody was asked
  Unasked : Answers
  -- whether some filter passes a callsite
  Wanted : Bool → Answers
  -- every filter refused a new span
  Dropped : Answers
  -- whether the filter of each number passed a new span, of which at least one did
  Passed : List Bool → Answers
  -- of an event: whether each output's filter passed its callsite, and whether it passed the event too
  Heard : List Bool → List Bool → Answers
