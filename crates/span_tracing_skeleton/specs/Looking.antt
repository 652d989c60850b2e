-- What is read from a skeleton.
use Rattle.std.specs.Prelude.{ℕ, List, [], ◌∷◌, slice_get, Bool, true, false, ◌==◌, nat_lt, if◌then◌else◌, Option, Some, None, is_some}
use Rattle.std.specs.Prelude.{◌-◌, suc, option_and_then}
use Rattle.tracing_core_fields.specs.PlainMetadata.{PlainMetadata}
use Rattle.span_registry_layers_store.specs.Registries.{PlainSpan, RegistryValue, kin_in, new_registry}
use Rattle.span_registry_layers_store.specs.Spans.{found, handles_of, is_open}
use Rattle.span_tracing_skeleton.specs.declared.call.SpanName.{SpanName}
use Rattle.span_tracing_skeleton.specs.declared.setting.OutputPlace.{OutputPlace}
use Rattle.span_tracing_skeleton.specs.Skeleton.{Skeleton, HeldStack, GuardValue, Default, Unset, Nowhere, Own}

-- the callsite with an identifier
abbrev pub named : List PlainMetadata → ℕ → Option PlainMetadata
named [] number = None
named (m ∷ ms) number = if m.callsite == number then Some m else named ms number

abbrev pub is_kind : PlainMetadata → Bool → Bool
is_kind m is_span = if is_span then m.kind.is_span else m.kind.is_event

abbrev pub if_kind : Option PlainMetadata → Bool → Option PlainMetadata
if_kind None is_span = None
if_kind (Some m) is_span = if is_kind m is_span then Some m else None

-- the registered callsite of this kind
abbrev pub known : Skeleton → ℕ → Bool → Option PlainMetadata
known s number is_span = if_kind (named s.callsites number) is_span

-- where the output with a number stands: stacks from this number on have so many outputs, and the first of these has this number
abbrev pub output_in : List ℕ → ℕ → ℕ → Option OutputPlace
output_in [] stack number = None
output_in (count ∷ counts) stack number = if nat_lt number count then Some (record { stack = stack; place = number })
    else output_in counts (suc stack) (number - count)

-- outputs are numbered through all stacks, also those that were released
abbrev pub output_at : Skeleton → ℕ → Option OutputPlace
output_at s output = output_in s.outputs 0 output

-- whether a stack was given under the number
abbrev pub knows_stack : Skeleton → ℕ → Bool
knows_stack s stack = nat_lt stack s.given

-- the stack of the number, where somebody holds it; else it was released, or never given
abbrev pub stack_with : ℕ → List HeldStack → Option HeldStack
stack_with stack [] = None
stack_with stack (k ∷ ks) = if k.number == stack then Some k else stack_with stack ks

abbrev pub is_held : Skeleton → ℕ → Bool
is_held s stack = is_some (stack_with stack s.stacks)

abbrev pub registry_in : Option HeldStack → RegistryValue
registry_in None = new_registry
registry_in (Some k) = k.registry

-- the registry of the stack with a number; where nobody holds one, what a new one would have
abbrev pub registry_at : Skeleton → ℕ → RegistryValue
registry_at s stack = registry_in (stack_with stack s.stacks)

abbrev pub inner : {A : Type 0} → Option (Option A) → Option A
inner None = None
inner (Some x) = x

-- the stack that a handle leads to, where it was given and isn't spent
abbrev pub stack_behind : Skeleton → ℕ → Option ℕ
stack_behind s handle = inner (slice_get s.handles handle)

-- a guard that was given and isn't spent
abbrev pub guard_at : Skeleton → ℕ → Option GuardValue
guard_at s guard = inner (slice_get s.guards guard)

-- a lane's own default; one that was never given reaches nothing
abbrev pub own_of : Option Default → Default
own_of None = Nowhere
own_of (Some own) = own

abbrev pub default_of : Skeleton → ℕ → Default
default_of s lane = own_of (slice_get s.lanes lane)

-- the stack that a default leads to
abbrev pub chosen : Default → Option ℕ
chosen Unset = None
chosen Nowhere = None
chosen (Own stack) = Some stack

abbrev pub was_set : Default → Bool
was_set Unset = false
was_set Nowhere = true
was_set (Own stack) = true

-- a lane's own default goes before the global one
abbrev pub or_global : Default → Default → Default
or_global Unset global = global
or_global Nowhere global = Nowhere
or_global (Own stack) global = Own stack

-- a stack, as long as somebody holds it
abbrev pub while_held : Skeleton → Option ℕ → Option ℕ
while_held s None = None
while_held s (Some stack) = if is_held s stack then Some stack else None

-- the stack that a lane reaches
abbrev pub reach : Skeleton → ℕ → Option ℕ
reach s lane = while_held s (chosen (or_global (default_of s lane) s.default))

-- whether what is reached is the stack with a number
abbrev pub leads_to : Option ℕ → ℕ → Bool
leads_to None stack = false
leads_to (Some reached) stack = stack == reached

-- the registry of what is reached; where that is nothing, what a new stack would have
abbrev pub reached_by : Skeleton → Option ℕ → RegistryValue
reached_by s None = new_registry
reached_by s (Some stack) = registry_at s stack

abbrev pub reached : Skeleton → ℕ → RegistryValue
reached s lane = reached_by s (reach s lane)

abbrev pub has_open : Skeleton → SpanName → Bool
has_open s name = is_open kin_in (registry_at s name.stack).spans name.id.value

abbrev pub handles_in : Skeleton → SpanName → ℕ
handles_in s name = handles_of kin_in (registry_at s name.stack).spans name.id.value

-- the callsite of an open span
abbrev pub callsite_of : Skeleton → SpanName → Option PlainMetadata
callsite_of s name = option_and_then (λ (x : PlainSpan). named s.callsites x.metadata.callsite)
    (found kin_in (registry_at s name.stack).spans name.id.value)
