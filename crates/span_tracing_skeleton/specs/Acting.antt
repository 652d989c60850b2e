-- What each step that isn't refused leaves of a skeleton.
use Rattle.std.specs.Prelude.{ℕ, ◌+◌, ◌-◌, ◌==◌, nat_le, List, [], ◌∷◌, ◌++◌, slice_set, Bool, true, if◌then◌else◌, Option, Some, None}
use Rattle.tracing_core_fields.specs.PlainMetadata.{PlainMetadata}
use Rattle.tracing_core_fields.specs.declared.requests.arguments.parent.Parent as core
use Rattle.tracing_core_fields.specs.declared.requests.arguments.parent.Parent.TheVariants as core_parents
use Rattle.span_registry_layers_store.specs.Registries.{RegistryValue, swept, under, with_entry, with_handle, with_span, without_entry}
use Rattle.span_registry_layers_store.specs.Registries.{without_handle}
use Rattle.span_tracing_skeleton.specs.PlainData.{Request}
use Rattle.span_tracing_skeleton.specs.declared.call.SpanName.{SpanName}
use Rattle.span_tracing_skeleton.specs.declared.call.Parent.{Parent}
use Rattle.span_tracing_skeleton.specs.declared.call.Parent.TheVariants.{Contextual, Root, Explicit}
use Rattle.span_tracing_skeleton.specs.Looking.{chosen, default_of, known, reach, registry_at, stack_behind, stack_with}
use Rattle.span_tracing_skeleton.specs.Skeleton.{Skeleton, HeldStack, GuardValue, Default, Nowhere, Own, Answers, Unasked, Wanted}
use Rattle.span_tracing_skeleton.specs.Skeleton.{Dropped, Passed, Heard}

-- the stack of the number changed, the others as they are
abbrev pub changed : ℕ → (HeldStack → HeldStack) → List HeldStack → List HeldStack
changed stack f [] = []
changed stack f (k ∷ ks) = if k.number == stack then f k ∷ ks else k ∷ changed stack f ks

-- the others
abbrev pub without : ℕ → List HeldStack → List HeldStack
without stack [] = []
without stack (k ∷ ks) = if k.number == stack then ks else k ∷ without stack ks

-- with this as the registry of the stack
abbrev pub with_registry : Skeleton → ℕ → RegistryValue → Skeleton
with_registry s stack registry = record s { stacks = changed stack (λ k. record k { registry = registry }) s.stacks }

abbrev pub one_more : HeldStack → HeldStack
one_more k = record k { holds = k.holds + 1 }

abbrev pub one_less : HeldStack → HeldStack
one_less k = record k { holds = k.holds - 1 }

-- somebody more holds the stack
abbrev pub held : Option ℕ → List HeldStack → List HeldStack
held None ks = ks
held (Some stack) ks = changed stack one_more ks

abbrev pub let_go_at : ℕ → List HeldStack → Option HeldStack → List HeldStack
let_go_at stack ks None = ks
let_go_at stack ks (Some k) = if nat_le k.holds 1 then without stack ks else changed stack one_less ks

-- somebody gave the stack up; where nobody holds it then, it is released
abbrev pub let_go : Option ℕ → List HeldStack → List HeldStack
let_go None ks = ks
let_go (Some stack) ks = let_go_at stack ks (stack_with stack ks)

abbrev pub leading_to : Option ℕ → Default
leading_to None = Nowhere
leading_to (Some stack) = Own stack

-- the stack that a default asks for, by a handle or none
abbrev pub asked_for : Skeleton → Option ℕ → Option ℕ
asked_for s None = None
asked_for s (Some handle) = stack_behind s handle

-- with a lane's own default, which holds its stack, and a guard that keeps what it was before, with what that holds
abbrev pub with_default : Skeleton → ℕ → Option ℕ → Skeleton
with_default s lane stack = record s {
  stacks = held stack s.stacks;
  lanes = slice_set s.lanes lane (leading_to stack);
  guards = s.guards ++ Some (record { lane = lane; restores = default_of s lane }) ∷ [];
}

-- the guard gives the lane what it keeps, with what that holds, and is spent
abbrev pub restored : Skeleton → ℕ → ℕ → Option GuardValue → Skeleton
restored s lane guard None = s
restored s lane guard (Some g) = record s {
  stacks = let_go (chosen (default_of s lane)) s.stacks;
  lanes = slice_set s.lanes lane g.restores;
  guards = slice_set s.guards guard None;
}

abbrev pub with_global : Skeleton → Option ℕ → Skeleton
with_global s stack = record s { stacks = held stack s.stacks; default = leading_to stack }

abbrev pub with_new_handle : Skeleton → Option ℕ → Skeleton
with_new_handle s stack = record s { stacks = held stack s.stacks; handles = s.handles ++ stack ∷ [] }

abbrev pub without_stack_handle : Skeleton → ℕ → Option ℕ → Skeleton
without_stack_handle s handle stack = record s { stacks = let_go stack s.stacks; handles = slice_set s.handles handle None }

-- the parent that a stack is told
abbrev pub told_parent : Parent → core.Parent
told_parent Contextual = core_parents.Current
told_parent Root = core_parents.Root
told_parent (Explicit name) = core_parents.Explicit name.id.value

-- the span that a request stands under
abbrev pub parent_id : RegistryValue → ℕ → Parent → Option ℕ
parent_id x lane parent = under x lane (told_parent parent)

-- with a span of the stack at a callsite, which these filters passed
abbrev pub with_made_at : Skeleton → ℕ → Request → PlainMetadata → List Bool → Skeleton
with_made_at s stack n m passed =
    with_registry s stack (with_span (registry_at s stack) m (parent_id (registry_at s stack) n.lane n.parent) passed)

-- of what is reached
abbrev pub with_made : Skeleton → Option ℕ → Request → Option PlainMetadata → List Bool → Skeleton
with_made s None n callsite passed = s
with_made s (Some stack) n None passed = s
with_made s (Some stack) n (Some m) passed = with_made_at s stack n m passed

-- with a new span, where some filter passed it
abbrev pub made_by : Skeleton → Request → Answers → Skeleton
made_by s n Unasked = s
made_by s n (Wanted b) = s
made_by s n Dropped = s
made_by s n (Passed passed) = with_made s (reach s n.lane) n (known s n.callsite true) passed
made_by s n (Heard passed told) = s

abbrev pub cloned : Skeleton → Option SpanName → Skeleton
cloned s None = s
cloned s (Some name) = with_registry s name.stack (with_handle (registry_at s name.stack) name.id.value)

-- with an entry; an entered span is open
abbrev pub entered : Skeleton → ℕ → Option SpanName → Skeleton
entered s lane None = s
entered s lane (Some name) = with_registry s name.stack (with_entry (registry_at s name.stack) lane name.id.value)

-- without an entry, and without the spans that close
abbrev pub left : Skeleton → ℕ → Option SpanName → Skeleton
left s lane None = s
left s lane (Some name) = with_registry s name.stack (swept (without_entry (registry_at s name.stack) lane name.id.value))

-- without a handle, and without the spans that close
abbrev pub given_up : Skeleton → Option SpanName → Skeleton
given_up s None = s
given_up s (Some name) = with_registry s name.stack (swept (without_handle (registry_at s name.stack) name.id.value))
