-- The registry behind a context, and slots of its spans, lent for writing.
use Rattle.std.specs.Prelude.{◌≡◌, [], ℕ, List, Option}
use Rattle.std.specs.Borrow.{LendsIf, MutBor, Fml}
use mir.Syntax.{named}
use Rattle.span_registry_layers_store.specs.SlotCalls.{with_slots}
use Rattle.span_registry_layers_store.specs.Registries.{PlainSpan, RegistryValue}
use Rattle.span_registry_layers_store.specs.Slots.{PlainPlace}
use Rattle.span_registry_layers_store.specs.contracts.extensions.Extensions as extensions
use Rattle.span_registry_layers_layers.specs.declared.context.Context.{Context}
use Rattle.span_registry_layers_layers.specs.contracts.context.Context as context

-- it holds this loan of a registry
abbrev pub IsLoanOf : MutBor RegistryValue → Context → Type 0
IsLoanOf x c = c.registry.ghost_name ≡ x.ghost_name

abbrev pub slots_in : PlainSpan → List PlainPlace
slots_in s = s.slots

-- with other slots of a span
abbrev pub writing : Context → ℕ → List PlainPlace → Context
writing c id places = record c { registry = record c.registry { now = with_slots c.registry.now id places } }

-- it ends with the last value behind r as the slots of that span; `named 1` is the lifetime parameter of contexts, in the terms of the
-- toolchain
abbrev pub LendsSlots : MutBor Context → ℕ → Option (MutBor (List PlainPlace)) → Fml
LendsSlots c id r = LendsIf (context.the_row (record { mir = named 1; lft = [] })) extensions.the_row c r (λ w. writing c.now id w) c.now
