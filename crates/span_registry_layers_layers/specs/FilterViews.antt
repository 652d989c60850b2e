-- What a filter may look at, as plain data, and the calls that may change it.
use Rattle.std.specs.Prelude.{◌≡◌, ℕ, Option}
use Rattle.tracing_core_moments.specs.declared.at.At.{At}
use Rattle.tracing_core_fields.specs.requests.PlainRequests.{PlainAttributes, PlainValues}
use Rattle.span_registry_layers_store.specs.Registries.{RegistryValue}
use Rattle.span_registry_layers_store.specs.Views.{mask_of}
use Rattle.span_registry_layers_layers.specs.declared.context.Context.{Context}

-- where and when it is asked, the registry, and the filter under which spans are seen
pub record View : Type 0 where
  pub at : At
  pub registry : RegistryValue
  pub mask : Option ℕ

abbrev pub view : Context → View
view c = record { at = c.at; registry = c.registry.now; mask = mask_of c.filter }

-- the registry as it is there
abbrev pub left : Context → RegistryValue
left c = c.registry.now

-- the same with another value of the registry
abbrev pub seeing : RegistryValue → View → View
seeing x v = record v { registry = x }

-- it is a loan of the same registry, at the same place and under the same filter
abbrev pub SameLoan : Context → Context → Type 0
SameLoan c d = (d.registry.ghost_name ≡ c.registry.ghost_name) × (d.at ≡ c.at) × (d.filter ≡ c.filter)

-- a call that may change a filter
pub data Hook : Type 0 where
  SpanMade : PlainAttributes → ℕ → View → Hook
  Recorded : ℕ → PlainValues → View → Hook
  Entered : ℕ → View → Hook
  Exited : ℕ → View → Hook
  Closed : ℕ → View → Hook
