-- What an output keeps with a span of a registry, and what a call leaves there.
use Rattle.std.specs.Prelude.{◌≡◌, ◌==◌, ℕ, List, false, Option, Some, None}
use Rattle.span_registry_layers_store.specs.SlotIndependence.{SameButKeys}
use Rattle.span_registry_layers_store.specs.SlotCalls.{with_slots}
use Rattle.span_registry_layers_store.specs.Registries.{PlainSpan, RegistryValue}
use Rattle.span_registry_layers_store.specs.Slots.{PlainPlace}
use Rattle.span_registry_layers_store.specs.Views.{seen}
use Rattle.span_registry_layers_layers.specs.FilterViews.{View, seeing}
use Rattle.event_formatter_lines.specs.slots.FieldsAndTimings.{PlainKept, kept_at, nothing_kept}

abbrev pub kept_with : ℕ → Option PlainSpan → PlainKept
kept_with key None = nothing_kept
kept_with key (Some s) = kept_at key s.slots

-- what is kept with the span of an id, where it is open and seen under a filter
abbrev pub kept_under : RegistryValue → Option ℕ → ℕ → ℕ → PlainKept
kept_under x mask id key = kept_with key (seen x mask id)

abbrev pub kept_in : View → ℕ → ℕ → PlainKept
kept_in v id key = kept_under v.registry v.mask id key

abbrev pub KeepsWith : Option PlainSpan → RegistryValue → ℕ → ℕ → PlainKept → RegistryValue → Type 0
KeepsWith None x id key kept y = y ≡ x
KeepsWith (Some s) x id key kept y =
    (places : List PlainPlace) × (kept_at key places ≡ kept) × (y ≡ with_slots x id places)

-- the span of an id, where it is open and seen, keeps this, and the registry is else unchanged
abbrev pub Rekeeps : View → ℕ → ℕ → PlainKept → RegistryValue → Type 0
Rekeeps v id key kept y =
    KeepsWith (seen v.registry v.mask id) v.registry id key kept y × SameButKeys (λ k. k == key) v.registry y

-- the span keeps what was written, other spans what they kept, and each span what it kept under other keys, as any
-- filter sees them
pub record KeptAfter (v : View) (id key : ℕ) (kept : PlainKept) (y : RegistryValue) : Type 0 where
  pub written : (s : PlainSpan) → seen v.registry v.mask id ≡ Some s → kept_in (seeing y v) id key ≡ kept
  pub elsewhere : (mask : Option ℕ) (other : ℕ) → (id == other) ≡ false →
      kept_under y mask other key ≡ kept_under v.registry mask other key
  pub others : (mask : Option ℕ) (other k : ℕ) → (k == key) ≡ false →
      kept_under y mask other k ≡ kept_under v.registry mask other k

abbrev pub RekeepingIsLocal : Type 0
RekeepingIsLocal =
    (v : View) (id key : ℕ) (kept : PlainKept) (y : RegistryValue) → Rekeeps v id key kept y → KeptAfter v id key kept y
