-- What an output is told.
use Rattle.std.specs.Prelude.{◌≡◌, ◌+◌, ℕ, Bool, Option}
use Rattle.tracing_core_fields.specs.requests.PlainRequests.{PlainEvent}
use Rattle.span_registry_layers_store.specs.SlotIndependence.{SameButKeys, SameButSlots, keys_equal}
use Rattle.span_registry_layers_store.specs.Registries.{RegistryValue}
use Rattle.span_registry_layers_layers.specs.FilterViews.{Hook, View}

-- what is said of spans and events: a call on a span that its filter is told too, a span that follows another one, an event, and a span's
-- new id
pub data Said : Type 0 where
  OnSpan : ℕ → (View → Hook) → Said
  OnFollows : ℕ → ℕ → Said
  OnEvent : PlainEvent → Said
  OnIdChange : ℕ → ℕ → Said

-- what was said, with what is seen and with the registry as it is left; the hub's handle, and the registry that it is attached to
pub data Notice : Type 0 where
  Called : Said → View → RegistryValue → Notice
  Dispatched : Option ℕ → Notice
  Attached : RegistryValue → Notice

abbrev pub Spanned : ℕ → (View → Hook) → View → RegistryValue → Notice
Spanned id call v y = Called (OnSpan id call) v y

abbrev pub Followed : ℕ → ℕ → View → RegistryValue → Notice
Followed span follows v y = Called (OnFollows span follows) v y

abbrev pub Happened : PlainEvent → View → RegistryValue → Notice
Happened e v y = Called (OnEvent e) v y

abbrev pub Renamed : ℕ → ℕ → View → RegistryValue → Notice
Renamed old new v y = Called (OnIdChange old new) v y

-- the registry as it was and as it is left are so related
abbrev pub Leaves : (RegistryValue → RegistryValue → Type 0) → Notice → Type 0
Leaves R (Called said v y) = R v.registry y
Leaves R (Dispatched handle) = Unit {0}
Leaves R (Attached x) = Unit {0}

-- it is left as it was
abbrev pub Untouched : Notice → Type 0
Untouched n = Leaves (λ x y. y ≡ x) n

-- it is left as it was but for slots of spans
abbrev pub WritesSlots : Notice → Type 0
WritesSlots n = Leaves SameButSlots n

-- but for slots under these keys
abbrev pub WritesUnder : (ℕ → Bool) → Notice → Type 0
WritesUnder keys n = Leaves (SameButKeys keys) n

-- what is so related by the one is by the other
pub leaves_by : (R S : RegistryValue → RegistryValue → Type 0) → ((x y : RegistryValue) → R x y → S x y) → (n : Notice) → Leaves R n →
    Leaves S n
leaves_by R S f (Called said v y) w = f v.registry y w
leaves_by R S f (Dispatched handle) w = tt
leaves_by R S f (Attached x) w = tt

pub untouched_writes : (keys : ℕ → Bool) (n : Notice) → Untouched n → WritesUnder keys n
untouched_writes keys n w = leaves_by (λ x y. y ≡ x) (SameButKeys keys) (keys_equal keys) n w

pub slots_alone : (keys : ℕ → Bool) (n : Notice) → WritesUnder keys n → WritesSlots n
slots_alone keys n w = leaves_by (SameButKeys keys) SameButSlots (λ x y same. same.0) n w

-- the registry has some more filters, and is the same else
abbrev pub AddsFilters : RegistryValue → RegistryValue → Type 0
AddsFilters x y = (count : ℕ) × (y ≡ record x { filters = x.filters + count })
