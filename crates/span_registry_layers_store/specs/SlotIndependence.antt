-- What outputs keep with spans stands aside: nothing else of a registry depends on it.
use Rattle.std.specs.Prelude.{◌≡◌, ◌==◌, ◌||◌, ℕ, Bool, true, false, List, [], map, filter, Option, Result, refl}
use Rattle.std.proofs.Common.{ap, ◌∙◌}
use Rattle.span_registry_layers_store.specs.SlotCalls.{InsertsSlot, RemovesSlot, ReplacesSlot}
use Rattle.span_registry_layers_store.specs.Laws.{IsSound}
use Rattle.span_registry_layers_store.specs.Registries.{PlainSpan, RegistryValue, closing_in, current_on, kin_in, swept}
use Rattle.span_registry_layers_store.specs.Slots.{PlainPlace, PlainSlot}
use Rattle.span_registry_layers_store.specs.Spans.{is_open}
use Rattle.span_registry_layers_store.specs.declared.slot.InsertError.{InsertError}
use Rattle.span_registry_layers_store.specs.declared.slot.Slot.{Slot}
use Rattle.span_registry_layers_store.specs.declared.slot.Tag.{Tag}

-- a span without what outputs keep with it
abbrev pub bare_span : PlainSpan → PlainSpan
bare_span s = record s { slots = [] }

-- a registry without that
abbrev pub bare : RegistryValue → RegistryValue
bare x = record x { spans = map bare_span x.spans }

-- two registries differ in slots alone
abbrev pub SameButSlots : RegistryValue → RegistryValue → Type 0
SameButSlots x y = bare y ≡ bare x

-- a span with the slots under a key alone
abbrev pub own_slots : ℕ → PlainSpan → PlainSpan
own_slots key s = record s { slots = filter (λ (p : PlainPlace). p.key == key) s.slots }

-- a registry with these alone
abbrev pub under_key : ℕ → RegistryValue → RegistryValue
under_key key x = record x { spans = map (own_slots key) x.spans }

-- two registries differ in slots under these keys alone
abbrev pub SameButKeys : (ℕ → Bool) → RegistryValue → RegistryValue → Type 0
SameButKeys keys x y = SameButSlots x y × ((key : ℕ) → keys key ≡ false → under_key key y ≡ under_key key x)

pub keys_equal : (keys : ℕ → Bool) (x y : RegistryValue) → y ≡ x → SameButKeys keys x y
keys_equal keys x y e = (ap bare e, λ key none. ap (under_key key) e)

neither : (a b : Bool) → (a || b) ≡ false → (a ≡ false) × (b ≡ false)
neither true b e = absurd (cc)
neither false b e = (refl, e)

-- what two write, one after the other, is under the keys of both
pub keys_then : (keys more : ℕ → Bool) (x z y : RegistryValue) → SameButKeys keys x z → SameButKeys more z y →
    SameButKeys (λ key. more key || keys key) x y
keys_then keys more x z y a b = (b.0 ∙ a.0, λ key none. let parts = neither (more key) (keys key) none in b.1 key parts.0 ∙ a.1 key parts.1)

-- the ids of spans
abbrev pub ids_of : List PlainSpan → List ℕ
ids_of ss = map (λ (s : PlainSpan). s.kin.id) ss

-- the same spans close, in the same order, and what is left differs in slots alone; the same ids are open, each lane is in the same span,
-- and one is
-- sound where the other is
pub record AgreesAside (x y : RegistryValue) : Type 0 where
  pub closing : ids_of (closing_in y) ≡ ids_of (closing_in x)
  pub left : SameButSlots (swept x) (swept y)
  pub listed : (id : ℕ) → is_open kin_in y.spans id ≡ is_open kin_in x.spans id
  pub lane : (number : ℕ) → current_on y number ≡ current_on x number
  pub sound : IsSound x → IsSound y

-- so it is for any two registries that differ in slots alone
abbrev pub SlotsStandAside : Type 0
SlotsStandAside = (x y : RegistryValue) → SameButSlots x y → AgreesAside x y

-- a call on the slots under a key leaves what stands under each other key, and all but slots
pub record PreservesOtherKeys (x y : RegistryValue) (id key : ℕ) (t : Tag) : Type 0 where
  pub inserted : (s : PlainSlot) (r : Result (Unit {0}) InsertError) → InsertsSlot x id key t s r y → SameButKeys (λ k. k == key) x y
  pub replaced : (s : PlainSlot) (r : Result (Option Slot) Slot) → ReplacesSlot x id key t s r y → SameButKeys (λ k. k == key) x y
  pub removed : (r : Option Slot) → RemovesSlot x id key t r y → SameButKeys (λ k. k == key) x y

abbrev pub SlotsKeepToTheirKey : Type 0
SlotsKeepToTheirKey = (x y : RegistryValue) (id key : ℕ) (t : Tag) → PreservesOtherKeys x y id key t
