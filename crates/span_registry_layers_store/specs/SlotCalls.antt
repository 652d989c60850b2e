-- What calls on the slots of spans answer and leave.
use Rattle.std.specs.Prelude.{◌≡◌, ℕ, List, Option, Some, None, Result, Ok, Err}
use Rattle.span_registry_layers_store.specs.Registries.{PlainSpan, RegistryValue, kin_in}
use Rattle.span_registry_layers_store.specs.Slots.{InsertGives, PlainPlace, PlainSlot, RemoveGives, ReplaceGives, plain_slot}
use Rattle.span_registry_layers_store.specs.Spans.{changed, found}
use Rattle.span_registry_layers_store.specs.declared.slot.InsertError.{InsertError}
use Rattle.span_registry_layers_store.specs.declared.slot.InsertError.TheVariants.{Present, OutOfMemory, UnknownSpan}
use Rattle.span_registry_layers_store.specs.declared.slot.Slot.{Slot}
use Rattle.span_registry_layers_store.specs.declared.slot.Tag.{Tag}

abbrev pub with_places : List PlainPlace → PlainSpan → PlainSpan
with_places places s = record s { slots = places }

-- with other slots of a span: each other span, the lanes and the rest stay
abbrev pub with_slots : RegistryValue → ℕ → List PlainPlace → RegistryValue
with_slots x id places = record x { spans = changed kin_in (with_places places) x.spans id }

-- a call on the slots of the span, where it is open
abbrev pub ChangesSlots : {R : Type 0} → Option PlainSpan → RegistryValue → ℕ → (List PlainPlace → R → List PlainPlace → Type 0) →
    (R → Type 0) → R → RegistryValue → Type 0
ChangesSlots None x id gives refuses r y = refuses r × (y ≡ x)
ChangesSlots (Some s) x id gives refuses r y = (places : List PlainPlace) × gives s.slots r places × (y ≡ with_slots x id places)

abbrev pub InsertRefused : PlainSlot → Result (Unit {0}) InsertError → Type 0
InsertRefused s (Ok done) = ⊥
InsertRefused s (Err (Present back)) = ⊥
InsertRefused s (Err (OutOfMemory back)) = ⊥
InsertRefused s (Err (UnknownSpan back)) = plain_slot back ≡ s

abbrev pub InsertsSlot : RegistryValue → ℕ → ℕ → Tag → PlainSlot → Result (Unit {0}) InsertError → RegistryValue → Type 0
InsertsSlot x id key t s r y = ChangesSlots (found kin_in x.spans id) x id (λ ps a qs. InsertGives ps key t s a qs) (InsertRefused s) r y

abbrev pub ReplaceRefused : PlainSlot → Result (Option Slot) Slot → Type 0
ReplaceRefused s (Ok before) = ⊥
ReplaceRefused s (Err back) = plain_slot back ≡ s

abbrev pub ReplacesSlot : RegistryValue → ℕ → ℕ → Tag → PlainSlot → Result (Option Slot) Slot → RegistryValue → Type 0
ReplacesSlot x id key t s r y = ChangesSlots (found kin_in x.spans id) x id (λ ps a qs. ReplaceGives ps key t s a qs) (ReplaceRefused s) r y

abbrev pub RemoveRefused : Option Slot → Type 0
RemoveRefused r = r ≡ None

abbrev pub RemovesSlot : RegistryValue → ℕ → ℕ → Tag → Option Slot → RegistryValue → Type 0
RemovesSlot x id key t r y = ChangesSlots (found kin_in x.spans id) x id (λ ps a qs. RemoveGives ps key t a qs) RemoveRefused r y
