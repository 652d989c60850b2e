-- Slots that are lent for writing.
use Rattle.std.specs.Prelude.{◌≡◌, ℕ, List, Option, Some, map, slice_get, slice_set, Vec}
use Rattle.std.specs.Borrow.{LendsIf, MutBor, Fml}
use Rattle.std.specs.Option.{option_map}
use Rattle.span_registry_layers_store.specs.SlotCalls.{with_places, with_slots}
use Rattle.span_registry_layers_store.specs.Registries.{PlainSpan, RegistryValue, kin_in}
use Rattle.span_registry_layers_store.specs.Slots.{PlainPlace, plain_place, plain_slot, slot_at, with_slot}
use Rattle.span_registry_layers_store.specs.Spans.{changed, found}
use Rattle.span_registry_layers_store.specs.Views.{seen_if}
use Rattle.span_registry_layers_store.specs.declared.slot.Place.{Place}
use Rattle.span_registry_layers_store.specs.declared.slot.Slot.{Slot}
use Rattle.span_registry_layers_store.specs.declared.slot.Tag.{Tag}
use Rattle.span_registry_layers_store.specs.contracts.registry.Registry as registry
use Rattle.span_registry_layers_store.specs.contracts.slot.Slot as slot
use Rattle.span_registry_layers_store.specs.contracts.extensions.Extensions as extensions
use Rattle.span_registry_layers_store.specs.contracts.spans.Spans as spans
use Rattle.span_registry_layers_store.specs.SpanSlots.{AreSound, spans_in, with_slots_in}
use Rattle.span_registry_layers_store.specs.declared.index.Entry.{Entry}
use Rattle.span_registry_layers_store.specs.declared.span_slot.SpanSlot.{SpanSlot}
use Rattle.std.specs.Global.{Global}

-- the slot of an output under a tag stands there, or past the end where there is none
abbrev pub IsSlotToLend : List Place → ℕ → Tag → ℕ → Type 0
IsSlotToLend ps key t place =
    (option_map (λ (p : Place). plain_slot p.slot) (slice_get ps place) ≡ slot_at (map plain_place ps) key t)
    × ((w : Slot) (p : Place) → slice_get ps place ≡ Some p → with_slot (map plain_place ps) key t (plain_slot w) ≡
    map plain_place (slice_set ps place (record p { slot = w })))

-- the slots end with the last value behind r in place of that slot
abbrev pub LendsSlot : MutBor (List PlainPlace) → ℕ → Tag → Option (MutBor Slot) → Fml
LendsSlot s key t r = LendsIf extensions.the_row slot.the_row s r (λ w. with_slot s.now key t (plain_slot w)) s.now

abbrev pub slots_of : PlainSpan → List PlainPlace
slots_of s = s.slots

-- the span stands in that slot, or past the end where it isn't open or seen
pub record IsSpanToLend (xs : List SpanSlot) (es : List Entry) (mask : Option ℕ) (id k : ℕ) : Type 0 where
  pub is : option_map (λ (s : SpanSlot). s.span.extensions) (slice_get xs k) ≡
      option_map slots_of (seen_if mask (found kin_in (spans_in xs es) id))
  pub put : (w : List PlainPlace) (s : SpanSlot) → slice_get xs k ≡ Some s → changed kin_in (with_places w) (spans_in xs es) id ≡
      spans_in (slice_set xs k (with_slots_in w s)) es
  pub sound : (w : List PlainPlace) (s : SpanSlot) → slice_get xs k ≡ Some s → (free : Vec ℕ Global) → AreSound xs free es →
      AreSound (slice_set xs k (with_slots_in w s)) free es

-- the spans end with the last value behind r as the slots of that span
abbrev pub LendsSlotsOf : MutBor (List PlainSpan) → ℕ → Option (MutBor (List PlainPlace)) → Fml
LendsSlotsOf ss id r = LendsIf spans.the_row extensions.the_row ss r (λ w. changed kin_in (with_places w) ss.now id) ss.now

-- the registry ends with the last value behind r as the slots of that span
abbrev pub LendsSlots : MutBor RegistryValue → ℕ → Option (MutBor (List PlainPlace)) → Fml
LendsSlots x id r = LendsIf registry.the_row extensions.the_row x r (λ w. with_slots x.now id w) x.now
