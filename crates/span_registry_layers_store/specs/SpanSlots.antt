-- Open spans in slots, and the index that finds them by their ids.
use Rattle.std.specs.Prelude.{◌≡◌, ◌<◌, ◌≤◌, ℕ, ◌+◌, ◌-◌, ◌==◌, ◌&&◌, ◌||◌, nat_lt, List, [], ◌∷◌, ◌++◌, Bool, true, false, not}
use Rattle.std.specs.Prelude.{if◌then◌else◌, length, map, Option, Some, None, IfSome, slice_get, slice_index_or, slice_set, Vec}
use Rattle.std.specs.Prelude.{vec_capacity}
use Rattle.std.specs.declared.sync.Arc.{Arc}
use Rattle.std.specs.Global.{Global}
use Rattle.std.specs.List.{AllByRecursion}
use Rattle.tracing_core_fields.specs.declared.owned_metadata.OwnedMetadata.{OwnedMetadata}
use Rattle.span_registry_layers_store.specs.Registries.{PlainSpan, plain_span}
use Rattle.span_registry_layers_store.specs.Slots.{PlainPlace}
use Rattle.span_registry_layers_store.specs.Spans.{Rises, changed, found, is_entered, is_parent, one_if}
use Rattle.span_registry_layers_store.specs.declared.filter_map.FilterMap.{FilterMap}
use Rattle.span_registry_layers_store.specs.declared.index.Entry.{Entry}
use Rattle.span_registry_layers_store.specs.declared.record.SpanRecord.{SpanRecord}
use Rattle.span_registry_layers_store.specs.declared.span_slot.SpanSlot.{SpanSlot}

-- an entry's id, as the kinship of a span
abbrev pub entry_kin : Entry → SpanRecord
entry_kin e = record { id = e.id; parent = None; handles = 0 }

abbrev pub slot_kin : SpanSlot → SpanRecord
slot_kin s = s.span.kin

abbrev pub plain_slot_span : SpanSlot → PlainSpan
plain_slot_span s = plain_span s.span

-- whether the span of an id stands in a slot
abbrev pub holds : ℕ → SpanSlot → Bool
holds id s = s.is_open && (s.span.kin.id == id)

abbrev pub holds_in : ℕ → Option SpanSlot → Bool
holds_in id None = false
holds_in id (Some s) = holds id s

-- whether an entry's span stands in its slot still
abbrev pub leads : List SpanSlot → Entry → Bool
leads slots e = holds_in e.id (slice_get slots e.slot)

abbrev pub if_holds : ℕ → Option SpanSlot → List SpanSlot
if_holds id None = []
if_holds id (Some s) = if holds id s then s ∷ [] else []

-- the slots of the open spans, in the order of the index
abbrev pub standing : List SpanSlot → List Entry → List SpanSlot
standing slots [] = []
standing slots (e ∷ es) = if_holds e.id (slice_get slots e.slot) ++ standing slots es

-- the list of open spans
abbrev pub spans_in : List SpanSlot → List Entry → List PlainSpan
spans_in slots index = map plain_slot_span (standing slots index)

-- the only entry of the id stands there
pub record IsEntryPlace (index : List Entry) (id place : ℕ) : Type 0 where
  pub within : place < length index
  pub same : (d : Entry) → (slice_index_or index place d).id ≡ id
  pub here : found entry_kin index id ≡ slice_get index place

abbrev pub OnlyIn : ℕ → ℕ → List Entry → Type 0
OnlyIn id slot index = AllByRecursion (λ (e : Entry). e.id ≡ id → e.slot ≡ slot) index

-- the span of the id is open and stands in the slot
pub record IsSlotOf (slots : List SpanSlot) (index : List Entry) (id slot : ℕ) : Type 0 where
  pub within : slot < length slots
  pub only : OnlyIn id slot index
  pub stands : IfSome (slice_get slots slot) (λ (s : SpanSlot). holds id s ≡ true)
  pub here : found slot_kin (standing slots index) id ≡ slice_get slots slot

-- how many of these are children of the id
abbrev pub children_of : ℕ → List SpanSlot → ℕ
children_of id [] = 0
children_of id (s ∷ ss) = one_if (is_parent id s.span.kin.parent) + children_of id ss

-- each counts its children among those made later
abbrev pub CountChildren : List SpanSlot → Type 0
CountChildren [] = Unit {0}
CountChildren (s ∷ ss) = (s.children ≡ children_of s.span.kin.id ss) × CountChildren ss

-- without the span of an id
abbrev pub gone : List SpanSlot → ℕ → List SpanSlot
gone [] id = []
gone (s ∷ ss) id = if s.span.kin.id == id then ss else s ∷ gone ss id

abbrev pub entry_at : ℕ → ℕ → Entry
entry_at id slot = record { id = id; slot = slot }

-- each open span has its entry in the index
pub record AreIndexed (slots : List SpanSlot) (index : List Entry) : Type 0 where
  pub entry : (k : ℕ) (s : SpanSlot) → slice_get slots k ≡ Some s → s.is_open ≡ true →
      found entry_kin index s.span.kin.id ≡ Some (entry_at s.span.kin.id k)

-- a slot of the list of free slots holds no span, and nothing that outputs keep
abbrev pub IsFree : List SpanSlot → ℕ → Type 0
IsFree slots k = IfSome (slice_get slots k) (λ (s : SpanSlot). (s.is_open ≡ false) × (s.span.extensions ≡ [])) × (k < length slots)

abbrev pub AreFree : List SpanSlot → List ℕ → Type 0
AreFree slots [] = Unit {0}
AreFree slots (k ∷ ks) = IsFree slots k × AreFree slots ks

-- none stands there twice
abbrev pub Apart : List ℕ → Type 0
Apart [] = Unit {0}
Apart (k ∷ ks) = AllByRecursion (λ (j : ℕ). k ≡ j → ⊥) ks × Apart ks

-- what is true of the fields: ids rise in the index, where each open span has its entry, free slots are vacant and apart, each slot is
-- free or holds an open span, there is room for each in the list of free slots, and children are counted
pub record AreSound (slots : List SpanSlot) (free : Vec ℕ Global) (index : List Entry) : Type 0 where
  pub rise : Rises entry_kin 0 index
  pub indexed : AreIndexed slots index
  pub vacant : AreFree slots free.items
  pub apart : Apart free.items
  pub all : length free.items + length (standing slots index) ≡ length slots
  pub room : length slots ≤ vec_capacity free
  pub children : CountChildren (standing slots index)

-- the last entry leads to an open span
abbrev pub EndsOpen : List SpanSlot → List Entry → Type 0
EndsOpen slots [] = Unit {0}
EndsOpen slots (e ∷ []) = leads slots e ≡ true
EndsOpen slots (e ∷ f ∷ es) = EndsOpen slots (f ∷ es)

abbrev pub taken_by : SpanRecord → Arc OwnedMetadata Global → FilterMap → SpanSlot → SpanSlot
taken_by kin metadata passed s =
    record { span = record s.span { kin = kin; metadata = metadata; passed = passed }; is_open = true; children = 0 }

abbrev pub let_go : SpanSlot → SpanSlot
let_go s = record s { span = record s.span { extensions = [] }; is_open = false }

abbrev pub one_child_more : SpanSlot → SpanSlot
one_child_more s = record s { children = s.children + 1 }

abbrev pub one_child_less : SpanSlot → SpanSlot
one_child_less s = record s { children = s.children - 1 }

-- with one child more, or less, of a parent, where there is one
abbrev pub more_children : List SpanSlot → Option ℕ → List SpanSlot
more_children ss None = ss
more_children ss (Some p) = changed slot_kin one_child_more ss p

abbrev pub less_children : List SpanSlot → Option ℕ → List SpanSlot
less_children ss None = ss
less_children ss (Some p) = changed slot_kin one_child_less ss p

-- a parent that was made before the span
abbrev pub before_only : ℕ → Option ℕ → Option ℕ
before_only id None = None
before_only id (Some p) = if nat_lt p id then Some p else None

-- whether a span stays: it has a handle, or an entry, or children
abbrev pub stays_by : List (List ℕ) → SpanSlot → Bool
stays_by lanes s = nat_lt 0 s.span.kin.handles || (is_entered lanes s.span.kin.id || nat_lt 0 s.children)

-- a count of children has room for one more
abbrev pub CountsFit : List SpanSlot → List Entry → Type 0
CountsFit slots index = (id : ℕ) (s : SpanSlot) → found slot_kin (standing slots index) id ≡ Some s → s.children < 18446744073709551615

-- counts of children change, and nothing else: slots that were free are so still, and open spans have their entries
pub record ChangesCounts (f : List SpanSlot → List SpanSlot) (slots later : Vec SpanSlot Global) (index : List Entry) : Type 0 where
  pub standing_is : standing later.items index ≡ f (standing slots.items index)
  pub size : length later.items ≡ length slots.items
  pub capacity : vec_capacity later ≡ vec_capacity slots
  pub still_free : (ks : List ℕ) → AreFree slots.items ks → AreFree later.items ks
  pub still_indexed : AreIndexed slots.items index → AreIndexed later.items index

-- a slot whose span is let go
abbrev pub IsVacated : List SpanSlot → ℕ → List SpanSlot → Type 0
IsVacated slots k later = (s : SpanSlot) → slice_get slots k ≡ Some s → later ≡ slice_set slots k (let_go s)

-- a slot with a new span
abbrev pub fresh : SpanRecord → Arc OwnedMetadata Global → FilterMap → SpanSlot
fresh kin metadata passed = record
    { span = record { kin = kin; metadata = metadata; passed = passed; extensions = [] }; is_open = true; children = 0 }

abbrev pub new_span : SpanRecord → Arc OwnedMetadata Global → FilterMap → PlainSpan
new_span kin metadata passed = plain_span (record { kin = kin; metadata = metadata; passed = passed; extensions = [] })

-- a span is put into a slot that was free or is new
pub record TakesSlot (slots : List SpanSlot) (free : Vec ℕ Global) (t : SpanSlot) (k : ℕ) (later : List SpanSlot) (left : Vec ℕ Global) :
    Type 0 where
  pub beside : (j m : ℕ) → (j == t.span.kin.id) ≡ false → if_holds j (slice_get later m) ≡ if_holds j (slice_get slots m)
  pub here : slice_get later k ≡ Some t
  pub others : (m : ℕ) → (m ≡ k → ⊥) → slice_get later m ≡ slice_get slots m
  pub vacant : AreFree later left.items
  pub apart : Apart left.items
  pub all : length later + length free.items ≡ length slots + length left.items + 1
  pub room : length later ≤ vec_capacity left

-- an entry leads to an open span that doesn't stay
abbrev pub goes_at : List (List ℕ) → ℕ → Option SpanSlot → Bool
goes_at lanes id None = false
goes_at lanes id (Some s) = holds id s && not (stays_by lanes s)

abbrev pub goes : List SpanSlot → List (List ℕ) → Entry → Bool
goes slots lanes e = goes_at lanes e.id (slice_get slots e.slot)

-- with other slots of outputs
abbrev pub with_slots_in : List PlainPlace → SpanSlot → SpanSlot
with_slots_in w s = record s { span = record s.span { extensions = w } }
