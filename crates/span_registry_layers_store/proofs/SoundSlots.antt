-- A span that comes, and one that goes.
use Rattle.std.proofs.Common.{◌≡◌, ℕ, ◌<◌, ◌≤◌, ◌==◌, List, [], ◌∷◌, ◌++◌, length, map, set, get_or, true, false, slice_get, Option, Some}
use Rattle.std.proofs.Common.{None, refl, sym, ap, ◌∙◌, subst, arith, length-append, Vec, vec_capacity}
use Rattle.std.specs.declared.sync.Arc.{Arc}
use Rattle.std.specs.Global.{Global}
use Rattle.std.specs.List.{AllByRecursion}
use Rattle.std.proofs.lemmas.List.{length-set}
use Rattle.tracing_core_fields.specs.declared.owned_metadata.OwnedMetadata.{OwnedMetadata}
use Rattle.span_registry_layers_store.specs.RegistryCalls.{dropped}
use Rattle.span_registry_layers_store.specs.Registries.{PlainSpan}
use Rattle.span_registry_layers_store.specs.SpanSlots.{AreIndexed, Apart, AreFree, AreSound, ChangesCounts, CountChildren, CountsFit}
use Rattle.span_registry_layers_store.specs.SpanSlots.{EndsOpen, IsFree, IsSlotOf, IsVacated, TakesSlot, before_only, entry_at, entry_kin}
use Rattle.span_registry_layers_store.specs.SpanSlots.{fresh, gone, if_holds, less_children, let_go, more_children, new_span, one_child_less}
use Rattle.span_registry_layers_store.specs.SpanSlots.{one_child_more, plain_slot_span, slot_kin, spans_in, standing, taken_by}
use Rattle.span_registry_layers_store.specs.Slots.{PlainPlace}
use Rattle.span_registry_layers_store.specs.Spans.{Rises, changed, found}
use Rattle.span_registry_layers_store.specs.declared.filter_map.FilterMap.{FilterMap}
use Rattle.span_registry_layers_store.specs.declared.index.Entry.{Entry}
use Rattle.span_registry_layers_store.specs.declared.record.SpanRecord.{SpanRecord}
use Rattle.span_registry_layers_store.specs.declared.span.Span.{Span}
use Rattle.span_registry_layers_store.specs.declared.span_slot.SpanSlot.{SpanSlot}
use Rattle.span_registry_layers_store.proofs.ChildCounts.{children_below, count_left, count_new}
use Rattle.span_registry_layers_store.proofs.IndexEnds.{ends_below}
use Rattle.span_registry_layers_store.proofs.IndexOrder.{same_test}
use Rattle.span_registry_layers_store.proofs.Lists.{get_at, map_more}
use Rattle.span_registry_layers_store.proofs.IdOrder.{rises_more}
use Rattle.span_registry_layers_store.proofs.SlotViews.{gone_shown, length_gone, length_less, length_more, less_unseen, more_unseen}
use Rattle.span_registry_layers_store.proofs.SlotViews.{none_changed}
use Rattle.span_registry_layers_store.proofs.SlotChanges.{found_there, free_there, gone_there, put_there, reads, stood}
use Rattle.span_registry_layers_store.proofs.StandingSlots.{held, put_last, standing_rise}
use Rattle.span_registry_layers_store.proofs.FreeSlots.{beside_more, beside_set, last_apart, last_free, more_apart, more_free, more_other}
use Rattle.span_registry_layers_store.proofs.FreeSlots.{more_same, only_closed, only_open, rest_apart, rest_free, set_other, set_same}
use Rattle.span_registry_layers_store.proofs.IndexedSlots.{put_indexed, taken_indexed, vacated_indexed}

-- a free slot is within, and holds nothing
pub free_within : (slots : List SpanSlot) (free : List ℕ) (left : List ℕ) (k : ℕ) → free ≡ left ++ k ∷ [] → AreFree slots free →
    k < length slots
free_within slots free left k is vacant = (last_free slots k left (subst (λ ks. AreFree slots ks) is vacant)).1

taken_fresh : (kin : SpanRecord) (metadata : Arc OwnedMetadata Global) (passed : FilterMap) (s : SpanSlot) → s.span.extensions ≡ [] →
    taken_by kin metadata passed s ≡ fresh kin metadata passed
taken_fresh kin metadata passed s is =
    ap (λ (sl : List PlainPlace). record
    { span = record { kin = kin; metadata = metadata; passed = passed; extensions = sl }; is_open = true; children = 0 }) is

module _ (slots : List SpanSlot) (free left : Vec ℕ Global) (k : ℕ) (kin : SpanRecord) (metadata : Arc OwnedMetadata Global)
    (passed : FilterMap) (s t : SpanSlot) where
  -- into a free slot
  pub takes_free : free.items ≡ left.items ++ k ∷ [] → vec_capacity left ≡ vec_capacity free → AreFree slots free.items →
      Apart free.items → length slots ≤ vec_capacity free → s ≡ get_or slots k s → t ≡
      taken_by kin metadata passed s →
      TakesSlot slots free (fresh kin metadata passed) k (set slots k t) left
  takes_free is capacity vacant apart fits read gives =
      let vacant_all : AreFree slots (left.items ++ k ∷ []) = subst (λ ks. AreFree slots ks) is vacant in
      let one = last_free slots k left.items vacant_all in
      let here = get_at slots k s one.1 read in
      let empty : (s.is_open ≡ false) × (s.span.extensions ≡ []) = rw here at one.0 in
      let same : t ≡ fresh kin metadata passed = gives ∙ taken_fresh kin metadata passed s empty.1 in
      let apart_all : Apart (left.items ++ k ∷ []) = subst Apart is apart in
      let size = length-set slots k t in
      let sizes = ap length is in
      let more = length-append left.items (k ∷ []) in
      record {
        beside = beside_set kin.id k slots s t here one.1 (only_closed kin.id s empty.0)
            (only_open kin.id t (ap (λ (x : SpanSlot). x.span.kin.id) same));
        here = set_same slots k t one.1 ∙ ap (λ x. Some x) same;
        others = λ m apart. set_other slots k m t apart;
        vacant = rest_free slots k left.items t vacant_all (last_apart k left.items apart_all);
        apart = rest_apart k left.items apart_all;
        all = omega (arith, size, sizes, more);
        room = omega (arith, size, capacity, fits);
      }

abbrev fresh_with : SpanRecord → Arc OwnedMetadata Global → FilterMap → List PlainPlace → SpanSlot
fresh_with kin metadata passed sl =
    record { span = record { kin = kin; metadata = metadata; passed = passed; extensions = sl }; is_open = true; children = 0 }

pub none_left : (ks : List ℕ) → length ks ≡ 0 → ks ≡ []
none_left [] is = refl
none_left (k ∷ ks) is = absurd (omega (arith, is))

module _ (slots later : List SpanSlot) (free left : Vec ℕ Global) (k : ℕ) (kin : SpanRecord) (metadata : Arc OwnedMetadata Global)
    (passed : FilterMap) (sl : List PlainPlace) where
  -- into a new slot
  pub takes_new : length free.items ≡ 0 → length left.items ≡ 0 → vec_capacity left ≡ vec_capacity free →
      length slots < vec_capacity free → k ≡ length slots → sl ≡ [] →
      later ≡ slots ++ fresh_with kin metadata passed sl ∷ [] →
      TakesSlot slots free (fresh kin metadata passed) k later left
  takes_new none_free none_later capacity fits at_end empty is =
      let nothing = none_left left.items none_later in
      let now : later ≡ slots ++ fresh kin metadata passed ∷ [] = is ∙
      ap (λ (x : List PlainPlace). slots ++ fresh_with kin metadata passed x ∷ []) empty in
      let size = ap length now in
      let more = length-append slots (fresh kin metadata passed ∷ []) in
      record {
        beside = subst (λ (ss : List SpanSlot). (j m : ℕ) → (j == kin.id) ≡ false → if_holds j (slice_get ss m) ≡
            if_holds j (slice_get slots m)) (sym now)
            (beside_more kin.id slots (fresh kin metadata passed) (only_open kin.id (fresh kin metadata passed) refl));
        here = subst (λ (ss : List SpanSlot). slice_get ss k ≡ Some (fresh kin metadata passed)) (sym now)
            (subst (λ (j : ℕ). slice_get (slots ++ fresh kin metadata passed ∷ []) j ≡ Some (fresh kin metadata passed)) (sym at_end)
            (more_same slots (fresh kin metadata passed)));
        others = λ m apart. ap (λ (ss : List SpanSlot). slice_get ss m) now ∙
            more_other slots m (fresh kin metadata passed) (λ same. apart (same ∙ sym at_end));
        vacant = subst (λ ks. AreFree later ks) (sym nothing) tt;
        apart = subst Apart (sym nothing) tt;
        all = omega (arith, size, more, none_free, none_later);
        room = omega (arith, size, more, capacity, fits);
      }

-- what a call that only looks at the end of the index leaves
pub sound_end : (slots later : List SpanSlot) (free kept : Vec ℕ Global) (index left : List Entry) → AreSound slots free index → later ≡
    slots → kept.items ≡ free.items → length slots ≤ vec_capacity kept → standing slots left ≡ standing slots index →
    Rises entry_kin 0 left → AreIndexed slots left → AreSound later kept left
sound_end slots later free kept index left sound same free_same room ends rise indexed =
    subst (λ ss. AreSound ss kept left) (sym same) (record {
      rise = rise;
      indexed = indexed;
      vacant = subst (λ ks. AreFree slots ks) (sym free_same) sound.vacant;
      apart = subst Apart (sym free_same) sound.apart;
      all = rw (ends, free_same) sound.all;
      room = room;
      children = subst CountChildren (sym ends) sound.children;
    })

pub counts_fit : (slots : List SpanSlot) (free : Vec ℕ Global) (index : List Entry) → AreSound slots free index →
    length slots ≤ 18446744073709551615 → CountsFit slots index
counts_fit slots free index sound few = λ id s here. let below = children_below (standing slots index) id s sound.children here in
    let all = sound.all in omega (arith, below, all, few)

module _ (slots counted later : List SpanSlot) (free left : Vec ℕ Global) (index : List Entry) (kin : SpanRecord)
    (metadata : Arc OwnedMetadata Global) (passed : FilterMap) (k : ℕ) (sound : AreSound slots free index) (ends : EndsOpen slots index)
    (below : AllByRecursion (λ (s : PlainSpan). s.kin.id < kin.id) (spans_in slots index))
    (size : length counted ≡ length slots) (counts : standing counted index ≡ more_children (standing slots index) kin.parent)
    (takes : TakesSlot counted free (fresh kin metadata passed) k later left) (indexed : AreIndexed counted index) where
  low : AllByRecursion (λ (e : Entry). e.id < kin.id) index
  low = ends_below slots index kin.id 0 ends sound.rise below

  abbrev entry : Entry
  entry = record { id = kin.id; slot = k }

  abbrev new_slot : SpanSlot
  new_slot = fresh kin metadata passed

  stands_last : standing later (index ++ entry ∷ []) ≡ more_children (standing slots index) kin.parent ++ new_slot ∷ []
  stands_last = put_last counted later kin.id k new_slot index takes.beside takes.here (same_test kin.id kin.id refl) low ∙
      ap (λ xs. xs ++ new_slot ∷ []) counts

  pub pushed_sound : AreSound later left (index ++ entry ∷ [])
  pushed_sound =
      let as_many = ap length stands_last in
      let one_more = length-append (more_children (standing slots index) kin.parent) (new_slot ∷ []) in
      let same = length_more (standing slots index) kin.parent in
      record {
        rise = rises_more entry_kin 0 index entry (omega arith) low sound.rise;
        indexed = taken_indexed counted later index k new_slot low takes.here takes.others indexed;
        vacant = takes.vacant;
        apart = takes.apart;
        all = let all = sound.all in let taken = takes.all in omega (arith, all, taken, as_many, one_more, same, size);
        room = takes.room;
        children = subst CountChildren (sym stands_last)
            (count_new kin.parent 0 (standing slots index) new_slot refl refl (standing_rise 0 slots index sound.rise) sound.children);
      }

  pub pushed_view : spans_in later (index ++ entry ∷ []) ≡ spans_in slots index ++ new_span kin metadata passed ∷ []
  pushed_view = ap (map plain_slot_span) stands_last ∙
      map_more plain_slot_span (more_children (standing slots index) kin.parent) new_slot ∙
      ap (λ ss. ss ++ new_span kin metadata passed ∷ []) (more_unseen (standing slots index) kin.parent)

module _ (slots : List SpanSlot) (free : Vec ℕ Global) (index : List Entry) (id k : ℕ) (s : SpanSlot) (sound : AreSound slots free index)
    (p : IsSlotOf slots index id k) (read : s ≡ get_or slots k s) where
  -- the list of free slots has room
  pub room_there : length free.items < vec_capacity free
  room_there =
      let one = length_gone (standing slots index) id s (found_there slots index id k s p read) in
      let all = sound.all in
      let room = sound.room in
      omega (arith, one, all, room)

  module _ (vacated later : List SpanSlot) (left : Vec ℕ Global) (counted : Option ℕ) (vacates : IsVacated slots k vacated)
      (more : left.items ≡ free.items ++ k ∷ []) (capacity : vec_capacity left ≡ vec_capacity free) (size : length later ≡ length vacated)
      (parent : counted ≡ before_only s.span.kin.id s.span.kin.parent)
      (counts : standing later index ≡ less_children (standing vacated index) counted)
      (still : (ks : List ℕ) → AreFree vacated ks → AreFree later ks)
      (still_indexed : AreIndexed vacated index → AreIndexed later index) where
    vacated_is : vacated ≡ set slots k (let_go s)
    vacated_is = vacates s (reads slots index id k s p read)

    left_standing : standing later index ≡ less_children (gone (standing slots index) id) counted
    left_standing = counts ∙ ap (λ xs. less_children xs counted)
        (ap (λ ss. standing ss index) vacated_is ∙ gone_there slots index id k s p read sound.rise)

    is_free : IsFree (set slots k (let_go s)) k
    is_free = (
      rw (set_same slots k (let_go s) p.within) (refl, refl),
      let same = length-set slots k (let_go s) in let within = p.within in
          omega (arith, same, within),
    )

    pub removed_sound : AreSound later left index
    removed_sound =
        let here = reads slots index id k s p read in
        let was = held id s (stood slots index id k s p read) in
        let there = found_there slots index id k s p read in
        let free_rest = free_there slots index id k s p read (let_go s) free.items sound.vacant in
        let as_many = ap length left_standing in
        let same_many = length_less (gone (standing slots index) id) counted in
        let one_less = length_gone (standing slots index) id s there in
        let set_size = length-set slots k (let_go s) in
        let vacated_size = ap length vacated_is in
        let free_size = ap length more in
        let one_more = length-append free.items (k ∷ []) in
        let same_id = was.1 in
        record {
          rise = sound.rise;
          indexed = still_indexed (vacated_indexed slots vacated index k s p.within here vacates sound.indexed);
          vacant = subst (λ ks. AreFree later ks) (sym more)
              (still (free.items ++ k ∷ []) (subst (λ ss. AreFree ss (free.items ++ k ∷ [])) (sym vacated_is)
              (more_free (set slots k (let_go s)) k free.items free_rest is_free)));
          apart = subst Apart (sym more) (more_apart slots k s free.items here was.0 sound.vacant sound.apart);
          all = let all = sound.all in omega (arith, all, as_many, same_many, one_less, set_size, vacated_size, free_size, one_more, size);
          room = let room = sound.room in omega (arith, room, capacity, set_size, vacated_size, size);
          children = subst CountChildren (sym
              (left_standing ∙ ap (less_children (gone (standing slots index) id))
              (parent ∙ ap (λ (j : ℕ). before_only j s.span.kin.parent) same_id)))
              (count_left s.span.kin.parent id (standing slots index) s refl (standing_rise 0 slots index sound.rise) sound.children there);
        }

    pub removed_view : spans_in later index ≡ dropped (spans_in slots index) id
    removed_view = ap (map plain_slot_span) left_standing ∙ less_unseen (gone (standing slots index) id) counted ∙
        gone_shown (standing slots index) id

-- a count of children at a slot, or of none
pub counts_there : (f : SpanSlot → SpanSlot) (slots : List SpanSlot) (index : List Entry) (id k : ℕ) (s : SpanSlot) →
    ((x : SpanSlot) → (f x).span ≡ x.span) → ((x : SpanSlot) → (f x).is_open ≡ x.is_open) → IsSlotOf slots index id k → s ≡
    get_or slots k s → Rises entry_kin 0 index → standing (set slots k (f s)) index ≡ changed slot_kin f (standing slots index) id
counts_there f slots index id k s same_span same_open p read rise =
    put_there slots index id k s p read f (ap (λ (sp : Span). sp.kin.id) (same_span s)) (same_open s) rise

module _ (slots later : Vec SpanSlot Global) (index : List Entry) (parent : Option ℕ) (id k : ℕ) (s : SpanSlot) (named : parent ≡ Some id)
    (p : IsSlotOf slots.items index id k) (read : s ≡ get_or slots.items k s) (rise : Rises entry_kin 0 index)
    (capacity : vec_capacity later ≡ vec_capacity slots) where
  counted_at : (f : SpanSlot → SpanSlot) → ((x : SpanSlot) → (f x).span ≡ x.span) → ((x : SpanSlot) → (f x).is_open ≡ x.is_open) →
      (g : List SpanSlot → List SpanSlot) → ((ss : List SpanSlot) → changed slot_kin f ss id ≡ g ss) → (t : SpanSlot) → t ≡ f s →
      later.items ≡ set slots.items k t → ChangesCounts g slots later index
  counted_at f same_span same_open g counts t gives now =
      let is : later.items ≡ set slots.items k (f s) = now ∙ ap (set slots.items k) gives in
      record {
        standing_is = ap (λ ss. standing ss index) is ∙ counts_there f slots.items index id k s same_span same_open p read rise ∙
            counts (standing slots.items index);
        size = ap length is ∙ length-set slots.items k (f s);
        capacity = capacity;
        still_free = λ ks free. subst (λ ss. AreFree ss ks) (sym is) (free_there slots.items index id k s p read (f s) ks free);
        still_indexed = λ indexed. subst (λ ss. AreIndexed ss index) (sym is)
            (put_indexed slots.items index k s (f s) p.within (reads slots.items index id k s p read) indexed
            (ap (λ (sp : Span). sp.kin.id) (same_span s)) (same_open s));
      }

  pub more_at : (t : SpanSlot) → t ≡ one_child_more s → later.items ≡ set slots.items k t →
      ChangesCounts (λ ss. more_children ss parent) slots later index
  more_at = counted_at one_child_more (λ x. refl) (λ x. refl) (λ ss. more_children ss parent) (λ ss. ap (more_children ss) (sym named))

  pub less_at : (t : SpanSlot) → t ≡ one_child_less s → later.items ≡ set slots.items k t →
      ChangesCounts (λ ss. less_children ss parent) slots later index
  less_at = counted_at one_child_less (λ x. refl) (λ x. refl) (λ ss. less_children ss parent) (λ ss. ap (less_children ss) (sym named))

-- the parent isn't open
pub nothing_counted : (f : List SpanSlot → List SpanSlot) (slots : Vec SpanSlot Global) (index : List Entry) →
    f (standing slots.items index) ≡ standing slots.items index → ChangesCounts f slots slots index
nothing_counted f slots index same = record {
  standing_is = sym same;
  size = refl;
  capacity = refl;
  still_free = λ ks free. free;
  still_indexed = λ indexed. indexed;
}

module _ (slots : Vec SpanSlot Global) (index : List Entry) (parent : Option ℕ) (id : ℕ) (named : parent ≡ Some id)
    (none_there : found slot_kin (standing slots.items index) id ≡ None) where
  pub more_nowhere : ChangesCounts (λ ss. more_children ss parent) slots slots index
  more_nowhere = nothing_counted (λ ss. more_children ss parent) slots index
      (ap (more_children (standing slots.items index)) named ∙ none_changed one_child_more (standing slots.items index) id none_there)

  pub less_nowhere : ChangesCounts (λ ss. less_children ss parent) slots slots index
  less_nowhere = nothing_counted (λ ss. less_children ss parent) slots index
      (ap (less_children (standing slots.items index)) named ∙ none_changed one_child_less (standing slots.items index) id none_there)

-- what a new span found room in
module _ (slots slice : List SpanSlot) (room : Vec SpanSlot Global) (free kept : Vec ℕ Global) (index ends now : List Entry)
    (sound : AreSound slots free index) (lent : slice ≡ slots) (ended : standing slice ends ≡ standing slice index)
    (same_index : now ≡ ends) (rise : Rises entry_kin 0 ends) (indexed : AreIndexed slice ends) (same_slots : room.items ≡ slots)
    (same_free : kept.items ≡ free.items) (fits : length room.items ≤ vec_capacity kept) where
  as_before : standing slots now ≡ standing slots index
  as_before = ap (standing slots) same_index ∙ subst (λ ss. standing ss ends ≡ standing ss index) lent ended

  roomy : AreSound slots kept now
  roomy =
      sound_end slots slots free kept index now sound refl same_free (subst (λ ss. length ss ≤ vec_capacity kept) same_slots fits) as_before
      (subst (λ es. Rises entry_kin 0 es) (sym same_index) rise)
      (subst (λ es. AreIndexed slots es) (sym same_index) (subst (λ ss. AreIndexed ss ends) lent indexed))

  pub room_indexed : AreIndexed room.items now
  room_indexed = subst (λ ss. AreIndexed ss now) (sym same_slots) roomy.indexed

  pub room_counts : length slots ≤ 18446744073709551615 → CountsFit room.items now
  room_counts few = subst (λ ss. CountsFit ss now) (sym same_slots) (counts_fit slots kept now roomy few)

  module _ (last : EndsOpen slice ends) (counted : Vec SpanSlot Global) (later : List SpanSlot) (left : Vec ℕ Global) (kin : SpanRecord)
      (metadata : Arc OwnedMetadata Global) (passed : FilterMap) (k : ℕ)
      (below : AllByRecursion (λ (s : PlainSpan). s.kin.id < kin.id) (spans_in slots index))
      (counts : ChangesCounts (λ ss. more_children ss kin.parent) room counted now)
      (takes : TakesSlot counted.items kept (fresh kin metadata passed) k later left) where
    opens : EndsOpen slots now
    opens = subst (λ es. EndsOpen slots es) (sym same_index) (subst (λ ss. EndsOpen ss ends) lent last)

    beneath : AllByRecursion (λ (s : PlainSpan). s.kin.id < kin.id) (spans_in slots now)
    beneath = subst (λ ss. AllByRecursion (λ (s : PlainSpan). s.kin.id < kin.id) (map plain_slot_span ss)) (sym as_before) below

    more : standing counted.items now ≡ more_children (standing slots now) kin.parent
    more = subst (λ ss. standing counted.items now ≡ more_children (standing ss now) kin.parent) same_slots counts.standing_is

    pub made_sound : AreSound later left (now ++ entry_at kin.id k ∷ [])
    made_sound = pushed_sound slots counted.items later kept left now kin metadata passed k roomy opens beneath
        (counts.size ∙ ap length same_slots) more takes (counts.still_indexed room_indexed)

    pub made_view : spans_in later (now ++ entry_at kin.id k ∷ []) ≡ spans_in slots index ++ new_span kin metadata passed ∷ []
    made_view = pushed_view slots counted.items later kept left now kin metadata passed k roomy opens beneath
        (counts.size ∙ ap length same_slots) more takes (counts.still_indexed room_indexed) ∙
        ap (λ ss. map plain_slot_span ss ++ new_span kin metadata passed ∷ []) as_before
