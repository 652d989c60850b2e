-- A slot that changes, and what it leaves of the spans.
use Rattle.std.proofs.Common.{◌≡◌, ℕ, zero, suc, MatchOption, ◌+◌, ◌-◌, ◌<◌, ◌==◌, ◌&&◌, List, [], ◌∷◌, length, map, set, get_or, Bool}
use Rattle.std.proofs.Common.{true, slice_get, IfSome, Option, Some, None, refl, sym, ap, ◌∙◌, subst, arith, Vec}
use Rattle.std.specs.Global.{Global}
use Rattle.std.specs.Option.{is_some, option_map}
use Rattle.std.proofs.lemmas.List.{length-set}
use Rattle.span_registry_layers_store.specs.Registries.{kin_in, one_less, one_more, plain_span}
use Rattle.span_registry_layers_store.specs.SpanSlots.{AreFree, AreSound, CountChildren, IsSlotOf, entry_kin, gone, holds, let_go}
use Rattle.span_registry_layers_store.specs.SpanSlots.{plain_slot_span, slot_kin, spans_in, standing, stays_by}
use Rattle.span_registry_layers_store.specs.Spans.{Rises, changed, found, handles_of, is_open, keeps, parent_of}
use Rattle.span_registry_layers_store.specs.declared.index.Entry.{Entry}
use Rattle.span_registry_layers_store.specs.declared.span_slot.SpanSlot.{SpanSlot}
use Rattle.span_registry_layers_store.proofs.ChildCounts.{count_kept, keeps_counted, keeps_none}
use Rattle.span_registry_layers_store.proofs.IndexOrder.{same_test}
use Rattle.span_registry_layers_store.proofs.Lists.{get_at}
use Rattle.span_registry_layers_store.proofs.SlotViews.{changed_shown, found_shown, handles_shown, is_open_nowhere, is_open_there}
use Rattle.span_registry_layers_store.proofs.SlotViews.{keeps_shown, length_changed, open_found, parent_shown, rise_shown, there_shown}
use Rattle.span_registry_layers_store.proofs.StandingSlots.{held, let_go_at, put, standing_rise}
use Rattle.span_registry_layers_store.proofs.FreeSlots.{all_still_free, beside_set, only_closed, only_open, set_same}
use Rattle.span_registry_layers_store.proofs.IndexedSlots.{put_indexed}

and_both : (b c : Bool) → b ≡ true → c ≡ true → (b && c) ≡ true
and_both b c is also = rw (is, also) refl

-- the same of the fields that slices were lent of
pub index_told : (o : Option ℕ) (slots xs : List SpanSlot) (index es : List Entry) (id : ℕ) → slots ≡ xs → index ≡ es →
    MatchOption o (found slot_kin (standing slots index) id ≡ None) (λ k. IsSlotOf slots index id k) →
    MatchOption o (found slot_kin (standing xs es) id ≡ None) (λ k. IsSlotOf xs es id k)
index_told o slots xs index es id a b told =
    subst (λ is. MatchOption o (found slot_kin (standing xs is) id ≡ None) (λ k. IsSlotOf xs is id k)) b
    (subst (λ ss. MatchOption o (found slot_kin (standing ss index) id ≡ None) (λ k. IsSlotOf ss index id k)) a told)

pub rise_told : (slots : List SpanSlot) (es : List Entry) → Rises entry_kin 0 es → Rises kin_in 0 (spans_in slots es)
rise_told slots es rise = rise_shown 0 (standing slots es) (standing_rise 0 slots es rise)

pub keeps_nowhere : (lanes : List (List ℕ)) (slots : List SpanSlot) (es : List Entry) (id : ℕ) → found slot_kin (standing slots es) id ≡
    None → true ≡ keeps kin_in lanes (spans_in slots es) id
keeps_nowhere lanes slots es id here = sym (keeps_shown lanes (standing slots es) id ∙ keeps_none lanes (standing slots es) id here)

module _ (xs : List SpanSlot) (es : List Entry) (id k : ℕ) (s : SpanSlot) (p : IsSlotOf xs es id k) (read : s ≡ get_or xs k s) where
  pub reads : slice_get xs k ≡ Some s
  reads = get_at xs k s p.within read

  pub stood : holds id s ≡ true
  stood = let t : IfSome (Some s) (λ (x : SpanSlot). holds id x ≡ true) = rw reads at p.stands in t

  pub found_there : found slot_kin (standing xs es) id ≡ Some s
  found_there = p.here ∙ reads

  pub open_there : is_open kin_in (spans_in xs es) id ≡ true
  open_there = is_open_there (standing xs es) id s found_there

  pub handles_there : handles_of kin_in (spans_in xs es) id ≡ s.span.kin.handles
  handles_there = handles_shown (standing xs es) id s found_there

  pub parent_there : parent_of kin_in (spans_in xs es) id ≡ s.span.kin.parent
  parent_there = parent_shown (standing xs es) id s found_there

  pub span_there : Some (plain_span s.span) ≡ found kin_in (spans_in xs es) id
  span_there = sym (there_shown (standing xs es) id s found_there)

  pub keeps_there : (lanes : List (List ℕ)) → CountChildren (standing xs es) → stays_by lanes s ≡ keeps kin_in lanes (spans_in xs es) id
  keeps_there lanes counts = sym (keeps_shown lanes (standing xs es) id ∙ keeps_counted lanes (standing xs es) id s counts found_there)

  -- another value of the same span
  pub put_there : (f : SpanSlot → SpanSlot) → (f s).span.kin.id ≡ s.span.kin.id → (f s).is_open ≡ s.is_open → Rises entry_kin 0 es →
      standing (set xs k (f s)) es ≡ changed slot_kin f (standing xs es) id
  put_there f same_id same_open rise =
      let was = held id s stood in
      let stands : holds id (f s) ≡ true =
      and_both (f s).is_open ((f s).span.kin.id == id) (same_open ∙ was.0) (same_test (f s).span.kin.id id (same_id ∙ was.1)) in
      put xs (set xs k (f s)) id k s (f s)
      (beside_set id k xs s (f s) reads p.within (only_open id s was.1) (only_open id (f s) (same_id ∙ was.1))) reads
      (set_same xs k (f s) p.within) stood 0 es f refl stands rise p.only

  pub free_there : (t : SpanSlot) (ks : List ℕ) → AreFree xs ks → AreFree (set xs k t) ks
  free_there t ks free = all_still_free xs k s t ks reads ((held id s stood).0) free

  -- the span goes
  pub gone_there : Rises entry_kin 0 es → standing (set xs k (let_go s)) es ≡ gone (standing xs es) id
  gone_there rise =
      let was = held id s stood in
      let_go_at xs (set xs k (let_go s)) id k s (let_go s)
      (beside_set id k xs s (let_go s) reads p.within (only_open id s was.1) (only_closed id (let_go s) refl)) reads
      (set_same xs k (let_go s) p.within) stood 0 es refl rise p.only

abbrev pub more_handles : SpanSlot → SpanSlot
more_handles s = record s { span = record s.span { kin = record s.span.kin { handles = s.span.kin.handles + 1 } } }

abbrev pub less_handles : SpanSlot → SpanSlot
less_handles s = record s { span = record s.span { kin = record s.span.kin { handles = s.span.kin.handles - 1 } } }

module _ (xs : List SpanSlot) (free : Vec ℕ Global) (es : List Entry) (id k : ℕ) (s : SpanSlot) (sound : AreSound xs free es)
    (p : IsSlotOf xs es id k) (read : s ≡ get_or xs k s) where
  pub sound_put : (f : SpanSlot → SpanSlot) → ((x : SpanSlot) → (f x).span.kin.id ≡ x.span.kin.id) →
      ((x : SpanSlot) → (f x).span.kin.parent ≡ x.span.kin.parent) → ((x : SpanSlot) → (f x).children ≡ x.children) → (f s).is_open ≡
      s.is_open → AreSound (set xs k (f s)) free es
  sound_put f ids parents same same_open =
      let now = put_there xs es id k s p read f (ids s) same_open sound.rise in
      let size = length-set xs k (f s) in
      record {
        rise = sound.rise;
        indexed = put_indexed xs es k s (f s) p.within (reads xs es id k s p read) sound.indexed (ids s) same_open;
        vacant = free_there xs es id k s p read (f s) free.items sound.vacant;
        apart = sound.apart;
        all = rw (now, size) (let as_long = length_changed f (standing xs es) id in let all = sound.all in omega (arith, as_long, all));
        room = let room = sound.room in omega (arith, size, room);
        children = subst CountChildren (sym now) (count_kept f ids parents same (standing xs es) id sound.children);
      }

  pub more_there : spans_in (set xs k (more_handles s)) es ≡ changed kin_in one_more (spans_in xs es) id
  more_there = ap (map plain_slot_span) (put_there xs es id k s p read more_handles refl refl sound.rise) ∙
      sym (changed_shown more_handles one_more (λ x. refl) (standing xs es) id)

  pub less_there : spans_in (set xs k (less_handles s)) es ≡ changed kin_in one_less (spans_in xs es) id
  less_there = ap (map plain_slot_span) (put_there xs es id k s p read less_handles refl refl sound.rise) ∙
      sym (changed_shown less_handles one_less (λ x. refl) (standing xs es) id)

some_mapped : (o : Option SpanSlot) → is_some (option_map plain_slot_span o) ≡ is_some o
some_mapped None = refl
some_mapped (Some s) = refl

some_at : (xs : List SpanSlot) (k : ℕ) → k < length xs → is_some (slice_get xs k) ≡ true
some_at [] k h = absurd (omega arith)
some_at (x ∷ xs) zero h = refl
some_at (x ∷ xs) (suc k) h = some_at xs k (omega arith)

open_shown_at : (ys : List SpanSlot) (id : ℕ) → is_open kin_in (map plain_slot_span ys) id ≡ is_some (found slot_kin ys id)
open_shown_at ys id = sym (open_found (map plain_slot_span ys) id) ∙ ap is_some (found_shown ys id) ∙ some_mapped (found slot_kin ys id)

-- a span is open where it has a slot
pub open_told : (o : Option ℕ) (xs : List SpanSlot) (es : List Entry) (id : ℕ) →
    MatchOption o (found slot_kin (standing xs es) id ≡ None) (λ k. IsSlotOf xs es id k) → is_some o ≡ is_open kin_in (spans_in xs es) id
open_told None xs es id here = sym (is_open_nowhere (standing xs es) id here)
open_told (Some k) xs es id p = sym (open_shown_at (standing xs es) id ∙ ap is_some p.here ∙ some_at xs k p.within)
