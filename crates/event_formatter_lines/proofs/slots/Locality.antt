-- What a call on the slots of one span and one output leaves of the others.
use Rattle.std.proofs.Common.{◌≡◌, ℕ, ◌==◌, List, [], ◌∷◌, filter, Bool, true, false, if◌then◌else◌, Option, Some, None, refl, ap, sym, ◌∙◌}
use Rattle.std.proofs.Common.{arith}
use Rattle.std.proofs.lemmas.Bool.Decides.{nat_tests}
use Rattle.std.specs.Option.{option_map}
use Rattle.span_registry_layers_store.specs.SlotIndependence.{own_slots, under_key}
use Rattle.span_registry_layers_store.specs.SlotCalls.{with_places}
use Rattle.span_registry_layers_store.specs.Registries.{PlainSpan, RegistryValue, kin_in}
use Rattle.span_registry_layers_store.specs.Slots.{PlainPlace, is_at, slot_at}
use Rattle.span_registry_layers_store.specs.Spans.{changed, found}
use Rattle.span_registry_layers_store.specs.Views.{seen, seen_if, sees}
use Rattle.span_registry_layers_store.specs.declared.slot.Tag.{Tag}
use Rattle.span_registry_layers_store.specs.declared.slot.Tag.TheVariants as tag
use Rattle.span_registry_layers_store.proofs.ParentLinks.{found_carried}
use Rattle.span_registry_layers_layers.specs.FilterViews.{View}
use Rattle.event_formatter_lines.specs.slots.FieldsAndTimings.{PlainKept, kept_at}
use Rattle.event_formatter_lines.specs.slots.SpanUpdates.{KeepsWith, RekeepingIsLocal, kept_under, kept_with}

-- slots of a span written
module _ (ps : List PlainPlace) where
  found_same_if : (b : Bool) (x : PlainSpan) (xs rest : List PlainSpan) (id : ℕ) → (x.kin.id == id) ≡ b →
      found kin_in rest id ≡ option_map (with_places ps) (found kin_in xs id) →
      found kin_in (if b then with_places ps x ∷ xs else x ∷ rest) id ≡ option_map (with_places ps)
      (if b then Some x else found kin_in xs id)
  found_same_if true x xs rest id e later = rw e refl
  found_same_if false x xs rest id e later = rw e later

  found_same : (xs : List PlainSpan) (id : ℕ) → found kin_in (changed kin_in (with_places ps) xs id) id ≡ option_map (with_places ps)
      (found kin_in xs id)
  found_same [] id = refl
  found_same (x ∷ xs) id = found_same_if (x.kin.id == id) x xs (changed kin_in (with_places ps) xs id) id refl (found_same xs id)

  not_other : (a id other : ℕ) → (a == id) ≡ true → (id == other) ≡ false → (a == other) ≡ false
  not_other a id other is not_same = grind (arith, nat_tests, is, not_same)

  found_other_if : (b : Bool) (x : PlainSpan) (xs rest : List PlainSpan) (id other : ℕ) → (x.kin.id == id) ≡ b → (id == other) ≡ false →
      found kin_in rest other ≡ found kin_in xs other →
      found kin_in (if b then with_places ps x ∷ xs else x ∷ rest) other ≡ (if x.kin.id == other then Some x else found kin_in xs other)
  found_other_if true x xs rest id other e not_same later = rw (not_other x.kin.id id other e not_same) refl
  found_other_if false x xs rest id other e not_same later = ap (λ o. if x.kin.id == other then Some x else o) later

  found_other : (xs : List PlainSpan) (id other : ℕ) → (id == other) ≡ false →
      found kin_in (changed kin_in (with_places ps) xs id) other ≡ found kin_in xs other
  found_other [] id other not_same = refl
  found_other (x ∷ xs) id other not_same =
      found_other_if (x.kin.id == id) x xs (changed kin_in (with_places ps) xs id) id other refl not_same (found_other xs id other not_same)

  read_if : (b : Bool) (key : ℕ) (t s : PlainSpan) → (if b then Some t else None) ≡ Some s →
      kept_with key (if b then Some (with_places ps t) else None) ≡ kept_at key ps
  read_if true key t s e = refl
  read_if false key t s e = absurd (cc)

  -- what was written is read
  read_written : (mask : Option ℕ) (key : ℕ) (o : Option PlainSpan) (s : PlainSpan) → seen_if mask o ≡ Some s →
      kept_with key (seen_if mask (option_map (with_places ps) o)) ≡ kept_at key ps
  read_written mask key None s e = absurd (cc)
  read_written None key (Some t) s e = refl
  read_written (Some filter) key (Some t) s e = read_if (sees (Some filter) t) key t s e

-- the slots under a key say what is kept under it
slot_under : (ps : List PlainPlace) (key : ℕ) (t : Tag) → slot_at (filter (λ (p : PlainPlace). p.key == key) ps) key t ≡ slot_at ps key t
slot_under [] key t = refl
slot_under (p ∷ ps) key t = under_by (p.key == key) refl (slot_under ps key t)
  where
    under_by : (b : Bool) → (p.key == key) ≡ b → slot_at (filter (λ (q : PlainPlace). q.key == key) ps) key t ≡ slot_at ps key t →
        slot_at (if b then p ∷ filter (λ (q : PlainPlace). q.key == key) ps else filter (λ (q : PlainPlace). q.key == key) ps) key
        t ≡ slot_at (p ∷ ps) key t
    under_by true e later = ap (λ o. if is_at key t p then Some p.slot else o) later
    under_by false e later = rw e later

kept_own : (key : ℕ) (ps : List PlainPlace) → kept_at key (filter (λ (p : PlainPlace). p.key == key) ps) ≡ kept_at key ps
kept_own key ps = rw (slot_under ps key tag.Text)
    (rw (slot_under ps key tag.Words) (rw (slot_under ps key tag.Number) (rw (slot_under ps key tag.Timings) refl)))

own_read : (key : ℕ) (o : Option PlainSpan) → kept_with key (option_map (own_slots key) o) ≡ kept_with key o
own_read key None = refl
own_read key (Some s) = kept_own key s.slots

own_if : (b : Bool) (key : ℕ) (s : PlainSpan) → (if b then Some (own_slots key s) else None) ≡ option_map (own_slots key)
    (if b then Some s else None)
own_if true key s = refl
own_if false key s = refl

own_seen : (mask : Option ℕ) (key : ℕ) (o : Option PlainSpan) → seen_if mask (option_map (own_slots key) o) ≡ option_map (own_slots key)
    (seen_if mask o)
own_seen mask key None = refl
own_seen None key (Some s) = refl
own_seen (Some filter) key (Some s) = own_if (sees (Some filter) s) key s

-- what is kept under a key is read of the slots under it alone
read_own : (x : RegistryValue) (mask : Option ℕ) (id key : ℕ) → kept_under (under_key key x) mask id key ≡ kept_under x mask id key
read_own x mask id key =
    ap (λ (o : Option PlainSpan). kept_with key (seen_if mask o)) (found_carried kin_in (own_slots key) x.spans id)
    ∙ ap (kept_with key) (own_seen mask key (found kin_in x.spans id))
    ∙ own_read key (seen x mask id)

read_others : (x y : RegistryValue) (mask : Option ℕ) (id key : ℕ) → under_key key y ≡ under_key key x →
    kept_under y mask id key ≡ kept_under x mask id key
read_others x y mask id key same = sym (read_own y mask id key) ∙ ap (λ (z : RegistryValue). kept_under z mask id key) same ∙
    read_own x mask id key

module _ (v : View) (id key : ℕ) (kept : PlainKept) (y : RegistryValue) where
  written_by : (o : Option PlainSpan) (s : PlainSpan) → seen v.registry v.mask id ≡ Some s → o ≡ Some s →
      KeepsWith o v.registry id key kept y → kept_under y v.mask id key ≡ kept
  written_by None s is e keeps = absurd (cc)
  written_by (Some t) s is e keeps =
      ap (λ (z : RegistryValue). kept_under z v.mask id key) keeps.2
      ∙ ap (λ (o : Option PlainSpan). kept_with key (seen_if v.mask o)) (found_same keeps.0 v.registry.spans id)
      ∙ read_written keeps.0 v.mask key (found kin_in v.registry.spans id) s is
      ∙ keeps.1

  elsewhere_by : (o : Option PlainSpan) (mask : Option ℕ) (other : ℕ) → (id == other) ≡ false → KeepsWith o v.registry id key kept y →
      kept_under y mask other key ≡ kept_under v.registry mask other key
  elsewhere_by None mask other not_same keeps = ap (λ (z : RegistryValue). kept_under z mask other key) keeps
  elsewhere_by (Some t) mask other not_same keeps =
      ap (λ (z : RegistryValue). kept_under z mask other key) keeps.2
      ∙ ap (λ (o : Option PlainSpan). kept_with key (seen_if mask o)) (found_other keeps.0 v.registry.spans id other not_same)

pub rekept_locally : RekeepingIsLocal
rekept_locally v id key kept y keeps = record {
  written = λ s is. written_by v id key kept y (seen v.registry v.mask id) s is is keeps.0;
  elsewhere = λ mask other not_same. elsewhere_by v id key kept y (seen v.registry v.mask id) mask other not_same keeps.0;
  others = λ mask other k not_same. read_others v.registry y mask other k (keeps.1.1 k not_same);
}
