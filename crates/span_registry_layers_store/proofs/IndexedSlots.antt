-- Open spans keep their entries in the index.
use Rattle.std.proofs.Common.{◌≡◌, inl, inr, ℕ, ◌-◌, ◌<◌, ◌==◌, List, [], ◌∷◌, ◌++◌, length, set, Bool, true, false, if◌then◌else◌}
use Rattle.std.proofs.Common.{slice_get, Option, Some, None, refl, sym, ap, ◌∙◌, subst, arith}
use Rattle.std.specs.List.{AllByRecursion, filter}
use Rattle.std.specs.Option.{option_to_list}
use Rattle.std.proofs.lemmas.Bool.{cases_eq, true≢false}
use Rattle.std.proofs.lemmas.List.{append-nil}
use Rattle.std.proofs.lemmas.Option.{none-some, same_Some}
use Rattle.span_registry_layers_store.specs.SpanSlots.{AreIndexed, IsVacated, entry_at, entry_kin, leads, let_go}
use Rattle.span_registry_layers_store.specs.Spans.{found}
use Rattle.span_registry_layers_store.specs.declared.index.Entry.{Entry}
use Rattle.span_registry_layers_store.specs.declared.span_slot.SpanSlot.{SpanSlot}
use Rattle.span_registry_layers_store.proofs.FreeSlots.{set_other, set_same}
use Rattle.span_registry_layers_store.proofs.IndexEnds.{last_same}
use Rattle.span_registry_layers_store.proofs.IndexOrder.{same_test}
use Rattle.span_registry_layers_store.proofs.SpanPlaces.{differs}

-- the entry of an open span leads to it
open_leads : (slots : List SpanSlot) (k : ℕ) (s : SpanSlot) → slice_get slots k ≡ Some s → s.is_open ≡ true →
    leads slots (entry_at s.span.kin.id k) ≡ true
open_leads slots k s here stands = rw (here, stands, same_test s.span.kin.id s.span.kin.id refl) refl

as_entry : (index : List Entry) (i j k m : ℕ) → i ≡ j → k ≡ m → found entry_kin index i ≡ Some (entry_at i k) →
    found entry_kin index j ≡ Some (entry_at j m)
as_entry index i j k m same_id same_slot is =
    subst (λ (n : ℕ). found entry_kin index j ≡ Some (entry_at j n)) same_slot
    (subst (λ (n : ℕ). found entry_kin index n ≡ Some (entry_at n k)) same_id is)

-- without a last entry that leads nowhere
front_one : (b : Bool) (f e : Entry) → (f ≡ e → ⊥) → (if b then Some f else None) ≡ Some e → ◌≡◌ {A = Option Entry} None (Some e)
front_one true f e other is = absurd (other (same_Some f e is))
front_one false f e other is = is

front_if : (b : Bool) (x e : Entry) (o p : Option Entry) → (if b then Some x else o) ≡ Some e → (o ≡ Some e → p ≡ Some e) →
    (if b then Some x else p) ≡ Some e
front_if true x e o p is later = is
front_if false x e o p is later = later is

found_front : (es : List Entry) (f e : Entry) (id : ℕ) → (f ≡ e → ⊥) → found entry_kin (es ++ f ∷ []) id ≡ Some e →
    found entry_kin es id ≡ Some e
found_front [] f e id other is = front_one (f.id == id) f e other is
found_front (x ∷ es) f e id other is =
    front_if (x.id == id) x e (found entry_kin (es ++ f ∷ []) id) (found entry_kin es id) is (found_front es f e id other)

front_indexed : (slots : List SpanSlot) (es : List Entry) (f : Entry) → leads slots f ≡ false → AreIndexed slots (es ++ f ∷ []) →
    AreIndexed slots es
front_indexed slots es f nowhere indexed = record {
  entry = λ k s here stands. found_front es f (entry_at s.span.kin.id k) s.span.kin.id
      (λ same. true≢false (sym (open_leads slots k s here stands) ∙ sym (ap (leads slots) same) ∙ nowhere))
      (indexed.entry k s here stands);
}

-- by what a pop answers
pub pop_indexed : (slots : List SpanSlot) (slice es left : List Entry) (e : Entry) (o : Option Entry) → slice ≡ es → Some e ≡
    slice_get slice (length slice - 1) → es ≡ left ++ option_to_list o → leads slots e ≡ false → AreIndexed slots es →
    AreIndexed slots left
pop_indexed slots slice es left e None same here is nowhere indexed =
    subst (λ fs. AreIndexed slots fs) (is ∙ append-nil left) indexed
pop_indexed slots slice es left e (Some f) same here is nowhere indexed =
    let equal = last_same slice es left e f same here is in
    front_indexed slots left f (subst (λ (g : Entry). leads slots g ≡ false) equal nowhere)
    (subst (λ fs. AreIndexed slots fs) is indexed)

-- without any entries that lead nowhere
kept_if : (kept same : Bool) (test : Entry → Bool) (x e : Entry) (id : ℕ) (es fs : List Entry) → test x ≡ kept → (x.id == id) ≡ same →
    test e ≡ true → (if same then Some x else found entry_kin es id) ≡ Some e →
    (found entry_kin es id ≡ Some e → found entry_kin fs id ≡ Some e) → found entry_kin (if kept then x ∷ fs else fs) id ≡ Some e
kept_if true true test x e id es fs is_kept is_same leads_on is later = rw is_same is
kept_if true false test x e id es fs is_kept is_same leads_on is later = rw is_same (later is)
kept_if false true test x e id es fs is_kept is_same leads_on is later =
    absurd (true≢false (sym leads_on ∙ sym (ap test (same_Some x e is)) ∙ is_kept))
kept_if false false test x e id es fs is_kept is_same leads_on is later = later is

found_kept : (test : Entry → Bool) (es : List Entry) (e : Entry) (id : ℕ) → test e ≡ true → found entry_kin es id ≡ Some e →
    found entry_kin (filter test es) id ≡ Some e
found_kept test [] e id leads_on is = is
found_kept test (x ∷ es) e id leads_on is =
    kept_if (test x) (x.id == id) test x e id es (filter test es) refl refl leads_on is (found_kept test es e id leads_on)

pub kept_indexed : (slots : List SpanSlot) (es : List Entry) → AreIndexed slots es → AreIndexed slots (filter (leads slots) es)
kept_indexed slots es indexed = record {
  entry = λ k s here stands. found_kept (leads slots) es (entry_at s.span.kin.id k) s.span.kin.id (open_leads slots k s here stands)
      (indexed.entry k s here stands);
}

module _ (slots : List SpanSlot) (index : List Entry) (k : ℕ) (s t : SpanSlot) (within : k < length slots)
    (was : slice_get slots k ≡ Some s) (indexed : AreIndexed slots index) where
  there : (j : ℕ) (u : SpanSlot) → slice_get (set slots k t) j ≡ Some u → j ≡ k → u ≡ t
  there j u here same = same_Some u t (sym here ∙ ap (slice_get (set slots k t)) same ∙ set_same slots k t within)

  -- with another value of a span
  pub put_indexed : t.span.kin.id ≡ s.span.kin.id → t.is_open ≡ s.is_open → AreIndexed (set slots k t) index
  put_indexed same_id same_open = record {
    entry = λ j u here stands. elim (cases_eq j k) [
      | inl same ↦
          let equal = there j u here same in
          let is_open : s.is_open ≡ true = sym same_open ∙ sym (ap (λ (x : SpanSlot). x.is_open) equal) ∙ stands in
          let id_is : s.span.kin.id ≡ u.span.kin.id = sym (ap (λ (x : SpanSlot). x.span.kin.id) equal ∙ same_id) in
          as_entry index s.span.kin.id u.span.kin.id k j id_is (sym same) (indexed.entry k s was is_open)
      | inr apart ↦ indexed.entry j u (sym (set_other slots k j t apart) ∙ here) stands
    ];
  }

  -- with a span that is let go
  pub closed_indexed : t.is_open ≡ false → AreIndexed (set slots k t) index
  closed_indexed closed = record {
    entry = λ j u here stands. elim (cases_eq j k) [
      | inl same ↦ absurd (true≢false (sym stands ∙ ap (λ (x : SpanSlot). x.is_open) (there j u here same) ∙ closed))
      | inr apart ↦ indexed.entry j u (sym (set_other slots k j t apart) ∙ here) stands
    ];
  }

pub vacated_indexed : (slots vacated : List SpanSlot) (index : List Entry) (k : ℕ) (s : SpanSlot) → k < length slots → slice_get slots k ≡
    Some s → IsVacated slots k vacated → AreIndexed slots index → AreIndexed vacated index
vacated_indexed slots vacated index k s within was vacates indexed = subst (λ ss. AreIndexed ss index) (sym (vacates s was))
    (closed_indexed slots index k s (let_go s) within was indexed refl)

-- with one more entry, of an id above all others
found_last : (es : List Entry) (id k : ℕ) → AllByRecursion (λ (e : Entry). e.id < id) es →
    found entry_kin (es ++ entry_at id k ∷ []) id ≡ Some (entry_at id k)
found_last [] id k below = rw (same_test id id refl) refl
found_last (e ∷ es) id k below = rw (differs e.id id (λ same. omega (arith, same, below.0))) (found_last es id k below.1)

found_more : (es : List Entry) (f e : Entry) (id : ℕ) → found entry_kin es id ≡ Some e → found entry_kin (es ++ f ∷ []) id ≡ Some e
found_more [] f e id is = absurd (none-some e is)
found_more (x ∷ es) f e id is =
    front_if (x.id == id) x e (found entry_kin es id) (found entry_kin (es ++ f ∷ []) id) is (found_more es f e id)

pub taken_indexed : (slots later : List SpanSlot) (index : List Entry) (k : ℕ) (t : SpanSlot) →
    AllByRecursion (λ (e : Entry). e.id < t.span.kin.id) index → slice_get later k ≡ Some t →
    ((m : ℕ) → (m ≡ k → ⊥) → slice_get later m ≡ slice_get slots m) → AreIndexed slots index →
    AreIndexed later (index ++ entry_at t.span.kin.id k ∷ [])
taken_indexed slots later index k t below at others indexed = record {
  entry = λ j u here stands. elim (cases_eq j k) [
    | inl same ↦
        let equal : t ≡ u = same_Some t u (sym at ∙ sym (ap (slice_get later) same) ∙ here) in
        as_entry (index ++ entry_at t.span.kin.id k ∷ []) t.span.kin.id u.span.kin.id k j (ap (λ (x : SpanSlot). x.span.kin.id) equal)
        (sym same) (found_last index t.span.kin.id k below)
    | inr apart ↦ found_more index (entry_at t.span.kin.id k) (entry_at u.span.kin.id j) u.span.kin.id
        (indexed.entry j u (sym (others j apart) ∙ here) stands)
  ];
}
