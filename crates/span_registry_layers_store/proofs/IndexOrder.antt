-- The index of open spans by their ids, which rise.
use Rattle.std.proofs.Common.{◌≡◌, inl, inr, ℕ, zero, suc, ◌+◌, ◌<◌, ◌≤◌, ◌==◌, List, [], ◌∷◌, length, Bool, true, false, if◌then◌else◌}
use Rattle.std.proofs.Common.{slice_index_or, Option, Some, None, Ok, Err, refl, sym, ap, arith}
use Rattle.std.specs.List.Sorted.{IsBinarySearchResult, IsNonDecreasingBy}
use Rattle.std.specs.Ordering.{nat_cmp, ordering_index}
use Rattle.std.proofs.lemmas.Bool.{cases_lt, eqb-true}
use Rattle.std.proofs.lemmas.Bool.Decides.{nat_tests}
use Rattle.std.proofs.lemmas.Cmp.{ranked}
use Rattle.span_registry_layers_store.specs.SpanSlots.{IsEntryPlace, OnlyIn, entry_kin}
use Rattle.span_registry_layers_store.specs.Spans.{Rises, found}
use Rattle.span_registry_layers_store.specs.declared.index.Entry.{Entry}
use Rattle.span_registry_layers_store.proofs.SpanPlaces.{differs}

pub same_test : (a b : ℕ) → a ≡ b → (a == b) ≡ true
same_test a b h = grind (arith, nat_tests, h)

-- none lies below the least
least_below : (least : ℕ) (es : List Entry) (place : ℕ) (d : Entry) → Rises entry_kin least es → place < length es →
    least ≤ (slice_index_or es place d).id
least_below least [] place d rise within = absurd (omega arith)
least_below least (e ∷ es) zero d rise within = rise.0
least_below least (e ∷ es) (suc place) d rise within = let later = least_below (e.id + 1) es place d rise.1 (omega arith) in
    omega (arith, rise.0, later)

-- a later one is no lower
later_above : (least : ℕ) (es : List Entry) (i j : ℕ) (d : Entry) → Rises entry_kin least es → i ≤ j → j < length es →
    (slice_index_or es i d).id ≤ (slice_index_or es j d).id
later_above least [] i j d rise le within = absurd (omega arith)
later_above least (e ∷ es) zero zero d rise le within = omega arith
later_above least (e ∷ es) zero (suc j) d rise le within = let later = least_below (e.id + 1) es j d rise.1 (omega arith) in
    omega (arith, later)
later_above least (e ∷ es) (suc i) zero d rise le within = absurd (omega arith)
later_above least (e ∷ es) (suc i) (suc j) d rise le within = later_above (e.id + 1) es i j d rise.1 (omega arith) (omega arith)

-- the one place where the id stands
pub entry_in : (least : ℕ) (es : List Entry) (id place : ℕ) → Rises entry_kin least es → place < length es →
    ((d : Entry) → (slice_index_or es place d).id ≡ id) → IsEntryPlace es id place
entry_in least [] id place rise within same = absurd (omega arith)
entry_in least (e ∷ es) id zero rise within same = record { within = within; same = same; here = rw (same_test e.id id (same e)) refl }
entry_in least (e ∷ es) id (suc place) rise within same =
    let above = least_below (e.id + 1) es place e rise.1 (omega arith) in
    let there = same e in
    let later = entry_in (e.id + 1) es id place rise.1 (omega arith) same in
    record { within = within; same = same; here = rw (differs e.id id (λ equal. omega (arith, above, there, equal))) later.here }

-- no place has it
none_in : (es : List Entry) (id : ℕ) → ((place : ℕ) (d : Entry) → place < length es → (slice_index_or es place d).id ≡ id → ⊥) →
    found entry_kin es id ≡ None
none_in [] id others = refl
none_in (e ∷ es) id others = rw (differs e.id id (others 0 e (omega arith)))
    (none_in es id (λ place d within. others (suc place) d (omega arith)))

comparisons_rise : (es : List Entry) (id : ℕ) → Rises entry_kin 0 es →
    IsNonDecreasingBy (λ (e : Entry). ordering_index (nat_cmp e.id id)) es
comparisons_rise es id rise i j d le within = let ids = later_above 0 es i j d rise le within in grind (arith, nat_tests, ids)

-- what a search by halves finds
pub searched_there : (es : List Entry) (id place : ℕ) → Rises entry_kin 0 es → place < length es →
    IsBinarySearchResult (λ (e : Entry). nat_cmp e.id id) es (Ok place) → IsEntryPlace es id place
searched_there es id place rise within equal = entry_in 0 es id place rise within (λ d. ranked _ id _ (sym (equal d)))

pub searched_none : (es : List Entry) (id place : ℕ) → Rises entry_kin 0 es →
    IsBinarySearchResult (λ (e : Entry). nat_cmp e.id id) es (Err place) → found entry_kin es id ≡ None
searched_none es id place rise parted =
    let sides = parted (comparisons_rise es id rise) in
    none_in es id (λ k d within same. elim (cases_lt k place) [
      | inl before ↦ let less : (slice_index_or es k d).id < id = ranked _ id _ (sym (sides.0 k d (omega arith) before)) in
          omega (arith, less, same)
      | inr after ↦ let more : id < (slice_index_or es k d).id = ranked _ id _ (sym (sides.1 k d after within)) in omega (arith, more, same)
    ])

-- above an id, it isn't there
pub none_above : (least id : ℕ) (es : List Entry) → id < least → Rises entry_kin least es → found entry_kin es id ≡ None
none_above least id [] above rise = refl
none_above least id (e ∷ es) above rise =
    rw (differs e.id id (λ same. omega (arith, above, same, rise.0))) (none_above (e.id + 1) id es (omega (arith, above, rise.0)) rise.1)

pub only_above : (least id slot : ℕ) (es : List Entry) → id < least → Rises entry_kin least es → OnlyIn id slot es
only_above least id slot [] above rise = tt
only_above least id slot (e ∷ es) above rise =
    (λ same. absurd (omega (arith, above, same, rise.0)), only_above (e.id + 1) id slot es (omega (arith, above, rise.0)) rise.1)

some_same : (e f : Entry) → ◌≡◌ {A = Option Entry} (Some e) (Some f) → e ≡ f
some_same e f same = cc

only_if : (b : Bool) (least id : ℕ) (e f : Entry) (es : List Entry) → (e.id == id) ≡ b → Rises entry_kin least (e ∷ es) →
    (if b then Some e else found entry_kin es id) ≡ Some f → (found entry_kin es id ≡ Some f → OnlyIn id f.slot es) →
    OnlyIn id f.slot (e ∷ es)
only_if true least id e f es test rise here later =
    let same : e.id ≡ id = eqb-true e.id id test in
    (λ equal. ap (λ (g : Entry). g.slot) (some_same e f here), only_above (e.id + 1) id f.slot es (omega (arith, same)) rise.1)
only_if false least id e f es test rise here later = (λ same. let t : (e.id == id) ≡ true = same_test e.id id same in cc, later here)

-- an id stands in one slot alone
pub only_in : (least : ℕ) (es : List Entry) (id : ℕ) (f : Entry) → Rises entry_kin least es → found entry_kin es id ≡ Some f →
    OnlyIn id f.slot es
only_in least [] id f rise here = tt
only_in least (e ∷ es) id f rise here =
    only_if (e.id == id) least id e f es refl rise here (λ there. only_in (e.id + 1) es id f rise.1 there)

-- from a lower id on they rise too
pub rise_from : (low least : ℕ) (es : List Entry) → low ≤ least → Rises entry_kin least es → Rises entry_kin low es
rise_from low least [] le rise = tt
rise_from low least (e ∷ es) le rise = (omega (arith, le, rise.0), rise.1)
