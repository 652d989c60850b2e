-- Spans in the order of the index, an entry at a time.
use Rattle.std.proofs.Common.{◌≡◌, ℕ, zero, suc, ◌<◌, List, [], ◌∷◌, ◌++◌, length, map, true, false, take, get_or, slice_get, refl, sym, ap}
use Rattle.std.proofs.Common.{◌∙◌, arith, append_assoc, subst}
use Rattle.std.specs.List.{AllByRecursion}
use Rattle.std.proofs.lemmas.List.{append-nil, map-append}
use Rattle.span_registry_layers_store.specs.Copies.{PlainRow, row_of}
use Rattle.span_registry_layers_store.specs.Registries.{PlainSpan}
use Rattle.span_registry_layers_store.specs.SpanSlots.{holds, holds_in, if_holds, leads, plain_slot_span, spans_in, standing}
use Rattle.span_registry_layers_store.specs.declared.index.Entry.{Entry}
use Rattle.span_registry_layers_store.specs.declared.span_slot.SpanSlot.{SpanSlot}
use Rattle.span_registry_layers_store.proofs.IndexEnds.{none_held}
use Rattle.span_registry_layers_store.proofs.Lists.{get_at}
use Rattle.span_registry_layers_store.proofs.StandingSlots.{within_slots}

take_more : (es : List Entry) (n : ℕ) (e : Entry) → n < length es → e ≡ get_or es n e → take (suc n) es ≡ take n es ++ e ∷ []
take_more [] n e h is = absurd (omega arith)
take_more (f ∷ fs) zero e h is = ap (λ g. g ∷ []) (sym is)
take_more (f ∷ fs) (suc n) e h is = ap (λ gs. f ∷ gs) (take_more fs n e (omega arith) is)

standing_more : (slots : List SpanSlot) (es fs : List Entry) → standing slots (es ++ fs) ≡ standing slots es ++ standing slots fs
standing_more slots [] fs = refl
standing_more slots (e ∷ es) fs = ap (λ xs. if_holds e.id (slice_get slots e.slot) ++ xs) (standing_more slots es fs) ∙
    sym (append_assoc (if_holds e.id (slice_get slots e.slot)) (standing slots es) (standing slots fs))

-- a turn of the loop
pub rows_turn : (slots : List SpanSlot) (es : List Entry) (n m : ℕ) (e : Entry) (before after : List PlainRow) → m ≡ suc n →
    n < length es → e ≡ get_or es n e → before ≡ map row_of (spans_in slots (take n es)) → after ≡ before ++
    map row_of (spans_in slots (e ∷ [])) → after ≡ map row_of (spans_in slots (take m es))
rows_turn slots es n m e before after em h is was now =
    now ∙ ap (λ rs. rs ++ map row_of (spans_in slots (e ∷ []))) was
    ∙ sym (map-append row_of (spans_in slots (take n es)) (spans_in slots (e ∷ [])))
    ∙ ap (map row_of) (sym (map-append plain_slot_span (standing slots (take n es)) (standing slots (e ∷ []))))
    ∙ ap (λ xs. map row_of (map plain_slot_span xs)) (sym (standing_more slots (take n es) (e ∷ [])))
    ∙ ap (λ fs. map row_of (spans_in slots fs)) (sym (take_more es n e h is) ∙ ap (λ k. take k es) (sym em))

-- an entry that leads nowhere has no row
pub none_row : (slots : List SpanSlot) (e : Entry) (rows : List PlainRow) → leads slots e ≡ false → rows ≡ rows ++
    map row_of (spans_in slots (e ∷ []))
none_row slots e rows is = sym (ap (λ xs. rows ++ map row_of (map plain_slot_span (xs ++ []))) (none_held e.id (slice_get slots e.slot) is)
    ∙ append-nil rows)

one_row : (slots : List SpanSlot) (e : Entry) (s : SpanSlot) → leads slots e ≡ true → s ≡ get_or slots e.slot s →
    row_of (plain_slot_span s) ∷ [] ≡ map row_of (spans_in slots (e ∷ []))
one_row slots e s is read =
    let here = get_at slots e.slot s (within_slots slots e.id e.slot is) read in
    let stands : holds e.id s ≡ true = ap (holds_in e.id) (sym here) ∙ is in
    rw (here, stands) refl

pub row_there : (slots : List SpanSlot) (e : Entry) (s : SpanSlot) (rows now : List PlainRow) → leads slots e ≡ true → s ≡
    get_or slots e.slot s → now ≡ rows ++ row_of (plain_slot_span s) ∷ [] → now ≡ rows ++ map row_of (spans_in slots (e ∷ []))
row_there slots e s rows now is read gives = gives ∙ ap (λ rs. rows ++ rs) (one_row slots e s is read)

-- rows of spans have the ids of these
past_rows_of : (spans : List PlainSpan) (id : ℕ) → AllByRecursion (λ (r : PlainRow). r.kin.id < id) (map row_of spans) →
    AllByRecursion (λ (s : PlainSpan). s.kin.id < id) spans
past_rows_of [] id below = tt
past_rows_of (s ∷ ss) id below = (below.0, past_rows_of ss id below.1)

pub past_rows : (rows : List PlainRow) (spans : List PlainSpan) (id : ℕ) → rows ≡ map row_of spans →
    AllByRecursion (λ (r : PlainRow). r.kin.id < id) rows → AllByRecursion (λ (s : PlainSpan). s.kin.id < id) spans
past_rows rows spans id same below = past_rows_of spans id
    (subst (λ rs. AllByRecursion (λ (r : PlainRow). r.kin.id < id) rs) same below)
