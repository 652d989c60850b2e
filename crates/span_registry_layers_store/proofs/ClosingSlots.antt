-- Which span closes first, among spans in slots.
use Rattle.std.proofs.Common.{◌≡◌, ℕ, zero, suc, ◌+◌, ◌<◌, ◌≤◌, ◌==◌, ◌&&◌, List, [], ◌∷◌, ◌++◌, length, map, drop, get_or, Bool, true}
use Rattle.std.proofs.Common.{false, if◌then◌else◌, slice_get, Option, Some, None, refl, sym, ap, ◌∙◌, subst, arith}
use Rattle.std.specs.Prelude.{not}
use Rattle.std.proofs.Math.ListN.{drop_of_length-le}
use Rattle.std.proofs.lemmas.Bool.{false≢true}
use Rattle.std.proofs.lemmas.Option.{none-some, same_Some}
use Rattle.span_registry_layers_store.specs.RegistryCalls.{ClosesFirst, ClosesTo, dropped}
use Rattle.span_registry_layers_store.specs.Registries.{PlainSpan, kin_in}
use Rattle.span_registry_layers_store.specs.SpanSlots.{AreIndexed, CountChildren, entry_kin, goes, goes_at, holds, holds_in, if_holds}
use Rattle.span_registry_layers_store.specs.SpanSlots.{plain_slot_span, spans_in, standing, stays_by}
use Rattle.span_registry_layers_store.specs.Spans.{AllStay, Rises, closed_of, keep_if, keeps, open_of, stays, unless}
use Rattle.span_registry_layers_store.specs.declared.index.Entry.{Entry}
use Rattle.span_registry_layers_store.specs.declared.span_slot.SpanSlot.{SpanSlot}
use Rattle.span_registry_layers_store.proofs.ParentLinks.{stays_carried}
use Rattle.span_registry_layers_store.proofs.ClosedSpans.{settled_more, settled_none}
use Rattle.span_registry_layers_store.proofs.ChildCounts.{keeps_counted, stays_counted}
use Rattle.span_registry_layers_store.proofs.Lists.{get_at}
use Rattle.span_registry_layers_store.proofs.SpanPlaces.{differs}
use Rattle.span_registry_layers_store.proofs.SlotViews.{keeps_shown}
use Rattle.span_registry_layers_store.proofs.StandingSlots.{held, held_test, slot_shown}

begins : (es : List Entry) (n : ℕ) (e : Entry) → n < length es → e ≡ get_or es n e → drop n es ≡ e ∷ drop (suc n) es
begins [] n e h is = absurd (omega arith)
begins (f ∷ fs) zero e h is = ap (λ g. g ∷ fs) (sym is)
begins (f ∷ fs) (suc n) e h is = begins fs n e (omega arith) is

rest_counts : (xs ys : List SpanSlot) → CountChildren (xs ++ ys) → CountChildren ys
rest_counts [] ys counts = counts
rest_counts (x ∷ xs) ys counts = rest_counts xs ys counts.1

pub counts_from : (slots : List SpanSlot) (es : List Entry) (n : ℕ) → CountChildren (standing slots es) →
    CountChildren (standing slots (drop n es))
counts_from slots [] zero counts = counts
counts_from slots [] (suc n) counts = counts
counts_from slots (e ∷ es) zero counts = counts
counts_from slots (e ∷ es) (suc n) counts =
    counts_from slots es n (rest_counts (if_holds e.id (slice_get slots e.slot)) (standing slots es) counts)

module _ (lanes : List (List ℕ)) where
  -- whether the first one stays, by its count
  first_stays : (s : SpanSlot) (later : List SpanSlot) → CountChildren (s ∷ later) → stays_by lanes s ≡
      stays kin_in lanes (plain_slot_span s) (map plain_slot_span later)
  first_stays s later counts = stays_counted lanes s later counts.0 ∙ sym (stays_carried kin_in plain_slot_span lanes s later)

  not_true : (b : Bool) → not b ≡ false → b ≡ true
  not_true true is = refl
  not_true false is = absurd (false≢true (sym is))

  not_false : (b : Bool) → not b ≡ true → b ≡ false
  not_false true is = absurd (false≢true is)
  not_false false is = refl

  stay_turn_if : (b : Bool) (j : ℕ) (s : SpanSlot) (later : List SpanSlot) → (b && not (stays_by lanes s)) ≡ false →
      CountChildren ((if b then s ∷ [] else []) ++ later) → AllStay kin_in lanes (map plain_slot_span later) →
      AllStay kin_in lanes (map plain_slot_span ((if b then s ∷ [] else []) ++ later))
  stay_turn_if true j s later test counts settled =
      settled_more kin_in lanes (plain_slot_span s) (map plain_slot_span later) settled
      (sym (first_stays s later counts) ∙ not_true (stays_by lanes s) test)
  stay_turn_if false j s later test counts settled = settled

  stay_turn : (j : ℕ) (o : Option SpanSlot) (later : List SpanSlot) → goes_at lanes j o ≡ false → CountChildren (if_holds j o ++ later) →
      AllStay kin_in lanes (map plain_slot_span later) → AllStay kin_in lanes (map plain_slot_span (if_holds j o ++ later))
  stay_turn j None later test counts settled = settled
  stay_turn j (Some s) later test counts settled = stay_turn_if (holds j s) j s later test counts settled

  -- the end
  pub stay_end : (slots : List SpanSlot) (es : List Entry) → AllStay kin_in lanes (spans_in slots (drop (length es) es))
  stay_end slots es = subst (λ (fs : List Entry). AllStay kin_in lanes (spans_in slots fs)) (sym (drop_of_length-le es (omega arith)))
      (settled_none kin_in lanes)

  -- a turn of the loop from the end
  pub stay_next : (slots : List SpanSlot) (es : List Entry) (n r : ℕ) (e : Entry) → r ≡ suc n → r ≤ length es → e ≡ get_or es n e →
      CountChildren (standing slots es) → goes slots lanes e ≡ false → AllStay kin_in lanes (spans_in slots (drop r es)) →
      AllStay kin_in lanes (spans_in slots (drop n es))
  stay_next slots es n r e er within read counts test settled =
      let here : drop n es ≡ e ∷ drop (suc n) es = begins es n e (omega arith) read in
      let tail_counts : CountChildren (standing slots (e ∷ drop (suc n) es)) =
      subst (λ (fs : List Entry). CountChildren (standing slots fs)) here (counts_from slots es n counts) in
      subst (λ (fs : List Entry). AllStay kin_in lanes (spans_in slots fs)) (sym here)
      (stay_turn e.id (slice_get slots e.slot) (standing slots (drop (suc n) es)) test tail_counts
      (subst (λ (j : ℕ). AllStay kin_in lanes (spans_in slots (drop j es))) er settled))

  -- the first one goes, where all later ones stay
  goes_first : (s : PlainSpan) (later : List PlainSpan) → stays kin_in lanes s later ≡ false → AllStay kin_in lanes later →
      ClosesTo lanes (s ∷ later) later s.kin.id
  unfolding open_of closed_of
  goes_first s later test settled =
      let t : stays kin_in lanes s (open_of kin_in lanes later) ≡ false = ap (stays kin_in lanes s) settled.left ∙ test in
      record { span = s; same = refl; closed = rw (t, settled.closed) refl; left = rw t refl; fewer = omega arith }

  -- one more in front
  goes_later : (s : PlainSpan) (ss others : List PlainSpan) (id : ℕ) → ClosesTo lanes ss others id → ClosesTo lanes (s ∷ ss) (s ∷ others) id
  unfolding open_of closed_of
  goes_later s ss others id c = record {
    span = c.span;
    same = c.same;
    closed = ap (λ xs. xs ++ unless (stays kin_in lanes s (open_of kin_in lanes ss)) s) c.closed ∙
        ap (λ o. c.span ∷ (closed_of kin_in lanes others ++ unless (stays kin_in lanes s o) s)) (sym c.left);
    left = ap (λ o. keep_if (stays kin_in lanes s o) s o) c.left;
    fewer = let less = c.fewer in omega (arith, less);
  }

  front_if : (b : Bool) (j id : ℕ) (s : SpanSlot) (later : List SpanSlot) → holds j s ≡ b → (j == id) ≡ false →
      ClosesFirst lanes (map plain_slot_span later) id → ClosesFirst lanes (map plain_slot_span ((if b then s ∷ [] else []) ++ later)) id
  front_if true j id s later is other c =
      let apart : (s.span.kin.id == id) ≡ false = ap (λ n. n == id) ((held j s is).1) ∙ other in
      rw apart (goes_later (plain_slot_span s) (map plain_slot_span later) (dropped (map plain_slot_span later) id) id c)
  front_if false j id s later is other c = c

  front : (j id : ℕ) (o : Option SpanSlot) (later : List SpanSlot) → (j == id) ≡ false → ClosesFirst lanes (map plain_slot_span later) id →
      ClosesFirst lanes (map plain_slot_span (if_holds j o ++ later)) id
  front j id None later other c = c
  front j id (Some s) later other c = front_if (holds j s) j id s later refl other c

  here_if : (b : Bool) (id : ℕ) (s : SpanSlot) (later : List SpanSlot) → holds id s ≡ b → (b && not (stays_by lanes s)) ≡ true →
      CountChildren ((if b then s ∷ [] else []) ++ later) → AllStay kin_in lanes (map plain_slot_span later) →
      ClosesFirst lanes (map plain_slot_span ((if b then s ∷ [] else []) ++ later)) id
  here_if true id s later is test counts settled =
      let same : s.span.kin.id ≡ id = (held id s is).1 in
      let goes_now : stays kin_in lanes (plain_slot_span s) (map plain_slot_span later) ≡ false = sym (first_stays s later counts) ∙
      not_false (stays_by lanes s) test in
      let first = goes_first (plain_slot_span s) (map plain_slot_span later) goes_now settled in
      rw (held_test id s is) (subst (λ (n : ℕ). ClosesTo lanes (map plain_slot_span (s ∷ later)) (map plain_slot_span later) n) same first)
  here_if false id s later is test counts settled = absurd (false≢true test)

  here_goes : (id : ℕ) (o : Option SpanSlot) (later : List SpanSlot) → goes_at lanes id o ≡ true → CountChildren (if_holds id o ++ later) →
      AllStay kin_in lanes (map plain_slot_span later) → ClosesFirst lanes (map plain_slot_span (if_holds id o ++ later)) id
  here_goes id None later test counts settled = absurd (false≢true test)
  here_goes id (Some s) later test counts settled = here_if (holds id s) id s later refl test counts settled

  later_id : (least : ℕ) (es : List Entry) (n : ℕ) (e : Entry) → Rises entry_kin least es → slice_get es n ≡ Some e → least ≤ e.id
  later_id least [] n e rise here = absurd (none-some e here)
  later_id least (f ∷ fs) zero e rise here = let same : f.id ≡ e.id = ap (λ (g : Entry). g.id) (same_Some f e here) in let low = rise.0 in
      omega (arith, same, low)
  later_id least (f ∷ fs) (suc n) e rise here = let above = later_id (f.id + 1) fs n e rise.1 here in let low = rise.0 in
      omega (arith, above, low)

  closes_from : (slots : List SpanSlot) (least : ℕ) (es : List Entry) (n : ℕ) (e : Entry) → Rises entry_kin least es → slice_get es n ≡
      Some e → CountChildren (standing slots es) → goes slots lanes e ≡ true → AllStay kin_in lanes (spans_in slots (drop (suc n) es)) →
      ClosesFirst lanes (spans_in slots es) e.id
  closes_from slots least [] n e rise here counts test settled = absurd (none-some e here)
  closes_from slots least (f ∷ fs) zero e rise here counts test settled =
      subst (λ (g : Entry). ClosesFirst lanes (spans_in slots (f ∷ fs)) g.id) (same_Some f e here)
      (here_goes f.id (slice_get slots f.slot) (standing slots fs) (ap (goes slots lanes) (same_Some f e here) ∙ test) counts settled)
  closes_from slots least (f ∷ fs) (suc n) e rise here counts test settled =
      let above = later_id (f.id + 1) fs n e rise.1 here in
      front f.id e.id (slice_get slots f.slot) (standing slots fs) (differs f.id e.id (λ same. omega (arith, above, same)))
      (closes_from slots (f.id + 1) fs n e rise.1 here (rest_counts (if_holds f.id (slice_get slots f.slot)) (standing slots fs) counts)
      test settled)

  -- the end of the loop, at one that goes
  pub closes_here : (slots : List SpanSlot) (es : List Entry) (n r : ℕ) (e : Entry) → r ≡ suc n → r ≤ length es → e ≡ get_or es n e →
      Rises entry_kin 0 es → CountChildren (standing slots es) → goes slots lanes e ≡ true →
      AllStay kin_in lanes (spans_in slots (drop r es)) → ClosesFirst lanes (spans_in slots es) e.id
  closes_here slots es n r e er within read rise counts test settled =
      closes_from slots 0 es n e rise (get_at es n e (omega arith) read) counts test
      (subst (λ (j : ℕ). AllStay kin_in lanes (spans_in slots (drop j es))) er settled)

  and_parts : (b c : Bool) → (b && c) ≡ true → (b ≡ true) × (c ≡ true)
  and_parts true c test = (refl, test)
  and_parts false c test = absurd (false≢true test)

  gone_at : (o : Option SpanSlot) (slots : List SpanSlot) (es : List Entry) (id k : ℕ) → Rises entry_kin 0 es → AreIndexed slots es →
      CountChildren (standing slots es) → slice_get slots k ≡ o → goes_at lanes id o ≡ true →
      keeps kin_in lanes (spans_in slots es) id ≡ false
  gone_at None slots es id k rise indexed counts here test = absurd (false≢true test)
  gone_at (Some s) slots es id k rise indexed counts here test =
      let both = and_parts (holds id s) (not (stays_by lanes s)) test in
      let p = slot_shown slots es id k rise indexed (ap (holds_in id) here ∙ both.0) in
      keeps_shown lanes (standing slots es) id ∙ keeps_counted lanes (standing slots es) id s counts (p.here ∙ here) ∙
      not_false (stays_by lanes s) both.1

  -- what goes isn't kept
  pub none_keeps : (slots : List SpanSlot) (es : List Entry) (e : Entry) → Rises entry_kin 0 es → AreIndexed slots es →
      CountChildren (standing slots es) → goes slots lanes e ≡ true → keeps kin_in lanes (spans_in slots es) e.id ≡ false
  none_keeps slots es e rise indexed counts test =
      gone_at (slice_get slots e.slot) slots es e.id e.slot rise indexed counts refl test
