-- The slots of outputs, lent of the slot of a span.
use Rattle.std.proofs.Common.{◌≡◌, ℕ, List, length, map, get_or, Bool, true, false, if◌then◌else◌, Option, Some, None, refl, ap, sym, ◌∙◌}
use Rattle.std.proofs.Common.{◌≤◌, slice_get}
use Rattle.std.specs.Option.{option_map}
use Rattle.std.proofs.lemmas.Option.{get_or_from_slice_get, none-some, slice_get_past}
use Rattle.span_registry_layers_store.specs.SlotCalls.{with_places}
use Rattle.span_registry_layers_store.specs.SlotLoans.{IsSpanToLend, slots_of}
use Rattle.span_registry_layers_store.specs.Registries.{PlainSpan, kin_in, plain_span}
use Rattle.span_registry_layers_store.specs.SpanSlots.{IsSlotOf, entry_kin, plain_slot_span, slot_kin, spans_in, standing, with_slots_in}
use Rattle.span_registry_layers_store.specs.Spans.{Rises, found}
use Rattle.span_registry_layers_store.specs.Views.{seen_if, sees}
use Rattle.span_registry_layers_store.specs.declared.index.Entry.{Entry}
use Rattle.span_registry_layers_store.specs.declared.span_slot.SpanSlot.{SpanSlot}
use Rattle.span_registry_layers_store.proofs.SlotViews.{changed_shown, none_shown}
use Rattle.span_registry_layers_store.proofs.SlotChanges.{put_there, reads, sound_put, span_there}

past : (xs : List SpanSlot) (n : ℕ) (s : SpanSlot) → length xs ≤ n → slice_get xs n ≡ Some s → ⊥
past xs n s end e = none-some s (sym (slice_get_past xs n end) ∙ e)

-- without the span, the end is answered
nothing_to_lend : (xs : List SpanSlot) (es : List Entry) (mask : Option ℕ) (id n : ℕ) → length xs ≤ n →
    seen_if mask (found kin_in (spans_in xs es) id) ≡ None → IsSpanToLend xs es mask id n
nothing_to_lend xs es mask id n end none = record {
  is = ap (option_map (λ (s : SpanSlot). s.span.extensions)) (slice_get_past xs n end) ∙ sym (ap (option_map slots_of) none);
  put = λ w s e. absurd (past xs n s end e);
  sound = λ w s e free sound. absurd (past xs n s end e);
}

pub no_slot_to_lend : (xs : List SpanSlot) (es : List Entry) (mask : Option ℕ) (id n : ℕ) → length xs ≤ n →
    found slot_kin (standing xs es) id ≡ None → IsSpanToLend xs es mask id n
no_slot_to_lend xs es mask id n end here = nothing_to_lend xs es mask id n end (ap (seen_if mask) (none_shown (standing xs es) id here))

seen_there : (b : Bool) (mask : Option ℕ) (s : PlainSpan) (o : Option PlainSpan) → o ≡ Some s → sees mask s ≡ b →
    seen_if mask o ≡ (if b then Some s else None)
seen_there b mask s o is test = ap (seen_if mask) is ∙ rw test refl

module _ (xs : List SpanSlot) (es : List Entry) (mask : Option ℕ) (id k : ℕ) (rise : Rises entry_kin 0 es) (p : IsSlotOf xs es id k)
    (s : SpanSlot) (read : s ≡ get_or xs k s) where
  pub slot_to_lend : sees mask (plain_span s.span) ≡ true → IsSpanToLend xs es mask id k
  slot_to_lend test = record {
    is = ap (option_map (λ (x : SpanSlot). x.span.extensions)) (reads xs es id k s p read) ∙ sym (ap (option_map slots_of)
        (seen_there true mask (plain_span s.span) (found kin_in (spans_in xs es) id) (sym (span_there xs es id k s p read)) test));
    put = λ w x e. changed_shown (with_slots_in w) (with_places w) (λ y. refl) (standing xs es) id ∙
        sym (ap (map plain_slot_span) (put_there xs es id k x p (sym (get_or_from_slice_get xs k x x e)) (with_slots_in w) refl refl rise));
    sound = λ w x e free sound. sound_put xs free es id k x sound p (sym (get_or_from_slice_get xs k x x e)) (with_slots_in w) (λ y. refl)
        (λ y. refl) (λ y. refl) refl;
  }

  pub unseen_to_lend : (n : ℕ) → length xs ≤ n → sees mask (plain_span s.span) ≡ false → IsSpanToLend xs es mask id n
  unseen_to_lend n end test = nothing_to_lend xs es mask id n end
      (seen_there false mask (plain_span s.span) (found kin_in (spans_in xs es) id) (sym (span_there xs es id k s p read)) test)

pub some_lent : (xs : List SpanSlot) (es : List Entry) (mask : Option ℕ) (id k : ℕ) (s : SpanSlot) → IsSpanToLend xs es mask id k →
    slice_get xs k ≡ Some s → Some s.span.extensions ≡ option_map slots_of (seen_if mask (found kin_in (spans_in xs es) id))
some_lent xs es mask id k s p here = ap (option_map (λ (x : SpanSlot). x.span.extensions)) (sym here) ∙ p.is

pub none_lent : (xs : List SpanSlot) (es : List Entry) (mask : Option ℕ) (id k : ℕ) → IsSpanToLend xs es mask id k → slice_get xs k ≡ None →
    None ≡ option_map slots_of (seen_if mask (found kin_in (spans_in xs es) id))
none_lent xs es mask id k p here = ap (option_map (λ (x : SpanSlot). x.span.extensions)) (sym here) ∙ p.is
