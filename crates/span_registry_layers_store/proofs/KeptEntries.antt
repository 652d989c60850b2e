-- The index without entries that lead nowhere.
use Rattle.std.proofs.Common.{◌≡◌, ℕ, ◌+◌, ◌≤◌, List, [], ◌∷◌, ◌++◌, Bool, true, false, if◌then◌else◌, slice_get, refl, sym, ap, ◌∙◌, arith}
use Rattle.std.specs.List.{filter}
use Rattle.span_registry_layers_store.specs.SpanSlots.{entry_kin, if_holds, leads, standing}
use Rattle.span_registry_layers_store.specs.Spans.{Rises}
use Rattle.span_registry_layers_store.specs.declared.index.Entry.{Entry}
use Rattle.span_registry_layers_store.specs.declared.span_slot.SpanSlot.{SpanSlot}
use Rattle.span_registry_layers_store.proofs.IndexEnds.{none_held}
use Rattle.span_registry_layers_store.proofs.IndexOrder.{rise_from}

kept_if : (b : Bool) (slots : List SpanSlot) (e : Entry) (es fs : List Entry) → leads slots e ≡ b → standing slots fs ≡ standing slots es →
    standing slots (if b then e ∷ fs else fs) ≡ standing slots (e ∷ es)
kept_if true slots e es fs is later = ap (λ xs. if_holds e.id (slice_get slots e.slot) ++ xs) later
kept_if false slots e es fs is later = later ∙ sym (ap (λ xs. xs ++ standing slots es) (none_held e.id (slice_get slots e.slot) is))

pub kept_standing : (slots : List SpanSlot) (es : List Entry) → standing slots (filter (leads slots) es) ≡ standing slots es
kept_standing slots [] = refl
kept_standing slots (e ∷ es) = kept_if (leads slots e) slots e es (filter (leads slots) es) refl (kept_standing slots es)

rise_if : (b : Bool) (least : ℕ) (e : Entry) (fs : List Entry) → least ≤ e.id → Rises entry_kin (e.id + 1) fs →
    Rises entry_kin least (if b then e ∷ fs else fs)
rise_if true least e fs low rise = (low, rise)
rise_if false least e fs low rise = rise_from least (e.id + 1) fs (omega (arith, low)) rise

pub kept_rise : (test : Entry → Bool) (least : ℕ) (es : List Entry) → Rises entry_kin least es → Rises entry_kin least (filter test es)
kept_rise test least [] rise = tt
kept_rise test least (e ∷ es) rise = rise_if (test e) least e (filter test es) rise.0 (kept_rise test (e.id + 1) es rise.1)
