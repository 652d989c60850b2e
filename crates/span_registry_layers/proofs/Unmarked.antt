-- Outputs that aren't marked stay where marks are cleared.
use Rattle.std.proofs.Common.{◌≡◌, Bool, true, false, List, [], ◌∷◌, map, refl, sym, ap, ◌∙◌}
use Rattle.std.specs.Prelude.{not, ◌||◌}
use Rattle.std.specs.List.{list_any}
use Rattle.std.proofs.lemmas.Bool.{false≢true}
use Rattle.span_registry_layers.specs.OutputSlots.{is_marked, marked, with_marks}
use Rattle.span_registry_layers.specs.declared.output_slot.OutputSlot.{OutputSlot}

none_of : (passed told more : Bool) → not ((passed || told) || more) ≡ true → (passed ≡ false) × (told ≡ false) × (more ≡ false)
none_of false false false off = (refl, refl, refl)
none_of false false true off = absurd (false≢true off)
none_of false true more off = absurd (false≢true off)
none_of true told more off = absurd (false≢true off)

one_same : {O : Type 0} (row : OutputSlot O) → row.passed ≡ false → row.told ≡ false → marked false row ≡ row
one_same row passed told = ap (λ (b : Bool). with_marks b false row) (sym passed) ∙
    ap (λ (b : Bool). with_marks row.passed b row) (sym told)

pub cleared_same : {O : Type 0} (rows : List (OutputSlot O)) → not (list_any is_marked rows) ≡ true → map (marked false) rows ≡ rows
cleared_same [] clear = refl
cleared_same (row ∷ rows) clear =
    let off = none_of row.passed row.told (list_any is_marked rows) clear in
    ap (λ (later : OutputSlot _). later ∷ map (marked false) rows) (one_same row off.0 off.1) ∙
    ap (λ (later : List (OutputSlot _)). row ∷ later) (cleared_same rows (ap not off.2))
