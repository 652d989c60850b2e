-- The first output comes out.
use Rattle.std.proofs.Common.{◌≡◌, ◌<◌, ◌∷◌, List, [], length, map, get_or, remove, refl, ap, arith, ◌∙◌, sym}
use Rattle.span_registry_layers.specs.TakenOutputs.{output_of}
use Rattle.span_registry_layers.specs.declared.output_slot.OutputSlot.{OutputSlot}

pub none_out : {O : Type 0} (rows : List (OutputSlot O)) → length rows ≡ 0 → map output_of rows ≡ []
none_out [] e = refl
none_out (row ∷ rows) e = absurd (omega (arith, e))

pub first_out : {O : Type 0} (rows later : List (OutputSlot O)) (row : OutputSlot O) → 0 < length rows → row ≡ get_or rows 0 row →
    later ≡ remove rows 0 → map output_of rows ≡ output_of row ∷ map output_of later
first_out [] later row some first rest = absurd (omega (arith, some))
first_out (x ∷ xs) later row some first rest = ap (λ (y : OutputSlot _). output_of y ∷ map output_of xs) (sym first) ∙
    ap (λ (ys : List (OutputSlot _)). output_of row ∷ map output_of ys) (sym rest)
