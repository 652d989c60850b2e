-- An output, and the layer of one, that are lent for writing.
use Rattle.std.specs.Prelude.{ℕ, List, [], Option, Some, None, slice_get, slice_set}
use Rattle.std.specs.Borrow.{LendsIf, MutBor, Fml}
use denote.RattleType.{RattleType}
use Rattle.span_registry_layers_layers.specs.contracts.filtered.Filtered.{the_row as filtered_row}
use Rattle.span_registry_layers_layers.specs.declared.filtered.Filtered.{Filtered}
use Rattle.span_registry_layers.specs.OutputSlots.{with_layer}
use Rattle.span_registry_layers.specs.Stacks.{StackValue}
use Rattle.span_registry_layers.specs.contracts.stack.Stack.{the_row}
use Rattle.span_registry_layers.specs.declared.output_slot.OutputSlot.{OutputSlot}

abbrev pub put_at : {O : Type 0} → Option (OutputSlot O) → ℕ → O → List (OutputSlot O) → List (OutputSlot O)
put_at None place output rows = rows
put_at (Some row) place output rows = slice_set rows place (record row { output = output })

-- with another output there
abbrev pub put_output : {O : Type 0} → ℕ → O → List (OutputSlot O) → List (OutputSlot O)
put_output place output rows = put_at (slice_get rows place) place output rows

-- nothing is kept of any answer
abbrev pub forgotten : {O : Type 0} → StackValue O → StackValue O
forgotten s = record s { interest_cache = []; hint = None }

-- the stack ends with the output there as the last value behind r, and with nothing kept
abbrev pub LendsOutput : (O : RattleType) → MutBor (StackValue O.Denot) → ℕ → Option (MutBor O.Denot) → Fml
LendsOutput O h place r = LendsIf (the_row O) O h r (λ w. record (forgotten h.now) { rows = put_output place w h.now.rows })
    (forgotten h.now)

-- the same where the outputs are layers with filters
abbrev pub LendsFiltered : (L F : RattleType) → MutBor (StackValue (Filtered L.Denot F.Denot)) → ℕ →
    Option (MutBor (Filtered L.Denot F.Denot)) → Fml
LendsFiltered L F h place r = LendsOutput (filtered_row L F) h place r

abbrev pub layer_of : {L F : Type 0} → OutputSlot (Filtered L F) → L
layer_of row = row.output.layer

abbrev pub layer_put : {L F : Type 0} → Option (OutputSlot (Filtered L F)) → ℕ → L → List (OutputSlot (Filtered L F)) →
    List (OutputSlot (Filtered L F))
layer_put None place layer rows = rows
layer_put (Some row) place layer rows = slice_set rows place (with_layer layer row)

-- with another layer there, and all that is kept
abbrev pub put_layer : {L F : Type 0} → ℕ → L → StackValue (Filtered L F) → StackValue (Filtered L F)
put_layer place layer s = record s { rows = layer_put (slice_get s.rows place) place layer s.rows }

-- the stack ends with the layer there as the last value behind r
abbrev pub LendsLayerAt : (L F : RattleType) → MutBor (StackValue (Filtered L.Denot F.Denot)) → ℕ → Option (MutBor L.Denot) → Fml
LendsLayerAt L F h place r = LendsIf (the_row (filtered_row L F)) L h r (λ w. put_layer place w h.now) h.now
