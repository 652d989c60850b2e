-- Other filters in the place of those that stand.
use Rattle.std.specs.Prelude.{◌≡◌, ℕ, List, [], Option, Some, None, Result, Ok, Err, slice_get, slice_set}
use Rattle.span_registry_layers_layers.specs.declared.filter.Filter.{Ghosts}
use Rattle.span_registry_layers_layers.specs.declared.filtered.Filtered.{Filtered}
use Rattle.span_registry_layers.specs.CommonAnswers.{common_hint}
use Rattle.span_registry_layers.specs.OutputSlots.{filters_of}
use Rattle.span_registry_layers.specs.Stacks.{StackValue}
use Rattle.span_registry_layers.specs.declared.output.UnknownOutput.{UnknownOutput}
use Rattle.span_registry_layers.specs.declared.output_slot.OutputSlot.{OutputSlot}

abbrev pub with_filter : {L F : Type 0} → F → OutputSlot (Filtered L F) → OutputSlot (Filtered L F)
with_filter filter row = record row { output = record row.output { filter = filter } }

-- with another output list
abbrev pub with_rows : {O : Type 0} → List (OutputSlot O) → StackValue O → StackValue O
with_rows rows s = record s { rows = rows }

-- nothing is kept of callsites
abbrev pub without_sites : {O : Type 0} → StackValue O → StackValue O
without_sites s = record s { interest_cache = [] }

module _ {L F : Type 0} (g : Ghosts F) where
  -- the interests are forgotten, and the hint is asked anew
  abbrev pub asked_anew : StackValue (Filtered L F) → StackValue (Filtered L F)
  asked_anew s = record s { interest_cache = []; hint = common_hint g (Some 0) (filters_of s.rows) }

  abbrev pub SwapAt : Option (OutputSlot (Filtered L F)) → ℕ → F → StackValue (Filtered L F) → Result (Unit {0}) UnknownOutput → F →
      StackValue (Filtered L F) → Type 0
  SwapAt None place filter s r back t = (r ≡ Err (record { 0 = tt })) × (back ≡ filter) × (t ≡ s)
  SwapAt (Some row) place filter s r back t =
      (r ≡ Ok tt) × (back ≡ row.output.filter) × (t ≡ asked_anew (with_rows (slice_set s.rows place (with_filter filter row)) s))

  -- the two filters change places, and all else stays: spans with their verdicts, entries, slots, and layers
  abbrev pub SwapGives : ℕ → F → StackValue (Filtered L F) → Result (Unit {0}) UnknownOutput → F → StackValue (Filtered L F) → Type 0
  SwapGives place filter s r back t = SwapAt (slice_get s.rows place) place filter s r back t

-- the filter of the output there is another one
abbrev pub SwapsRowAt : {L F : Type 0} → Option (OutputSlot (Filtered L F)) → ℕ → F → StackValue (Filtered L F) → F →
    StackValue (Filtered L F) → Type 0
SwapsRowAt None place filter s back t = ⊥
SwapsRowAt (Some row) place filter s back t = (back ≡ row.output.filter) ×
    (t ≡ with_rows (slice_set s.rows place (with_filter filter row)) s)

abbrev pub SwapsRow : {L F : Type 0} → ℕ → F → StackValue (Filtered L F) → F → StackValue (Filtered L F) → Type 0
SwapsRow place filter s back t = SwapsRowAt (slice_get s.rows place) place filter s back t
