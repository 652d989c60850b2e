-- A new stack.
use Rattle.std.specs.Prelude.{◌≡◌, ◌+◌, ◌||◌, ℕ, suc, nat_le, nat_eq, Bool, false, if◌then◌else◌, List, [], ◌∷◌, length, map, Option, Some}
use Rattle.std.specs.Prelude.{None, Result, Ok, Err, Vec}
use Rattle.std.specs.Global.{Global}
use Rattle.span_registry_layers_store.specs.Registries.{RegistryValue, new_registry}
use Rattle.span_registry_layers_store.specs.Spans.{is_member}
use Rattle.span_registry_layers_layers.specs.Notices.{Attached}
use Rattle.span_registry_layers_layers.specs.FilterNumbers.{more_filters, numbers_from}
use Rattle.span_registry_layers_layers.specs.declared.filter.Filter.{Ghosts}
use Rattle.span_registry_layers_layers.specs.declared.filtered.Filtered.{Filtered}
use Rattle.span_registry_layers_layers.specs.declared.layer.Layer.{Ghosts as LayerGhosts}
use Rattle.span_registry_layers.specs.CommonAnswers.{common_hint}
use Rattle.span_registry_layers.specs.OutputSlots.{filters_of}
use Rattle.span_registry_layers.specs.Stacks.{StackValue}
use Rattle.span_registry_layers.specs.declared.output.Output.{Output}
use Rattle.span_registry_layers.specs.declared.output.StackError.{StackError}
use Rattle.span_registry_layers.specs.declared.output.StackRefusal.{StackRefusal}
use Rattle.span_registry_layers.specs.declared.output.StackError.TheVariants.{OutOfMemory, NoOutput, TooManyFilters, EqualKeys}
use Rattle.span_registry_layers.specs.declared.output_slot.OutputSlot.{OutputSlot}

abbrev pub keys_of : {O : Type 0} → List (Output O) → List ℕ
keys_of outputs = map (λ output. output.key.0) outputs

-- some key stands twice
abbrev pub has_equal_keys : List ℕ → Bool
has_equal_keys [] = false
has_equal_keys (key ∷ keys) = is_member keys key || has_equal_keys keys

module _ {L F : Type 0} (h : LayerGhosts L) where
  -- how many filters the outputs have: each its own, and those in its layer
  abbrev pub filters_in : List (Output (Filtered L F)) → ℕ
  filters_in [] = 0
  filters_in (output ∷ outputs) = suc (h.filters output.output.layer) + filters_in outputs

  -- the first of the reasons not to make a stack of these
  abbrev pub new_refusal : List (Output (Filtered L F)) → Option StackError
  new_refusal outputs =
      if nat_eq (length outputs) 0 then Some NoOutput else if nat_le (filters_in outputs)
      64 then (if has_equal_keys (keys_of outputs) then Some EqualKeys else None) else Some TooManyFilters

  -- an output's filter has the next number, and those in its layer, which is attached to the registry, the numbers after it
  abbrev pub RowOf : RegistryValue → Output (Filtered L F) → OutputSlot (Filtered L F) → Type 0
  RowOf x output row =
      h.told output.output.layer (Attached (more_filters 1 x)) row.output.layer
      × (h.numbers row.output.layer ≡ numbers_from (x.filters + 1) (h.filters output.output.layer))
      × (row ≡ record {
        key = output.key;
        id = record { index = x.filters };
        output = record output.output { layer = row.output.layer };
        passed = false;
        told = false;
      })

  -- so it is of all, in order
  abbrev pub RowsFrom : RegistryValue → List (Output (Filtered L F)) → List (OutputSlot (Filtered L F)) → Type 0
  RowsFrom x [] [] = Unit {0}
  RowsFrom x [] (row ∷ rows) = ⊥
  RowsFrom x (output ∷ outputs) [] = ⊥
  RowsFrom x (output ∷ outputs) (row ∷ rows) = RowOf x output row × RowsFrom (more_filters (suc (h.filters output.output.layer)) x) outputs
      rows

  -- rows are made of the outputs, or these come back
  abbrev pub RowsGive : RegistryValue → List (Output (Filtered L F)) →
      Result (Vec (OutputSlot (Filtered L F)) Global) (Vec (Output (Filtered L F)) Global) → RegistryValue → Type 0
  RowsGive x outputs (Ok rows) y = RowsFrom x outputs rows.items × (y ≡ more_filters (filters_in outputs) x)
  RowsGive x outputs (Err back) y = (back.items ≡ outputs) × (y ≡ x)

  -- the outputs over a registry without spans, and nothing kept
  abbrev pub IsBare : List (Output (Filtered L F)) → StackValue (Filtered L F) → Type 0
  IsBare outputs s =
      RowsFrom new_registry outputs s.rows ×
      (s ≡ record { registry = more_filters (filters_in outputs) new_registry; rows = s.rows; interest_cache = []; hint = None })

  -- the reason for the refusal, and the outputs as they were
  abbrev pub HandsBack : StackError → List (Output (Filtered L F)) → StackRefusal (Filtered L F) → Type 0
  HandsBack error outputs back = (back.error ≡ error) × (back.outputs.items ≡ outputs)

  module _ (g : Ghosts F) where
    -- with the hint of its filters
    abbrev pub IsNew : List (Output (Filtered L F)) → StackValue (Filtered L F) → Type 0
    IsNew outputs s =
        RowsFrom new_registry outputs s.rows
        × (s ≡ record {
          registry = more_filters (filters_in outputs) new_registry;
          rows = s.rows;
          interest_cache = [];
          hint =
              common_hint g (Some 0) (filters_of s.rows);
        })

    abbrev pub NewUnless : Option StackError → List (Output (Filtered L F)) →
        Result (StackValue (Filtered L F)) (StackRefusal (Filtered L F)) → Type 0
    NewUnless (Some refusal) outputs (Ok s) = ⊥
    NewUnless (Some refusal) outputs (Err back) = HandsBack refusal outputs back
    NewUnless None outputs (Ok s) = IsNew outputs s
    NewUnless None outputs (Err back) = HandsBack OutOfMemory outputs back

    -- a stack is made, unless it is refused, or there is no memory: then the outputs come back
    abbrev pub NewGives : List (Output (Filtered L F)) → Result (StackValue (Filtered L F)) (StackRefusal (Filtered L F)) → Type 0
    NewGives outputs r = NewUnless (new_refusal outputs) outputs r
