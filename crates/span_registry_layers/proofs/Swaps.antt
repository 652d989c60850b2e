-- What is kept is right after a filter changed.
use Rattle.std.proofs.Common.{◌≡◌, ◌++◌, ℕ, zero, suc, List, [], ◌∷◌, Option, Some, None, Result, OnOk, IfSome, refl, sym, ap, ◌∙◌, subst}
use Rattle.std.proofs.Common.{slice_get, slice_set}
use Rattle.std.specs.Option.{option_map}
use Rattle.tracing_core_fields.specs.requests.Lists.{Every}
use Rattle.span_registry_layers_layers.specs.declared.filter.Filter.{Ghosts}
use Rattle.span_registry_layers_layers.specs.declared.filtered.Filtered.{Filtered}
use Rattle.span_registry_layers_layers.specs.declared.layer.Layer.{Ghosts as LayerGhosts}
use Rattle.span_registry_layers_store.specs.declared.filter_map.FilterId.{FilterId}
use Rattle.span_registry_layers.specs.Loans.{forgotten, layer_of, layer_put, put_at, put_layer, put_output}
use Rattle.span_registry_layers.specs.OutputSlots.{filters_of, numbers_of, with_layer}
use Rattle.span_registry_layers.specs.Stacks.{StackValue}
use Rattle.span_registry_layers.specs.Steadiness.{hints_over}
use Rattle.span_registry_layers.specs.Swaps.{SwapAt, asked_anew, with_filter, with_rows}
use Rattle.span_registry_layers.specs.CacheValidity.{HintOver, CacheIsValid, CacheIsValidFor}
use Rattle.span_registry_layers.specs.declared.output.UnknownOutput.{UnknownOutput}
use Rattle.span_registry_layers.specs.declared.output_slot.OutputSlot.{OutputSlot}

over_none : {F : Type 0} (g : Ghosts F) (fs : List F) → Every (λ f. HintOver (g.hint f) None) fs
over_none g [] = tt
over_none g (f ∷ fs) = (tt, over_none g fs)

module _ {L F : Type 0} (g : Ghosts F) where
  anew_word : (s : StackValue (Filtered L F)) → Every (λ f. g.honest f) (filters_of s.rows) → CacheIsValid g (asked_anew g s)
  anew_word s honest = record { honest = honest; interests = tt; hints = hints_over g (filters_of s.rows) (Some 0) }

  pub swapped_word : (at : Option (OutputSlot (Filtered L F))) (place : ℕ) (filter : F) (s : StackValue (Filtered L F))
      (r : Result (Unit {0}) UnknownOutput) (back : F) (t : StackValue (Filtered L F)) → SwapAt g at place filter s r back t →
      OnOk r (Every (λ f. g.honest f) (filters_of t.rows) → CacheIsValid g t)
  swapped_word None place filter s r back t given = subst (λ q. OnOk q (Every (λ f. g.honest f) (filters_of t.rows) → CacheIsValid g t))
      (sym given.0) tt
  swapped_word (Some row) place filter s r back t given =
      subst (λ q. OnOk q (Every (λ f. g.honest f) (filters_of t.rows) → CacheIsValid g t)) (sym given.0)
      (subst (λ u. Every (λ f. g.honest f) (filters_of u.rows) → CacheIsValid g u) (sym given.2)
      (anew_word (with_rows (slice_set s.rows place (with_filter filter row)) s)))

  -- nothing is kept, whatever the lent output becomes
  pub lent_word : (place : ℕ) (output : Filtered L F) (s : StackValue (Filtered L F)) →
      Every (λ f. g.honest f) (filters_of (put_output place output s.rows)) →
      CacheIsValid g (with_rows (put_output place output s.rows) (forgotten s))
  lent_word place output s honest =
      record { honest = honest; interests = tt; hints = over_none g (filters_of (put_output place output s.rows)) }

same_of : {A : Type 0} (x y : A) → Some x ≡ Some y → x ≡ y
same_of x y e = cc

-- another row with the same filter
filters_put : {L F : Type 0} (rows : List (OutputSlot (Filtered L F))) (place : ℕ) (row later : OutputSlot (Filtered L F)) →
    slice_get rows place ≡ Some row → later.output.filter ≡ row.output.filter → filters_of (slice_set rows place later) ≡ filters_of rows
filters_put [] place row later found e = refl
filters_put (x ∷ xs) zero row later found e =
    ap (λ f. f ∷ filters_of xs) (e ∙ ap (λ (r : OutputSlot (Filtered _ _)). r.output.filter) (sym (same_of x row found)))
filters_put (x ∷ xs) (suc place) row later found e = ap (λ fs. x.output.filter ∷ fs) (filters_put xs place row later found e)

filters_stay : {L F : Type 0} (rows : List (OutputSlot (Filtered L F))) (place : ℕ) (at : Option (OutputSlot (Filtered L F))) (layer : L) →
    slice_get rows place ≡ at → filters_of (layer_put at place layer rows) ≡ filters_of rows
filters_stay rows place None layer found = refl
filters_stay rows place (Some row) layer found = filters_put rows place row (with_layer layer row) found refl

-- whatever the lent layer becomes, what is kept stays right
pub layer_word : {L F : Type 0} (g : Ghosts F) (place : ℕ) (layer : L) (s : StackValue (Filtered L F)) → CacheIsValid g s →
    CacheIsValid g (put_layer place layer s)
layer_word g place layer s w = subst (λ fs. CacheIsValidFor g fs s.interest_cache s.hint)
    (sym (filters_stay s.rows place (slice_get s.rows place) layer refl)) w

module _ {L F : Type 0} (h : LayerGhosts L) where
  -- another row with the same numbers
  numbers_put : (rows : List (OutputSlot (Filtered L F))) (place : ℕ) (row later : OutputSlot (Filtered L F)) →
      slice_get rows place ≡ Some row → later.id ≡ row.id → h.numbers later.output.layer ≡ h.numbers row.output.layer →
      numbers_of h (slice_set rows place later) ≡ numbers_of h rows
  numbers_put [] place row later found e n = refl
  numbers_put (x ∷ xs) zero row later found e n =
      ap (λ (id : FilterId). id.index ∷ (h.numbers later.output.layer ++ numbers_of h xs)) e
      ∙ ap (λ (ns : List ℕ). row.id.index ∷ (ns ++ numbers_of h xs)) n ∙
      ap (λ (r : OutputSlot (Filtered L F)). r.id.index ∷ (h.numbers r.output.layer ++ numbers_of h xs)) (sym (same_of x row found))
  numbers_put (x ∷ xs) (suc place) row later found e n = ap (λ (ns : List ℕ). x.id.index ∷ (h.numbers x.output.layer ++ ns))
      (numbers_put xs place row later found e n)

  pub swapped_numbers : (g : Ghosts F) (at : Option (OutputSlot (Filtered L F))) (place : ℕ) (filter : F) (s : StackValue (Filtered L F))
      (r : Result (Unit {0}) UnknownOutput) (back : F) (t : StackValue (Filtered L F)) → slice_get s.rows place ≡ at →
      SwapAt g at place filter s r back t →
      numbers_of h t.rows ≡ numbers_of h s.rows
  swapped_numbers g None place filter s r back t found given = ap (λ (u : StackValue (Filtered L F)). numbers_of h u.rows) given.2
  swapped_numbers g (Some row) place filter s r back t found given =
      ap (λ (u : StackValue (Filtered L F)). numbers_of h u.rows) given.2 ∙ numbers_put s.rows place row (with_filter filter row) found refl
      refl

  -- of what is lent, seen as an output
  pub lent_numbers : {R : Type 0} (now : R → Filtered L F) (place : ℕ) (output : Filtered L F) (rows : List (OutputSlot (Filtered L F)))
      (at : Option (OutputSlot (Filtered L F))) (r : Option R) → slice_get rows place ≡ at →
      option_map now r ≡ option_map (λ row. row.output) at → IfSome r (λ lent. h.numbers output.layer ≡ h.numbers (now lent).layer) →
      numbers_of h (put_at at place output rows) ≡ numbers_of h rows
  lent_numbers now place output rows None r found lent same = refl
  lent_numbers now place output rows (Some row) None found lent same = absurd (cc)
  lent_numbers now place output rows (Some row) (Some l) found lent same =
      numbers_put rows place row (record row { output = output }) found refl
      (same ∙ ap (λ (o : Filtered L F). h.numbers o.layer) (same_of (now l) row.output lent))

  -- of a lent layer
  pub layer_numbers : {R : Type 0} (now : R → L) (place : ℕ) (layer : L) (rows : List (OutputSlot (Filtered L F)))
      (at : Option (OutputSlot (Filtered L F))) (r : Option R) → slice_get rows place ≡ at →
      option_map now r ≡ option_map layer_of at → IfSome r (λ lent. h.numbers layer ≡ h.numbers (now lent)) →
      numbers_of h (layer_put at place layer rows) ≡ numbers_of h rows
  layer_numbers now place layer rows None r found lent same = refl
  layer_numbers now place layer rows (Some row) None found lent same = absurd (cc)
  layer_numbers now place layer rows (Some row) (Some l) found lent same =
      numbers_put rows place row (with_layer layer row) found refl (same ∙ ap h.numbers (same_of (now l) row.output.layer lent))
