-- What is kept is right of a new stack, and its filters have numbers of their own.
use Rattle.std.proofs.Common.{◌≡◌, ◌≤◌, ◌+◌, ◌-◌, ◌++◌, ℕ, suc, Bool, true, false, nat_le, nat_eq, if◌then◌else◌, length, [], ◌∷◌, refl, ap}
use Rattle.std.proofs.Common.{◌∙◌, arith, List, Option, Some, None, Result, Ok, Err, IfOk, sym, subst}
use Rattle.std.proofs.lemmas.Bool.Decides.{nat_tests}
use Rattle.std.proofs.lemmas.List.{append-nil}
use Rattle.tracing_core_fields.specs.requests.Lists.{Every}
use Rattle.span_registry_layers_store.specs.Registries.{RegistryValue, new_registry}
use Rattle.span_registry_layers_layers.specs.FilterNumbers.{AreNumbers, more_filters, numbers_from, room_after}
use Rattle.span_registry_layers_layers.specs.declared.filter.Filter.{Ghosts}
use Rattle.span_registry_layers_layers.specs.declared.filtered.Filtered.{Filtered}
use Rattle.span_registry_layers_layers.specs.declared.layer.Layer.{Ghosts as LayerGhosts}
use Rattle.span_registry_layers_layers.proofs.FilterNumbers.{numbers_apart, numbers_joined}
use Rattle.span_registry_layers.specs.CommonAnswers.{common_hint}
use Rattle.span_registry_layers.specs.NewStack.{NewUnless, RowsFrom, filters_in, has_equal_keys, keys_of, new_refusal}
use Rattle.span_registry_layers.specs.Numbers.{HasNumbers}
use Rattle.span_registry_layers.specs.OutputSlots.{filters_of, numbers_of}
use Rattle.span_registry_layers.specs.Stacks.{StackValue}
use Rattle.span_registry_layers.specs.Steadiness.{hints_over}
use Rattle.span_registry_layers.specs.CacheValidity.{CacheIsValid, CacheIsValidFor}
use Rattle.span_registry_layers.specs.declared.output.Output.{Output}
use Rattle.span_registry_layers.specs.declared.output.StackError.{StackError}
use Rattle.span_registry_layers.specs.declared.output.StackRefusal.{StackRefusal}
use Rattle.span_registry_layers.specs.declared.output.StackError.TheVariants.{EqualKeys, NoOutput, TooManyFilters}
use Rattle.span_registry_layers.specs.declared.output_slot.OutputSlot.{OutputSlot}

module _ {L F : Type 0} (h : LayerGhosts L) (g : Ghosts F) where
  made_word : (rows : List (OutputSlot (Filtered L F))) → Every (λ f. g.honest f) (filters_of rows) →
      CacheIsValidFor g (filters_of rows) [] (common_hint g (Some 0) (filters_of rows))
  made_word rows honest = record { honest = honest; interests = tt; hints = hints_over g (filters_of rows) (Some 0) }

  honest_made : (x : RegistryValue) (outputs : List (Output (Filtered L F))) (rows : List (OutputSlot (Filtered L F))) →
      RowsFrom h x outputs rows → Every (λ (o : Output (Filtered L F)). g.honest o.output.filter) outputs →
      Every (λ f. g.honest f) (filters_of rows)
  honest_made x [] [] w honest = tt
  honest_made x [] (row ∷ rows) w honest = absurd w
  honest_made x (output ∷ outputs) [] w honest = absurd w
  honest_made x (output ∷ outputs) (row ∷ rows) w honest = (
    subst (λ (f : F). g.honest f) (sym (ap (λ (r : OutputSlot (Filtered L F)). r.output.filter) w.0.2)) honest.0,
    honest_made (more_filters (suc (h.filters output.output.layer)) x) outputs rows w.1 honest.1,
  )

  pub new_honest : (outputs : List (Output (Filtered L F))) (refusal : Option StackError)
      (r : Result (StackValue (Filtered L F)) (StackRefusal (Filtered L F))) → NewUnless h g refusal outputs r →
      Every (λ (o : Output (Filtered L F)). g.honest o.output.filter) outputs → IfOk r (λ s. CacheIsValid g s)
  new_honest outputs None (Ok s) e honest =
      subst (CacheIsValid g) (sym e.1) (made_word s.rows (honest_made new_registry outputs s.rows e.0 honest))
  new_honest outputs None (Err refusal) e honest = tt
  new_honest outputs (Some refusal) (Ok s) e honest = absurd e
  new_honest outputs (Some refusal) (Err other) e honest = tt

  pub new_word : (outputs : List (Output (Filtered L F))) (refusal : Option StackError)
      (r : Result (StackValue (Filtered L F)) (StackRefusal (Filtered L F))) → NewUnless h g refusal outputs r →
      IfOk r (λ s. Every (λ f. g.honest f) (filters_of s.rows) → CacheIsValid g s)
  new_word outputs None (Ok s) e = λ honest. subst (CacheIsValid g) (sym e.1) (made_word s.rows honest)
  new_word outputs None (Err refusal) e = tt
  new_word outputs (Some refusal) (Ok s) e = absurd e
  new_word outputs (Some refusal) (Err other) e = tt

not_many : (none fits equal : Bool) →
    (if none then Some NoOutput else if fits then (if equal then Some EqualKeys else None) else Some TooManyFilters) ≡ None → fits ≡ true
not_many true fits equal e = absurd (cc)
not_many false true equal e = refl
not_many false false equal e = absurd (cc)

fits_room : (count : ℕ) → nat_le count 64 ≡ true → count ≤ 64
fits_room count e = grind (arith, nat_tests, e)

module _ {L F : Type 0} (h : LayerGhosts L) where
  pub few : (outputs : List (Output (Filtered L F))) → new_refusal h outputs ≡ None → filters_in h outputs ≤ 64
  few outputs e = fits_room (filters_in h outputs)
      (not_many (nat_eq (length outputs) 0) (nat_le (filters_in h outputs) 64) (has_equal_keys (keys_of outputs)) e)

  rows_numbered : (x : RegistryValue) (outputs : List (Output (Filtered L F))) (rows : List (OutputSlot (Filtered L F))) →
      RowsFrom h x outputs rows → numbers_of h rows ≡ numbers_from x.filters (filters_in h outputs)
  rows_numbered x [] [] w = refl
  rows_numbered x [] (row ∷ rows) w = absurd w
  rows_numbered x (output ∷ outputs) [] w = absurd w
  rows_numbered x (output ∷ outputs) (row ∷ rows) w =
      let count = h.filters output.output.layer in
      let first : row.id.index ≡ x.filters = ap (λ (r : OutputSlot (Filtered L F)). r.id.index) w.0.2 in
      let next : x.filters + suc count ≡ x.filters + 1 + count = omega arith in
      let all : suc (count + filters_in h outputs) ≡ suc count + filters_in h outputs = omega arith in
      let later : numbers_of h rows ≡ numbers_from (x.filters + 1 + count) (filters_in h outputs) =
      rows_numbered (more_filters (suc count) x) outputs rows w.1 ∙ ap (λ (n : ℕ). numbers_from n (filters_in h outputs)) next in
      ap (λ (n : ℕ). n ∷ (h.numbers row.output.layer ++ numbers_of h rows)) first
      ∙ ap (λ ns. x.filters ∷ (ns ++ numbers_of h rows)) w.0.1
      ∙ ap (λ ns. x.filters ∷ (numbers_from (x.filters + 1) count ++ ns)) later
      ∙ ap (λ ns. x.filters ∷ ns) (numbers_joined (x.filters + 1) count (filters_in h outputs)) ∙ ap (numbers_from x.filters) all

  pub new_numbers : (g : Ghosts F) (outputs : List (Output (Filtered L F))) (refusal : Option StackError)
      (r : Result (StackValue (Filtered L F)) (StackRefusal (Filtered L F))) → new_refusal h outputs ≡ refusal →
      NewUnless h g refusal outputs r → IfOk r (HasNumbers h)
  new_numbers g outputs None (Ok s) none e =
      let total = filters_in h outputs in
      let most = few outputs none in
      subst (AreNumbers 64) (sym (rows_numbered new_registry outputs s.rows e.0)) (numbers_apart 64 0 total (omega (arith, most)))
  new_numbers g outputs None (Err refusal) none e = tt
  new_numbers g outputs (Some refusal) (Ok s) none e = absurd e
  new_numbers g outputs (Some refusal) (Err other) none e = tt

  -- all rows are made
  pub rows_made : (x : RegistryValue) (all : List (Output (Filtered L F))) (y : RegistryValue) (left : List (Output (Filtered L F)))
      (made : List (OutputSlot (Filtered L F))) → length left ≡ 0 →
      ((rows : List (OutputSlot (Filtered L F))) → RowsFrom h y left rows → RowsFrom h x all (made ++ rows)) →
      more_filters (filters_in h left) y ≡ more_filters (filters_in h all) x → RowsFrom h x all made ×
      (y ≡ more_filters (filters_in h all) x)
  rows_made x all y [] made none finish e =
      let same : y.filters + 0 ≡ y.filters = omega arith in
      (subst (RowsFrom h x all) (append-nil made) (finish [] tt), sym (ap (λ (n : ℕ). record y { filters = n }) same) ∙ e)
  rows_made x all y (output ∷ left) made none finish e = absurd (cc)

none_test : (b : Bool) (room count rest : ℕ) → nat_le count room ≡ b → None ≡ (if b then Some (room - count) else None) →
    nat_le (count + rest) room ≡ false
none_test true room count rest e s = absurd (cc)
none_test false room count rest e s = grind (arith, nat_tests, e)

pub no_room : (room count rest : ℕ) → None ≡ room_after room count → nat_le (count + rest) room ≡ false
no_room room count rest e = none_test (nat_le count room) room count rest refl e
