-- What the outputs that are asked for make of a stack.
use Rattle.std.proofs.Common.{◌≡◌, ◌+◌, ℕ, suc, nat_eq, nat_le, Bool, true, false, List, [], ◌∷◌, length, map, Option, Some, None, Result}
use Rattle.std.proofs.Common.{Ok, Err, refl, sym, ap, ◌∙◌, subst, inl, inr, arith}
use Rattle.std.specs.Prelude.{if◌then◌else◌}
use Rattle.std.specs.Option.{option_map}
use Rattle.std.proofs.lemmas.List.{length-map}
use Rattle.tracing_core_fields.specs.requests.Lists.{Every}
use Rattle.event_formatter.specs.fmt_layer.Threads.{PlainLane}
use Rattle.event_formatter_text.specs.makers.Routes.{is_good_route}
use Rattle.event_formatter_text.specs.declared.makers.route.Route.{Route}
use Rattle.span_registry_layers_layers.specs.declared.filter.Filter.{Ghosts as FilterGhosts}
use Rattle.span_registry_layers_layers.specs.declared.filtered.Filtered.{Filtered}
use Rattle.span_registry_layers_layers.specs.declared.layer.Layer.{Ghosts as LayerGhosts}
use Rattle.span_registry_layers.specs.NewStack as stacks
use Rattle.span_registry_layers.specs.Stacks.{StackValue}
use Rattle.span_registry_layers.specs.declared.output.Output.{Output}
use Rattle.span_registry_layers.specs.declared.output.StackError.{StackError}
use Rattle.span_registry_layers.specs.declared.output.StackError.TheVariants as errors
use Rattle.span_registry_layers.specs.declared.output.StackRefusal.{StackRefusal}
use Rattle.span_registry_layers.specs.declared.output_slot.OutputSlot.{OutputSlot}
use Rattle.span_registry_layers_layers.specs.FilterNumbers.{more_filters}
use Rattle.span_registry_layers_store.specs.Registries.{RegistryValue, new_registry}
use Rattle.span_registry_layers_store.specs.declared.slot.OutputKey.{OutputKey}
use Rattle.span_tracing_outputs.specs.TraceStarts.{HasOwnKey}
use Rattle.span_tracing_outputs.specs.Turns.{Lines}
use Rattle.span_tracing_outputs.specs.sinks.Routed.{Routed, RoutingGives, RoutingIf}
use Rattle.span_tracing_outputs.specs.declared.sinks.routed.UnroutedSinks.{UnroutedSinks}
use Rattle.span_tracing_skeleton.specs.declared.refusal.Refusal.{Refusal}
use Rattle.span_tracing_skeleton.specs.declared.refusal.Refusal.TheVariants as refusals
use Rattle.span_tracing_outputs.specs.files.OpenedStack.{Answers, IsTold, IsToldOfAll, Pairs, RowOf, RowsAreTold, keys_of, of_all}
use Rattle.span_tracing_outputs.specs.files.OpenedStack.{outputs_refusal, routing_of, rows_refusal, stack_refusal}
use Rattle.span_tracing_outputs.specs.files.Settings.{Shown}
use Rattle.span_tracing_outputs.specs.files.OpenRefusals.{RoutingRefuses, at_output}
use Rattle.span_tracing_outputs.specs.declared.files.open_error.OpenStackError.{OpenStackError}
use Rattle.span_tracing_outputs.specs.declared.files.opening.Routing.{Routing}
use Rattle.span_tracing_outputs.specs.declared.files.output_spec.OutputSpec.{OutputSpec}
use Rattle.span_tracing_outputs.specs.declared.files.output_spec.SinkSpec.{SinkSpec}
use Rattle.span_tracing_outputs.proofs.files.PairedLists.{same_length}

-- sinks that a route is good for are kept with it
pub routed_is : {S : Type 0} (route : Route) (sinks : List S) (made : Routed S) → RoutingGives route sinks (Ok made) →
    made ≡ record { route = route; sinks = sinks }
routed_is {S = S} route sinks made gives = by_good (is_good_route (length sinks) route) gives
  where
    by_good : (b : Bool) → RoutingIf b route sinks (Ok made) → made ≡ record { route = route; sinks = sinks }
    by_good true is = is
    by_good false is = absurd is

-- a route that is refused isn't good for its sinks
pub bad_route : {S D Q : Type 0} (failed : D → ℕ) (opens : SinkSpec D Q → S → Type 0) (routing : Routing D Q) (sinks : List S)
    (back : UnroutedSinks S) →
    Pairs opens routing.sinks.items sinks → RoutingGives routing.route sinks (Err back) →
    RoutingRefuses failed (at_output routing.key refusals.BadRoute) routing
bad_route {S = S} failed opens routing sinks back pairs gives =
    inr (inl (
      refl,
      ap (λ (n : ℕ). is_good_route n routing.route) (sym (same_length opens routing.sinks.items sinks pairs)) ∙
          by_good (is_good_route (length sinks) routing.route) gives,
    ))
  where
    by_good : (b : Bool) → RoutingIf b routing.route sinks (Err back) → b ≡ false
    by_good true gives = absurd gives
    by_good false gives = refl

-- what is wrong with outputs of so many, with so many filters and these keys
abbrev shape : ℕ → ℕ → List ℕ → Option StackError
shape n filters keys = if nat_eq n 0 then Some errors.NoOutput else if nat_le filters
    64 then (if stacks.has_equal_keys keys then Some errors.EqualKeys else None) else Some errors.TooManyFilters

told_shape : (none few equal : Bool) →
    (if none then Some refusals.NoOutput else if few then (if equal then Some refusals.EqualKeys else None) else Some
    refusals.TooManyFilters) ≡ option_map stack_refusal
    (if none then Some errors.NoOutput else if few then (if equal then Some errors.EqualKeys else None) else Some errors.TooManyFilters)
told_shape true few equal = refl
told_shape false true true = refl
told_shape false true false = refl
told_shape false false equal = refl

-- as many rows as outputs
module _ {L F : Type 0} (g : FilterGhosts F) (h : LayerGhosts L) where
  rows_counted : (x : RegistryValue) (outputs : List (Output (Filtered L F))) (rows : List (OutputSlot (Filtered L F))) →
      stacks.RowsFrom h x outputs rows → length rows ≡ length outputs
  rows_counted x [] [] made = refl
  rows_counted x [] (row ∷ rows) made = absurd made
  rows_counted x (output ∷ outputs) [] made = absurd made
  rows_counted x (output ∷ outputs) (row ∷ rows) made = let later = rows_counted (more_filters (suc (h.filters output.output.layer)) x)
      outputs rows made.1 in cc

  new_counted : (o : Option StackError) (outputs : List (Output (Filtered L F))) (s : StackValue (Filtered L F)) →
      stacks.NewUnless h g o outputs (Ok s) → length s.rows ≡ length outputs
  new_counted None outputs s made = rows_counted new_registry outputs s.rows made.0
  new_counted (Some refusal) outputs s made = absurd made

  stack_counted : (outputs : List (Output (Filtered L F))) (s : StackValue (Filtered L F)) → stacks.NewGives h g outputs (Ok s) →
      length s.rows ≡ length outputs
  stack_counted outputs s made = new_counted (stacks.new_refusal h outputs) outputs s made

module _ {N E F : Type 0} (g : FilterGhosts F) (h : LayerGhosts (Lines N E)) where
  told_by : (o : Option StackError) (rows : List (Output (Filtered (Lines N E) F))) (back : StackRefusal (Filtered (Lines N E) F)) →
      stacks.NewUnless h g o rows (Err back) → IsTold (option_map stack_refusal o) (stack_refusal back.error)
  told_by None rows back hands = tt
  told_by (Some refusal) rows back hands = inl (ap stack_refusal hands.0)

  only_memory : (o : Option StackError) (rows : List (Output (Filtered (Lines N E) F))) (back : StackRefusal (Filtered (Lines N E) F)) →
      option_map stack_refusal o ≡ None → stacks.NewUnless h g o rows (Err back) → stack_refusal back.error ≡ refusals.OutOfMemory
  only_memory None rows back none hands = ap stack_refusal hands.0
  only_memory (Some refusal) rows back none hands = absurd (let clash = none in cc)

  none_wrong : (o : Option StackError) (rows : List (Output (Filtered (Lines N E) F))) (s : StackValue (Filtered (Lines N E) F)) →
      stacks.NewUnless h g o rows (Ok s) → o ≡ None
  none_wrong None rows s made = refl
  none_wrong (Some refusal) rows s made = absurd made

  module _ (none : (layer : Lines N E) → h.filters layer ≡ 0) where
    filters_are : (rows : List (Output (Filtered (Lines N E) F))) → stacks.filters_in h rows ≡ length rows
    filters_are [] = refl
    filters_are (row ∷ rows) =
        let own : h.filters row.output.layer ≡ 0 = none row.output.layer in
        let later : stacks.filters_in h rows ≡ length rows = filters_are rows in
        ap (λ (n : ℕ). suc n + stacks.filters_in h rows) own ∙ ap (λ (n : ℕ). suc 0 + n) later ∙ one_more (length rows)
      where
        one_more : (n : ℕ) → suc 0 + n ≡ suc n
        one_more n = omega arith

    refusal_is : (rows : List (Output (Filtered (Lines N E) F))) → rows_refusal rows ≡ option_map stack_refusal (stacks.new_refusal h rows)
    refusal_is rows =
        told_shape (nat_eq (length rows) 0) (nat_le (length rows) 64) (stacks.has_equal_keys (stacks.keys_of rows))
        ∙ ap (λ (n : ℕ). option_map stack_refusal (shape (length rows) n (stacks.keys_of rows))) (sym (filters_are rows))

    pub rows_are_told : RowsAreTold g h
    rows_are_told = record {
      wrong = λ rows back gives. subst (λ (o : Option Refusal). IsTold o (stack_refusal back.error)) (sym (refusal_is rows))
          (told_by (stacks.new_refusal h rows) rows back gives);
      right = λ rows s gives. refusal_is rows ∙ ap (option_map stack_refusal) (none_wrong (stacks.new_refusal h rows) rows s gives);
      counted = λ rows s gives. stack_counted g h rows s gives;
      starved = λ rows back gives none. only_memory (stacks.new_refusal h rows) rows back (sym (refusal_is rows) ∙ none) gives;
    }

all_told : (o : Option Refusal) (refusal : Refusal) → IsTold o refusal → IsToldOfAll o (of_all refusal)
all_told None refusal told = tt
all_told (Some wrong) refusal (inl is) = inl (ap (λ (r : Refusal). of_all r) is)
all_told (Some wrong) refusal (inr is) = inr (ap (λ (r : Refusal). of_all r) is)

-- where there was no memory, that is told of all outputs
pub memory_of_all : (o : Option Refusal) (told : OpenStackError) → told ≡ of_all refusals.OutOfMemory → IsToldOfAll o told
memory_of_all None told is = tt
memory_of_all (Some wrong) told is = inr is

module _ {F D Q : Type 0} (lanes : List PlainLane) where
  same_keys : (specs : List (OutputSpec F D Q)) (rows : List (Output (Filtered Shown F))) → Pairs (RowOf lanes) specs rows →
      stacks.keys_of rows ≡ keys_of specs
  same_keys [] [] pairs = refl
  same_keys [] (row ∷ rows) pairs = absurd pairs
  same_keys (spec ∷ specs) [] pairs = absurd pairs
  same_keys (spec ∷ specs) (row ∷ rows) pairs =
      ap (λ (k : OutputKey). k.0 ∷ stacks.keys_of rows) pairs.0.key ∙ ap (λ (ks : List ℕ). spec.key.0 ∷ ks) (same_keys specs rows pairs.1)

  -- what is wrong with the outputs is wrong with what is asked for
  pub same_refusal : (specs : List (OutputSpec F D Q)) (rows : List (Output (Filtered Shown F))) → Pairs (RowOf lanes) specs rows →
      rows_refusal rows ≡ outputs_refusal specs
  same_refusal specs rows pairs =
      ap (λ (n : ℕ). if nat_eq n 0 then Some refusals.NoOutput else if nat_le n
      64 then (if stacks.has_equal_keys (stacks.keys_of rows) then Some refusals.EqualKeys else None) else Some refusals.TooManyFilters)
      (same_length (RowOf lanes) specs rows pairs)
      ∙ ap (λ (ks : List ℕ). if nat_eq (length specs) 0 then Some refusals.NoOutput else if nat_le (length specs)
      64 then (if stacks.has_equal_keys ks then Some refusals.EqualKeys else None) else Some refusals.TooManyFilters)
      (same_keys specs rows pairs)

  -- so it is told
  pub told_wrong : (specs : List (OutputSpec F D Q)) (rows : List (Output (Filtered Shown F))) (error : StackError) (told : OpenStackError) →
      Pairs (RowOf lanes) specs rows → told ≡ of_all (stack_refusal error) → IsTold (rows_refusal rows) (stack_refusal error) →
      IsToldOfAll (outputs_refusal specs) told
  told_wrong specs rows error told pairs is wrong =
      subst (IsToldOfAll (outputs_refusal specs)) (sym is)
      (all_told (outputs_refusal specs) (stack_refusal error)
      (subst (λ (o : Option Refusal). IsTold o (stack_refusal error)) (same_refusal specs rows pairs) wrong))

  -- where nothing is wrong any answer will do
  pub nothing_wrong : (A : Type 0) (specs : List (OutputSpec F D Q)) (rows : List (Output (Filtered Shown F)))
      (result : Result A OpenStackError) → Pairs (RowOf lanes) specs rows → rows_refusal rows ≡ None →
      Answers (outputs_refusal specs) result
  nothing_wrong A specs rows result pairs none =
      subst (λ (o : Option Refusal). Answers o result) (sym none ∙ same_refusal specs rows pairs) (any result)
    where
      any : (result : Result A OpenStackError) → Answers None result
      any (Ok made) = refl
      any (Err told) = tt

  pub nothing_told : (specs : List (OutputSpec F D Q)) (rows : List (Output (Filtered Shown F))) (told : OpenStackError) →
      Pairs (RowOf lanes) specs rows → rows_refusal rows ≡ None → IsToldOfAll (outputs_refusal specs) told
  nothing_told specs rows told pairs none = subst (λ (o : Option Refusal). IsToldOfAll o told) (sym none ∙ same_refusal specs rows pairs) tt

  pub own_keys : (specs : List (OutputSpec F D Q)) (rows : List (Output (Filtered Shown F))) → Pairs (RowOf lanes) specs rows →
      Every HasOwnKey rows
  own_keys [] [] pairs = tt
  own_keys [] (row ∷ rows) pairs = absurd pairs
  own_keys (spec ∷ specs) [] pairs = absurd pairs
  own_keys (spec ∷ specs) (row ∷ rows) pairs =
      (ap (λ (k : OutputKey). k.0) (pairs.0.layer.key ∙ sym pairs.0.key), own_keys specs rows pairs.1)

  pub rows_honest : (honest : F → Type 0) (specs : List (OutputSpec F D Q)) (rows : List (Output (Filtered Shown F))) →
      Pairs (RowOf lanes) specs rows → Every (λ (spec : OutputSpec F D Q). honest spec.filter) specs →
      Every (λ (row : Output (Filtered Shown F)). honest row.output.filter) rows
  rows_honest honest [] [] pairs each = tt
  rows_honest honest [] (row ∷ rows) pairs each = absurd pairs
  rows_honest honest (spec ∷ specs) [] pairs each = absurd pairs
  rows_honest honest (spec ∷ specs) (row ∷ rows) pairs each =
      (subst honest (sym pairs.0.filter) each.0, rows_honest honest specs rows pairs.1 each.1)

  -- there are sinks for each output
  pub paired : {S : Type 0} (opens : Routing D Q → S → Type 0) (specs : List (OutputSpec F D Q)) (rows : List (Output (Filtered Shown F)))
      (routings : List (Routing D Q)) (sinks : List S) (count : ℕ) → Pairs (RowOf lanes) specs rows → routings ≡ map routing_of specs →
      Pairs opens routings sinks → count ≡ length rows → length sinks ≡ count
  paired opens specs rows routings sinks count pairs is opened counted =
      same_length opens routings sinks opened ∙ ap length is ∙ length-map specs routing_of ∙
      sym (same_length (RowOf lanes) specs rows pairs) ∙ sym counted
