-- A new stack with sinks is ready.
use Rattle.std.proofs.Common.{◌≡◌, ◌||◌, ℕ, suc, nat_eq, nat_le, List, [], ◌∷◌, length, map, Bool, true, false, if◌then◌else◌, Option, Some}
use Rattle.std.proofs.Common.{None, Ok, ◌+◌, refl, ap, sym, ◌∙◌, subst, arith, one-add}
use Rattle.std.proofs.lemmas.Bool.Decides.{nat_tests}
use Rattle.tracing_core_fields.specs.requests.Lists.{Every}
use Rattle.tracing_core_fields.specs.requests.PlainRequests.{PlainEvent}
use Rattle.span_registry_layers_store.specs.Registries.{PlainSpan, RegistryValue, kin_in, new_registry}
use Rattle.span_registry_layers_store.specs.Spans.{found, is_member}
use Rattle.span_registry_layers_store.specs.Views.{seen_if}
use Rattle.span_registry_layers_layers.specs.Notices as notices
use Rattle.span_registry_layers_layers.specs.Notices.{Attached}
use Rattle.span_registry_layers_layers.specs.FilterNumbers.{more_filters, numbers_from}
use Rattle.span_registry_layers_layers.specs.declared.filter.Filter.{Ghosts as FilterGhosts}
use Rattle.span_registry_layers_layers.specs.declared.filtered.Filtered.{Filtered}
use Rattle.span_registry_layers_layers.specs.declared.layer.Layer.{Ghosts as LayerGhosts}
use Rattle.span_registry_layers.specs.CacheValidity.{CacheIsValid, CacheIsValidFor}
use Rattle.span_registry_layers.specs.NewStack as stacks
use Rattle.span_registry_layers.specs.NewStack.{IsNew, NewUnless, RowsFrom, filters_in, has_equal_keys, new_refusal}
use Rattle.span_registry_layers.specs.Soundness.{NewIsSound}
use Rattle.span_registry_layers.specs.declared.output.Output.{Output}
use Rattle.span_registry_layers.specs.declared.output.StackError.{StackError}
use Rattle.span_registry_layers.specs.declared.output.StackError.TheVariants.{NoOutput, TooManyFilters, EqualKeys}
use Rattle.event_formatter_text.specs.declared.format_fields.FormatFields.{Ghosts}
use Rattle.event_formatter_text.specs.declared.settings.Settings.{Settings}
use Rattle.event_formatter.specs.formats.Contexts.{PlainContext}
use Rattle.event_formatter.specs.fmt_layer.LayerNotices.{LayerTold}
use Rattle.span_tracing_outputs.specs.SinkLines.{cleared_row}
use Rattle.span_tracing_outputs.specs.BufferedLines.{TakesLine}
use Rattle.span_tracing_outputs.specs.OutputFolds.{EachAgrees}
use Rattle.span_tracing_outputs.specs.StackFollows.{LinedStack}
use Rattle.span_tracing_outputs.specs.TraceFollows.{AreFirst, IsReady, numbers_in}
use Rattle.span_tracing_outputs.specs.TraceStacks.{NewGives, TraceStackValue}
use Rattle.span_tracing_outputs.specs.TraceStarts.{HasOwnKey, out_of}
use Rattle.span_tracing_outputs.specs.TraceSteadiness.{same_filters}
use Rattle.span_tracing_outputs.specs.Turns.{AreDistinct, Lined, Lines, keys_of}
use Rattle.span_tracing_outputs.proofs.OutputSinkPairs.{cleared_rest}
use Rattle.span_tracing_outputs.proofs.HandedLines.{keys_cleared}
use Rattle.span_tracing_outputs.proofs.OutputNumbers.{first_by, numbers_cleared}

neither : (a b : Bool) → (a || b) ≡ false → (a ≡ false) × (b ≡ false)
neither true b e = absurd (cc)
neither false b e = (refl, e)

keys_distinct : (ks : List ℕ) → has_equal_keys ks ≡ false → AreDistinct ks
keys_distinct [] none = tt
keys_distinct (k ∷ ks) none = let parts = neither (is_member ks k) (has_equal_keys ks) none in (parts.0, keys_distinct ks parts.1)

-- who isn't refused has no equal keys
unequal_by : (a b c : Bool) → (if a then Some NoOutput else if b then (if c then Some EqualKeys else None) else Some TooManyFilters) ≡ None
    → c ≡ false
unequal_by true b c e = absurd (cc)
unequal_by false true true e = absurd (cc)
unequal_by false true false e = refl
unequal_by false false c e = absurd (cc)

-- and not too many filters
few_by : (a b c : Bool) → (if a then Some NoOutput else if b then (if c then Some EqualKeys else None) else Some TooManyFilters) ≡ None
    → b ≡ true
few_by true b c e = absurd (cc)
few_by false true c e = refl
few_by false false c e = absurd (cc)

module _ {N E F : Type 0} (h : LayerGhosts (Lines N E)) (unfiltered : (layer : Lines N E) → h.filters layer ≡ 0) where
  -- each output has one filter
  one_each : (outputs : List (Output (Filtered (Lines N E) F))) → filters_in h outputs ≡ length outputs
  one_each [] = refl
  one_each (output ∷ outputs) =
      ap (λ (n : ℕ). suc n + filters_in h outputs) (unfiltered output.output.layer) ∙ (one-add (filters_in h outputs) ∙
      ap suc (one_each outputs))

  -- so their filters are numbered one by one
  numbers_start : (outputs : List (Output (Filtered (Lines N E) F))) (x : RegistryValue) (rows : List (Lined N E F)) →
      RowsFrom h x outputs rows → numbers_in rows ≡ numbers_from x.filters (length outputs)
  numbers_start [] x [] from = refl
  numbers_start [] x (row ∷ rows) from = absurd from
  numbers_start (output ∷ outputs) x [] from = absurd from
  numbers_start (output ∷ outputs) x (row ∷ rows) from =
      ap (λ (r : Lined N E F). r.id.index ∷ numbers_in rows) from.0.2
      ∙ (ap (λ (ns : List ℕ). x.filters ∷ ns) (numbers_start outputs (more_filters (suc (h.filters output.output.layer)) x) rows from.1) ∙
      ap (λ (n : ℕ). x.filters ∷ numbers_from (x.filters + suc n) (length outputs)) (unfiltered output.output.layer))

  numbers_first : (outputs : List (Output (Filtered (Lines N E) F))) (rows : List (Lined N E F)) → RowsFrom h new_registry outputs rows →
      nat_le (filters_in h outputs) 64 ≡ true → AreFirst (numbers_in (map cleared_row rows))
  numbers_first outputs rows from few =
      let fit : nat_le (length outputs) 64 ≡ true = ap (λ n. nat_le n 64) (sym (one_each outputs)) ∙ few in
      first_by (numbers_in (map cleared_row rows)) (length outputs) (numbers_cleared rows ∙ numbers_start outputs new_registry rows from)
      (grind (arith, nat_tests, fit))

module _ {N E F : Type 0} (n : Ghosts N) (line_of : E → Settings → PlainContext → PlainEvent → Option (List ℕ)) (g : FilterGhosts F)
    (h : LayerGhosts (Lines N E))
    (says : (layer : Lines N E) (t : notices.Notice) (later : Lines N E) → h.told layer t later →
    LayerTold n line_of TakesLine layer t later) where
  is_new : (o : Option StackError) (outputs : List (Output (Filtered (Lines N E) F))) (s : LinedStack N E F) →
      NewUnless h g o outputs (Ok s) → (o ≡ None) × IsNew h g outputs s
  is_new None outputs s gives = (refl, gives)
  is_new (Some refusal) outputs s gives = absurd gives

  own_keys : (outputs : List (Output (Filtered (Lines N E) F))) (x : RegistryValue) (rows : List (Lined N E F)) →
      RowsFrom h x outputs rows → Every HasOwnKey outputs → keys_of rows ≡ stacks.keys_of outputs
  own_keys [] x [] from own = refl
  own_keys [] x (row ∷ rows) from own = absurd from
  own_keys (output ∷ outputs) x [] from own = absurd from
  own_keys (output ∷ outputs) x (row ∷ rows) from own =
      let layer : row.output.layer ≡ output.output.layer =
      (says output.output.layer (Attached (more_filters 1 x)) row.output.layer from.0.0).2 in
      ap (λ (z : Lines N E). z.config.key.0 ∷ keys_of rows) layer ∙ ap (λ (key : ℕ). key ∷ keys_of rows) own.0 ∙
      ap (λ (ks : List ℕ). output.key.0 ∷ ks) (own_keys outputs (more_filters (suc (h.filters output.output.layer)) x) rows from.1
      own.1)

  pub starts_ready : {S : Type 0} → NewIsSound g h → ((layer : Lines N E) → h.filters layer ≡ 0) →
      (outputs : List (Output (Filtered (Lines N E) F))) (s : LinedStack N E F) (sinks : List S) (x : TraceStackValue N E F S) →
      stacks.NewGives h g outputs (Ok s) → Every HasOwnKey outputs → CacheIsValid g s → NewGives s sinks (Ok x) → IsReady g x
  starts_ready {S = S} sound unfiltered outputs s sinks x gives own valid made =
      let new = is_new (new_refusal h outputs) outputs s gives in
      let unequal : has_equal_keys (stacks.keys_of outputs) ≡ false = unequal_by (nat_eq (length outputs) 0)
      (nat_le (filters_in h outputs) 64) (has_equal_keys (stacks.keys_of outputs)) new.0 in
      let few : nat_le (filters_in h outputs) 64 ≡ true = few_by (nat_eq (length outputs) 0) (nat_le (filters_in h outputs) 64)
      (has_equal_keys (stacks.keys_of outputs)) new.0 in
      let keys : keys_of (map cleared_row s.rows) ≡ stacks.keys_of outputs = keys_cleared s.rows ∙
      own_keys outputs new_registry s.rows new.1.0 own in
      subst (λ (z : TraceStackValue N E F S). IsReady g z) (sym made.1) (record {
        valid = subst (λ (fs : List F). CacheIsValidFor g fs s.interest_cache s.hint) (sym (same_filters s.rows)) valid;
        sound = sound outputs s new.1;
        keys = subst AreDistinct (sym keys) (keys_distinct (stacks.keys_of outputs) unequal);
        numbers = numbers_first h unfiltered outputs s.rows new.1.0 few;
        rest = cleared_rest s (record s { rows = map cleared_row s.rows }) sinks made.0 refl;
      })

  -- without a span nothing is kept
  nothing_agrees : (x : RegistryValue) (rows : List (Lined N E F)) → x.spans ≡ [] →
      EachAgrees n line_of g x rows (map (out_of line_of) rows)
  nothing_agrees x [] none = tt
  nothing_agrees x (row ∷ rows) none = (
    (
      refl,
      (
        record { config = refl; format = λ s c e. refl; lanes = refl; longest = refl; lines = refl },
        λ id s not is.
            let unseen = ap (λ (ss : List PlainSpan). seen_if (Some row.id.index) (found kin_in ss id)) none in
            absurd (never s (sym unseen ∙ is)),
      ),
    ),
    nothing_agrees x rows none,
  )
    where
      never : (s : PlainSpan) → None ≡ Some s → ⊥
      never s e = absurd (cc)

  pub starts_agreed : {S : Type 0} (outputs : List (Output (Filtered (Lines N E) F))) (s : LinedStack N E F) (sinks : List S)
      (x : TraceStackValue N E F S) → stacks.NewGives h g outputs (Ok s) → NewGives s sinks (Ok x) →
      EachAgrees n line_of g x.stack.registry x.stack.rows (map (out_of line_of) x.stack.rows)
  starts_agreed {S = S} outputs s sinks x gives made =
      let new = is_new (new_refusal h outputs) outputs s gives in
      nothing_agrees x.stack.registry x.stack.rows (ap (λ (z : TraceStackValue N E F S). z.stack.registry.spans) made.1 ∙
      ap (λ (z : LinedStack N E F). z.registry.spans) new.1.1)

-- forgetting lines leaves what is kept of the filters' answers
pub valid_rested : {N E F : Type 0} (g : FilterGhosts F) (s t : LinedStack N E F) → t ≡ record s { rows = map cleared_row s.rows } →
    CacheIsValid g s → CacheIsValid g t
valid_rested {N} {E} {F} g s t is valid = subst (λ (u : LinedStack N E F). CacheIsValid g u) (sym is)
    (subst (λ (fs : List F). CacheIsValidFor g fs s.interest_cache s.hint) (sym (same_filters s.rows)) valid)
