-- Another filter at an output leaves what the output keeps.
use Rattle.std.proofs.Common.{◌≡◌, ℕ, zero, suc, List, [], ◌∷◌, Option, Some, None, Result, refl, sym, ap, subst, ◌∙◌}
use Rattle.std.specs.Prelude.{OnOk, length, slice_get}
use Rattle.tracing_core_fields.specs.requests.Lists.{Every}
use Rattle.tracing_core_fields.specs.requests.PlainRequests.{PlainEvent}
use Rattle.span_registry_layers_store.specs.Laws.{IsSound}
use Rattle.span_registry_layers_store.specs.Registries.{RegistryValue}
use Rattle.span_registry_layers_layers.specs.declared.filter.Filter.{Ghosts as FilterGhosts}
use Rattle.span_registry_layers.specs.CacheValidity.{CacheIsValid}
use Rattle.span_registry_layers.specs.OutputSlots.{filters_of}
use Rattle.span_registry_layers.specs.Swaps.{SwapAt, with_filter}
use Rattle.span_registry_layers.specs.declared.output.UnknownOutput.{UnknownOutput}
use Rattle.event_formatter_text.specs.declared.format_fields.FormatFields.{Ghosts}
use Rattle.event_formatter_text.specs.declared.settings.Settings.{Settings}
use Rattle.event_formatter.specs.formats.Contexts.{PlainContext}
use Rattle.span_tracing_outputs.specs.OutputFilters.{LinedSwap, StackSwap}
use Rattle.span_tracing_outputs.specs.OutputFolds.{EachAgrees, Numbered}
use Rattle.span_tracing_outputs.specs.OutputSettings.{changed_at}
use Rattle.span_tracing_outputs.specs.SinkLines.{NoLines}
use Rattle.span_tracing_outputs.specs.StackFollows.{LinedStack}
use Rattle.span_tracing_outputs.specs.TraceFollows.{AreFirst, IsReady, numbers_in}
use Rattle.span_tracing_outputs.specs.TraceStacks.{IsAtRest, TraceStackValue}
use Rattle.span_tracing_outputs.specs.Turns.{AreDistinct, Lined, keys_of}
use Rattle.span_tracing_outputs.proofs.OutputSettings.{count_set, none_set, some_set}

module _ {N E F : Type 0} (filter : F) where
  -- the outputs with this filter at a place
  abbrev pub with_filter_at : ℕ → List (Lined N E F) → List (Lined N E F)
  with_filter_at place rows = changed_at place (with_filter filter) rows

  keys_stay : (place : ℕ) (rows : List (Lined N E F)) → keys_of (with_filter_at place rows) ≡ keys_of rows
  keys_stay place [] = refl
  keys_stay zero (row ∷ rows) = refl
  keys_stay (suc place) (row ∷ rows) = ap (λ (ks : List ℕ). row.output.layer.config.key.0 ∷ ks) (keys_stay place rows)

  numbers_stay : (place : ℕ) (rows : List (Lined N E F)) → numbers_in (with_filter_at place rows) ≡ numbers_in rows
  numbers_stay place [] = refl
  numbers_stay zero (row ∷ rows) = refl
  numbers_stay (suc place) (row ∷ rows) = ap (λ (ns : List ℕ). row.id.index ∷ ns) (numbers_stay place rows)

  no_lines_stay : (place : ℕ) (rows : List (Lined N E F)) → NoLines rows → NoLines (with_filter_at place rows)
  no_lines_stay place [] none = none
  no_lines_stay zero (row ∷ rows) none = none
  no_lines_stay (suc place) (row ∷ rows) none = (none.0, no_lines_stay place rows none.1)

  -- all filters are honest, where they were and this one is
  honest_stay : (honest : F → Type 0) (place : ℕ) (rows : List (Lined N E F)) → honest filter → Every honest (filters_of rows) →
      Every honest (filters_of (with_filter_at place rows))
  honest_stay honest place [] own all = all
  honest_stay honest zero (row ∷ rows) own all = (own, all.1)
  honest_stay honest (suc place) (row ∷ rows) own all = (all.0, honest_stay honest place rows own all.1)

  module _ (n : Ghosts N) (line_of : E → Settings → PlainContext → PlainEvent → Option (List ℕ)) (g : FilterGhosts F) where
    agreed_stay : (x : RegistryValue) (place : ℕ) (rows : List (Lined N E F)) (outs : List (Numbered N)) →
        EachAgrees n line_of g x rows outs → EachAgrees n line_of g x (with_filter_at place rows) outs
    agreed_stay x place [] outs a = a
    agreed_stay x place (row ∷ rows) [] a = absurd a
    agreed_stay x zero (row ∷ rows) (o ∷ outs) a = a
    agreed_stay x (suc place) (row ∷ rows) (o ∷ outs) a = (a.0, agreed_stay x place rows outs a.1)

module _ {N E F : Type 0} (g : FilterGhosts F) (place : ℕ) (filter back : F) where
  rows_by : (s t : LinedStack N E F) (r : Result (Unit {0}) UnknownOutput) (o : Option (Lined N E F)) → slice_get s.rows place ≡ o →
      SwapAt g o place filter s r back t → t.rows ≡ with_filter_at filter place s.rows
  rows_by s t r None there a = ap (λ (u : LinedStack N E F). u.rows) a.2 ∙ sym (none_set place (with_filter filter) s.rows there)
  rows_by s t r (Some row) there a = ap (λ (u : LinedStack N E F). u.rows) a.2 ∙ some_set place (with_filter filter) s.rows row there

  spans_by : (s t : LinedStack N E F) (r : Result (Unit {0}) UnknownOutput) (o : Option (Lined N E F)) →
      SwapAt g o place filter s r back t → t.registry ≡ s.registry
  spans_by s t r None a = ap (λ (u : LinedStack N E F). u.registry) a.2
  spans_by s t r (Some row) a = ap (λ (u : LinedStack N E F). u.registry) a.2

  valid_by : (s t : LinedStack N E F) (r : Result (Unit {0}) UnknownOutput) (o : Option (Lined N E F)) →
      SwapAt g o place filter s r back t → OnOk r (Every (λ f. g.honest f) (filters_of t.rows) → CacheIsValid g t) → CacheIsValid g s →
      Every (λ f. g.honest f) (filters_of t.rows) → CacheIsValid g t
  valid_by s t r None a valid before honest = subst (λ (u : LinedStack N E F). CacheIsValid g u) (sym a.2) before
  valid_by s t r (Some row) a valid before honest =
      subst (λ (q : Result (Unit {0}) UnknownOutput). OnOk q (Every (λ f. g.honest f) (filters_of t.rows) → CacheIsValid g t)) a.0 valid
      honest

  -- the filter stands at the place, where there is an output, and the spans stay
  pub swapped_rows : (s t : LinedStack N E F) → LinedSwap g s place filter t back → t.rows ≡ with_filter_at filter place s.rows
  swapped_rows s t swap = rows_by s t swap.result (slice_get s.rows place) refl swap.gives

  pub swapped_spans : (s t : LinedStack N E F) → LinedSwap g s place filter t back → t.registry ≡ s.registry
  swapped_spans s t swap = spans_by s t swap.result (slice_get s.rows place) swap.gives

  -- so no output keeps a line, and each has its sink
  pub swapped_rest : {S : Type 0} (s t : LinedStack N E F) (sinks : List S) → LinedSwap g s place filter t back → IsAtRest s sinks →
      IsAtRest t sinks
  swapped_rest s t sinks swap rest =
      subst (λ (rows : List (Lined N E F)). (length sinks ≡ length rows) × NoLines rows) (sym (swapped_rows s t swap))
      (rest.0 ∙ sym (count_set place (with_filter filter) s.rows), no_lines_stay filter place s.rows rest.1)

  swapped_valid : (s t : LinedStack N E F) → LinedSwap g s place filter t back → CacheIsValid g s → g.honest filter → CacheIsValid g t
  swapped_valid s t swap before own =
      valid_by s t swap.result (slice_get s.rows place) swap.gives swap.valid before
      (subst (λ (rows : List (Lined N E F)). Every (λ f. g.honest f) (filters_of rows)) (sym (swapped_rows s t swap))
      (honest_stay filter (λ f. g.honest f) place s.rows own before.honest))

  -- a stack that is ready stays so, where the filter is honest
  pub swapped_ready : {S : Type 0} (x y : TraceStackValue N E F S) → IsReady g x → g.honest filter → StackSwap g x place filter y back →
      IsReady g y
  swapped_ready {S = S} x y ready own swap = record {
    valid = swapped_valid x.stack y.stack swap.0 ready.valid own;
    sound = subst IsSound (sym (swapped_spans x.stack y.stack swap.0)) ready.sound;
    keys = subst AreDistinct (sym (ap keys_of (swapped_rows x.stack y.stack swap.0) ∙ keys_stay filter place x.stack.rows)) ready.keys;
    numbers = subst AreFirst (sym (ap numbers_in (swapped_rows x.stack y.stack swap.0) ∙ numbers_stay filter place x.stack.rows))
        ready.numbers;
    rest = subst (λ (sinks : List S). IsAtRest y.stack sinks) (sym swap.1) (swapped_rest x.stack y.stack x.sinks swap.0 ready.rest);
  }

  -- and its outputs agree with the machines that they agreed with
  pub swapped_agrees : (n : Ghosts N) (line_of : E → Settings → PlainContext → PlainEvent → Option (List ℕ)) (s t : LinedStack N E F) →
      LinedSwap g s place filter t back → (outs : List (Numbered N)) → EachAgrees n line_of g s.registry s.rows outs →
      EachAgrees n line_of g t.registry t.rows outs
  swapped_agrees n line_of s t swap outs agrees =
      subst (λ (x : RegistryValue). EachAgrees n line_of g x t.rows outs) (sym (swapped_spans s t swap))
      (subst (λ (rows : List (Lined N E F)). EachAgrees n line_of g s.registry rows outs) (sym (swapped_rows s t swap))
      (agreed_stay filter n line_of g s.registry place s.rows outs agrees))
