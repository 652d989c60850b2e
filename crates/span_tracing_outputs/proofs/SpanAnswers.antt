-- What filters answer of a new span, as a list.
use Rattle.std.proofs.Common.{◌≡◌, ◌||◌, ℕ, suc, List, [], ◌∷◌, length, Bool, true, false, slice_set, refl, ap, sym, ◌∙◌, subst, arith}
use Rattle.tracing_core_fields.specs.PlainMetadata.{PlainMetadata}
use Rattle.tracing_core_moments.specs.declared.at.At.{At}
use Rattle.span_registry_layers_store.specs.Registries.{RegistryValue}
use Rattle.span_registry_layers_store.specs.Verdicts.{passes_at}
use Rattle.span_registry_layers_layers.specs.FilterNumbers.{SameBut}
use Rattle.span_registry_layers_layers.specs.declared.filter.Filter.{Ghosts as FilterGhosts}
use Rattle.span_registry_layers_layers.specs.declared.layer.Layer.{Ghosts as LayerGhosts}
use Rattle.span_registry_layers.specs.CommonAnswers.{AsksFrom}
use Rattle.span_tracing_outputs.specs.TraceFollows.{EachAnswers, numbers_in, some_passes, verdicts_from}
use Rattle.span_tracing_outputs.specs.Turns.{Lined, Lines}

-- lists of the same length that pass the same are the same
same_verdicts : (a b : List Bool) → length b ≡ length a → ((k : ℕ) → passes_at b k ≡ passes_at a k) → b ≡ a
same_verdicts [] [] len same = refl
same_verdicts [] (y ∷ ys) len same = absurd (omega (arith, len))
same_verdicts (x ∷ xs) [] len same = absurd (omega (arith, len))
same_verdicts (x ∷ xs) (y ∷ ys) len same =
    ap (λ (b : Bool). b ∷ ys) (same 0) ∙ ap (λ (bs : List Bool). x ∷ bs) (same_verdicts xs ys (omega (arith, len)) (λ k. same (suc k)))

or_none : (some : Bool) → (some || false) ≡ some
or_none true = refl
or_none false = refl

or_more : (some answer later : Bool) → ((some || answer) || later) ≡ (some || (answer || later))
or_more true answer later = refl
or_more false answer later = refl

module _ {N E F : Type 0} (g : FilterGhosts F) (h : LayerGhosts (Lines N E)) (unnumbered : (layer : Lines N E) → h.numbers layer ≡ []) where
  pub asks_answer : (m : PlainMetadata) (at : At) (x : RegistryValue) (before : List Bool) (some : Bool) (rows : List (Lined N E F))
      (verdicts : List Bool) (result : Bool) → AsksFrom g h m at x before some rows verdicts result →
      (passed : List Bool) × EachAnswers g.answers m at x rows passed × (verdicts ≡ verdicts_from before (numbers_in rows) passed) ×
      (result ≡ (some || some_passes passed))
  asks_answer m at x before some [] verdicts result asks = ([], tt, asks.0, asks.1 ∙ sym (or_none some))
  asks_answer m at x before some (row ∷ rows) verdicts result (answer, next, asks, rest) =
      let others : SameBut [] (slice_set before row.id.index answer) next =
      subst (λ (ns : List ℕ). SameBut ns (slice_set before row.id.index answer) next) (unnumbered row.output.layer) asks.1.1 in
      let is : next ≡ slice_set before row.id.index answer = same_verdicts (slice_set before row.id.index answer) next asks.1.0
      (λ k. others k refl) in
      let later = asks_answer m at x next (some || answer) rows verdicts result rest in
      let passed = later.0 in (
        answer ∷ passed,
        (asks.0, later.1),
        later.2 ∙ ap (λ (bs : List Bool). verdicts_from bs (numbers_in rows) passed) is,
        later.3 ∙ or_more some answer (some_passes passed),
      )
