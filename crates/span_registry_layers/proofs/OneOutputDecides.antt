-- Why one output decides alone whether a span is made.
use Rattle.std.proofs.Common.{◌≡◌, ◌++◌, inl, inr, ℕ, suc, Bool, true, false, List, [], ◌∷◌, length, slice_set, Option, Result, refl, sym}
use Rattle.std.proofs.Common.{ap, ◌∙◌, subst, arith}
use Rattle.tracing_core_moments.specs.declared.at.At.{At}
use Rattle.tracing_core_fields.specs.requests.Lists.{Every}
use Rattle.tracing_core_fields.specs.PlainMetadata.{PlainMetadata}
use Rattle.tracing_core_fields.specs.requests.PlainRequests.{PlainAttributes}
use Rattle.tracing_core_fields.specs.declared.requests.refusal.RequestError.{RequestError}
use Rattle.span_registry_layers_store.specs.Registries.{RegistryValue}
use Rattle.span_registry_layers_store.specs.Verdicts.{all_pass, passes_at}
use Rattle.span_registry_layers_layers.specs.FilterNumbers.{SameBut}
use Rattle.span_registry_layers_layers.specs.declared.filter.Filter.{Ghosts}
use Rattle.span_registry_layers_layers.specs.declared.filtered.Filtered.{Filtered}
use Rattle.span_registry_layers_layers.specs.declared.layer.Layer.{Ghosts as LayerGhosts}
use Rattle.span_registry_layers.specs.CommonAnswers.{AsksFrom}
use Rattle.span_registry_layers.specs.Calls.{MakesSpan, SpanAfresh, SpanKnown}
use Rattle.span_registry_layers.specs.Numbers.{OneDecides, OneOutputDecides}
use Rattle.span_registry_layers.specs.OutputSlots.{Afresh, view_of}
use Rattle.span_registry_layers.specs.Stacks.{StackValue}
use Rattle.span_registry_layers.specs.declared.output_slot.OutputSlot.{OutputSlot}

tails : {A : Type 0} (x y : A) (xs ys : List A) → x ∷ xs ≡ y ∷ ys → xs ≡ ys
tails x y xs ys e = cc

none_of : (xs ys : List ℕ) → xs ++ ys ≡ [] → xs ≡ []
none_of [] ys e = refl
none_of (x ∷ xs) ys e = absurd (cc)

first_of : (x y : ℕ) (xs ys : List ℕ) → x ∷ xs ≡ y ∷ ys → x ≡ y
first_of x y xs ys e = cc

-- verdicts that are the same at each number are the same
same_verdicts : (before after : List Bool) → length after ≡ length before → ((n : ℕ) → passes_at after n ≡ passes_at before n) →
    after ≡ before
same_verdicts [] [] long same = refl
same_verdicts [] (y ∷ ys) long same = absurd (omega arith)
same_verdicts (x ∷ xs) [] long same = absurd (omega arith)
same_verdicts (x ∷ xs) (y ∷ ys) long same = ap (λ b. b ∷ ys) (same 0) ∙
    ap (λ bs. x ∷ bs) (same_verdicts xs ys (omega arith) (λ n. same (suc n)))

module _ {L F : Type 0} (g : Ghosts F) (h : LayerGhosts L) where
  pub asked_one : (m : PlainMetadata) (at : At) (x : RegistryValue) (row : OutputSlot (Filtered L F)) (verdicts : List Bool) →
      row.id.index ≡ 0 → h.numbers row.output.layer ≡ [] → AsksFrom g h m at x all_pass false (row ∷ []) verdicts true →
      g.answers row.output.filter m (view_of at x row) true × (verdicts ≡ all_pass)
  asked_one m at x row verdicts first none (answer, next, asked, ended) =
      let passed : answer ≡ true = sym ended.1 in
      let before = slice_set all_pass row.id.index answer in
      let but : SameBut [] before next = subst (λ ns. SameBut ns before next) none asked.1.1 in
      let kept : next ≡ before = same_verdicts before next asked.1.0 (λ n. but n refl) in
      let own : before ≡ all_pass = ap (λ n. slice_set all_pass n answer) first ∙ ap (λ b. slice_set all_pass 0 b) passed in
      (subst (g.answers row.output.filter m (view_of at x row)) passed asked.0, ended.0 ∙ kept ∙ own)

  decided : (a : PlainAttributes) (at : At) (row : OutputSlot (Filtered L F)) (s : StackValue (Filtered L F))
      (r : Result (Option ℕ) RequestError) (t : StackValue (Filtered L F)) → s.rows ≡ row ∷ [] → row.id.index ≡ 0 →
      h.numbers row.output.layer ≡ [] →
      SpanAfresh g h a at s r t → OneDecides g h a at row s r t
  decided a at row s r t one first none (inl w) =
      inl (
        (subst (λ rows. Every (λ (row : OutputSlot (Filtered L F)). Afresh g row.output.filter a.metadata (view_of at s.registry row)
            false) rows) one w.0).0,
        w.1,
        w.2,
      )
  decided a at row s r t one first none (inr w) =
      let asked = asked_one a.metadata at s.registry row w.0 first none
      (subst (λ rows. AsksFrom g h a.metadata at s.registry all_pass false rows w.0 true) one w.1) in
      inr (asked.0, subst (λ verdicts. MakesSpan g h a at verdicts s r t) asked.1 w.2)

  pub one_decides : OneOutputDecides g h
  one_decides a at row s r t one numbers known asked =
      let first = first_of row.id.index 0 (h.numbers row.output.layer ++ []) [] numbers in
      let none = none_of (h.numbers row.output.layer) [] (tails row.id.index 0 (h.numbers row.output.layer ++ []) [] numbers) in
      decided a at row s r t one first none (subst (λ k. SpanKnown g h k s (SpanAfresh g h a at s) r t) known asked)
