-- Outputs that are told nothing go through no notices.
use Rattle.std.proofs.Common.{◌≡◌, ℕ, List, [], ◌∷◌, length, map, false, Option, refl, ap, sym, ◌∙◌, subst, arith}
use Rattle.tracing_core_fields.specs.requests.PlainRequests.{PlainEvent}
use Rattle.tracing_core_moments.specs.declared.at.At.{At}
use Rattle.span_registry_layers_store.specs.SlotIndependence.{bare}
use Rattle.span_registry_layers_store.specs.Registries.{RegistryValue}
use Rattle.span_registry_layers_layers.specs.declared.filter.Filter.{Ghosts as FilterGhosts}
use Rattle.span_registry_layers.specs.OutputSlots.{marked}
use Rattle.event_formatter_text.specs.declared.format_fields.FormatFields.{Ghosts}
use Rattle.event_formatter_text.specs.declared.settings.Settings.{Settings}
use Rattle.event_formatter.specs.formats.Contexts.{PlainContext}
use Rattle.span_tracing_outputs.specs.SinkLines.{NoLines, TakesAll, TakesLists}
use Rattle.span_tracing_outputs.specs.OutputMachines.{PlainLine}
use Rattle.span_tracing_outputs.specs.OutputFolds.{EachAgrees, EachGoes, Numbered, call_lists, outs_told}
use Rattle.span_tracing_outputs.specs.TraceFollows.{IsReady, Rests, StepGoes, at_rest, lines_offered, untold}
use Rattle.span_tracing_outputs.specs.TraceStacks.{TraceStackValue}
use Rattle.span_tracing_outputs.specs.Turns.{Lined}

told_nothing : {N : Type 0} (n : Ghosts N) (outs : List (Numbered N)) → outs_told n (call_lists untold outs) outs [] ≡ outs
told_nothing n [] = refl
told_nothing n (o ∷ outs) = ap (λ (later : List (Numbered _)). o ∷ later) (told_nothing n outs)

module _ {N E F : Type 0} (n : Ghosts N) (line_of : E → Settings → PlainContext → PlainEvent → Option (List ℕ)) (g : FilterGhosts F) where
  -- machines that offer no line are at rest
  same_at_rest : (x : RegistryValue) (rows : List (Lined N E F)) (outs : List (Numbered N)) → EachAgrees n line_of g x rows outs →
      NoLines rows → map at_rest outs ≡ outs
  same_at_rest x [] [] agrees none = refl
  same_at_rest x [] (o ∷ outs) agrees none = absurd agrees
  same_at_rest x (row ∷ rows) [] agrees none = absurd agrees
  same_at_rest x (row ∷ rows) (o ∷ outs) agrees none =
      let lines : [] ≡ o.out.lines = sym none.0 ∙ agrees.0.1.0.lines in
      ap (λ (ls : List PlainLine). (record o { out = record o.out { lines = ls } }) ∷ map at_rest outs) lines ∙
      ap (λ (later : List (Numbered N)). o ∷ later) (same_at_rest x rows outs agrees.1 none.1)

  takes_nothing : {S : Type 0} (takes : S → At → PlainLine → S → Type 0) (at : At) (x : RegistryValue) (rows : List (Lined N E F))
      (outs : List (Numbered N)) (sinks : List S) → EachAgrees n line_of g x rows outs → NoLines rows →
      length sinks ≡ length rows → TakesLists takes at (lines_offered outs) sinks sinks
  takes_nothing takes at x [] [] [] agrees none paired = tt
  takes_nothing takes at x [] [] (k ∷ ks) agrees none paired = absurd (omega (arith, paired))
  takes_nothing takes at x [] (o ∷ outs) sinks agrees none paired = absurd agrees
  takes_nothing takes at x (row ∷ rows) [] sinks agrees none paired = absurd agrees
  takes_nothing takes at x (row ∷ rows) (o ∷ outs) [] agrees none paired = absurd (omega (arith, paired))
  takes_nothing takes at x (row ∷ rows) (o ∷ outs) (k ∷ ks) agrees none paired =
      let lines : [] ≡ o.out.lines = sym none.0 ∙ agrees.0.1.0.lines in (
        subst (λ (ls : List PlainLine). TakesAll takes at ls k k) lines refl,
        takes_nothing takes at x rows outs ks agrees.1 none.1
            (omega (arith, paired)),
      )

  -- filters and counts stay where marks alone change
  rows_idle : (rows later : List (Lined N E F)) (outs : List (Numbered N)) → map (marked false) later ≡ map (marked false) rows →
      EachGoes n line_of g (call_lists untold outs) rows [] later
  rows_idle [] [] outs same = tt
  rows_idle [] (m ∷ ms) outs same = absurd (cc)
  rows_idle (l ∷ ls) [] outs same = absurd (cc)
  rows_idle (l ∷ ls) (m ∷ ms) [] same =
      let first : marked false m ≡ marked false l = cc in
      let rest : map (marked false) ms ≡ map (marked false) ls = cc in (
        (ap (λ (row : Lined N E F). row.output.filter) first, ap (λ (row : Lined N E F). row.output.layer.output.starved) first),
        rows_idle ls ms [] rest,
      )
  rows_idle (l ∷ ls) (m ∷ ms) (o ∷ outs) same =
      let first : marked false m ≡ marked false l = cc in
      let rest : map (marked false) ms ≡ map (marked false) ls = cc in (
        (ap (λ (row : Lined N E F). row.output.filter) first, ap (λ (row : Lined N E F). row.output.layer.output.starved) first),
        rows_idle ls ms outs rest,
      )

  module _ {S : Type 0} (takes : S → At → PlainLine → S → Type 0) where
    pub rests_step : (at : At) (x y : TraceStackValue N E F S) → IsReady g x → Rests n line_of g takes x y →
        StepGoes n line_of g takes at (call_lists untold) (bare y.stack.registry) x y
    rests_step at x y ready rests = record {
      fates = [];
      skeleton = refl;
      outputs = λ outs agrees. record {
        goes = rows_idle x.stack.rows y.stack.rows outs rests.rows;
        agreed = subst (λ (os : List (Numbered N)). EachAgrees n line_of g y.stack.registry y.stack.rows (map at_rest os))
            (sym (told_nothing n outs))
            (subst (λ (os : List (Numbered N)). EachAgrees n line_of g y.stack.registry y.stack.rows os)
            (sym (same_at_rest x.stack.registry x.stack.rows outs agrees ready.rest.1)) (rests.agreed outs agrees));
        sinks = subst (λ (os : List (Numbered N)). TakesLists takes at (lines_offered os) x.sinks y.sinks) (sym (told_nothing n outs))
            (subst (λ (ss : List S). TakesLists takes at (lines_offered outs) x.sinks ss) (sym rests.sinks)
            (takes_nothing takes at x.stack.registry x.stack.rows outs x.sinks agrees ready.rest.1 ready.rest.0));
      };
    }
