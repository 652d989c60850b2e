-- Those outputs see a new span whose filter passed it.
use Rattle.std.proofs.Common.{◌≡◌, ◌==◌, ◌++◌, ◌<◌, ℕ, Bool, true, false, if◌then◌else◌, List, [], ◌∷◌, map, length, drop, Option, Some}
use Rattle.std.proofs.Common.{None, refl, sym, ap, ◌∙◌, arith}
use Rattle.std.specs.List.{AllByRecursion}
use Rattle.std.specs.Option.{is_some, option_map}
use Rattle.std.proofs.lemmas.Bool.Decides.{nat_tests}
use Rattle.tracing_core_fields.specs.requests.PlainRequests.{PlainAttributes, PlainEvent}
use Rattle.tracing_core_moments.specs.declared.at.At.{At}
use Rattle.span_registry_layers_store.specs.Laws.{IsSound}
use Rattle.span_registry_layers_store.specs.Registries.{PlainSpan, RegistryValue, kin_in, under}
use Rattle.span_registry_layers_store.specs.SlotIndependence.{bare}
use Rattle.span_registry_layers_store.specs.Spans.{found}
use Rattle.span_registry_layers_store.specs.Verdicts.{all_pass, passes_at}
use Rattle.span_registry_layers_store.specs.Views.{seen, seen_if}
use Rattle.span_registry_layers_layers.specs.declared.filter.Filter.{Ghosts as FilterGhosts}
use Rattle.span_registry_layers.specs.SpanNotices.{each_sees, sees}
use Rattle.event_formatter_text.specs.declared.format_fields.FormatFields.{Ghosts}
use Rattle.event_formatter_text.specs.declared.settings.Settings.{Settings}
use Rattle.event_formatter.specs.formats.Contexts.{PlainContext}
use Rattle.span_tracing_outputs.specs.OutputNotices.{Notice}
use Rattle.span_tracing_outputs.specs.SinkLines.{cleared_row}
use Rattle.span_tracing_outputs.specs.StackFollows.{Goes, LinedStack, made_in}
use Rattle.span_tracing_outputs.specs.TraceFollows.{AreFirst, EachAnswers, numbers_in, verdicts_from}
use Rattle.span_tracing_outputs.specs.Turns.{Lined}
use Rattle.span_tracing_outputs.proofs.ClosedSpans.{sound_rising}
use Rattle.span_tracing_outputs.proofs.OutputNumbers.{answers_padded, numbers_cleared, numbers_followed}
use Rattle.span_tracing_outputs.proofs.Slotless.{seen_slotted, slotted}
use Rattle.span_tracing_outputs.proofs.VerdictLists.{answers_at}

is_there : (b : Bool) (s : PlainSpan) → is_some (if b then Some s else None) ≡ b
is_there true s = refl
is_there false s = refl

still_there : (f : PlainSpan → PlainSpan) (o : Option PlainSpan) → is_some (option_map f o) ≡ is_some o
still_there f None = refl
still_there f (Some s) = refl

-- a span above all others is found behind them
found_last : (xs : List PlainSpan) (new : PlainSpan) → AllByRecursion (λ (x : PlainSpan). x.kin.id < new.kin.id) xs →
    found kin_in (xs ++ new ∷ []) new.kin.id ≡ Some new
found_last [] new below = let own : (new.kin.id == new.kin.id) ≡ true = grind (arith, nat_tests) in rw own refl
found_last (x ∷ xs) new below =
    let apart : (x.kin.id == new.kin.id) ≡ false = let less = below.0 in grind (arith, nat_tests, less) in
    rw apart (found_last xs new below.1)

module _ {N E F : Type 0} where
  -- slots have no say in what an output sees
  pub sees_by : (k y : RegistryValue) (id : ℕ) (row : Lined N E F) → bare y ≡ k → sees y id row ≡ sees k id row
  sees_by k y id row same =
      let mask = Some row.id.index in
      sym (still_there (slotted (λ ps. [])) (seen y mask id))
      ∙ (ap is_some (sym (seen_slotted (λ ps. []) y mask id)) ∙ ap (λ (z : RegistryValue). is_some (seen z mask id)) same)

  each_by : (k y : RegistryValue) (id : ℕ) (rows : List (Lined N E F)) → bare y ≡ k → each_sees y id rows ≡ each_sees k id rows
  each_by k y id [] same = refl
  each_by k y id (row ∷ rows) same =
      ap (λ b. b ∷ each_sees y id rows) (sees_by k y id row same) ∙ ap (λ bs. sees k id row ∷ bs) (each_by k y id rows same)

  -- each output sees what its filter passed
  each_there : (k : RegistryValue) (id : ℕ) (s : PlainSpan) (rows : List (Lined N E F)) → found kin_in k.spans id ≡ Some s →
      each_sees k id rows ≡ map (passes_at s.passed) (numbers_in rows)
  each_there k id s [] there = refl
  each_there k id s (row ∷ rows) there =
      ap (λ b. b ∷ each_sees k id rows)
      (ap (λ (o : Option PlainSpan). is_some (seen_if (Some row.id.index) o)) there ∙ is_there (passes_at s.passed row.id.index) s) ∙
      ap (λ bs. passes_at s.passed row.id.index ∷ bs) (each_there k id s rows there)

  module _ (n : Ghosts N) (line_of : E → Settings → PlainContext → PlainEvent → Option (List ℕ)) (g : FilterGhosts F) where
    -- of a span that was made with what the filters answered, also while outputs are told of it
    pub seen_made : (a : PlainAttributes) (at : At) (s mid t : LinedStack N E F) (answers : List Bool) (ns : ℕ → List Notice) (id : ℕ) →
        AreFirst (numbers_in s.rows) → IsSound s.registry → EachAnswers g.answers a.metadata at s.registry s.rows answers →
        id ≡ s.registry.next_id →
        Goes n line_of g ns (made_in n line_of g (bare s.registry) a at (verdicts_from all_pass (numbers_in s.rows) answers)) s mid →
        t ≡ record mid { rows = map cleared_row mid.rows } →
        (each_sees t.registry id t.rows ≡ answers)
        × (each_sees (made_in n line_of g (bare s.registry) a at (verdicts_from all_pass (numbers_in s.rows) answers)) id s.rows ≡ answers)
    seen_made a at s mid t answers ns id first sound each is goes over =
        let k = bare s.registry in
        let verdicts = verdicts_from all_pass (numbers_in s.rows) answers in
        let new : PlainSpan = record {
          kin = record { id = k.next_id; parent = under k at.lane a.parent; handles = 1 };
          metadata = a.metadata;
          passed = verdicts;
          slots = [];
        } in
        let wide = made_in n line_of g k a at verdicts in
        let there : found kin_in wide.spans id ≡ Some new = ap (found kin_in wide.spans) is ∙
        found_last k.spans new (sound_rising s.registry sound).below in
        let same : bare t.registry ≡ wide = ap (λ (u : LinedStack N E F). bare u.registry) over ∙ goes.1 in
        let numbers : numbers_in t.rows ≡ numbers_in s.rows = ap (λ (u : LinedStack N E F). numbers_in u.rows) over
        ∙ (numbers_cleared mid.rows ∙
        numbers_followed n line_of g (λ row. ns row.id.index) s.registry s.rows mid.registry mid.rows goes.0) in
        let padded = answers_padded g.answers a.metadata at s.registry s.rows answers first each in
        let told : map (passes_at verdicts) (numbers_in s.rows) ≡ answers =
        ap (map (passes_at verdicts)) padded.0 ∙ answers_at verdicts 0 answers (drop (length answers) all_pass) padded.1 in (
          each_by wide t.registry id t.rows same ∙
              (each_there wide id new t.rows there ∙ (ap (map (passes_at verdicts)) numbers ∙ told)),
          each_there wide id new s.rows there ∙ told,
        )
