-- The outputs' filters keep their numbers, which are the first ones.
use Rattle.std.proofs.Common.{◌≡◌, ◌+◌, ◌++◌, ◌≤◌, ℕ, zero, suc, Bool, List, [], ◌∷◌, length, map, drop, refl, sym, ap, ◌∙◌, subst}
use Rattle.std.proofs.Common.{Option}
use Rattle.tracing_core_fields.specs.PlainMetadata.{PlainMetadata}
use Rattle.tracing_core_fields.specs.requests.Calls.{Call, ReplyTo}
use Rattle.tracing_core_fields.specs.requests.PlainRequests.{PlainEvent}
use Rattle.tracing_core_moments.specs.declared.at.At.{At}
use Rattle.span_registry_layers_store.specs.Registries.{RegistryValue}
use Rattle.span_registry_layers_store.specs.Verdicts.{all_pass}
use Rattle.span_registry_layers_store.specs.declared.filter_map.FilterId.{FilterId}
use Rattle.span_registry_layers_layers.specs.FilterNumbers.{numbers_from}
use Rattle.span_registry_layers_layers.specs.FilterViews.{View}
use Rattle.span_registry_layers_layers.specs.declared.filter.Filter.{Ghosts as FilterGhosts}
use Rattle.span_registry_layers_layers.specs.declared.layer.Layer.{Ghosts as LayerGhosts}
use Rattle.span_registry_layers.specs.Moves.{Moves}
use Rattle.span_registry_layers.specs.OutputSlots.{numbers_of}
use Rattle.span_registry_layers.proofs.Numbers.{numbers_same}
use Rattle.event_formatter_text.specs.declared.format_fields.FormatFields.{Ghosts}
use Rattle.event_formatter_text.specs.declared.settings.Settings.{Settings}
use Rattle.event_formatter.specs.formats.Contexts.{PlainContext}
use Rattle.span_tracing_outputs.specs.OutputNotices.{Notice}
use Rattle.span_tracing_outputs.specs.SinkLines.{cleared_row}
use Rattle.span_tracing_outputs.specs.StackFollows.{LinedStack}
use Rattle.span_tracing_outputs.specs.TraceFollows.{AreFirst, EachAnswers, numbers_in, verdicts_from}
use Rattle.span_tracing_outputs.specs.Turns.{EachFollows, Lined, Lines}
use Rattle.span_tracing_outputs.proofs.VerdictLists.{padded_verdicts}

counted : (first count : ℕ) → length (numbers_from first count) ≡ count
counted first zero = refl
counted first (suc count) = ap suc (counted (first + 1) count)

-- so many numbers from 0 on are the first ones
pub first_by : (ns : List ℕ) (count : ℕ) → ns ≡ numbers_from 0 count → count ≤ 64 → AreFirst ns
first_by ns count is few =
    let many = counted 0 count in
    subst AreFirst (sym is) (ap (numbers_from 0) (sym many), subst (λ n. n ≤ 64) (sym many) few)

module _ {N E F : Type 0} where
  pub numbers_cleared : (rows : List (Lined N E F)) → numbers_in (map cleared_row rows) ≡ numbers_in rows
  numbers_cleared [] = refl
  numbers_cleared (row ∷ rows) = ap (λ ns. row.id.index ∷ ns) (numbers_cleared rows)

  pub few_rows : (rows : List (Lined N E F)) → AreFirst (numbers_in rows) → length rows ≤ 64
  few_rows rows first = subst (λ n. n ≤ 64) (own_count rows) first.1
    where
      own_count : (rows : List (Lined N E F)) → length (numbers_in rows) ≡ length rows
      own_count [] = refl
      own_count (row ∷ rows) = ap suc (own_count rows)

  -- each output's filter answers
  pub as_many : (A : F → PlainMetadata → View → Bool → Type 0) (m : PlainMetadata) (at : At) (x : RegistryValue)
      (rows : List (Lined N E F)) (answers : List Bool) → EachAnswers A m at x rows answers → length (numbers_in rows) ≡ length answers
  as_many A m at x [] [] each = refl
  as_many A m at x [] (a ∷ answers) each = absurd each
  as_many A m at x (row ∷ rows) [] each = absurd each
  as_many A m at x (row ∷ rows) (a ∷ answers) each = ap suc (as_many A m at x rows answers each.1)

  -- under the first numbers the answers stand first, and numbers without a filter pass
  pub answers_padded : (A : F → PlainMetadata → View → Bool → Type 0) (m : PlainMetadata) (at : At) (x : RegistryValue)
      (rows : List (Lined N E F)) (answers : List Bool) → AreFirst (numbers_in rows) → EachAnswers A m at x rows answers →
      (numbers_in rows ≡ numbers_from 0 (length answers))
      × (verdicts_from all_pass (numbers_in rows) answers ≡ answers ++ drop (length answers) all_pass)
  answers_padded A m at x rows answers first each =
      let many = as_many A m at x rows answers each in
      let is : numbers_in rows ≡ numbers_from 0 (length answers) = first.0 ∙ ap (numbers_from 0) many in (
        is,
        ap (λ ns. verdicts_from all_pass ns answers) is ∙ padded_verdicts answers (subst (λ n. n ≤ 64) many first.1),
      )

  module _ (n : Ghosts N) (line_of : E → Settings → PlainContext → PlainEvent → Option (List ℕ)) (g : FilterGhosts F) where
    -- what outputs are told leaves their numbers
    pub numbers_followed : (ns : Lined N E F → List Notice) (x : RegistryValue) (rows : List (Lined N E F)) (y : RegistryValue)
        (later : List (Lined N E F)) → EachFollows n line_of g ns x rows y later → numbers_in later ≡ numbers_in rows
    numbers_followed ns x [] y [] w = refl
    numbers_followed ns x [] y (m ∷ ms) w = absurd w
    numbers_followed ns x (l ∷ ls) y [] w = absurd w
    numbers_followed ns x (l ∷ ls) y (m ∷ ms) w =
        ap (λ (id : FilterId). id.index ∷ numbers_in ms) w.0.number ∙
        ap (λ later. l.id.index ∷ later) (numbers_followed ns x ls y ms w.1)

  module _ (g : FilterGhosts F) (h : LayerGhosts (Lines N E)) (unnumbered : (layer : Lines N E) → h.numbers layer ≡ []) where
    own_numbers : (rows : List (Lined N E F)) → numbers_of h rows ≡ numbers_in rows
    own_numbers [] = refl
    own_numbers (row ∷ rows) =
        ap (λ (ns : List ℕ). row.id.index ∷ (ns ++ numbers_of h rows)) (unnumbered row.output.layer) ∙
        ap (λ (ns : List ℕ). row.id.index ∷ ns) (own_numbers rows)

    -- so does each call
    pub numbers_moved : (s : LinedStack N E F) (c : Call) (r : ReplyTo c) (t : LinedStack N E F) → Moves g h s c r t →
        numbers_in t.rows ≡ numbers_in s.rows
    numbers_moved s c r t moves = sym (own_numbers t.rows) ∙ (numbers_same g h s c r t moves ∙ own_numbers s.rows)
