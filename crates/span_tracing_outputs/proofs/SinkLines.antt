-- Lines that are handed to sinks, one output after the other.
use Rattle.std.proofs.Common.{◌≡◌, ℕ, zero, suc, ◌<◌, ◌≤◌, List, [], ◌∷◌, length, map, Option, Some, None, slice_get, slice_set, refl, ap}
use Rattle.std.proofs.Common.{sym, ◌∙◌, subst, arith}
use Rattle.std.specs.Option.{option_map}
use Rattle.tracing_core_moments.specs.declared.at.At.{At}
use Rattle.span_registry_layers_layers.specs.declared.filtered.Filtered.{Filtered}
use Rattle.span_tracing_outputs.specs.SinkLines.{LinesIf, NoLines, TakesAll, TakesEach, cleared_at, cleared_row}
use Rattle.span_tracing_outputs.specs.OutputMachines.{PlainLine}
use Rattle.span_tracing_outputs.specs.Turns.{Lined, Lines}

length_set : {A : Type 0} (xs : List A) (n : ℕ) (x : A) → length (slice_set xs n x) ≡ length xs
length_set [] zero x = refl
length_set [] (suc n) x = refl
length_set (y ∷ ys) zero x = refl
length_set (y ∷ ys) (suc n) x = ap suc (length_set ys n x)

module _ {N E F : Type 0} where
  -- so many outputs have no line any more
  abbrev pub cleared_to : ℕ → List (Lined N E F) → List (Lined N E F)
  cleared_to zero rows = rows
  cleared_to (suc n) [] = []
  cleared_to (suc n) (row ∷ rows) = cleared_row row ∷ cleared_to n rows

  pub next_is : (n : ℕ) (rows : List (Lined N E F)) → slice_get (cleared_to n rows) n ≡ slice_get rows n
  next_is zero rows = refl
  next_is (suc n) [] = refl
  next_is (suc n) (row ∷ rows) = next_is n rows

  at_later : (o : Option (Lined N E F)) (n : ℕ) (row : Lined N E F) (rows : List (Lined N E F)) →
      cleared_at o (suc n) (row ∷ rows) ≡ row ∷ cleared_at o n rows
  at_later None n row rows = refl
  at_later (Some r) n row rows = refl

  none_later : (o : Option (Lined N E F)) (n : ℕ) → cleared_at o n [] ≡ []
  none_later None n = refl
  none_later (Some r) zero = refl
  none_later (Some r) (suc n) = refl

  pub clears_next : (n : ℕ) (rows : List (Lined N E F)) → cleared_at (slice_get rows n) n (cleared_to n rows) ≡ cleared_to (suc n) rows
  clears_next zero [] = refl
  clears_next zero (row ∷ rows) = refl
  clears_next (suc n) [] = refl
  clears_next (suc n) (row ∷ rows) = at_later (slice_get rows n) n (cleared_row row) (cleared_to n rows) ∙
      ap (λ (ls : List (Lined N E F)). cleared_row row ∷ ls) (clears_next n rows)

  pub all_cleared : (n : ℕ) (rows : List (Lined N E F)) → length rows ≤ n → cleared_to n rows ≡ map cleared_row rows
  all_cleared zero [] le = refl
  all_cleared zero (row ∷ rows) le = absurd (omega (arith, le))
  all_cleared (suc n) [] le = refl
  all_cleared (suc n) (row ∷ rows) le = ap (λ (ls : List (Lined N E F)). cleared_row row ∷ ls) (all_cleared n rows (omega (arith, le)))

  pub cleared_length : (n : ℕ) (rows : List (Lined N E F)) → length (cleared_to n rows) ≡ length rows
  cleared_length zero rows = refl
  cleared_length (suc n) [] = refl
  cleared_length (suc n) (row ∷ rows) = ap suc (cleared_length n rows)

  -- a lone output that keeps no line
  pub idle_alone : (rows : List (Lined N E F)) (o : Filtered (Lines N E) F) → length rows ≡ 1 →
      Some o ≡ option_map (λ (row : Lined N E F). row.output) (slice_get rows 0) → o.layer.output.maker ≡ [] → NoLines rows
  idle_alone [] o one is none = absurd (omega (arith, one))
  idle_alone (row ∷ []) o one is none =
      let same : o ≡ row.output = cc in
      (ap (λ (f : Filtered (Lines N E) F). f.layer.output.maker) (sym same) ∙ none, tt)
  idle_alone (row ∷ next ∷ rows) o one is none = absurd (omega (arith, one))

  -- it has no line any more, and so none has
  pub lone_cleared : (rows : List (Lined N E F)) → length rows ≡ 1 → cleared_at (slice_get rows 0) 0 rows ≡ map cleared_row rows
  lone_cleared rows one = clears_next 0 rows ∙ all_cleared 1 rows (omega (arith, one))

  module _ {S : Type 0} (takes : S → At → PlainLine → S → Type 0) (at : At) where
    -- so many sinks are as they are, and the others take their lines
    abbrev pub TakesFrom : ℕ → List (Lined N E F) → List S → List S → Type 0
    TakesFrom zero rows sinks sinks_after = TakesEach takes at rows sinks sinks_after
    TakesFrom (suc n) [] [] [] = Unit {0}
    TakesFrom (suc n) (row ∷ rows) (sink ∷ sinks) (taken ∷ sinks_after) = (taken ≡ sink) × TakesFrom n rows sinks sinks_after
    TakesFrom (suc n) rows sinks sinks_after = ⊥

    tail_lines : (o : Option (Lined N E F)) (n : ℕ) (sink : S) (sinks nexts : List S) → LinesIf takes at o (suc n) (sink ∷ sinks) nexts →
        (later : List S) × (nexts ≡ sink ∷ later) × LinesIf takes at o n sinks later
    tail_lines None n sink sinks nexts is = (sinks, is, refl)
    tail_lines (Some r) n sink sinks nexts is = (slice_set sinks n is.1, is.4, (is.0, is.1, is.2, is.3, refl))

    here : (row : Lined N E F) (rows : List (Lined N E F)) (sink taken : S) (sinks sinks_after : List S) →
        TakesAll takes at row.output.layer.output.maker sink taken →
        TakesFrom 1 (row ∷ rows) (taken ∷ sinks) sinks_after → TakesEach takes at (row ∷ rows) (sink ∷ sinks) sinks_after
    here row rows sink taken sinks [] all later = absurd later
    here row rows sink taken sinks (t ∷ sinks_after) all later =
        (subst (λ (k : S). TakesAll takes at row.output.layer.output.maker sink k) (sym later.0) all, later.1)

    later_on : (n : ℕ) (row : Lined N E F) (rows : List (Lined N E F)) (sink : S) (sinks nextks sinks_after : List S) →
        ((ts : List S) → TakesFrom (suc n) rows nextks ts → TakesFrom n rows sinks ts) →
        TakesFrom (suc (suc n)) (row ∷ rows) (sink ∷ nextks) sinks_after → TakesFrom (suc n) (row ∷ rows) (sink ∷ sinks) sinks_after
    later_on n row rows sink sinks nextks [] f later = absurd later
    later_on n row rows sink sinks nextks (t ∷ sinks_after) f later = (later.0, f sinks_after later.1)

    pub turn : (place : ℕ) (rows : List (Lined N E F)) (sinks nextks : List S) → length sinks ≡ length rows → place < length sinks →
        LinesIf takes at (slice_get rows place) place sinks nextks →
        (sinks_after : List S) → TakesFrom (suc place) rows nextks sinks_after → TakesFrom place rows sinks sinks_after
    turn place rows [] nextks same within lines sinks_after later = absurd (omega (arith, within))
    turn place [] (sink ∷ sinks) nextks same within lines sinks_after later = absurd (cc)
    turn zero (row ∷ rows) (sink ∷ sinks) nextks same within lines sinks_after later =
        let first : sink ≡ lines.0 = cc in
        here row rows sink lines.1 sinks sinks_after (subst (λ (k : S). TakesAll takes at row.output.layer.output.maker k lines.1)
        (sym first) lines.3)
        (subst (λ (ks : List S). TakesFrom 1 (row ∷ rows) ks sinks_after) lines.4 later)
    turn (suc n) (row ∷ rows) (sink ∷ sinks) nextks same within lines sinks_after later =
        let ks = tail_lines (slice_get rows n) n sink sinks nextks lines in
        later_on n row rows sink sinks ks.0 sinks_after (turn n rows sinks ks.0 (omega (arith, same)) (omega (arith, within)) ks.2)
        (subst (λ (ns : List S). TakesFrom (suc (suc n)) (row ∷ rows) ns sinks_after) ks.1 later)

    pub lines_length : (o : Option (Lined N E F)) (place : ℕ) (sinks nexts : List S) → LinesIf takes at o place sinks nexts →
        length nexts ≡ length sinks
    lines_length None place sinks nexts lines = ap length lines
    lines_length (Some row) place sinks nexts lines = ap length lines.4 ∙ length_set sinks place lines.1

    pub all_taken : (n : ℕ) (rows : List (Lined N E F)) (sinks : List S) → length sinks ≡ length rows → length sinks ≤ n →
        TakesFrom n rows sinks sinks
    all_taken zero [] [] same le = tt
    all_taken zero [] (k ∷ ks) same le = absurd (cc)
    all_taken zero (r ∷ rs) [] same le = absurd (cc)
    all_taken zero (r ∷ rs) (k ∷ ks) same le = absurd (omega (arith, le))
    all_taken (suc n) [] [] same le = tt
    all_taken (suc n) [] (k ∷ ks) same le = absurd (cc)
    all_taken (suc n) (r ∷ rs) [] same le = absurd (cc)
    all_taken (suc n) (r ∷ rs) (k ∷ ks) same le = (refl, all_taken n rs ks (omega (arith, same)) (omega (arith, le)))

    -- the lone output's lines went to its sink
    pub lone_taken : (rows : List (Lined N E F)) (sinks nexts : List S) → length rows ≡ 1 → length sinks ≡ 1 →
        LinesIf takes at (slice_get rows 0) 0 sinks nexts → TakesEach takes at rows sinks nexts
    lone_taken rows sinks nexts one alone lines =
        let same : length nexts ≡ length sinks = lines_length (slice_get rows 0) 0 sinks nexts lines in
        turn 0 rows sinks nexts (omega (arith, one, alone)) (omega (arith, alone)) lines nexts
        (all_taken 1 rows nexts (omega (arith, one, alone, same)) (omega (arith, alone, same)))
