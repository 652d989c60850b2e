-- The sinks of several outputs, request by request.
use Rattle.std.proofs.Common.{◌≡◌, ℕ, zero, suc, List, [], ◌∷◌, Some, None, slice_get, refl, subst}
use Rattle.tracing_core_moments.specs.declared.at.At.{At}
use Rattle.span_tracing_outputs.specs.SinkLines.{TakesEach}
use Rattle.span_tracing_outputs.specs.OutputMachines.{PlainLine}
use Rattle.span_tracing_outputs.specs.Turns.{Lined}
use Rattle.span_tracing_outputs.specs.sinks.Runs.{TakesRun}
use Rattle.span_tracing_outputs.specs.sinks.OutputRuns.{EachComposes, RunsEach, joined, lines_by_output, no_lines}
use Rattle.span_tracing_outputs.proofs.sinks.Runs.{takes_run_append, takes_run_once}

module _ {S : Type 0} (takes : S → At → PlainLine → S → Type 0) where
  pub runs_each_append : (ones twos : List (List (At × PlainLine))) (olds mids news : List S) → RunsEach takes ones olds mids →
      RunsEach takes twos mids news → RunsEach takes (joined ones twos) olds news
  runs_each_append [] twos [] [] [] first more = tt
  runs_each_append [] twos [] [] (new ∷ news) first more = none_made twos new news more
    where
      none_made : (twos : List (List (At × PlainLine))) (new : S) (news : List S) → RunsEach takes twos [] (new ∷ news) → ⊥
      none_made [] new news more = more
      none_made (two ∷ twos) new news more = more
  runs_each_append [] twos [] (mid ∷ mids) news first more = absurd first
  runs_each_append [] twos (old ∷ olds) mids news first more = absurd first
  runs_each_append (one ∷ ones) twos [] mids news first more = absurd first
  runs_each_append (one ∷ ones) twos (old ∷ olds) [] news first more = absurd first
  runs_each_append (one ∷ ones) [] (old ∷ olds) (mid ∷ mids) news first more = absurd more
  runs_each_append (one ∷ ones) (two ∷ twos) (old ∷ olds) (mid ∷ mids) [] first more = absurd more
  runs_each_append (one ∷ ones) (two ∷ twos) (old ∷ olds) (mid ∷ mids) (new ∷ news) first more =
      (takes_run_append takes one two old mid new first.0 more.0, runs_each_append ones twos olds mids news first.1 more.1)

  pub runs_each_once : {N E F : Type 0} (at : At) (rows : List (Lined N E F)) (sinks takens : List S) →
      TakesEach takes at rows sinks takens → RunsEach takes (lines_by_output at rows) sinks takens
  runs_each_once at [] [] [] taken = tt
  runs_each_once at [] [] (t ∷ ts) taken = absurd taken
  runs_each_once at [] (s ∷ ss) ts taken = absurd taken
  runs_each_once at (row ∷ rows) [] ts taken = absurd taken
  runs_each_once at (row ∷ rows) (s ∷ ss) [] taken = absurd taken
  runs_each_once at (row ∷ rows) (s ∷ ss) (t ∷ ts) taken =
      (takes_run_once takes at row.output.layer.output.maker s t taken.0, runs_each_once at rows ss ts taken.1)

  runs_each_stays : (sinks : List S) → RunsEach takes (no_lines sinks) sinks sinks
  runs_each_stays [] = tt
  runs_each_stays (s ∷ ss) = (refl, runs_each_stays ss)

  abbrev RunAt : ℕ → List (List (At × PlainLine)) → List S → S → Type 0
  RunAt place runs news old = (run : List (At × PlainLine)) × (new : S) × (slice_get runs place ≡ Some run) ×
      (slice_get news place ≡ Some new) × TakesRun takes run old new

  pub runs_each_one : (place : ℕ) (runs : List (List (At × PlainLine))) (olds news : List S) (old : S) → RunsEach takes runs olds news →
      slice_get olds place ≡ Some old → RunAt place runs news old
  runs_each_one place [] [] news old each is = let no : None ≡ Some old = is in cc
  runs_each_one place [] (o ∷ os) news old each is = absurd each
  runs_each_one place (r ∷ rs) [] news old each is = absurd each
  runs_each_one place (r ∷ rs) (o ∷ os) [] old each is = absurd each
  runs_each_one zero (r ∷ rs) (o ∷ os) (n ∷ ns) old each is = let same : o ≡ old = cc in
      (r, n, refl, refl, subst (λ (x : S). TakesRun takes r x n) same each.0)
  runs_each_one (suc place) (r ∷ rs) (o ∷ os) (n ∷ ns) old each is = runs_each_one place rs os ns old each.1 is

  pub each_composes : {N E F : Type 0} → EachComposes N E F takes
  each_composes = record { append = runs_each_append; once = runs_each_once; stays = runs_each_stays; one = runs_each_one }
