-- The sinks of several outputs, each with a run of its own.
use Rattle.std.specs.Prelude.{◌≡◌, ℕ, List, [], ◌∷◌, ◌++◌, map, Some, slice_get}
use Rattle.tracing_core_moments.specs.declared.at.At.{At}
use Rattle.span_tracing_outputs.specs.SinkLines.{TakesEach}
use Rattle.span_tracing_outputs.specs.OutputMachines.{PlainLine}
use Rattle.span_tracing_outputs.specs.Turns.{Lined}
use Rattle.span_tracing_outputs.specs.sinks.Runs.{TakesRun, lines_at}

-- each sink took its own run
abbrev pub RunsEach : {S : Type 0} → (S → At → PlainLine → S → Type 0) → List (List (At × PlainLine)) → List S → List S → Type 0
RunsEach takes [] [] [] = Unit {0}
RunsEach takes (run ∷ runs) (old ∷ olds) (new ∷ news) = TakesRun takes run old new × RunsEach takes runs olds news
RunsEach takes runs olds news = ⊥

-- each output's later run behind its earlier one
abbrev pub joined : List (List (At × PlainLine)) → List (List (At × PlainLine)) → List (List (At × PlainLine))
joined (one ∷ ones) (two ∷ twos) = (one ++ two) ∷ joined ones twos
joined ones twos = []

-- no output has a line
abbrev pub no_lines : {S : Type 0} → List S → List (List (At × PlainLine))
no_lines {S = S} sinks = map (λ (sink : S). []) sinks

-- what a request hands over, by output
abbrev pub lines_by_output : {N E F : Type 0} → At → List (Lined N E F) → List (List (At × PlainLine))
lines_by_output {N = N} {E = E} {F = F} at rows = map (λ (row : Lined N E F). lines_at at row.output.layer.output.maker) rows

-- Requests one after another give each sink one run: what the first ones handed it, and then what the later ones did.
pub record EachComposes {S : Type 0} (N E F : Type 0) (takes : S → At → PlainLine → S → Type 0) : Type 0 where
  pub append : (ones twos : List (List (At × PlainLine))) (olds mids news : List S) → RunsEach takes ones olds mids →
      RunsEach takes twos mids news → RunsEach takes (joined ones twos) olds news
  pub once : (at : At) (rows : List (Lined N E F)) (sinks takens : List S) → TakesEach takes at rows sinks takens →
      RunsEach takes (lines_by_output at rows) sinks takens
  pub stays : (sinks : List S) → RunsEach takes (no_lines sinks) sinks sinks
  -- the sink at a place, and its run
  pub one : (place : ℕ) (runs : List (List (At × PlainLine))) (olds news : List S) (old : S) → RunsEach takes runs olds news →
      slice_get olds place ≡ Some old →
      (run : List (At × PlainLine)) × (new : S) × (slice_get runs place ≡ Some run) × (slice_get news place ≡ Some new) ×
      TakesRun takes run old new
