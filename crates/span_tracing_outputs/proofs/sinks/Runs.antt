-- Runs of lines follow one another.
use Rattle.std.proofs.Common.{List, [], ◌∷◌, ◌++◌, refl, subst}
use Rattle.tracing_core_moments.specs.declared.at.At.{At}
use Rattle.span_tracing_outputs.specs.SinkLines.{TakesAll}
use Rattle.span_tracing_outputs.specs.OutputMachines.{PlainLine}
use Rattle.span_tracing_outputs.specs.sinks.Runs.{TakesRun, RunsCompose, lines_at}

module _ {S : Type 0} (takes : S → At → PlainLine → S → Type 0) where
  pub takes_run_append : (one two : List (At × PlainLine)) (old mid new : S) → TakesRun takes one old mid → TakesRun takes two mid new →
      TakesRun takes (one ++ two) old new
  takes_run_append [] two old mid new same more = subst (λ (s : S). TakesRun takes two s new) same more
  takes_run_append (x ∷ xs) two old mid new (next, first, rest) more = (next, first, takes_run_append xs two next mid new rest more)

  pub takes_run_split : (one two : List (At × PlainLine)) (old new : S) → TakesRun takes (one ++ two) old new →
      (mid : S) × TakesRun takes one old mid × TakesRun takes two mid new
  takes_run_split [] two old new run = (old, refl, run)
  takes_run_split (x ∷ xs) two old new (next, first, rest) =
      let cut = takes_run_split xs two next new rest in (cut.0, (next, first, cut.1), cut.2)

  pub takes_run_once : (at : At) (lines : List PlainLine) (old new : S) → TakesAll takes at lines old new →
      TakesRun takes (lines_at at lines) old new
  takes_run_once at [] old new same = same
  takes_run_once at (line ∷ lines) old new (next, first, rest) = (next, first, takes_run_once at lines next new rest)

  pub takes_run_all : (at : At) (lines : List PlainLine) (old new : S) → TakesRun takes (lines_at at lines) old new →
      TakesAll takes at lines old new
  takes_run_all at [] old new same = same
  takes_run_all at (line ∷ lines) old new (next, first, rest) = (next, first, takes_run_all at lines next new rest)

  pub runs_compose : RunsCompose takes
  runs_compose = record { append = takes_run_append; split = takes_run_split; once = takes_run_once; all = takes_run_all }
