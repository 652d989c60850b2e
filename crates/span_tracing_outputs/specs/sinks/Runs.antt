-- Lines that are taken one after another, each at a moment of its own.
use Rattle.std.specs.Prelude.{◌≡◌, List, [], ◌∷◌, ◌++◌, map}
use Rattle.tracing_core_moments.specs.declared.at.At.{At}
use Rattle.tracing_appender_rolling.specs.Sinks.{Handed}
use Rattle.span_tracing_outputs.specs.SinkLines.{TakesAll}
use Rattle.span_tracing_outputs.specs.OutputMachines.{PlainLine}
use Rattle.span_tracing_outputs.specs.sinks.Takes.{moment_of}

-- Lines are taken, each with where and when it is handed over. The lines of one request come with one of these, as requests follow one
-- another.
abbrev pub TakesRun : {S : Type 0} → (S → At → PlainLine → S → Type 0) → List (At × PlainLine) → S → S → Type 0
TakesRun takes [] old new = new ≡ old
TakesRun {S = S} takes (x ∷ xs) old new = (mid : S) × takes old x.0 x.1 mid × TakesRun takes xs mid new

-- the lines of one request
abbrev pub lines_at : At → List PlainLine → List (At × PlainLine)
lines_at at [] = []
lines_at at (line ∷ lines) = (at, line) ∷ lines_at at lines

-- Runs follow one another as their lists do: two make a longer one, and each cut of a longer one makes two. What is taken at one moment is
-- a run.
pub record RunsCompose {S : Type 0} (takes : S → At → PlainLine → S → Type 0) : Type 0 where
  pub append : (one two : List (At × PlainLine)) (old mid new : S) → TakesRun takes one old mid → TakesRun takes two mid new →
      TakesRun takes (one ++ two) old new
  pub split : (one two : List (At × PlainLine)) (old new : S) → TakesRun takes (one ++ two) old new →
      (mid : S) × TakesRun takes one old mid × TakesRun takes two mid new
  pub once : (at : At) (lines : List PlainLine) (old new : S) → TakesAll takes at lines old new → TakesRun takes (lines_at at lines) old new
  pub all : (at : At) (lines : List PlainLine) (old new : S) → TakesRun takes (lines_at at lines) old new → TakesAll takes at lines old new

-- the same lines as an appender is handed them
abbrev pub handed_of : At × PlainLine → Handed
handed_of x = record { line = x.1.bytes; moment = moment_of x.0 }

abbrev pub handed_in : List (At × PlainLine) → List Handed
handed_in lines = map handed_of lines
