-- An appender's look at a moment, and what it is told at that moment again: its file stays.
use Rattle.std.specs.Prelude.{◌≡◌, ℕ, List, [], Option, Some, Result}
use Rattle.std.specs.declared.io.Error.{Error}
use Rattle.tracing_core_moments.specs.declared.moment.Moment.{Moment}
use Rattle.tracing_appender_rolling.specs.declared.folders.fault.FolderError.{FolderError}
use Rattle.tracing_appender_rolling.specs.folders.Contents.{Contents, Gives, written}
use Rattle.tracing_appender_rolling.specs.declared.appender.RollingFileAppender.{RollingFileAppender}
use Rattle.tracing_appender_rolling.specs.Writes.{WritesAll}
use Rattle.tracing_appender.specs.Refusals.{Tells}
use Rattle.tracing_appender.specs.AppenderCalls.{FlushWent, LineWent, WriteWent, KeepsFile, IsInPeriod}

module _ {D : Type 0} (contents : D → Option Contents) (failed : D → ℕ) (old new : RollingFileAppender D) where
  -- it looked at a moment, by a line of no bytes, whatever that answered; the period of its file is not over then
  pub record LookedAt (m : Moment) : Type 0 where
    pub answer : Result (Unit {0}) FolderError
    pub went : LineWent contents failed m [] answer old new
    pub in_period : IsInPeriod m new

  -- it wrote to the current file until all was taken, and its answer was told
  pub record KeptLine (m : Moment) (bytes : List ℕ) (result : Result (Unit {0}) Error) : Type 0 where
    pub answer : Result (Unit {0}) FolderError
    pub told : Tells answer result
    pub went : LineWent contents failed m bytes answer old new
    pub keeps : KeepsFile old new
    pub to_file : (c : Contents) → contents old.folder ≡ Some c → WritesAll (Some c) old.current bytes answer (contents new.folder)

  -- it wrote to the current file once, and its answer was told
  pub record KeptOnce (m : Moment) (bytes : List ℕ) (result : Result ℕ Error) : Type 0 where
    pub answer : Result ℕ FolderError
    pub told : Tells answer result
    pub went : WriteWent contents failed m bytes answer old new
    pub keeps : KeepsFile old new
    pub to_file : (c : Contents) → contents old.folder ≡ Some c →
        Gives (λ d. written d old.current bytes) (Some c) answer (contents new.folder)

  -- it flushed its file, and its answer was told
  pub record KeptFlush (result : Result (Unit {0}) Error) : Type 0 where
    pub answer : Result (Unit {0}) FolderError
    pub told : Tells answer result
    pub went : FlushWent contents failed answer old new
