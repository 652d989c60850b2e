-- What an appender with a clock makes of what it is handed.
use Rattle.std.specs.Prelude.{◌≡◌, ℕ, true, List, Option, Result}
use Rattle.std.specs.Borrow.{Lends, MutBor, Fml, RattleType}
use Rattle.std.specs.declared.io.Error.{Error}
use Rattle.tracing_core_moments.specs.declared.moment.Moment.{Moment}
use Rattle.tracing_core_moments.specs.Moments.{is_moment}
use Rattle.tracing_appender_rolling.specs.declared.folders.fault.FolderError.{FolderError}
use Rattle.tracing_appender_rolling.specs.folders.Contents.{Contents}
use Rattle.tracing_appender.specs.declared.clocked.ClockedAppender.{ClockedAppender}
use Rattle.tracing_appender.specs.contracts.clocked.ClockedAppender.{the_row}
use Rattle.tracing_appender.specs.Refusals.{Tells}
use Rattle.tracing_appender.specs.AppenderCalls.{FlushWent, LineWent, WriteWent}

module _ {D C : Type 0} (contents : D → Option Contents) (failed : D → ℕ) (reads : C → Moment → C → Type 0) where
  -- the clock was read once, at the moment it told the appender wrote until all was taken, and its answer was told
  pub record WroteLine (bytes : List ℕ) (result : Result (Unit {0}) Error) (old new : ClockedAppender D C) : Type 0 where
    pub moment : Moment
    pub answer : Result (Unit {0}) FolderError
    pub in_range : is_moment moment ≡ true
    pub read : reads old.clock moment new.clock
    pub told : Tells answer result
    pub went : LineWent contents failed moment bytes answer old.appender new.appender

  -- the clock was read once, at the moment it told the appender wrote once, and its answer was told
  pub record WroteOnce (bytes : List ℕ) (result : Result ℕ Error) (old new : ClockedAppender D C) : Type 0 where
    pub moment : Moment
    pub answer : Result ℕ FolderError
    pub in_range : is_moment moment ≡ true
    pub read : reads old.clock moment new.clock
    pub told : Tells answer result
    pub went : WriteWent contents failed moment bytes answer old.appender new.appender

  -- the appender flushed its file, its answer was told, and the clock wasn't read
  pub record Flushed (result : Result (Unit {0}) Error) (old new : ClockedAppender D C) : Type 0 where
    pub answer : Result (Unit {0}) FolderError
    pub told : Tells answer result
    pub went : FlushWent contents failed answer old.appender new.appender
    pub clock_same : new.clock ≡ old.clock

-- it ends with the last value behind r as its clock
abbrev pub LendsClock : (D C : RattleType) → MutBor (ClockedAppender D.Denot C.Denot) → MutBor C.Denot → Fml
LendsClock D C s r = Lends (the_row D C) C s r (λ w. record s.now { clock = w })
