-- A writer to one file, over an appender with a clock that is lent to it.
use Rattle.std.specs.Prelude.{◌≡◌}
use Rattle.std.specs.Borrow.{MutBor}
use Rattle.tracing_appender.specs.declared.clocked.ClockedAppender.{ClockedAppender}
use Rattle.tracing_appender.specs.declared.writer.RollingWriter.{RollingWriter}

-- the writer holds that loan
abbrev pub IsLoanOf : {D C : Type 0} → MutBor (ClockedAppender D C) → RollingWriter D C → Type 0
IsLoanOf clocked writer = writer.clocked.ghost_name ≡ clocked.ghost_name

-- it holds the same loan, writes at the same moment, and the clock is as it was
pub record IsSameWriter {D C : Type 0} (old new : RollingWriter D C) : Type 0 where
  pub loan_same : new.clocked.ghost_name ≡ old.clocked.ghost_name
  pub moment_same : new.moment ≡ old.moment
  pub clock_same : new.clocked.now.clock ≡ old.clocked.now.clock
