-- What an appender promises of one call at a moment, as one fact: each field is a clause of that call.
use Rattle.std.specs.Prelude.{◌≡◌, ◌≢◌, ◌≤◌, ℕ, false, List, length, take, Option, Some, Result, IfOk, IfErr}
use Rattle.tracing_core_moments.specs.declared.moment.Moment.{Moment}
use Rattle.tracing_appender_rolling.specs.declared.folders.fault.FolderError.{FolderError}
use Rattle.tracing_appender_rolling.specs.declared.folders.fault.FolderError.TheVariants.{OutOfMemory}
use Rattle.tracing_appender_rolling.specs.folders.Contents.{Contents, Gives, failures_after, flushed}
use Rattle.tracing_core_moments.specs.Moments.{is_due}
use Rattle.tracing_appender_rolling.specs.declared.appender.RollingFileAppender.{RollingFileAppender}
use Rattle.tracing_appender_rolling.specs.Builders.{builder_names}
use Rattle.tracing_appender_rolling.specs.FaultReports.{ReportsCall, ReportsWrites}
use Rattle.tracing_appender_rolling.specs.Looks.{Held}
use Rattle.tracing_appender_rolling.specs.Appenders.{Holds}
use Rattle.tracing_appender_rolling.specs.LineHandover.{HandsLine, WritesOnce}
use Rattle.tracing_appender_rolling.specs.AnyFolder.{LineAnywhere, WriteAnywhere}
use Rattle.tracing_appender_rolling.specs.PrunedSinks.{PrunedSink, AgreesSink, LeavesSink}

module _ {D : Type 0} (contents : D → Option Contents) (failed : D → ℕ) where
  -- `write_all_at` answered so
  pub record LineWent (m : Moment) (bytes : List ℕ) (answer : Result (Unit {0}) FolderError) (old new : RollingFileAppender D) : Type 0
    where
      pub handed : (h : Held) → Holds contents old h → HandsLine contents (builder_names old.builder) m h bytes answer new
      pub state : (c : Contents) (p : PrunedSink) → contents old.folder ≡ Some c → AgreesSink contents old p →
          LeavesSink contents p (λ done. bytes) m c old answer new
      pub names : builder_names new.builder ≡ builder_names old.builder
      pub error : ReportsWrites (failed old.folder) answer (length bytes) (failed new.folder)
      pub anywhere : LineAnywhere failed m (length bytes) answer old new

  -- `write_at` answered so
  pub record WriteWent (m : Moment) (bytes : List ℕ) (answer : Result ℕ FolderError) (old new : RollingFileAppender D) : Type 0 where
    pub bound : IfOk answer (λ n. n ≤ length bytes)
    pub written : (h : Held) → Holds contents old h → WritesOnce contents (builder_names old.builder) m h bytes answer new
    pub state : (c : Contents) (p : PrunedSink) → contents old.folder ≡ Some c → AgreesSink contents old p →
        LeavesSink contents p (λ n. take n bytes) m c old answer new
    pub names : builder_names new.builder ≡ builder_names old.builder
    pub error : ReportsCall (failed old.folder) answer (failed new.folder)
    pub anywhere : WriteAnywhere failed m answer old new

  -- `flush` answered so
  pub record FlushWent (answer : Result (Unit {0}) FolderError) (old new : RollingFileAppender D) : Type 0 where
    pub gives : Gives (λ c. flushed c old.current) (contents old.folder) answer (contents new.folder)
    pub fed : IfErr answer (λ e. e ≢ OutOfMemory)
    pub still : new ≡ record old { folder = new.folder }
    pub counted : failed new.folder ≡ failures_after (failed old.folder) answer
    pub state : (p : PrunedSink) → AgreesSink contents old p → AgreesSink contents new p

-- the file is the one before, the end of its period did not move, and names and limits are the same
pub record KeepsFile {D : Type 0} (old new : RollingFileAppender D) : Type 0 where
  pub boundary_same : new.boundary ≡ old.boundary
  pub current_same : new.current ≡ old.current
  pub names_same : builder_names new.builder ≡ builder_names old.builder

-- at that moment the period of the file is not over
abbrev pub IsInPeriod : {D : Type 0} → Moment → RollingFileAppender D → Type 0
IsInPeriod m a = is_due a.boundary m.seconds ≡ false
