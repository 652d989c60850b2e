-- What a sink over a rolling file makes of a line.
use Rattle.std.specs.Prelude.{◌≡◌, ◌+◌, ℕ, min, Bool, true, false, List, length, Option, Some, Result}
use Rattle.tracing_core_moments.specs.declared.at.At.{At}
use Rattle.tracing_core_moments.specs.declared.moment.Moment.{Moment}
use Rattle.tracing_core_moments.specs.Moments.{is_moment}
use Rattle.tracing_appender_rolling.specs.declared.folders.fault.FolderError.{FolderError}
use Rattle.tracing_appender_rolling.specs.folders.Contents.{Contents}
use Rattle.tracing_appender_rolling.specs.Builders.{builder_names}
use Rattle.tracing_appender_rolling.specs.FaultReports.{ReportsWrites}
use Rattle.tracing_appender_rolling.specs.Looks.{Held}
use Rattle.tracing_appender_rolling.specs.Appenders.{Holds}
use Rattle.tracing_appender_rolling.specs.LineHandover.{HandsLine, is_starved}
use Rattle.tracing_appender_rolling.specs.AnyFolder.{LineAnywhere}
use Rattle.tracing_appender_rolling.specs.PrunedSinks.{PrunedSink, AgreesSink, LeavesSink}
use Rattle.span_tracing_outputs.specs.OutputMachines.{PlainLine}
use Rattle.span_tracing_outputs.specs.declared.sinks.sink.RollingSink.{RollingSink}

abbrev pub moment_of : At → Moment
moment_of at = record { seconds = at.seconds; nanoseconds = at.nanoseconds }

-- a dropped line is counted, up to the greatest count
abbrev pub dropped_after : Bool → ℕ → ℕ
dropped_after true count = min (count + 1) 18446744073709551615
dropped_after false count = count

module _ {D : Type 0} (contents : D → Option Contents) (failed : D → ℕ) where
  -- the appender wrote a line once, and answered so; each field but the last is what the appender promises of its `write_all_at`, and a
  -- line that found no
  -- memory is counted
  pub record TookLine (m : Moment) (bytes : List ℕ) (old new : RollingSink D) : Type 0 where
    pub result : Result (Unit {0}) FolderError
    pub handed : (h : Held) → Holds contents old.appender h → HandsLine contents (builder_names old.appender.builder) m h bytes result
        new.appender
    pub state : (c : Contents) (p : PrunedSink) → contents old.appender.folder ≡ Some c → AgreesSink contents old.appender p →
        LeavesSink contents p (λ done. bytes) m c old.appender result new.appender
    pub names : builder_names new.appender.builder ≡ builder_names old.appender.builder
    pub error : ReportsWrites (failed old.appender.folder) result (length bytes) (failed new.appender.folder)
    pub anywhere : LineAnywhere failed m (length bytes) result old.appender new.appender
    pub counted : new.dropped ≡ dropped_after (is_starved result) old.dropped

  -- a line whose moment is out of range is dropped, and nothing is written
  abbrev pub TakesIf : Bool → Moment → List ℕ → RollingSink D → RollingSink D → Type 0
  TakesIf true m bytes old new = TookLine m bytes old new
  TakesIf false m bytes old new = new ≡ record old { dropped = dropped_after true old.dropped }

  abbrev pub TakesLine : RollingSink D → At → PlainLine → RollingSink D → Type 0
  TakesLine old at line new = TakesIf (is_moment (moment_of at)) (moment_of at) line.bytes old new
