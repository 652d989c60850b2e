-- What the files of a folder hold after lines of which none was dropped.
use Rattle.std.specs.Prelude.{◌≡◌, ℕ, true, false, List, Option, Some}
use Rattle.tracing_core_moments.specs.declared.at.At.{At}
use Rattle.tracing_core_moments.specs.declared.moment.Moment.{Moment}
use Rattle.tracing_core_moments.specs.Moments.{is_moment}
use Rattle.tracing_appender_rolling.specs.folders.Contents.{Contents, bytes_at}
use Rattle.tracing_appender_rolling.specs.Sinks.{period_in, period_name, period_text}
use Rattle.tracing_appender_rolling.specs.PrunedSinks.{PrunedSink, AgreesSink, pruned_text}
use Rattle.span_tracing_outputs.specs.OutputMachines.{PlainLine}
use Rattle.span_tracing_outputs.specs.declared.sinks.sink.RollingSink.{RollingSink}
use Rattle.span_tracing_outputs.specs.sinks.Runs.{TakesRun}
use Rattle.span_tracing_outputs.specs.sinks.Takes.{TakesLine}
use Rattle.span_tracing_outputs.specs.sinks.Fates.{LeftBy, NoneDropped}

-- each file that retention left holds what its opening found and then, in order, the lines whose running moment lies in its period, and no
-- other file has changed
pub record LinesStand (last : PrunedSink) (c : Contents) : Type 0 where
  pub files : (name : List ℕ) → bytes_at c.files name ≡ pruned_text last name
  pub periods : (m : Moment) → is_moment m ≡ true → last.gone (period_name last.sink (period_in last.sink m)) ≡ false →
      bytes_at c.files (period_name last.sink (period_in last.sink m)) ≡ period_text last.sink (period_in last.sink m)
      (last.sink.found (period_name last.sink (period_in last.sink m)))

module _ {D : Type 0} (contents : D → Option Contents) (failed : D → ℕ) where
  -- exactly these lines stand in the files
  abbrev pub LinesStandInFiles : Type 0
  LinesStandInFiles = (lines : List (At × PlainLine)) (old new : RollingSink D) → TakesRun (TakesLine contents failed) lines old new →
      NoneDropped old new →
      (p : PrunedSink) → AgreesSink contents old.appender p → (c : Contents) → contents new.appender.folder ≡ Some c →
      (led : LeftBy contents lines p old.appender new.appender) × LinesStand led.last c
