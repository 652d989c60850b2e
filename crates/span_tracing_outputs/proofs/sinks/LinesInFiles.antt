-- Files after lines of which none was dropped.
use Rattle.std.proofs.Common.{◌≡◌, ◌∙◌, ℕ, Option, Some, subst}
use Rattle.tracing_appender_rolling.specs.folders.Contents.{Contents}
use Rattle.tracing_appender_rolling.specs.Builders.{builder_names}
use Rattle.tracing_appender_rolling.specs.Sinks.{period_in, period_name}
use Rattle.tracing_appender_rolling.specs.PrunedSinks.{AgreesSink, KeptIn, MatchesSink, PrunedSink}
use Rattle.tracing_appender_rolling.specs.declared.appender.RollingFileAppender.{RollingFileAppender}
use Rattle.tracing_appender_rolling.proofs.FaultlessSwitch.{files_by_period}
use Rattle.span_tracing_outputs.specs.sinks.Fates.{LeftBy}
use Rattle.span_tracing_outputs.specs.sinks.LinesInFiles.{LinesStand, LinesStandInFiles}
use Rattle.span_tracing_outputs.proofs.sinks.Fates.{lines_reach}

-- the files of a sink with which an appender agrees
pub stands : {D : Type 0} (contents : D → Option Contents) (q : PrunedSink) (a : RollingFileAppender D) (c : Contents) →
    AgreesSink contents a q → contents a.folder ≡ Some c → LinesStand q c
stands contents q a c agrees is =
    let all : MatchesSink c (builder_names a.builder) a.boundary a.current q =
    subst (λ (o : Option Contents). KeptIn o (builder_names a.builder) a.boundary a.current q) is agrees in
    record {
      files = all.files;
      periods = λ m is_m stands. all.files (period_name q.sink (period_in q.sink m)) ∙
          files_by_period q m is_m all.opened_moment all.handed_moments stands;
    }

module _ {D : Type 0} (contents : D → Option Contents) (failed : D → ℕ) where
  pub lines_stand : LinesStandInFiles contents failed
  lines_stand lines old new run none p agrees c is =
      let led : LeftBy contents lines p old.appender new.appender = (lines_reach contents failed lines old new run none).1 p agrees in
      (led, stands contents led.last new.appender c led.agrees is)
