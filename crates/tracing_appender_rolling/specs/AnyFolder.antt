-- What a look and a line leave of the end of the period, of the file and of the counts over any folder, also one whose contents aren't
-- known.
use Rattle.std.specs.Prelude.{◌≡◌, ◌⊎◌, ℕ, ℤ, Bool, true, false, Option, Result}
use Rattle.tracing_core_moments.specs.declared.moment.Moment.{Moment}
use Rattle.tracing_appender_rolling.specs.declared.folders.fault.FileNumber.{FileNumber}
use Rattle.tracing_appender_rolling.specs.declared.folders.fault.FolderError.{FolderError}
use Rattle.tracing_core_moments.specs.Moments.{is_due}
use Rattle.tracing_appender_rolling.specs.folders.Contents.{failures_after}
use Rattle.tracing_appender_rolling.specs.declared.faults.Faults.{Faults}
use Rattle.tracing_appender_rolling.specs.declared.appender.RollingFileAppender.{RollingFileAppender}
use Rattle.tracing_appender_rolling.specs.Names.{FileNames}
use Rattle.tracing_appender_rolling.specs.Builders.{builder_names}
use Rattle.tracing_appender_rolling.specs.Faults.{after_write, unit_of}
use Rattle.tracing_appender_rolling.specs.Looks.{end_at}
use Rattle.tracing_appender_rolling.specs.FaultReports.{CountsFaults, ReportsAll}

-- A look that is due: the end of the period is that of the moment's, so many openings, listings and removals failed, and where an opening
-- failed the file is
-- the one before.
pub record Rolls (names : FileNames) (m : Moment) (n : ℕ) (current : FileNumber) (faults : Faults) (until : Option ℤ) (file : FileNumber)
    (left : Faults) (k : ℕ) : Type 0 where
  pub switches : ℕ
  pub retentions : ℕ
  pub counts : CountsFaults switches retentions n faults left k
  pub moved : until ≡ end_at names m
  pub failed_stays : (file ≡ current) ⊎ (switches ≡ 0)

-- before the end of the period a look changes nothing and asks nothing
abbrev pub Looks : Bool → FileNames → Moment → ℕ → Option ℤ → FileNumber → Faults → Option ℤ → FileNumber → Faults → ℕ → Type 0
Looks true names m n boundary current faults until file left k = Rolls names m n current faults until file left k
Looks false names m n boundary current faults until file left k = (until ≡ boundary) × (file ≡ current) × (left ≡ faults) × (k ≡ n)

abbrev pub RollsAt : {D : Type 0} → (D → ℕ) → Moment → RollingFileAppender D → RollingFileAppender D → Type 0
RollsAt failed m a b = Looks (is_due a.boundary m.seconds) (builder_names a.builder) m (failed a.folder) a.boundary a.current a.faults
    b.boundary b.current b.faults (failed b.folder)

-- what is seen of an appender over any folder: the end of the period, the file, the counts, and the folder's count
pub record Seen : Type 0 where
  pub boundary : Option ℤ
  pub current : FileNumber
  pub faults : Faults
  pub failures : ℕ

abbrev pub seen_of : {D : Type 0} → (D → ℕ) → RollingFileAppender D → Seen
seen_of failed a = record { boundary = a.boundary; current = a.current; faults = a.faults; failures = failed a.folder }

-- a look, and then writes of so many bytes answered so; where the look found no memory there were none
pub record LineAt (names : FileNames) (m : Moment) (len : ℕ) (result : Result (Unit {0}) FolderError) (s t : Seen) : Type 0 where
  pub faults : Faults
  pub failures : ℕ
  pub looked : Looks (is_due s.boundary m.seconds) names m s.failures s.boundary s.current s.faults t.boundary t.current faults failures
  pub counted : t.faults ≡ after_write faults result
  pub told : ReportsAll failures result len t.failures

abbrev pub LineAnywhere : {D : Type 0} → (D → ℕ) → Moment → ℕ → Result (Unit {0}) FolderError → RollingFileAppender D →
    RollingFileAppender D → Type 0
LineAnywhere failed m len result a b = LineAt (builder_names a.builder) m len result (seen_of failed a) (seen_of failed b)

-- the same with one write of the folder
pub record WriteAt (names : FileNames) (m : Moment) (result : Result ℕ FolderError) (s t : Seen) : Type 0 where
  pub faults : Faults
  pub failures : ℕ
  pub looked : Looks (is_due s.boundary m.seconds) names m s.failures s.boundary s.current s.faults t.boundary t.current faults failures
  pub counted : t.faults ≡ after_write faults (unit_of result)
  pub told : t.failures ≡ failures_after failures result

abbrev pub WriteAnywhere : {D : Type 0} → (D → ℕ) → Moment → Result ℕ FolderError → RollingFileAppender D → RollingFileAppender D → Type 0
WriteAnywhere failed m result a b = WriteAt (builder_names a.builder) m result (seen_of failed a) (seen_of failed b)
