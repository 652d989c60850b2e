-- What a building answers.
use Rattle.std.specs.Prelude.{◌≡◌, ◌⊎◌, ℕ, List, true, false, Option, Some, Result, Ok, Err}
use Rattle.tracing_core_moments.specs.declared.moment.Moment.{Moment}
use Rattle.tracing_core_moments.specs.declared.period.PeriodKind.{PeriodKind}
use Rattle.tracing_appender_rolling.specs.declared.folders.fault.FolderError.{FolderError}
use Rattle.tracing_appender_rolling.specs.declared.folders.fault.FolderError.TheVariants.{Fault}
use Rattle.tracing_appender_rolling.specs.declared.folders.fault.FolderError.TheVariants as errors
use Rattle.tracing_appender_rolling.specs.declared.init.InitContext.{InitContext}
use Rattle.tracing_appender_rolling.specs.declared.init.InitError.{InitError}
use Rattle.tracing_appender_rolling.specs.declared.builder.Builder.{Builder}
use Rattle.tracing_appender_rolling.specs.declared.build.BuildError.{BuildError}
use Rattle.tracing_appender_rolling.specs.declared.build.BuildError.TheVariants.{BadName, BadLinkName, Init, OutOfMemory}
use Rattle.tracing_appender_rolling.specs.declared.build.BuildRefusal.{BuildRefusal}
use Rattle.tracing_appender_rolling.specs.declared.appender.RollingFileAppender.{RollingFileAppender}
use Rattle.tracing_appender_rolling.specs.Names.{FileNames, is_bad_name, HasBadLink, HasGoodLink}
use Rattle.tracing_appender_rolling.specs.Builders.{builder_names, prefixed_names}
use Rattle.tracing_appender_rolling.specs.folders.Contents.{Contents}
use Rattle.tracing_appender_rolling.specs.PrunedSinks.{KeepsEveryFile, MayOpen, HandsBack, OpensSink}
use Rattle.tracing_appender_rolling.specs.declared.faults.Faults.{Faults}
use Rattle.tracing_appender_rolling.specs.Faults.{no_faults}
use Rattle.tracing_appender_rolling.specs.FaultReports.{DoesNotFall, Rises, CountsRetention}
use Rattle.tracing_appender_rolling.specs.Looks.{Starved}
use Rattle.tracing_appender_rolling.specs.Appenders.{IsOpened, FailedAt}

abbrev pub build_error : InitContext → FolderError → BuildError
build_error context (Fault fault) = Init (record { context = context; source = fault })
build_error context errors.OutOfMemory = OutOfMemory

-- names are good, the appender stands where retention and the try at the moment left the folder, and it keeps its sink where the folder
-- allows that
pub record IsBuilt {D : Type 0} (contents : D → Option Contents) (failed : D → ℕ) (names : FileNames) (folder : D) (m : Moment)
    (a : RollingFileAppender D) : Type 0 where
  pub good_name : is_bad_name names ≡ false
  pub good_link : HasGoodLink names
  pub names_same : builder_names a.builder ≡ names
  pub opened : (c : Contents) → contents folder ≡ Some c → IsOpened contents names m c a
  pub sink : (c : Contents) → contents folder ≡ Some c → MayOpen c names → OpensSink contents names m c a
  pub counted : CountsRetention (failed folder) no_faults a.faults (failed a.folder)

-- there was no memory: what the folder has then, which is the same bytes under each name where it refuses nothing and the sink keeps all
-- files
pub record IsStarved {D : Type 0} (contents : D → Option Contents) (names : FileNames) (folder : D) (m : Moment) (back : D) : Type 0 where
  pub left : (c : Contents) → contents folder ≡ Some c → (counted : Faults) × Starved names m no_faults c counted (contents back)
  pub handed_back : (c : Contents) → contents folder ≡ Some c → MayOpen c names → KeepsEveryFile names → HandsBack c names (contents back)

-- a fault is that of the try, which fails over no folder that refuses nothing
pub record IsFailed {D : Type 0} (contents : D → Option Contents) (names : FileNames) (folder : D) (m : Moment) (e : InitError)
    (back : D) : Type 0 where
  pub failed : (c : Contents) → contents folder ≡ Some c → FailedAt names m c e.context (Fault e.source) (contents back)
  pub refused : (c : Contents) → contents folder ≡ Some c → MayOpen c names → ⊥

-- bad names are told before the folder is asked
abbrev pub Explains : {D : Type 0} → (D → Option Contents) → FileNames → D → Moment → BuildError → D → Type 0
Explains contents names folder m BadName back = (is_bad_name names ≡ true) × (back ≡ folder)
Explains contents names folder m BadLinkName back = (is_bad_name names ≡ false) × HasBadLink names × (back ≡ folder)
Explains contents names folder m (Init e) back = (is_bad_name names ≡ false) × HasGoodLink names × IsFailed contents names folder m e back
Explains contents names folder m OutOfMemory back = (is_bad_name names ≡ false) × HasGoodLink names × IsStarved contents names folder m back

-- a fault is told only where the folder's count rose, and names are told of a folder that was asked nothing
abbrev pub ReportsBuild : ℕ → BuildError → ℕ → Type 0
ReportsBuild n BadName m = m ≡ n
ReportsBuild n BadLinkName m = m ≡ n
ReportsBuild n (Init e) m = Rises n m
ReportsBuild n OutOfMemory m = DoesNotFall n m

pub record IsRefused {D : Type 0} (contents : D → Option Contents) (failed : D → ℕ) (names : FileNames) (folder : D) (m : Moment)
    (r : BuildRefusal D) : Type 0 where
  pub names_same : builder_names r.builder ≡ names
  pub explained : Explains contents names folder m r.error r.folder
  pub told : ReportsBuild (failed folder) r.error (failed r.folder)

abbrev pub Builds : {D : Type 0} → (D → Option Contents) → (D → ℕ) → FileNames → D → Moment →
    Result (RollingFileAppender D) (BuildRefusal D) → Type 0
Builds contents failed names folder m (Ok a) = IsBuilt contents failed names folder m a
Builds contents failed names folder m (Err r) = IsRefused contents failed names folder m r

-- out of memory is told, and the folder, which was asked nothing, comes back
abbrev pub MissesText : {D : Type 0} → D → Result (RollingFileAppender D) (BuildRefusal D) → Type 0
MissesText folder (Ok a) = ⊥
MissesText folder (Err r) = (r.error ≡ OutOfMemory) × (r.folder ≡ folder)

-- the builder is kept, or comes back
abbrev pub KeepsBuilder : {D : Type 0} → Builder → Result (RollingFileAppender D) (BuildRefusal D) → Type 0
KeepsBuilder builder (Ok a) = a.builder ≡ builder
KeepsBuilder builder (Err r) = r.builder ≡ builder

-- the same as a building with this prefix, or there was no memory for the prefix, and nothing was built
abbrev pub BuildsPrefixed : {D : Type 0} → (D → Option Contents) → (D → ℕ) → PeriodKind → List ℕ → D → Moment →
    Result (RollingFileAppender D) (BuildRefusal D) → Type 0
BuildsPrefixed contents failed kind prefix folder m (Ok a) = IsBuilt contents failed (prefixed_names kind prefix) folder m a
BuildsPrefixed contents failed kind prefix folder m (Err r) =
    IsRefused contents failed (prefixed_names kind prefix) folder m r ⊎ ((r.error ≡ OutOfMemory) × (r.folder ≡ folder))
