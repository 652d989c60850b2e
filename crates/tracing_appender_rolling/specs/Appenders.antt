-- What an appender stands for, and what its building leaves, whatever the folder refuses.
use Rattle.std.specs.Prelude.{◌≡◌, ℤ, Option, Some, None, Result, Ok, Err}
use Rattle.tracing_core_moments.specs.declared.moment.Moment.{Moment}
use Rattle.tracing_appender_rolling.specs.declared.folders.fault.FileNumber.{FileNumber}
use Rattle.tracing_appender_rolling.specs.declared.folders.fault.FolderError.{FolderError}
use Rattle.tracing_appender_rolling.specs.declared.folders.fault.FolderError.TheVariants.{Fault, OutOfMemory}
use Rattle.tracing_appender_rolling.specs.declared.folders.fault.FolderFault.{FolderFault}
use Rattle.tracing_appender_rolling.specs.declared.init.InitContext.{InitContext}
use Rattle.tracing_appender_rolling.specs.declared.faults.Faults.{Faults}
use Rattle.tracing_appender_rolling.specs.declared.init.InitFailure.{InitFailure}
use Rattle.tracing_appender_rolling.specs.declared.appender.Opened.{Opened}
use Rattle.tracing_appender_rolling.specs.declared.appender.RollingFileAppender.{RollingFileAppender}
use Rattle.tracing_appender_rolling.specs.Names.{FileNames}
use Rattle.tracing_appender_rolling.specs.folders.Contents.{Contents}
use Rattle.tracing_appender_rolling.specs.Faults.{no_faults}
use Rattle.tracing_appender_rolling.specs.RetentionRemovals.{pruned}
use Rattle.tracing_appender_rolling.specs.Tries.{failure}
use Rattle.tracing_appender_rolling.specs.Looks.{Held, IsHeld, look_at, LookMissed, Starved, end_at, try_at}

-- the appender stands for this one
abbrev pub Holds : {D : Type 0} → (D → Option Contents) → RollingFileAppender D → Held → Type 0
Holds contents a h = IsHeld (contents a.folder) a.boundary a.current a.faults h

-- a look at that moment led there
abbrev pub LooksAt : {D : Type 0} → (D → Option Contents) → FileNames → Moment → Held → RollingFileAppender D → Type 0
LooksAt contents names m h a = IsHeld (contents a.folder) a.boundary a.current a.faults (look_at names m h)

-- a look at that moment found no memory
abbrev pub MissesAt : {D : Type 0} → (D → Option Contents) → FileNames → Moment → Held → RollingFileAppender D → Type 0
MissesAt contents names m h a = LookMissed names m h a.boundary a.current a.faults (contents a.folder)

-- the appender stands where retention and the try at that moment left the folder
pub record IsOpenedAt (names : FileNames) (m : Moment) (c : Contents) (current : FileNumber) (boundary : Option ℤ) (faults : Faults)
    (after : Option Contents) : Type 0 where
  pub counts : faults ≡ (pruned names no_faults c).0
  pub answered : (try_at names m (pruned names no_faults c).1).0 ≡ Ok current
  pub left : after ≡ Some (try_at names m (pruned names no_faults c).1).1
  pub until : boundary ≡ end_at names m

abbrev pub IsOpened : {D : Type 0} → (D → Option Contents) → FileNames → Moment → Contents → RollingFileAppender D → Type 0
IsOpened contents names m c a = IsOpenedAt names m c a.current a.boundary a.faults (contents a.folder)

-- the try at that moment failed so, and left the folder so
abbrev pub FailedTry : FileNames → Moment → Contents → InitContext → FolderFault → Option Contents → Type 0
FailedTry names m c context fault after =
    ((try_at names m (pruned names no_faults c).1).0 ≡ Err (failure context (Fault fault))) ×
    (after ≡ Some (try_at names m (pruned names no_faults c).1).1)

-- or there was no memory
abbrev pub FailedAt : FileNames → Moment → Contents → InitContext → FolderError → Option Contents → Type 0
FailedAt names m c context OutOfMemory after = (counted : Faults) × Starved names m no_faults c counted after
FailedAt names m c context (Fault fault) after = FailedTry names m c context fault after

abbrev pub BeginsKnown : FileNames → Moment → Contents → Result Opened InitFailure → Option Contents → Type 0
BeginsKnown names m c (Ok o) after = IsOpenedAt names m c o.file (end_at names m) o.faults after
BeginsKnown names m c (Err f) after = FailedAt names m c f.context f.error after

-- contents that aren't known stay so
abbrev pub Begins : FileNames → Moment → Option Contents → Result Opened InitFailure → Option Contents → Type 0
Begins names m None result after = after ≡ None
Begins names m (Some c) result after = BeginsKnown names m c result after
