-- A line that is handed over at a moment: a look, then writes.
use Rattle.std.specs.Prelude.{◌≡◌, ℕ, ℤ, Bool, true, false, List, ◌⊎◌, Option, Some, Result, Ok, Err}
use Rattle.tracing_core_moments.specs.declared.moment.Moment.{Moment}
use Rattle.tracing_appender_rolling.specs.declared.faults.Faults.{Faults}
use Rattle.tracing_appender_rolling.specs.declared.folders.fault.FileNumber.{FileNumber}
use Rattle.tracing_appender_rolling.specs.declared.folders.fault.FolderError.{FolderError}
use Rattle.tracing_appender_rolling.specs.declared.folders.fault.FolderError.TheVariants.{Fault, OutOfMemory}
use Rattle.tracing_appender_rolling.specs.declared.appender.RollingFileAppender.{RollingFileAppender}
use Rattle.tracing_appender_rolling.specs.Names.{FileNames}
use Rattle.tracing_appender_rolling.specs.folders.Contents.{Contents, called, written}
use Rattle.tracing_appender_rolling.specs.Faults.{after_write, unit_of}
use Rattle.tracing_appender_rolling.specs.Looks.{Held, IsHeld, look_at, LookMissed}
use Rattle.tracing_appender_rolling.specs.Writes.{WritesAll}

-- behind a look that led there, writes answered so and left that
pub record HandedOver (seen : Held) (bytes : List ℕ) (result : Result (Unit {0}) FolderError) (boundary : Option ℤ) (current : FileNumber)
    (faults : Faults) (after : Option Contents) : Type 0 where
  pub boundary_same : boundary ≡ seen.boundary
  pub current_same : current ≡ seen.current
  pub counted : faults ≡ after_write seen.faults result
  pub writes : WritesAll (Some seen.contents) seen.current bytes result after

-- where there was no memory the look found none, or a write behind it
abbrev pub HandsTo : FileNames → Moment → Held → List ℕ → Result (Unit {0}) FolderError → Option ℤ → FileNumber → Faults → Option Contents →
    Type 0
HandsTo names m h bytes (Ok done) boundary current faults after = HandedOver (look_at names m h) bytes (Ok done) boundary current faults
    after
HandsTo names m h bytes (Err (Fault fault)) boundary current faults after = HandedOver (look_at names m h) bytes (Err (Fault fault))
    boundary current faults after
HandsTo names m h bytes (Err OutOfMemory) boundary current faults after =
    LookMissed names m h boundary current faults after ⊎ HandedOver (look_at names m h) bytes (Err OutOfMemory) boundary current faults
    after

abbrev pub HandsLine : {D : Type 0} → (D → Option Contents) → FileNames → Moment → Held → List ℕ → Result (Unit {0}) FolderError →
    RollingFileAppender D → Type 0
HandsLine contents names m h bytes result a = HandsTo names m h bytes result a.boundary a.current a.faults (contents a.folder)

-- whether an answer is out of memory
abbrev pub is_starved : Result (Unit {0}) FolderError → Bool
is_starved (Ok done) = false
is_starved (Err (Fault fault)) = false
is_starved (Err OutOfMemory) = true

-- from one state the same bytes at one moment have one answer and one end, where no memory is refused
abbrev pub LinesHaveOneEnd : Type 0
LinesHaveOneEnd = (names : FileNames) (m : Moment) (h one two : Held) (bytes : List ℕ) (r s : Result (Unit {0}) FolderError) →
    is_starved r ≡ false → is_starved s ≡ false →
    HandsTo names m h bytes r one.boundary one.current one.faults (Some one.contents) →
    HandsTo names m h bytes s two.boundary two.current two.faults (Some two.contents) →
    (r ≡ s) × (one ≡ two)

-- behind a look that led there, one write of the folder answered so and left that
pub record WrittenOnce (seen : Held) (bytes : List ℕ) (result : Result ℕ FolderError) (boundary : Option ℤ) (current : FileNumber)
    (faults : Faults) (after : Option Contents) : Type 0 where
  pub boundary_same : boundary ≡ seen.boundary
  pub current_same : current ≡ seen.current
  pub counted : faults ≡ after_write seen.faults (unit_of result)
  pub answered : (written seen.contents seen.current bytes).0 ≡ result
  pub left : after ≡ Some (written seen.contents seen.current bytes).1

-- or it found no memory
abbrev pub WriteMissed : Held → Option ℤ → FileNumber → Faults → Option Contents → Type 0
WriteMissed seen boundary current faults after = IsHeld after boundary current faults (record seen { contents = called seen.contents })

abbrev pub WritesOnce : {D : Type 0} → (D → Option Contents) → FileNames → Moment → Held → List ℕ → Result ℕ FolderError →
    RollingFileAppender D → Type 0
WritesOnce contents names m h bytes (Ok n) a = WrittenOnce (look_at names m h) bytes (Ok n) a.boundary a.current a.faults
    (contents a.folder)
WritesOnce contents names m h bytes (Err (Fault fault)) a = WrittenOnce (look_at names m h) bytes (Err (Fault fault)) a.boundary a.current
    a.faults (contents a.folder)
WritesOnce contents names m h bytes (Err OutOfMemory) a =
    LookMissed names m h a.boundary a.current a.faults (contents a.folder) ⊎ WriteMissed (look_at names m h) a.boundary a.current a.faults
    (contents a.folder)
