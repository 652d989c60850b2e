-- A look at a moment, whatever the folder refuses.
use Rattle.std.specs.Prelude.{◌≡◌, ◌⊎◌, ℤ, ◌<ℤ◌, List, ℕ, Bool, true, false, Option, Some, None, Result, Ok, Err}
use Rattle.tracing_core_moments.specs.declared.period.PeriodKind.{PeriodKind}
use Rattle.tracing_core_moments.specs.Periods.{period_of}
use Rattle.tracing_core_moments.specs.declared.moment.Moment.{Moment}
use Rattle.tracing_appender_rolling.specs.declared.faults.Faults.{Faults}
use Rattle.tracing_appender_rolling.specs.declared.folders.fault.FileNumber.{FileNumber}
use Rattle.tracing_appender_rolling.specs.declared.folders.fault.FolderError.{FolderError}
use Rattle.tracing_appender_rolling.specs.declared.folders.fault.FolderError.TheVariants.{Fault, OutOfMemory}
use Rattle.tracing_core_moments.specs.Moments.{period_at, end_of, is_due}
use Rattle.tracing_appender_rolling.specs.Names.{FileNames, file_name}
use Rattle.tracing_appender_rolling.specs.folders.Contents.{Contents, closed}
use Rattle.tracing_appender_rolling.specs.Faults.{after_switch}
use Rattle.tracing_appender_rolling.specs.RetentionRemovals.{pruned, Unpruned}
use Rattle.tracing_appender_rolling.specs.Tries.{Tried, MissedFile, opened_linked}

-- an appender over a folder whose contents are known
pub record Held : Type 0 where
  pub boundary : Option ℤ
  pub current : FileNumber
  pub faults : Faults
  pub contents : Contents

-- what is kept stands for this one
pub record IsHeld (known : Option Contents) (end : Option ℤ) (file : FileNumber) (lost : Faults) (h : Held) : Type 0 where
  pub folder : known ≡ Some h.contents
  pub until : end ≡ h.boundary
  pub open_file : file ≡ h.current
  pub counts : lost ≡ h.faults

-- the end of the moment's period
abbrev pub end_at : FileNames → Moment → Option ℤ
end_at names m = end_of names.kind (period_at names.kind m)

-- a second is at or past the end of another's period exactly where its own period is a later one
abbrev pub LaterPeriodsAreDue : Type 0
LaterPeriodsAreDue = (kind : PeriodKind) (r s : ℤ) →
    (is_due (end_of kind (period_of kind r)) s ≡ true → period_of kind r <ℤ period_of kind s)
    × (period_of kind r <ℤ period_of kind s → is_due (end_of kind (period_of kind r)) s ≡ true)

-- the name of the moment's file, where it is the first that is opened or there is more than one period
abbrev pub name_at : FileNames → Moment → List ℕ
name_at names m = file_name names m.seconds (period_at names.kind m)

-- the try at the moment's period
abbrev pub try_at : FileNames → Moment → Contents → Tried
try_at names m c = opened_linked names.latest (name_at names m) c

-- a try that failed is counted, and the old file stays
abbrev pub failed_by : Held → Contents → FolderError → Held
failed_by h c (Fault fault) = record h { faults = after_switch h.faults fault; contents = c }
failed_by h c OutOfMemory = record h { contents = c }

-- a try that succeeded closes the old file, whatever that answers
abbrev pub tried : Held → Tried → Held
tried h (Ok file, c) = record h { current = file; contents = (closed c h.current).1 }
tried h (Err f, c) = failed_by h c f.error

-- after retention the moment's period is tried, and is the last one that was
abbrev pub after_pruning : FileNames → Moment → Held → Faults × Contents → Held
after_pruning names m h at = tried (record { boundary = end_at names m; current = h.current; faults = at.0; contents = at.1 })
    (try_at names m at.1)

abbrev pub switch_at : FileNames → Moment → Held → Held
switch_at names m h = after_pruning names m h (pruned names h.faults h.contents)

-- what a look leaves where memory is found: from the boundary on the moment's period is tried, and before it nothing changes
abbrev pub look_if : Bool → FileNames → Moment → Held → Held
look_if true names m h = switch_at names m h
look_if false names m h = h

abbrev pub look_at : FileNames → Moment → Held → Held
look_at names m h = look_if (is_due h.boundary m.seconds) names m h

-- retention came to its end, with its faults counted, and then the try found no memory
abbrev pub StarvedTry : FileNames → Moment → Faults → Contents → Faults → Option Contents → Type 0
StarvedTry names m f c left after = (left ≡ (pruned names f c).0) × MissedFile names.latest (name_at names m) (pruned names f c).1 after

-- what is left where there was no memory: the name found none, and the folder wasn't asked; or retention, or the try
abbrev pub Starved : FileNames → Moment → Faults → Contents → Faults → Option Contents → Type 0
Starved names m f c left after = ((left ≡ f) × (after ≡ Some c)) ⊎ (Unpruned names f c left after ⊎ StarvedTry names m f c left after)

-- the switch left the one or the other
abbrev pub SwitchedKnown : {E : Type 0} → FileNames → Moment → Held → Result (Unit {0}) E → Option ℤ → FileNumber → Faults →
    Option Contents → Type 0
SwitchedKnown names m h (Ok done) boundary current faults after = IsHeld after boundary current faults (switch_at names m h)
SwitchedKnown names m h (Err e) boundary current faults after = Starved names m h.faults h.contents faults after

-- contents that aren't known stay so
abbrev pub Switches : {E : Type 0} → FileNames → Moment → Option ℤ → FileNumber → Faults → Option Contents → Result (Unit {0}) E →
    Option ℤ → FileNumber → Faults → Option Contents → Type 0
Switches names m boundary current faults None result b f l after = after ≡ None
Switches names m boundary current faults (Some c) result b f l after =
    SwitchedKnown names m (record { boundary = boundary; current = current; faults = faults; contents = c }) result b f l after

-- a look that found no memory: it was due, the end of the period has moved all the same, the file is the one before, and what was lost
-- until then is counted
pub record LookMissed (names : FileNames) (m : Moment) (h : Held) (boundary : Option ℤ) (current : FileNumber) (faults : Faults)
    (after : Option Contents) : Type 0 where
  pub due : is_due h.boundary m.seconds ≡ true
  pub until : boundary ≡ end_at names m
  pub open_file : current ≡ h.current
  pub left : Starved names m h.faults h.contents faults after
