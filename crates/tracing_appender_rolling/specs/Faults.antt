-- How faults are counted; a count stops at the greatest number.
use Rattle.std.specs.Prelude.{ℕ, ◌+◌, ◌-◌, ◌^◌, List, codes, min, Some, None, Result, Ok, Err}
use Rattle.tracing_appender_rolling.specs.declared.faults.Faults.{Faults}
use Rattle.tracing_appender_rolling.specs.declared.folders.fault.FolderFault.{FolderFault}
use Rattle.tracing_appender_rolling.specs.declared.folders.fault.FolderFault.TheVariants.{Refused, NotFound, Unsupported, WriteZero}
use Rattle.tracing_appender_rolling.specs.declared.folders.fault.FolderError.{FolderError}
use Rattle.tracing_appender_rolling.specs.declared.folders.fault.FolderError.TheVariants.{Fault, OutOfMemory}

-- what a fault is displayed as
abbrev pub fault_text : FolderFault → List ℕ
fault_text Refused = codes "refused"
fault_text NotFound = codes "not found"
fault_text Unsupported = codes "unsupported"
fault_text WriteZero = codes "write took no bytes"

abbrev pub no_faults : Faults
no_faults = record { switches = 0; retentions = 0; writes = 0; last = None }

-- an opening failed
abbrev pub after_switch : Faults → FolderFault → Faults
after_switch f fault = record f { switches = min (f.switches + 1) (2 ^ 64 - 1); last = Some fault }

-- a removal failed, or a listing for another reason than that the directory is not there
abbrev pub after_retention : Faults → FolderFault → Faults
after_retention f fault = record f { retentions = min (f.retentions + 1) (2 ^ 64 - 1); last = Some fault }

-- A listing was refused. A directory that isn't there yet is no fault: the opening makes it.
abbrev pub after_listing : Faults → FolderFault → Faults
after_listing f NotFound = f
after_listing f Refused = after_retention f Refused
after_listing f Unsupported = after_retention f Unsupported
after_listing f WriteZero = after_retention f WriteZero

-- a write answered; out of memory is no fault
abbrev pub after_write : Faults → Result (Unit {0}) FolderError → Faults
after_write f (Ok done) = f
after_write f (Err OutOfMemory) = f
after_write f (Err (Fault fault)) = record f { writes = min (f.writes + 1) (2 ^ 64 - 1); last = Some fault }

-- an answer without its value
abbrev pub unit_of : {T : Type 0} → Result T FolderError → Result (Unit {0}) FolderError
unit_of (Ok value) = Ok tt
unit_of (Err e) = Err e

-- lines were lost before any folder was asked, so the last fault stays
abbrev pub with_lost_writes : Faults → ℕ → Faults
with_lost_writes f lines = record f { writes = min (f.writes + lines) (2 ^ 64 - 1) }
