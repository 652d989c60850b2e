-- When a fault is told or counted: only where the folder's count rose, or a write of some bytes took none.
use Rattle.std.specs.Prelude.{◌≡◌, ℕ, zero, suc, ◌+◌, ◌-◌, ◌^◌, ◌<◌, ◌≤◌, min, ◌⊎◌, Result, Ok, Err}
use Rattle.tracing_appender_rolling.specs.declared.faults.Faults.{Faults}
use Rattle.tracing_appender_rolling.specs.declared.folders.fault.FolderError.{FolderError}
use Rattle.tracing_appender_rolling.specs.declared.folders.fault.FolderError.TheVariants.{Fault, OutOfMemory}
use Rattle.tracing_appender_rolling.specs.declared.folders.fault.FolderFault.{FolderFault}
use Rattle.tracing_appender_rolling.specs.declared.folders.fault.FolderFault.TheVariants.{WriteZero}
use Rattle.tracing_appender_rolling.specs.declared.init.InitFailure.{InitFailure}

-- a folder's count doesn't fall, unless it stands at the greatest number
abbrev pub DoesNotFall : ℕ → ℕ → Type 0
DoesNotFall n m = min n (2 ^ 64 - 1) ≤ m

-- a folder's count rose, or stands at the greatest number
abbrev pub Rises : ℕ → ℕ → Type 0
Rises n m = min (n + 1) (2 ^ 64 - 1) ≤ m

abbrev pub ReportsError : ℕ → FolderError → ℕ → Type 0
ReportsError n (Fault fault) m = Rises n m
ReportsError n OutOfMemory m = DoesNotFall n m

-- an answer of a try
abbrev pub ReportsTry : {T : Type 0} → ℕ → Result T InitFailure → ℕ → Type 0
ReportsTry n (Ok value) m = DoesNotFall n m
ReportsTry n (Err f) m = ReportsError n f.error m

-- a count rose by so many, or stands at the greatest number
abbrev pub RoseBy : ℕ → ℕ → ℕ → Type 0
RoseBy more old new = (new ≤ old + more) × (min (old + more) (2 ^ 64 - 1) ≤ new)

-- So many openings failed, and so many listings and removals: the sink's counts rose by these, and the folder's by at least as many in all.
pub record CountsFaults (switches retentions n : ℕ) (old new : Faults) (m : ℕ) : Type 0 where
  pub switches_rose : RoseBy switches old.switches new.switches
  pub retentions_rose : RoseBy retentions old.retentions new.retentions
  pub writes_stay : new.writes ≡ old.writes
  pub none_changed : switches + retentions ≡ 0 → new ≡ old
  pub folder_rose : min (n + (switches + retentions)) (2 ^ 64 - 1) ≤ m

-- some listings and removals failed
abbrev pub CountsRetention : ℕ → Faults → Faults → ℕ → Type 0
CountsRetention n old new m = (retentions : ℕ) × CountsFaults 0 retentions n old new m

-- a folder's count after so many faults more
abbrev pub failed_more : ℕ → ℕ → ℕ
failed_more zero n = n
failed_more (suc k) n = failed_more k (min (n + 1) (2 ^ 64 - 1))

-- the same where the folder told no other faults than these
abbrev pub CountsOnly : ℕ → Faults → Faults → ℕ → Type 0
CountsOnly n old new m = (retentions : ℕ) × CountsFaults 0 retentions n old new m × (m ≡ failed_more retentions n)

-- the listing didn't find its directory: the folder told that fault alone, nothing is counted, and retention is done
abbrev pub FindsNoDirectory : {E : Type 0} → ℕ → Faults → Result (Unit {0}) E → Faults → ℕ → Type 0
FindsNoDirectory n old (Ok done) new m = (new ≡ old) × (m ≡ min (n + 1) (2 ^ 64 - 1))
FindsNoDirectory n old (Err e) new m = ⊥

-- retention counted all faults that the folder told, or its listing didn't find its directory
abbrev pub CountsPruning : {E : Type 0} → ℕ → Faults → Result (Unit {0}) E → Faults → ℕ → Type 0
CountsPruning n old result new m = CountsOnly n old new m ⊎ FindsNoDirectory n old result new m

-- an answer of one write of the folder
abbrev pub ReportsCall : {T : Type 0} → ℕ → Result T FolderError → ℕ → Type 0
ReportsCall n (Ok value) m = DoesNotFall n m
ReportsCall n (Err e) m = ReportsError n e m

-- a fault of writes of so many bytes: the folder told it, or a write of some bytes took none
abbrev pub ReportsFault : ℕ → FolderFault → ℕ → ℕ → Type 0
ReportsFault n fault len m = Rises n m ⊎ ((fault ≡ WriteZero) × (0 < len))

-- an answer of writes of so many bytes
abbrev pub ReportsWrites : {T : Type 0} → ℕ → Result T FolderError → ℕ → ℕ → Type 0
ReportsWrites n (Ok value) len m = DoesNotFall n m
ReportsWrites n (Err OutOfMemory) len m = DoesNotFall n m
ReportsWrites n (Err (Fault fault)) len m = DoesNotFall n m × ReportsFault n fault len m

-- the same where the folder was asked for nothing else: its count is as it was, or one more for the fault that it told last
abbrev pub ReportsLast : ℕ → FolderFault → ℕ → ℕ → Type 0
ReportsLast n fault len m = (m ≡ min (n + 1) (2 ^ 64 - 1)) ⊎ ((m ≡ n) × (fault ≡ WriteZero) × (0 < len))

abbrev pub ReportsAll : {T : Type 0} → ℕ → Result T FolderError → ℕ → ℕ → Type 0
ReportsAll n (Ok value) len m = m ≡ n
ReportsAll n (Err OutOfMemory) len m = m ≡ n
ReportsAll n (Err (Fault fault)) len m = ReportsLast n fault len m
