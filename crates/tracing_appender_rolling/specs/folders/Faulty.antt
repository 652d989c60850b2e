-- A folder in memory that refuses the calls with some numbers with a fault, and cuts writes with some others short.
use Rattle.std.specs.Prelude.{◌≡◌, ℕ, ◌+◌, ◌-◌, ◌^◌, min, Bool, true, false, List, if◌then◌else◌, ◌==◌, Result, Err}
use Rattle.std.specs.Borrow.{MutBor}
use Rattle.std.specs.Fn.{Once, FnOnceReturnsAtMut}
use Rattle.std.specs.List.{list_any}
use Rattle.tracing_appender_rolling.specs.declared.folders.fault.FolderFault.{FolderFault}
use Rattle.tracing_appender_rolling.specs.declared.folders.fault.FolderError.{FolderError}
use Rattle.tracing_appender_rolling.specs.declared.folders.fault.FolderError.TheVariants.{Fault}
use Rattle.tracing_appender_rolling.specs.declared.folders.faulty.FaultyFolder.{FaultyFolder}
use Rattle.tracing_appender_rolling.specs.folders.Contents.{Contents, Outcome, Done, Refuses, Short}
use Rattle.tracing_appender_rolling.specs.declared.folders.memory.MemoryFolder.{MemoryFolder}
use Rattle.tracing_appender_rolling.specs.folders.Memory.{memory_contents}

abbrev pub has_number : List ℕ → ℕ → Bool
has_number numbers n = list_any (λ m. m == n) numbers

-- the numbers of the calls that are refused, with which fault, and those of the writes that take at most so many bytes
pub record Plan : Type 0 where
  pub refused : List ℕ
  pub fault : FolderFault
  pub short : List ℕ
  pub most : ℕ

-- what becomes of the call with this number
abbrev pub outcome_of : Plan → ℕ → Outcome
outcome_of plan n = if has_number plan.refused n then Refuses plan.fault else (if has_number plan.short n then Short plan.most else Done)

-- the number of a coming call; calls are numbered from 1, and the counter stops at the greatest
abbrev pub number_after : ℕ → ℕ → ℕ
number_after calls n = min (calls + n + 1) (2 ^ 64 - 1)

-- these files and links, where so many calls were made and coming ones have the next numbers
abbrev pub under_plan : Contents → Plan → ℕ → Contents
under_plan c plan calls = record c { coming = λ n. outcome_of plan (number_after calls n) }

abbrev pub plan_of : FaultyFolder → Plan
plan_of f = record { refused = f.refused.items; fault = f.fault; short = f.short.items; most = f.most }

abbrev pub faulty_contents : FaultyFolder → Contents
faulty_contents f = under_plan (memory_contents f.inner) (plan_of f) f.calls

-- the next call is refused by the plan, or f is called on the folder in memory; then the call is behind
pub record Made {F T : Type 0} (g : Once F (MutBor MemoryFolder × Unit {0}) (Result T FolderError × (MutBor MemoryFolder × Unit {0})))
    (f : F) (old : FaultyFolder) (result : Result T FolderError) (new : FaultyFolder) : Type 0 where
  pub refused : has_number old.refused.items (number_after old.calls 0) ≡ true → (result ≡ Err (Fault old.fault)) × (new.inner ≡ old.inner)
  pub called : has_number old.refused.items (number_after old.calls 0) ≡ false → FnOnceReturnsAtMut g f old.inner result new.inner
  pub later : faulty_contents new ≡ under_plan (memory_contents new.inner) (plan_of old) (number_after old.calls 0)
