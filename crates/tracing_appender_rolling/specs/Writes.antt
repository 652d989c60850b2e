-- Writes until all bytes are taken.
use Rattle.std.specs.Prelude.{◌≡◌, ◌<◌, ◌+◌, ◌-◌, ℕ, zero, suc, Bool, true, List, Option, Some, None, Result, Ok, Err, length, take}
use Rattle.tracing_appender_rolling.specs.declared.folders.fault.FolderError.{FolderError}
use Rattle.tracing_appender_rolling.specs.declared.folders.fault.FolderError.TheVariants.{Fault, OutOfMemory}
use Rattle.tracing_appender_rolling.specs.declared.folders.fault.FolderFault.TheVariants.{WriteZero}
use Rattle.tracing_appender_rolling.specs.declared.folders.fault.FileNumber.{FileNumber}
use Rattle.tracing_appender_rolling.specs.folders.Contents.{Contents, StoredFile, Outcome, Done, Refuses, Short, appended, taken, on_file}

-- these files, these directories or none, and links, open files and the last flush as before, after so many calls
pub record Left (c : Contents) (files : List StoredFile) (dirs : Bool) (calls : ℕ) (after : Option Contents) : Type 0 where
  pub contents : Contents
  pub is : after ≡ Some contents
  pub files_are : contents.files ≡ files
  pub links_stay : contents.links ≡ c.links
  pub open_stay : contents.open_files ≡ c.open_files
  pub dirs_are : contents.has_dirs ≡ dirs
  pub flush_stays : contents.last_flushed ≡ c.last_flushed
  pub comes : (n : ℕ) → contents.coming n ≡ c.coming (calls + n)

-- some calls changed nothing, unless they made the directories
pub record Unchanged (c : Contents) (after : Option Contents) : Type 0 where
  pub calls : ℕ
  pub dirs : Bool
  pub dirs_stay : c.has_dirs ≡ true → dirs ≡ true
  pub left : Left c c.files dirs calls after

-- the same after one call or more
abbrev pub Fruitless : Contents → Option Contents → Type 0
Fruitless c after = (u : Unchanged c after) × (0 < u.calls)

-- how many of so many bytes the first coming writes take, so many of them, where each is handed what those before it left
abbrev pub taken_by : Contents → ℕ → ℕ → ℕ
taken_by c zero len = 0
taken_by c (suc n) len = taken_by c n len + taken (c.coming n) (len - taken_by c n len)

-- the first coming writes, so many of them, take some bytes each, and of so many bytes that many in all
pub record Takes (c : Contents) (writes len all : ℕ) : Type 0 where
  pub some : (n : ℕ) → n < writes → 0 < taken (c.coming n) (len - taken_by c n len)
  pub sum : taken_by c writes len ≡ all

-- what a write of some bytes fails with: its refusal's fault, or a fault of its own where it takes none; out of memory may come at any
-- write
abbrev pub FailsWith : Outcome → FolderError → Type 0
FailsWith o OutOfMemory = Unit {0}
FailsWith (Refuses refusal) (Fault fault) = fault ≡ refusal
FailsWith (Short most) (Fault fault) = (most ≡ 0) × (fault ≡ WriteZero)
FailsWith Done (Fault fault) = ⊥

-- the folder as the calls on a file meet it
abbrev pub for_file : FileNumber → Contents → Contents
for_file file c = record c { coming = on_file file c }

-- the coming writes took all bytes, and these stand at the end of the file
pub record WroteAll (c : Contents) (file : FileNumber) (bytes : List ℕ) (after : Option Contents) : Type 0 where
  pub writes : ℕ
  pub left : Left c (appended c.files file.index bytes) c.has_dirs writes after
  pub takes : Takes (for_file file c) writes (length bytes) (length bytes)

-- a write failed, and what those before it took, which isn't all, stands at the end of the file
pub record WroteSome (c : Contents) (file : FileNumber) (bytes : List ℕ) (e : FolderError) (after : Option Contents) : Type 0 where
  pub writes : ℕ
  pub count : ℕ
  pub left : Left c (appended c.files file.index (take count bytes)) c.has_dirs (suc writes) after
  pub takes : Takes (for_file file c) writes (length bytes) count
  pub less : count < length bytes
  pub fails : FailsWith (on_file file c writes) e

abbrev pub Wrote : Contents → FileNumber → List ℕ → Result (Unit {0}) FolderError → Option Contents → Type 0
Wrote c file bytes (Ok done) after = WroteAll c file bytes after
Wrote c file bytes (Err e) after = WroteSome c file bytes e after

-- contents that aren't known stay so
abbrev pub WritesAll : Option Contents → FileNumber → List ℕ → Result (Unit {0}) FolderError → Option Contents → Type 0
WritesAll None file bytes result after = after ≡ None
WritesAll (Some c) file bytes result after = Wrote c file bytes result after
