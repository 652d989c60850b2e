-- The files of a folder in the order of their names.
use Rattle.std.specs.Prelude.{◌≡◌, ℕ, List, [], ◌∷◌, map, Bool, Option, Some, None, if◌then◌else◌}
use Rattle.std.specs.Cmp.Lexicographic.{slice_cmp}
use Rattle.std.specs.Ordering.{nat_cmp, is_lt}
use Rattle.std.specs.List.Sorted.{IsStrictlySortedBy}
use Rattle.std.specs.Str.{bytes_eq}
use Rattle.tracing_appender_rolling.specs.declared.folders.memory.FileEntry.{FileEntry}
use Rattle.tracing_appender_rolling.specs.folders.Contents.{Contents, bytes_at}

-- the bytes of the entry with that name
abbrev pub entry_at : List FileEntry → List ℕ → Option (List ℕ)
entry_at [] name = None
entry_at (e ∷ es) name = if bytes_eq e.name.now name then Some e.bytes.now else entry_at es name

-- the entry's name is below the other in byte order
abbrev pub comes_before : FileEntry → List ℕ → Bool
comes_before e name = is_lt (slice_cmp nat_cmp e.name.now name)

-- the entry before the first that doesn't come before it, or none where that one has its name
abbrev pub with_entry : FileEntry → List FileEntry → List FileEntry
with_entry new [] = new ∷ []
with_entry new (e ∷ es) =
    if comes_before e new.name.now then e ∷ with_entry new es
    else (if bytes_eq e.name.now new.name.now then e ∷ es else new ∷ e ∷ es)

-- names rise strictly in byte order
abbrev pub IsRising : List FileEntry → Type 0
IsRising entries = IsStrictlySortedBy (slice_cmp nat_cmp) (map (λ (e : FileEntry). e.name.now) entries)

-- one entry for each name that stands for a file, with its bytes, and no other
pub record FilesListed (c : Contents) (entries : List FileEntry) : Type 0 where
  pub rising : IsRising entries
  pub each : (name : List ℕ) → entry_at entries name ≡ bytes_at c.files name
