use Rattle.std.specs.Prelude.{ℕ, List, [], ◌∷◌, ◌++◌, map, cond, false, slice_set, string_bytes, Option, Some, None, if◌then◌else◌}
use Rattle.std.specs.Str.{bytes_eq}
use Rattle.tracing_appender_rolling.specs.declared.folders.memory.MemoryFile.{MemoryFile}
use Rattle.tracing_appender_rolling.specs.declared.folders.memory.MemoryLink.{MemoryLink}
use Rattle.tracing_appender_rolling.specs.declared.folders.memory.MemoryFolder.{MemoryFolder}
use Rattle.tracing_appender_rolling.specs.folders.Contents.{StoredFile, Contents, Done, Listed, listed_file, listed_link}

abbrev pub kept_of : MemoryFile → StoredFile
kept_of f = record { name = string_bytes f.name; stands = f.stands; created = f.created; bytes = f.bytes.items }

abbrev pub link_of : MemoryLink → List ℕ × List ℕ
link_of l = (string_bytes l.name, string_bytes l.target)

abbrev pub memory_contents : MemoryFolder → Contents
memory_contents m = record {
  files = map kept_of m.files.items;
  links = map link_of m.links.items;
  open_files = m.open_files.items;
  has_dirs = m.has_dirs;
  last_flushed = m.last_flushed;
  coming = λ n. Done;
}

-- an empty folder
abbrev pub nothing_there : Contents
nothing_there = record { files = []; links = []; open_files = []; has_dirs = false; last_flushed = None; coming = λ n. Done }

-- a file put under its name: in place of the one for which the name stood, else last
abbrev pub put_at : List StoredFile → Option ℕ → StoredFile → List StoredFile
put_at files (Some place) file = slice_set files place file
put_at files None file = files ++ file ∷ []

-- what the link under a name leads to
abbrev pub target_at : List (List ℕ × List ℕ) → List ℕ → Option (List ℕ)
target_at [] name = None
target_at (l ∷ ls) name = if bytes_eq l.0 name then Some l.1 else target_at ls name

-- the names of these files that stand, and of these links
abbrev pub files_listed : List MemoryFile → List Listed
files_listed [] = []
files_listed (f ∷ fs) = cond f.stands (listed_file (kept_of f) ∷ files_listed fs) (files_listed fs)

abbrev pub links_listed : List MemoryLink → List Listed
links_listed ls = map (λ (l : MemoryLink). listed_link (link_of l)) ls
