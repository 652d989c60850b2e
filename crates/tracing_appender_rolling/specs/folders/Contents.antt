-- What a folder has: names stand for files with bytes, and a file outlives its name.
use Rattle.std.specs.Prelude.{◌≡◌, ℕ, zero, suc, ◌+◌, ◌-◌, ◌^◌, min, Bool, true, false, ◌&&◌, not, ◌==◌, if◌then◌else◌, List, [], ◌∷◌, ◌++◌}
use Rattle.std.specs.Prelude.{length, take, map, is_some, slice_set, Option, Some, None, Result, Ok, Err}
use Rattle.std.specs.List.{position_from, filter, list_any}
use Rattle.std.specs.Set.{remove_key}
use Rattle.std.specs.Str.{bytes_eq}
use Rattle.tracing_core_moments.specs.declared.moment.Moment.{Moment}
use Rattle.tracing_appender_rolling.specs.declared.folders.fault.FolderFault.{FolderFault}
use Rattle.tracing_appender_rolling.specs.declared.folders.fault.FolderFault.TheVariants.{Refused, NotFound}
use Rattle.tracing_appender_rolling.specs.declared.folders.fault.FolderError.{FolderError}
use Rattle.tracing_appender_rolling.specs.declared.folders.fault.FolderError.TheVariants.{Fault, OutOfMemory}
use Rattle.tracing_appender_rolling.specs.declared.folders.fault.FileNumber.{FileNumber}

-- a file that was ever made here: whether its name still stands for it, its creation moment where it is known, its bytes
pub record StoredFile : Type 0 where
  pub name : List ℕ
  pub stands : Bool
  pub created : Option Moment
  pub bytes : List ℕ

-- what becomes of a coming call: it is done, it is refused with a fault, or, where it is a write, it takes at most so many bytes
pub data Outcome : Type 0 where
  Done : Outcome
  Refuses : FolderFault → Outcome
  Short : ℕ → Outcome

-- the files in order of making, the links with what they name, the numbers of the files that are open, in the order of their opening,
-- whether the directories
-- were made, the number of the file that was flushed last, and what becomes of each coming call, from 0
pub record Contents : Type 0 where
  pub files : List StoredFile
  pub links : List (List ℕ × List ℕ)
  pub open_files : List ℕ
  pub has_dirs : Bool
  pub last_flushed : Option ℕ
  pub coming : ℕ → Outcome

-- a call is behind us
abbrev pub called : Contents → Contents
called c = record {
  files = c.files;
  links = c.links;
  open_files = c.open_files;
  has_dirs = c.has_dirs;
  last_flushed = c.last_flushed;
  coming = λ n. c.coming (suc n);
}

-- the folder refuses nothing and takes each write whole
abbrev pub IsSound : Contents → Type 0
IsSound c = (n : ℕ) → c.coming n ≡ Done

-- the file that the name stands for
abbrev pub has_name : List ℕ → StoredFile → Bool
has_name name file = file.stands && bytes_eq file.name name

abbrev pub file_named : List ℕ → List StoredFile → Option ℕ
file_named name files = position_from (has_name name) 0 files

-- the link under a name
abbrev pub link_place : List ℕ → List (List ℕ × List ℕ) → Option ℕ
link_place name links = position_from (λ l. bytes_eq l.0 name) 0 links

abbrev pub link_named : List ℕ → List (List ℕ × List ℕ) → Bool
link_named name links = is_some (link_place name links)

-- the bytes of the file that the name stands for
abbrev pub bytes_at : List StoredFile → List ℕ → Option (List ℕ)
bytes_at [] name = None
bytes_at (file ∷ files) name = if has_name name file then Some file.bytes else bytes_at files name

-- the file at a place with more bytes
abbrev pub appended : List StoredFile → ℕ → List ℕ → List StoredFile
appended [] place bytes = []
appended (file ∷ files) zero bytes = record file { bytes = file.bytes ++ bytes } ∷ files
appended (file ∷ files) (suc place) bytes = file ∷ appended files place bytes

-- the file at a place without its name
abbrev pub unnamed : List StoredFile → ℕ → List StoredFile
unnamed [] place = []
unnamed (file ∷ files) zero = record file { stands = false } ∷ files
unnamed (file ∷ files) (suc place) = file ∷ unnamed files place

-- a new file of no bytes
abbrev pub fresh : List ℕ → StoredFile
fresh name = record { name = name; stands = true; created = None; bytes = [] }

abbrev pub Answer : Type 0 → Type 0
Answer T = Result T FolderError × Contents

abbrev pub refusal : {T : Type 0} → FolderFault → Contents → Answer T
refusal fault c = (Err (Fault fault), called c)

-- the first of its fault where the outcome is a refusal, else the second
abbrev pub if_refused : {X : Type 0} → Outcome → (FolderFault → X) → X → X
if_refused (Refuses fault) x y = x fault
if_refused Done x y = y
if_refused (Short n) x y = y

-- what a call answers, and what it leaves
abbrev pub unless_refused : {T : Type 0} → Contents → Answer T → Answer T
unless_refused c answer = if_refused (c.coming 0) (λ fault. refusal fault c) answer

-- open a name for appending
abbrev pub open_at : Contents → List ℕ → Option ℕ → Answer FileNumber
open_at c name (Some place) = (Ok (record { index = place }), record (called c) { open_files = c.open_files ++ place ∷ [] })
open_at c name None = (
  Ok (record { index = length c.files }),
  record (called c) {
    files = c.files ++ fresh name ∷ [];
    open_files = c.open_files ++
        length c.files ∷ [];
  },
)

abbrev pub open_plain : List ℕ → Contents → Answer FileNumber
open_plain name c =
    if link_named name c.links then refusal Refused c else open_at c name (file_named name c.files)

abbrev pub opened : Contents → List ℕ → Answer FileNumber
opened c name = unless_refused c (open_plain name c)

-- whether the number is that of an open file
abbrev pub is_open : FileNumber → Contents → Bool
is_open file c = list_any (λ m. m == file.index) c.open_files

-- a call that isn't refused finds no file under a number that isn't open
abbrev pub unless_closed : Bool → Outcome → Outcome
unless_closed true o = o
unless_closed false (Refuses fault) = Refuses fault
unless_closed false Done = Refuses NotFound
unless_closed false (Short most) = Refuses NotFound

-- what becomes of a coming call on a file
abbrev pub on_file : FileNumber → Contents → ℕ → Outcome
on_file file c n = unless_closed (is_open file c) (c.coming n)

-- what a call on a file answers, and what it leaves
abbrev pub with_file : {T : Type 0} → FileNumber → Contents → Answer T → Answer T
with_file file c answer = if_refused (on_file file c 0) (λ fault. refusal fault c) answer

-- how many of so many bytes a write takes, which may be none; then it is done all the same, and answers 0
abbrev pub taken : Outcome → ℕ → ℕ
taken Done n = n
taken (Short most) n = min most n
taken (Refuses fault) n = 0

abbrev pub write_plain : FileNumber → List ℕ → Contents → Answer ℕ
write_plain file bytes c = (Ok (length bytes), record (called c) { files = appended c.files file.index bytes })

abbrev pub written : Contents → FileNumber → List ℕ → Answer ℕ
written c file bytes = with_file file c (write_plain file (take (taken (on_file file c 0) (length bytes)) bytes) c)

-- a name stands for its file no more; the file can still be written
abbrev pub remove_at : Contents → Option ℕ → Answer (Unit {0})
remove_at c None = refusal NotFound c
remove_at c (Some place) = (Ok tt, record (called c) { files = unnamed c.files place })

abbrev pub remove_plain : List ℕ → Contents → Answer (Unit {0})
remove_plain name c = remove_at c (file_named name c.files)

abbrev pub removed : Contents → List ℕ → Answer (Unit {0})
removed c name = unless_refused c (remove_plain name c)

-- what a listing tells of a name
pub record Listed : Type 0 where
  pub name : List ℕ
  pub plain : Bool
  pub created : Option Moment

abbrev pub listed_file : StoredFile → Listed
listed_file f = record { name = f.name; plain = true; created = f.created }

abbrev pub listed_link : List ℕ × List ℕ → Listed
listed_link l = record { name = l.0; plain = false; created = None }

-- the files that stand, and the links
abbrev pub listing : Contents → List Listed
listing c = map listed_file (filter (λ f. f.stands) c.files) ++ map listed_link c.links

-- its name begins with these bytes
abbrev pub begins_with : List ℕ → Listed → Bool
begins_with prefix l = bytes_eq prefix (take (length prefix) l.name)

-- those of them whose names begin with a prefix, in the same order
abbrev pub list_plain : List ℕ → Contents → Answer (List Listed)
list_plain prefix c = (Ok (filter (begins_with prefix) (listing c)), called c)

abbrev pub names_listed : Contents → List ℕ → Answer (List Listed)
names_listed c prefix = unless_refused c (list_plain prefix c)

-- a link under a name, in place of one of that name; a file under it refuses
abbrev pub links_with : List (List ℕ × List ℕ) → Option ℕ → List ℕ × List ℕ → List (List ℕ × List ℕ)
links_with links None new = links ++ new ∷ []
links_with links (Some place) new = slice_set links place new

abbrev pub link_plain : List ℕ → List ℕ → Contents → Answer (Unit {0})
link_plain name target c =
    if is_some (file_named name c.files) then refusal Refused c
    else (Ok tt, record (called c) { links = links_with c.links (link_place name c.links) (name, target) })

abbrev pub linked : Contents → List ℕ → List ℕ → Answer (Unit {0})
linked c name target = unless_refused c (link_plain name target c)

-- these numbers but the first such one
abbrev pub without_number : ℕ → List ℕ → List ℕ
without_number n numbers = remove_key (λ m. m == n) numbers

-- a file is open once less: one that was opened twice is open still
abbrev pub close_plain : FileNumber → Contents → Answer (Unit {0})
close_plain file c = (Ok tt, record (called c) { open_files = without_number file.index c.open_files })

abbrev pub closed : Contents → FileNumber → Answer (Unit {0})
closed c file = with_file file c (close_plain file c)

-- the directories are made, or stood already
abbrev pub make_plain : Contents → Answer (Unit {0})
make_plain c = (Ok tt, record (called c) { has_dirs = true })

abbrev pub dirs_made : Contents → Answer (Unit {0})
dirs_made c = unless_refused c (make_plain c)

-- a file is flushed
abbrev pub flush_plain : FileNumber → Contents → Answer (Unit {0})
flush_plain file c = (Ok tt, record (called c) { last_flushed = Some file.index })

abbrev pub flushed : Contents → FileNumber → Answer (Unit {0})
flushed c file = with_file file c (flush_plain file c)

-- The call answered and left the contents as said, or it found no memory and left them as they were. Contents that aren't known stay so.
abbrev pub Gives : {T : Type 0} → (Contents → Answer T) → Option Contents → Result T FolderError → Option Contents → Type 0
Gives call None result after = after ≡ None
Gives call (Some c) (Err OutOfMemory) after = after ≡ Some (called c)
Gives call (Some c) (Err (Fault fault)) after = ((call c).0 ≡ Err (Fault fault)) × (after ≡ Some (call c).1)
Gives call (Some c) (Ok value) after = ((call c).0 ≡ Ok value) × (after ≡ Some (call c).1)

-- a fault raises the count, and nothing else does
abbrev pub is_fault : {T : Type 0} → Result T FolderError → Bool
is_fault (Ok value) = false
is_fault (Err OutOfMemory) = false
is_fault (Err (Fault fault)) = true

abbrev pub failures_after : {T : Type 0} → ℕ → Result T FolderError → ℕ
failures_after n result = if is_fault result then min (n + 1) (2 ^ 64 - 1) else n
