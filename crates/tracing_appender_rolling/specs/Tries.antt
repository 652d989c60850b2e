-- A try to open a file and to link it, whatever the folder refuses.
use Rattle.std.specs.Prelude.{◌≡◌, ◌⊎◌, List, ℕ, Option, Some, None, Result, Ok, Err}
use Rattle.tracing_appender_rolling.specs.declared.folders.fault.FolderError.{FolderError}
use Rattle.tracing_appender_rolling.specs.declared.folders.fault.FolderError.TheVariants.{Fault, OutOfMemory}
use Rattle.tracing_appender_rolling.specs.declared.init.InitContext.{InitContext}
use Rattle.tracing_appender_rolling.specs.declared.init.InitContext.TheVariants.{Directory, File, Link}
use Rattle.tracing_appender_rolling.specs.declared.init.InitFailure.{InitFailure}
use Rattle.tracing_appender_rolling.specs.declared.folders.fault.FileNumber.{FileNumber}
use Rattle.tracing_appender_rolling.specs.folders.Contents.{Contents, Answer, called, opened, dirs_made, linked, closed}
use Rattle.tracing_appender_rolling.specs.Writes.{Fruitless}

-- what a try answers, and what it leaves
abbrev pub Tried : Type 0
Tried = Result FileNumber InitFailure × Contents

abbrev pub failure : InitContext → FolderError → InitFailure
failure context error = record { context = context; error = error }

-- an opening that decides
abbrev pub last_opening : Answer FileNumber → Tried
last_opening (Ok file, c) = (Ok file, c)
last_opening (Err e, c) = (Err (failure File e), c)

-- after the directories were made the file is opened; where they could not be made the try has failed
abbrev pub after_dirs : List ℕ → Answer (Unit {0}) → Tried
after_dirs name (Ok done, c) = last_opening (opened c name)
after_dirs name (Err e, c) = (Err (failure Directory e), c)

abbrev pub made_again : List ℕ → Contents → Tried
made_again name c = after_dirs name (dirs_made c)

-- after a first opening that failed the directories are made
abbrev pub after_opening : List ℕ → Answer FileNumber → Tried
after_opening name (Ok file, c) = (Ok file, c)
after_opening name (Err e, c) = made_again name c

abbrev pub opened_twice : List ℕ → Contents → Tried
opened_twice name c = after_opening name (opened c name)

-- a link that failed closes the file, whatever that answers
abbrev pub after_link : FileNumber → Answer (Unit {0}) → Tried
after_link file (Ok done, c) = (Ok file, c)
after_link file (Err e, c) = (Err (failure Link e), (closed c file).1)

abbrev pub linked_to : List ℕ → List ℕ → FileNumber → Contents → Tried
linked_to link name file c = after_link file (linked c link name)

abbrev pub after_file : List ℕ → List ℕ → Tried → Tried
after_file link name (Ok file, c) = linked_to link name file c
after_file link name (Err f, c) = (Err f, c)

-- the file is opened, and the name of the latest one, where there is one, is linked to it
abbrev pub opened_linked : Option (List ℕ) → List ℕ → Contents → Tried
opened_linked None name c = opened_twice name c
opened_linked (Some link) name c = after_file link name (opened_twice name c)

-- The try answered and left the contents as said, or some call of it found no memory; then `missed` holds of what is left. Contents that
-- aren't known stay so.
abbrev pub MissesOr : (Option Contents → Type 0) → Tried → InitFailure → FolderError → Option Contents → Type 0
MissesOr missed tried f OutOfMemory after = missed after
MissesOr missed tried f (Fault fault) after = (tried.0 ≡ Err f) × (after ≡ Some tried.1)

abbrev pub Gave : (Option Contents → Type 0) → Tried → Result FileNumber InitFailure → Option Contents → Type 0
Gave missed tried (Ok file) after = (tried.0 ≡ Ok file) × (after ≡ Some tried.1)
Gave missed tried (Err f) after = MissesOr missed tried f f.error after

abbrev pub Tries : (Contents → Option Contents → Type 0) → (Contents → Tried) → Option Contents → Result FileNumber InitFailure →
    Option Contents → Type 0
Tries missed call None result after = after ≡ None
Tries missed call (Some c) result after = Gave (missed c) (call c) result after

-- a link that found no memory closes the file that was opened, whatever that answers
abbrev pub Unlinked : FileNumber → Contents → Option Contents → Type 0
Unlinked file c after = after ≡ Some (closed (called c) file).1

-- the file was opened, and then the link found no memory
pub record OpenedUnlinked (name : List ℕ) (c : Contents) (after : Option Contents) : Type 0 where
  pub file : FileNumber
  pub middle : Contents
  pub opened : opened_twice name c ≡ (Ok file, middle)
  pub left : Unlinked file middle after

-- what a try leaves that found no memory in one of its calls: all as it was, or, where there is a link, the file that was opened closed
-- again
abbrev pub MissedFile : Option (List ℕ) → List ℕ → Contents → Option Contents → Type 0
MissedFile None name c after = Fruitless c after
MissedFile (Some link) name c after = Fruitless c after ⊎ OpenedUnlinked name c after

abbrev pub TriesFile : Option (List ℕ) → List ℕ → Option Contents → Result FileNumber InitFailure → Option Contents → Type 0
TriesFile latest name before result after = Tries (MissedFile latest name) (opened_linked latest name) before result after
