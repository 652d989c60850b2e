-- Attempts to write, of which the first that isn't interrupted decides.
use Rattle.std.specs.Prelude.{◌≡◌, ◌≤◌, ℕ, zero, suc, List, Option, Some, None, Result, Ok, Err}
use Rattle.tracing_appender_rolling.specs.declared.folders.attempts.Attempt.{Attempt}
use Rattle.tracing_appender_rolling.specs.declared.folders.attempts.Attempt.TheVariants.{Took, Interrupted, Failed}
use Rattle.tracing_appender_rolling.specs.declared.folders.fault.FolderError.{FolderError}
use Rattle.tracing_appender_rolling.specs.declared.folders.fault.FolderError.TheVariants.{Fault}
use Rattle.tracing_appender_rolling.specs.declared.folders.fault.FolderFault.TheVariants.{Refused}

-- what each coming attempt gives of the bytes that it is handed
abbrev pub Coming : Type 0
Coming = ℕ → List ℕ → Attempt

abbrev pub later : Coming → Coming
later coming n = coming (suc n)

-- no more is taken than there is
abbrev pub is_within : ℕ → Attempt → Type 0
is_within len (Took n) = n ≤ len
is_within len Interrupted = Unit {0}
is_within len (Failed e) = Unit {0}

abbrev pub AttemptGives : Option Coming → List ℕ → Attempt → Option Coming → Type 0
AttemptGives None bytes given after = after ≡ None
AttemptGives (Some coming) bytes given after = (given ≡ coming 0 bytes) × (after ≡ Some (later coming))

-- what so many attempts answer, and the attempts that still come: an answer ends them, and after an interruption the next one is made
abbrev pub answered : Attempt → Coming → Result ℕ FolderError × Coming → Result ℕ FolderError × Coming
answered (Took n) coming more = (Ok n, coming)
answered Interrupted coming more = more
answered (Failed e) coming more = (Err e, coming)

abbrev pub first_answer : ℕ → Coming → List ℕ → Result ℕ FolderError × Coming
first_answer zero coming bytes = (Err (Fault Refused), coming)
first_answer (suc n) coming bytes = answered (coming 0 bytes) (later coming) (first_answer n (later coming) bytes)

abbrev pub FirstAnswer : ℕ → Option Coming → List ℕ → Result ℕ FolderError → Option Coming → Type 0
FirstAnswer tries None bytes result after = after ≡ None
FirstAnswer tries (Some coming) bytes result after = (result ≡ (first_answer tries coming bytes).0) ×
    (after ≡ Some (first_answer tries coming bytes).1)
