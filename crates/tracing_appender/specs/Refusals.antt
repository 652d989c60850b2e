-- A folder's refusals as errors of input and output.
use Rattle.std.specs.Prelude.{◌≡◌, Result, Ok, Err}
use Rattle.std.specs.IoError.{error_kind}
use Rattle.std.specs.declared.io.Error.{Error}
use Rattle.std.specs.declared.io.ErrorKind.{ErrorKind}
use Rattle.std.specs.declared.io.ErrorKind.TheVariants as kinds
use Rattle.tracing_appender_rolling.specs.declared.folders.fault.FolderError.{FolderError}
use Rattle.tracing_appender_rolling.specs.declared.folders.fault.FolderError.TheVariants.{Fault, OutOfMemory}

-- a fault has a kind of its own, and out of memory that of running out of memory
abbrev pub kind_of : FolderError → ErrorKind
kind_of OutOfMemory = kinds.OutOfMemory
kind_of (Fault fault) = kinds.Other

-- the same value, or an error of the refusal's kind
abbrev pub Tells : {T : Type 0} → Result T FolderError → Result T Error → Type 0
Tells (Ok value) result = result ≡ Ok value
Tells (Err e) (Ok value) = ⊥
Tells (Err e) (Err error) = error_kind error ≡ kind_of e
