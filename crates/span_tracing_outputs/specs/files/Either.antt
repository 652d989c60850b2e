-- One of two folders.
use Rattle.std.specs.Prelude.{ℕ, Option}
use Rattle.tracing_appender_rolling.specs.folders.Contents.{Contents}
use Rattle.span_tracing_outputs.specs.declared.files.either_folder.EitherFolder.{EitherFolder}
use Rattle.span_tracing_outputs.specs.declared.files.either_folder.EitherFolder.TheVariants as sides

module _ {X Y : Type 0} where
  -- what the folder has, where that is known
  abbrev pub contents_of : (X → Option Contents) → (Y → Option Contents) → EitherFolder X Y → Option Contents
  contents_of first second (sides.A folder) = first folder
  contents_of first second (sides.B folder) = second folder

  abbrev pub failures_of : (X → ℕ) → (Y → ℕ) → EitherFolder X Y → ℕ
  failures_of first second (sides.A folder) = first folder
  failures_of first second (sides.B folder) = second folder
