-- A line at a moment before the end of the file's period goes to the current file.
use Rattle.std.proofs.Common.{◌≡◌, subst, ℕ, Bool, List, inl, inr, refl, Option, Some, Result, Ok, Err}
use Rattle.tracing_core_moments.specs.declared.moment.Moment.{Moment}
use Rattle.tracing_appender_rolling.specs.declared.folders.fault.FolderError.{FolderError}
use Rattle.tracing_appender_rolling.specs.declared.folders.fault.FolderError.TheVariants.{Fault, OutOfMemory}
use Rattle.tracing_appender_rolling.specs.folders.Contents.{Contents, Gives, called, written}
use Rattle.tracing_appender_rolling.specs.declared.appender.RollingFileAppender.{RollingFileAppender}
use Rattle.tracing_appender_rolling.specs.Builders.{builder_names}
use Rattle.tracing_appender_rolling.specs.Writes.{WritesAll}
use Rattle.tracing_appender_rolling.specs.Looks.{Held, look_if, look_at}
use Rattle.tracing_appender_rolling.specs.Appenders.{Holds}
use Rattle.tracing_appender_rolling.specs.LineHandover.{HandsLine, HandedOver, WritesOnce, WrittenOnce}
use Rattle.tracing_appender.specs.AppenderCalls.{IsInPeriod}

module _ {D : Type 0} (contents : D → Option Contents) (m : Moment) (old new : RollingFileAppender D) (still : IsInPeriod m old)
    (c : Contents) (known : contents old.folder ≡ Some c) where
  abbrev held : Held
  held = record { boundary = old.boundary; current = old.current; faults = old.faults; contents = c }

  holds : Holds contents old held
  holds = record { folder = known; until = refl; open_file = refl; counts = refl }

  -- the look leaves all as it was
  over : (bytes : List ℕ) (answer : Result (Unit {0}) FolderError) → HandedOver (look_at (builder_names old.builder) m held) bytes answer
      new.boundary new.current new.faults (contents new.folder) → WritesAll (Some c) old.current bytes answer (contents new.folder)
  over bytes answer handed = subst (λ (b : Bool). let seen = look_if b (builder_names old.builder) m held in
      WritesAll (Some seen.contents) seen.current bytes answer (contents new.folder)) still handed.writes

  pub line_to_file : (bytes : List ℕ) (answer : Result (Unit {0}) FolderError) →
      ((h : Held) → Holds contents old h → HandsLine contents (builder_names old.builder) m h bytes answer new) →
      WritesAll (Some c) old.current bytes answer (contents new.folder)
  line_to_file bytes (Ok done) handed = over bytes (Ok done) (handed held holds)
  line_to_file bytes (Err (Fault fault)) handed = over bytes (Err (Fault fault)) (handed held holds)
  line_to_file bytes (Err OutOfMemory) handed = starved (handed held holds)
    where
      starved : HandsLine contents (builder_names old.builder) m held bytes (Err OutOfMemory) new →
          WritesAll (Some c) old.current bytes (Err OutOfMemory) (contents new.folder)
      starved (inl missed) = let due = missed.due in cc
      starved (inr handed) = over bytes (Err OutOfMemory) handed

  once : (bytes : List ℕ) (answer : Result ℕ FolderError) → WrittenOnce (look_at (builder_names old.builder) m held) bytes answer
      new.boundary new.current new.faults (contents new.folder) → ((written c old.current bytes).0 ≡ answer) ×
      (contents new.folder ≡ Some (written c old.current bytes).1)
  once bytes answer wrote = subst (λ (b : Bool). let seen = look_if b (builder_names old.builder) m held in
      ((written seen.contents seen.current bytes).0 ≡ answer) × (contents new.folder ≡ Some (written seen.contents seen.current bytes).1))
      still (wrote.answered, wrote.left)

  pub write_to_file : (bytes : List ℕ) (answer : Result ℕ FolderError) →
      ((h : Held) → Holds contents old h → WritesOnce contents (builder_names old.builder) m h bytes answer new) →
      Gives (λ d. written d old.current bytes) (Some c) answer (contents new.folder)
  write_to_file bytes (Ok n) wrote = once bytes (Ok n) (wrote held holds)
  write_to_file bytes (Err (Fault fault)) wrote = once bytes (Err (Fault fault)) (wrote held holds)
  write_to_file bytes (Err OutOfMemory) wrote = starved (wrote held holds)
    where
      starved : WritesOnce contents (builder_names old.builder) m held bytes (Err OutOfMemory) new → contents new.folder ≡ Some (called c)
      starved (inl missed) = let due = missed.due in cc
      starved (inr missed) = subst (λ (b : Bool). contents new.folder ≡ Some
          (called (look_if b (builder_names old.builder) m held).contents)) still missed.folder
