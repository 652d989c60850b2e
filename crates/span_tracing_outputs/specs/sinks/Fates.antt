-- What became of each line of a run, and what the run made of the appender.
use Rattle.std.specs.Prelude.{◌≡◌, ◌≤◌, ◌<◌, ◌+◌, ℕ, min, count_by, Bool, true, false, List, [], ◌∷◌, ◌++◌, length, Option, Some, Result}
use Rattle.std.specs.List.{AllByRecursion}
use Rattle.tracing_core_moments.specs.declared.at.At.{At}
use Rattle.tracing_appender_rolling.specs.declared.appender.RollingFileAppender.{RollingFileAppender}
use Rattle.tracing_core_moments.specs.declared.moment.Moment.{Moment}
use Rattle.tracing_core_moments.specs.Moments.{is_moment}
use Rattle.tracing_appender_rolling.specs.declared.folders.fault.FolderError.{FolderError}
use Rattle.tracing_appender_rolling.specs.folders.Contents.{Contents}
use Rattle.tracing_appender_rolling.specs.Names.{FileNames}
use Rattle.tracing_appender_rolling.specs.Builders.{builder_names}
use Rattle.tracing_appender_rolling.specs.Looks.{Held}
use Rattle.tracing_appender_rolling.specs.Sinks.{Handed, PlainSink}
use Rattle.tracing_appender_rolling.specs.Appenders.{Holds}
use Rattle.tracing_appender_rolling.specs.LineHandover.{HandsTo, is_starved}
use Rattle.tracing_appender_rolling.specs.AnyFolder.{LineAt, Seen, seen_of}
use Rattle.tracing_appender_rolling.specs.FilesByTries.{HandedInTurn}
use Rattle.tracing_appender_rolling.specs.PrunedSinks.{PrunedSink, KeepsEveryFile, AgreesSink, HandsSink, with_line, pruned_at}
use Rattle.span_tracing_outputs.specs.OutputMachines.{PlainLine}
use Rattle.span_tracing_outputs.specs.declared.sinks.sink.RollingSink.{RollingSink}
use Rattle.span_tracing_outputs.specs.sinks.Runs.{TakesRun, handed_in}
use Rattle.span_tracing_outputs.specs.sinks.Takes.{TakesLine, dropped_after, moment_of}

-- a line's moment was out of range, and nothing was written; or the appender answered so
pub data WriteOutcome : Type 0 where
  OutOfRange : WriteOutcome
  Answered : Result (Unit {0}) FolderError → WriteOutcome

abbrev pub is_dropped : WriteOutcome → Bool
is_dropped OutOfRange = true
is_dropped (Answered result) = is_starved result

-- no line was dropped
abbrev pub AllKept : List WriteOutcome → Type 0
AllKept fates = AllByRecursion (λ (fate : WriteOutcome). is_dropped fate ≡ false) fates

-- the count of dropped lines after lines of these fates
abbrev pub dropped_by : List WriteOutcome → ℕ → ℕ
dropped_by [] count = count
dropped_by (fate ∷ fates) count = dropped_by fates (dropped_after (is_dropped fate) count)

-- where the moment is in range there was one look, with its removals and its opening, and then writes that answered so; else nothing was
-- asked of the folder
abbrev pub HandsOne : FileNames → Moment → Held → List ℕ → WriteOutcome → Held → Type 0
HandsOne names m h bytes OutOfRange next = (is_moment m ≡ false) × (next ≡ h)
HandsOne names m h bytes (Answered result) next = (is_moment m ≡ true) × HandsTo names m h bytes result next.boundary next.current
    next.faults (Some next.contents)

-- over a folder of known contents, one line after another: which looks, openings and writes were made, and what each left
abbrev pub HandsAll : FileNames → Held → List (At × PlainLine) → List WriteOutcome → Held → Type 0
HandsAll names h [] [] last = last ≡ h
HandsAll names h [] (fate ∷ fates) last = ⊥
HandsAll names h (x ∷ xs) [] last = ⊥
HandsAll names h (x ∷ xs) (fate ∷ fates) last = (next : Held) × HandsOne names (moment_of x.0) h x.1.bytes fate next ×
    HandsAll names next xs fates last

-- the same over any folder, where the end of the period, the file, the counts and the folder's count are seen
abbrev pub SeesOne : FileNames → Moment → Seen → List ℕ → WriteOutcome → Seen → Type 0
SeesOne names m s bytes OutOfRange next = (is_moment m ≡ false) × (next ≡ s)
SeesOne names m s bytes (Answered result) next = (is_moment m ≡ true) × LineAt names m (length bytes) result s next

abbrev pub SeesAll : FileNames → Seen → List (At × PlainLine) → List WriteOutcome → Seen → Type 0
SeesAll names s [] [] last = last ≡ s
SeesAll names s [] (fate ∷ fates) last = ⊥
SeesAll names s (x ∷ xs) [] last = ⊥
SeesAll names s (x ∷ xs) (fate ∷ fates) last = (next : Seen) × SeesOne names (moment_of x.0) s x.1.bytes fate next ×
    SeesAll names next xs fates last

-- a sink that was handed these too
abbrev pub with_all : PlainSink → List Handed → PlainSink
with_all s handed = record s { handed = s.handed ++ handed }

-- the count of dropped lines stayed, and is not the greatest one
pub record NoneDropped {D : Type 0} (old new : RollingSink D) : Type 0 where
  pub stayed : new.dropped ≡ old.dropped
  pub not_full : old.dropped < 18446744073709551615

module _ {D : Type 0} (contents : D → Option Contents) where
  -- the lines led from what the appender stood for to what it stands for then
  abbrev pub LeadsTo : FileNames → Held → List (At × PlainLine) → List WriteOutcome → RollingFileAppender D → Type 0
  LeadsTo names h lines fates a = (last : Held) × HandsAll names h lines fates last × Holds contents a last

  -- over a folder that refuses nothing: each line's removals, and the sink that the lines lead to
  abbrev pub LeavesAll : PrunedSink → List (At × PlainLine) → RollingFileAppender D → RollingFileAppender D → PrunedSink → Type 0
  LeavesAll p [] a b last = (b ≡ a) × (last ≡ p)
  LeavesAll p (x ∷ xs) a b last =
      (c : Contents) × (mid : RollingFileAppender D) × (contents a.folder ≡ Some c) × HandsSink contents p x.1.bytes (moment_of x.0) c a
      mid × LeavesAll (with_line (pruned_at p (moment_of x.0) c) x.1.bytes (moment_of x.0)) xs mid b last

  -- the sink that the lines led to: no other line is handed to it, and where no file goes nothing else changes
  pub record LeftBy (lines : List (At × PlainLine)) (p : PrunedSink) (a b : RollingFileAppender D) : Type 0 where
    pub last : PrunedSink
    pub leaves : LeavesAll p lines a b last
    pub agrees : AgreesSink contents b last
    pub names : last.sink.names ≡ p.sink.names
    pub opened : last.sink.opened ≡ p.sink.opened
    pub handed : last.sink.handed ≡ p.sink.handed ++ handed_in lines
    pub whole : KeepsEveryFile p.sink.names → last ≡ record p { sink = with_all p.sink (handed_in lines) }
    pub faults : b.faults ≡ a.faults

module _ {D : Type 0} (contents : D → Option Contents) (failed : D → ℕ) where
  -- a run of lines: each has one fate, and with these fates all holds that is known of it
  pub record RunTold (lines : List (At × PlainLine)) (old new : RollingSink D) : Type 0 where
    pub fates : List WriteOutcome
    -- exactly the dropped lines are counted
    pub counted : new.dropped ≡ dropped_by fates old.dropped
    pub names : builder_names new.appender.builder ≡ builder_names old.appender.builder
    pub held : (h : Held) → Holds contents old.appender h → LeadsTo contents (builder_names old.appender.builder) h lines fates new.appender
    pub seen : SeesAll (builder_names old.appender.builder) (seen_of failed old.appender) lines fates (seen_of failed new.appender)
    -- where none was dropped all lines were handed to the sink's files
    pub left : AllKept fates → (p : PrunedSink) → AgreesSink contents old.appender p → LeftBy contents lines p old.appender new.appender

  abbrev pub RunsAreTold : Type 0
  RunsAreTold = (lines : List (At × PlainLine)) (old new : RollingSink D) → TakesRun (TakesLine contents failed) lines old new →
      RunTold lines old new

  -- where none was dropped exactly these lines were handed to the sink's files, in order, each at its own moment, which is in range, with
  -- the removals before each
  abbrev pub LinesReachFiles : Type 0
  LinesReachFiles = (lines : List (At × PlainLine)) (old new : RollingSink D) → TakesRun (TakesLine contents failed) lines old new →
      NoneDropped old new →
      AllByRecursion (λ (h : Handed). is_moment h.moment ≡ true) (handed_in lines) ×
      ((p : PrunedSink) → AgreesSink contents old.appender p → LeftBy contents lines p old.appender new.appender)

  -- the count rises with each dropped line and with nothing else, and the names stay
  pub record DropsCounted (lines : List (At × PlainLine)) (old new : RollingSink D) : Type 0 where
    pub rises : old.dropped ≤ 18446744073709551615 → old.dropped ≤ new.dropped
    pub stops : old.dropped ≤ 18446744073709551615 → new.dropped ≤ 18446744073709551615
    pub few : new.dropped ≤ old.dropped + length lines
    pub names : builder_names new.appender.builder ≡ builder_names old.appender.builder

  abbrev pub DropsAreCounted : Type 0
  DropsAreCounted = (lines : List (At × PlainLine)) (old new : RollingSink D) → TakesRun (TakesLine contents failed) lines old new →
      DropsCounted lines old new

-- how lines of these fates are counted: so many as were dropped, up to the greatest count; the count stays where none was dropped, and
-- below the greatest one
-- only there
pub record CountsDropped (fates : List WriteOutcome) (count : ℕ) : Type 0 where
  pub exact : count ≤ 18446744073709551615 → dropped_by fates count ≡ min (count + count_by is_dropped fates) 18446744073709551615
  pub stays : AllKept fates → dropped_by fates count ≡ count
  pub kept : count < 18446744073709551615 → dropped_by fates count ≡ count → AllKept fates

abbrev pub CountsAreExact : Type 0
CountsAreExact = (fates : List WriteOutcome) (count : ℕ) → CountsDropped fates count

-- lines of which none was dropped go in turn, as the files' list of tries has them
abbrev pub KeptLinesGoInTurn : Type 0
KeptLinesGoInTurn = (names : FileNames) (h last : Held) (lines : List (At × PlainLine)) (fates : List WriteOutcome) → AllKept fates →
    HandsAll names h lines fates last → HandedInTurn names h (handed_in lines) last
