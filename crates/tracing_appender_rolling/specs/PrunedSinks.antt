-- What a sink's files hold, where retention may remove some of them and a link may lead to the latest one.
use Rattle.std.specs.Prelude.{◌≡◌, ℕ, ℤ, List, [], ◌∷◌, ◌++◌, Bool, true, false, not, ◌&&◌, ◌||◌, if◌then◌else◌, ◌⊎◌, Option, Some, None}
use Rattle.std.specs.Prelude.{Result, Ok, Err}
use Rattle.std.specs.List.{list_any, AllByRecursion}
use Rattle.std.specs.Str.{bytes_eq}
use Rattle.tracing_core_moments.specs.declared.moment.Moment.{Moment}
use Rattle.tracing_appender_rolling.specs.declared.folders.fault.FileNumber.{FileNumber}
use Rattle.tracing_appender_rolling.specs.declared.folders.fault.FolderError.{FolderError}
use Rattle.tracing_appender_rolling.specs.declared.folders.fault.FolderError.TheVariants.{Fault, OutOfMemory}
use Rattle.tracing_core_moments.specs.Moments.{is_moment, period_at, end_of}
use Rattle.tracing_appender_rolling.specs.folders.Contents.{Contents, StoredFile, Listed, IsSound, file_named, link_named, bytes_at}
use Rattle.tracing_appender_rolling.specs.folders.Contents.{listing, is_open, without_number}
use Rattle.tracing_appender_rolling.specs.folders.Memory.{target_at}
use Rattle.tracing_appender_rolling.specs.declared.appender.RollingFileAppender.{RollingFileAppender}
use Rattle.tracing_appender_rolling.specs.Names.{FileNames, file_name, HasGoodLink}
use Rattle.tracing_appender_rolling.specs.Builders.{builder_names}
use Rattle.tracing_appender_rolling.specs.Faults.{no_faults}
use Rattle.tracing_appender_rolling.specs.Retention.{candidates_in}
use Rattle.tracing_appender_rolling.specs.RetentionRemovals.{doomed}
use Rattle.tracing_appender_rolling.specs.Sinks.{Handed, PlainSink, with_handed, running_period, is_past, period_in, period_name}
use Rattle.tracing_appender_rolling.specs.Sinks.{period_text, was_opened, file_text}
use Rattle.tracing_appender_rolling.specs.Looks.{end_at}

abbrev pub is_named : List ℕ → List (List ℕ) → Bool
is_named name names = list_any (λ n. bytes_eq n name) names

-- A sink whose retention may remove files. What its sink calls found is what the opening of a name's file found, after retention had run,
-- and what the name
-- has where its file was not opened yet. Gone are the names whose file retention removed after it was opened.
pub record PrunedSink : Type 0 where
  pub sink : PlainSink
  pub gone : List ℕ → Bool

-- a file that was opened and that retention left holds what the opening found, and then the lines whose running moment lies in its period
abbrev pub pruned_text : PrunedSink → List ℕ → Option (List ℕ)
pruned_text p name = if p.gone name then None else file_text p.sink name

-- retention removed these names: those of opened files are gone, and the opening of another finds nothing
abbrev pub without : List (List ℕ) → PrunedSink → PrunedSink
without names p = record {
  sink = record p.sink { found = λ name. if is_named name names && not (was_opened p.sink name) then None else p.sink.found name };
  gone = λ name. (is_named name names && was_opened p.sink name) || p.gone name;
}

abbrev pub with_line : PrunedSink → List ℕ → Moment → PrunedSink
with_line p line m = record p { sink = with_handed p.sink (record { line = line; moment = m }) }

-- the names that retention removes of those that are listed; none without a limit
abbrev pub doomed_in : Option ℕ → FileNames → List Listed → List (List ℕ)
doomed_in None names listed = []
doomed_in (Some limit) names listed = doomed limit (candidates_in names listed)

abbrev pub removed_from : FileNames → Contents → List (List ℕ)
removed_from names c = doomed_in names.limit names (listing c)

-- those that are removed before a line, which are some where its moment lies past the latest period seen
abbrev pub removed_if : Bool → FileNames → Contents → List (List ℕ)
removed_if true names c = removed_from names c
removed_if false names c = []

-- what retention removes before a line of that moment
abbrev pub pruned_at : PrunedSink → Moment → Contents → PrunedSink
pruned_at p m c = without (removed_if (is_past p.sink m) p.sink.names c) p

-- each name stands for one file
abbrev pub StandOnce : List StoredFile → Type 0
StandOnce [] = Unit {0}
StandOnce (file ∷ files) = (file.stands ≡ true → bytes_at files file.name ≡ None) × StandOnce files

-- which is asked where there is a limit
abbrev pub OnceIf : Option ℕ → List StoredFile → Type 0
OnceIf None files = Unit {0}
OnceIf (Some limit) files = StandOnce files

-- no file goes and no link is made
pub record KeepsEveryFile (names : FileNames) : Type 0 where
  pub unlimited : names.limit ≡ None
  pub linkless : names.latest ≡ None

-- the link, where there is one, leads to that name, and no file stands under its own
abbrev pub Leads : Option (List ℕ) → List ℕ → Contents → Type 0
Leads None name c = Unit {0}
Leads (Some link) name c = (bytes_at c.files link ≡ None) × (target_at c.links link ≡ Some name)

-- The folder refuses nothing and takes each write whole, where there is a limit each name in it stands for one file, and it has no link
-- under the name of a log
-- file of the sink. The boundary is the end of the running moment's period, the current file is that period's and open, the link leads to
-- it, and each name has its text.
pub record MatchesSink (c : Contents) (names : FileNames) (boundary : Option ℤ) (current : FileNumber) (p : PrunedSink) : Type 0 where
  pub names_same : names ≡ p.sink.names
  pub good_link : HasGoodLink p.sink.names
  pub opened_moment : is_moment p.sink.opened ≡ true
  pub handed_moments : AllByRecursion (λ (h : Handed). is_moment h.moment ≡ true) p.sink.handed
  pub boundary_same : boundary ≡ end_of p.sink.names.kind (running_period p.sink)
  pub sound : IsSound c
  pub once : OnceIf names.limit c.files
  pub unlinked : (m : Moment) → is_moment m ≡ true → link_named (period_name p.sink (period_in p.sink m)) c.links ≡ false
  pub link : Leads p.sink.names.latest (period_name p.sink (running_period p.sink)) c
  pub current_same : file_named (period_name p.sink (running_period p.sink)) c.files ≡ Some current.index
  pub current_open : is_open current c ≡ true
  pub gone_opened : (name : List ℕ) → p.gone name ≡ true → was_opened p.sink name ≡ true
  pub files : (name : List ℕ) → bytes_at c.files name ≡ pruned_text p name

-- the same of an appender over a folder whose contents are known
abbrev pub KeptIn : Option Contents → FileNames → Option ℤ → FileNumber → PrunedSink → Type 0
KeptIn None names boundary current p = ⊥
KeptIn (Some c) names boundary current p = MatchesSink c names boundary current p

abbrev pub AgreesSink : {D : Type 0} → (D → Option Contents) → RollingFileAppender D → PrunedSink → Type 0
AgreesSink contents a p = KeptIn (contents a.folder) (builder_names a.builder) a.boundary a.current p

-- no file stands under the name of the link, where there is one
abbrev pub LinkFree : Option (List ℕ) → Contents → Type 0
LinkFree None c = Unit {0}
LinkFree (Some link) c = bytes_at c.files link ≡ None

-- a folder over which a sink may be opened: it refuses nothing, where there is a limit each name stands for one file, no link stands under
-- a name of a log file,
-- and no file under that of the link
pub record MayOpen (c : Contents) (names : FileNames) : Type 0 where
  pub sound : IsSound c
  pub once : OnceIf names.limit c.files
  pub unlinked : (opened m : Moment) → is_moment opened ≡ true → is_moment m ≡ true →
      link_named (file_name names opened.seconds (period_at names.kind m)) c.links ≡ false
  pub link_free : LinkFree names.latest c

-- the folder comes back: the same bytes under each name, and a sink may be opened over it again
abbrev pub HandsBack : Contents → FileNames → Option Contents → Type 0
HandsBack c names after = (d : Contents) × (after ≡ Some d) ×
    (((name : List ℕ) → bytes_at d.files name ≡ bytes_at c.files name) × MayOpen d names)

-- a sink as it is opened, after retention
abbrev pub fresh_sink : FileNames → Moment → Contents → PrunedSink
fresh_sink names m c = record {
  sink = record {
    names = names;
    opened = m;
    found = λ name. if is_named name (removed_from names c) then None else bytes_at c.files name;
    handed = [];
  };
  gone = λ name. false;
}

-- the numbers of the files that are open in it
abbrev pub IsOpenIn : Option Contents → List ℕ → Type 0
IsOpenIn None open_files = ⊥
IsOpenIn (Some c) open_files = c.open_files ≡ open_files

-- behind a look that was due the new file is open too and the one before it is not; before that nothing of this changes
abbrev pub OpensAfter : Bool → FileNumber → FileNumber → List ℕ → Option Contents → Type 0
OpensAfter true before new open_files after = IsOpenIn after (without_number before.index (open_files ++ new.index ∷ []))
OpensAfter false before new open_files after = IsOpenIn after open_files × (new ≡ before)

-- retention removed its names, and then the sink was opened; its file is open too, and nothing was lost
pub record OpensSink {D : Type 0} (contents : D → Option Contents) (names : FileNames) (m : Moment) (c : Contents)
    (a : RollingFileAppender D) : Type 0 where
  pub agrees : AgreesSink contents a (fresh_sink names m c)
  pub counts : a.faults ≡ no_faults
  pub opens : IsOpenIn (contents a.folder) (c.open_files ++ a.current.index ∷ [])

-- retention removed its names where the moment lies past the latest period seen, and then the line was handed over; nothing was lost
pub record HandsSink {D : Type 0} (contents : D → Option Contents) (p : PrunedSink) (line : List ℕ) (m : Moment) (c : Contents)
    (a b : RollingFileAppender D) : Type 0 where
  pub agrees : AgreesSink contents b (with_line (pruned_at p m c) line m)
  pub counts : b.faults ≡ a.faults
  pub opens : OpensAfter (is_past p.sink m) a.current b.current c.open_files (contents b.folder)

-- but for the end of its period, which was this and is that of the moment's, the appender agrees with the sink
abbrev pub MissedAt : {D : Type 0} → (D → Option Contents) → Option ℤ → PrunedSink → Moment → RollingFileAppender D → Type 0
MissedAt contents boundary p m a = (a.boundary ≡ end_at (builder_names a.builder) m) ×
    AgreesSink contents (record a { boundary = boundary }) p

-- a look at that moment; where it found no memory, the sink is as it was if no file goes and no link is made
abbrev pub RollsSink : {D E : Type 0} → (D → Option Contents) → PrunedSink → Moment → Contents → RollingFileAppender D →
    Result (Unit {0}) E → RollingFileAppender D → Type 0
RollsSink contents p m c a (Ok done) b = HandsSink contents p [] m c a b
RollsSink contents p m c a (Err e) b = KeepsEveryFile p.sink.names → MissedAt contents a.boundary p m b

-- a line's writes behind its look; where these found no memory the sink is as it was
abbrev pub WritesSink : {T : Type 0} → FileNames → Option ℤ → FileNumber → (T → List ℕ) → Result T FolderError → Option Contents →
    Option Contents → Type 0
WritesSink names boundary current line (Ok value) before after =
    ((p : PrunedSink) (m : Moment) → KeptIn before names boundary current (with_line p [] m) →
    KeptIn after names boundary current (with_line p (line value) m))
    × ((files : List ℕ) → IsOpenIn before files → IsOpenIn after files)
WritesSink names boundary current line (Err (Fault fault)) before after = (p : PrunedSink) → KeptIn before names boundary current p → ⊥
WritesSink names boundary current line (Err OutOfMemory) before after = (p : PrunedSink) → KeptIn before names boundary current p →
    KeptIn after names boundary current p

-- a line that was handed over: no fault is told, and where no memory was found its look found none, or no byte was written
abbrev pub LeavesSink : {D T : Type 0} → (D → Option Contents) → PrunedSink → (T → List ℕ) → Moment → Contents → RollingFileAppender D →
    Result T FolderError → RollingFileAppender D → Type 0
LeavesSink contents p line m c a (Ok value) b = HandsSink contents p (line value) m c a b
LeavesSink contents p line m c a (Err (Fault fault)) b = ⊥
LeavesSink contents p line m c a (Err OutOfMemory) b =
    KeepsEveryFile p.sink.names → MissedAt contents a.boundary p m b ⊎ AgreesSink contents b (with_line (pruned_at p m c) [] m)

-- the file of each moment's period, where retention left it, holds what its opening found and then that period's lines
abbrev pub FilesByPeriod : Type 0
FilesByPeriod = (p : PrunedSink) (m : Moment) → is_moment m ≡ true → is_moment p.sink.opened ≡ true →
    AllByRecursion (λ (h : Handed). is_moment h.moment ≡ true) p.sink.handed →
    p.gone (period_name p.sink (period_in p.sink m)) ≡ false →
    pruned_text p (period_name p.sink (period_in p.sink m)) ≡ period_text p.sink (period_in p.sink m)
    (p.sink.found (period_name p.sink (period_in p.sink m)))
