-- What is read from the files of a sink.
use Rattle.std.specs.Prelude.{◌≡◌, ◌≢◌, ◌⊎◌, ℕ, true, List, [], ◌∷◌, ◌++◌, Some, unwrap_or}
use Rattle.std.specs.List.{flat_map, AllByRecursion}
use Rattle.std.specs.List.Sorted.{IsStrictlySortedBy}
use Rattle.std.specs.Cmp.Lexicographic.{slice_cmp}
use Rattle.std.specs.Ordering.{nat_cmp}
use Rattle.tracing_appender_rolling.specs.declared.faults.Faults.{Faults}
use Rattle.tracing_appender_rolling.specs.folders.Contents.{Contents, bytes_at}
use Rattle.tracing_appender_rolling.specs.RetentionRemovals.{removed_all}
use Rattle.tracing_core_moments.specs.Moments.{is_moment, latest_of}
use Rattle.tracing_core_moments.specs.declared.moment.Moment.{Moment}
use Rattle.tracing_appender_rolling.specs.Sinks.{Handed, PlainSink, running_moment, period_in, period_name, was_opened, file_text}

-- a sink to which these were handed over, with a line between them
abbrev pub between : PlainSink → List Handed → List ℕ → Moment → List Handed → PlainSink
between s before line m after = record s { handed = before ++ record { line = line; moment = m } ∷ after }

-- the name of the file of the period in which that line's running moment lies
abbrev pub name_between : PlainSink → List Handed → Moment → List ℕ
name_between s before m = period_name s (period_in s (latest_of (running_moment s.opened before) m))

-- Whatever bytes a handed line has, they stand whole in the file of its running moment's period, between the same bytes, and every other
-- file has the same text.
abbrev pub LinesStandWhole : Type 0
LinesStandWhole = (s : PlainSink) (before after : List Handed) (m : Moment) →
    ((front : List ℕ) × (back : List ℕ) ×
    ((line : List ℕ) → file_text (between s before line m after) (name_between s before m) ≡ Some (front ++ (line ++ back))))
    × ((one other name : List ℕ) → name ≢ name_between s before m →
    file_text (between s before one m after) name ≡ file_text (between s before other m after) name)

abbrev pub IsAmong : List ℕ → List (List ℕ) → Type 0
IsAmong name [] = ⊥
IsAmong name (n ∷ ns) = (n ≡ name) ⊎ IsAmong name ns

-- the files of these names, one after another
abbrev pub read_files : PlainSink → List (List ℕ) → List ℕ
read_files s names = flat_map (λ (name : List ℕ). unwrap_or (file_text s name) []) names

-- Where the names are in byte order, with each file among them that was opened, and their files were empty at the opening, the files read
-- in this order are the
-- handed lines in order.
abbrev pub FilesReadInOrder : Type 0
FilesReadInOrder = (s : PlainSink) (names : List (List ℕ)) → is_moment s.opened ≡ true →
    AllByRecursion (λ (h : Handed). is_moment h.moment ≡ true) s.handed →
    ((name : List ℕ) → IsAmong name names → unwrap_or (s.found name) [] ≡ []) → IsStrictlySortedBy (slice_cmp nat_cmp) names →
    ((name : List ℕ) → was_opened s name ≡ true → IsAmong name names) →
    read_files s names ≡ flat_map (λ (h : Handed). h.line) s.handed

-- the same of the sink's own files alone, whatever else the folder has
abbrev pub OwnFilesReadInOrder : Type 0
OwnFilesReadInOrder = (s : PlainSink) (names : List (List ℕ)) → is_moment s.opened ≡ true →
    AllByRecursion (λ (h : Handed). is_moment h.moment ≡ true) s.handed →
    ((name : List ℕ) → was_opened s name ≡ true → unwrap_or (s.found name) [] ≡ []) → IsStrictlySortedBy (slice_cmp nat_cmp) names →
    ((name : List ℕ) → was_opened s name ≡ true → IsAmong name names) → ((name : List ℕ) → IsAmong name names → was_opened s name ≡ true) →
    read_files s names ≡ flat_map (λ (h : Handed). h.line) s.handed

-- whatever the folder refuses, removals leave the bytes of every other name
abbrev pub RetentionSpares : Type 0
RetentionSpares = (names : List (List ℕ)) (f : Faults) (c : Contents) (q : List ℕ) → (IsAmong q names → ⊥) →
    bytes_at (removed_all names (f, c)).1.files q ≡ bytes_at c.files q
