-- What is handed to a sink, and what its files hold.
use Rattle.std.specs.Prelude.{ℕ, ℤ, List, [], ◌∷◌, ◌++◌, Bool, ◌||◌, if◌then◌else◌, Option, Some, unwrap_or}
use Rattle.std.specs.List.{filter, flat_map, list_any}
use Rattle.std.specs.Ordering.{int_eq}
use Rattle.std.specs.Str.{bytes_eq}
use Rattle.tracing_core_moments.specs.declared.period.PeriodKind.{PeriodKind}
use Rattle.tracing_core_moments.specs.declared.moment.Moment.{Moment}
use Rattle.tracing_core_moments.specs.Moments.{latest_of, period_at, end_of, is_due}
use Rattle.tracing_appender_rolling.specs.Names.{FileNames, file_name}

-- a handed line, with the moment at which it was handed over; a line that was looked at and then found no memory has no bytes
pub record Handed : Type 0 where
  pub line : List ℕ
  pub moment : Moment

-- a line with the greatest moment that its writer had seen
pub record Placed : Type 0 where
  pub line : List ℕ
  pub running : Moment

-- the running moment after each handed line: the greatest of the opening's moment and those of the lines so far
abbrev pub placed : Moment → List Handed → List Placed
placed seen [] = []
placed seen (h ∷ hs) = record { line = h.line; running = latest_of seen h.moment } ∷ placed (latest_of seen h.moment) hs

-- the running moment after all of them
abbrev pub running_moment : Moment → List Handed → Moment
running_moment seen [] = seen
running_moment seen (h ∷ hs) = running_moment (latest_of seen h.moment) hs

-- a sink: the names of its files, the moment of its opening, the bytes that its folder had then by name, and what was handed over since
pub record PlainSink : Type 0 where
  pub names : FileNames
  pub opened : Moment
  pub found : List ℕ → Option (List ℕ)
  pub handed : List Handed

abbrev pub with_handed : PlainSink → Handed → PlainSink
with_handed s h = record s { handed = s.handed ++ h ∷ [] }

abbrev pub placed_lines : PlainSink → List Placed
placed_lines s = placed s.opened s.handed

-- the period of a moment
abbrev pub period_in : PlainSink → Moment → ℤ
period_in s m = period_at s.names.kind m

-- the period of the latest moment seen
abbrev pub running_period : PlainSink → ℤ
running_period s = period_in s (running_moment s.opened s.handed)

-- a moment lies past it
abbrev pub is_past : PlainSink → Moment → Bool
is_past s m = is_due (end_of s.names.kind (running_period s)) m.seconds

-- the name of a period's file
abbrev pub period_name : PlainSink → ℤ → List ℕ
period_name s period = file_name s.names s.opened.seconds period

-- the running moment lies in a period whose file has this name; the sink's names and the moment of its opening come first
abbrev pub lies_in : FileNames → Moment → List ℕ → Placed → Bool
lies_in names opened name x = bytes_eq (file_name names opened.seconds (period_at names.kind x.running)) name

-- a file is opened for the period of the opening, and for each period in which a running moment lies
abbrev pub was_opened : PlainSink → List ℕ → Bool
was_opened s name = bytes_eq (period_name s (period_in s s.opened)) name || list_any (lies_in s.names s.opened name) (placed_lines s)

-- a file that was opened holds what the opening found, and then, in order, the lines whose running moment lies in its period
unfoldable pub file_text : PlainSink → List ℕ → Option (List ℕ)
file_text s name =
    if was_opened s name
    then Some (unwrap_or (s.found name) [] ++ flat_map (λ (x : Placed). x.line) (filter (lies_in s.names s.opened name) (placed_lines s)))
    else s.found name

-- the same by period: what the opening found, and then the lines whose running moment lies in the period
abbrev pub is_in : PeriodKind → ℤ → Placed → Bool
is_in kind period x = int_eq (period_at kind x.running) period

abbrev pub period_text : PlainSink → ℤ → Option (List ℕ) → Option (List ℕ)
period_text s period found =
    if int_eq (period_in s s.opened) period || list_any (is_in s.names.kind period) (placed_lines s)
    then Some (unwrap_or found [] ++ flat_map (λ (x : Placed). x.line) (filter (is_in s.names.kind period) (placed_lines s)))
    else found
