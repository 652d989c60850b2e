-- What a line shows of the time and the thread of an event.
use Rattle.std.specs.Prelude.{◌≡◌, ℕ, Bool, true, false, if◌then◌else◌, List, codes}
use Rattle.std.specs.Prelude.{Option, Some, None, Result, Ok, Err, unwrap_or}
use Rattle.std.specs.declared.alloc.AllocError.{AllocError}
use Rattle.event_formatter_lines.specs.times.Threads.{padded_name, thread_id_text}
use Rattle.event_formatter.specs.formats.Contexts.{PlainThread}
use Rattle.event_formatter.specs.declared.formats.parts.Parts.{Parts}

-- the text of the timer, and another one where it has none
abbrev pub time_or_unknown : Option (List ℕ) → List ℕ
time_or_unknown time = unwrap_or time (codes "<unknown time>")

-- the time, where it is shown
abbrev pub time_shown : Parts → Option (List ℕ) → Option (List ℕ)
time_shown parts time = if parts.timestamp then Some (time_or_unknown time) else None

-- a thread's number, where it is shown
abbrev pub id_shown : Bool → Parts → PlainThread → Option (List ℕ)
id_shown is_padded parts thread = if parts.thread_ids then Some (thread_id_text is_padded thread.id) else None

-- the number stands in the place of a name that there isn't, unless it is shown itself
abbrev pub id_in_place : Bool → Parts → PlainThread → Option (List ℕ)
id_in_place is_padded parts thread = if parts.thread_ids then None else Some (thread_id_text is_padded thread.id)

-- a name, in as many places as the longest one has bytes where it is padded
abbrev pub name_text : Bool → PlainThread → List ℕ → List ℕ
name_text is_padded thread name = if is_padded then padded_name thread.longest name else name

abbrev pub name_or_id : Bool → Parts → PlainThread → Option (List ℕ) → Option (List ℕ)
name_or_id is_padded parts thread None = id_in_place is_padded parts thread
name_or_id is_padded parts thread (Some name) = Some (name_text is_padded thread name)

-- a thread's name, where it is shown
abbrev pub name_shown : Bool → Parts → PlainThread → Option (List ℕ)
name_shown is_padded parts thread = if parts.thread_names then name_or_id is_padded parts thread thread.name else None

-- a text is shown, and it is this one, or none is
abbrev pub Shows : Option (List ℕ) → Result Bool AllocError → List ℕ → Type 0
Shows (Some text) (Ok true) new = new ≡ text
Shows (Some text) (Ok false) new = ⊥
Shows None (Ok true) new = ⊥
Shows None (Ok false) new = Unit {0}
Shows text (Err error) new = Unit {0}
