-- The pretty format.
use Rattle.std.specs.Prelude.{ℕ, Bool, true, false, ◌||◌, List, [], ◌∷◌, ◌++◌, Option, Some, None, codes}
use Rattle.std.specs.Fmt.{decimal}
use Rattle.std.specs.Option.{is_some, option_map}
use Rattle.tracing_core_fields.specs.Level.{level_name}
use Rattle.event_formatter_lines.specs.Frames.{framed_text}
use Rattle.event_formatter_lines.specs.Heads.{PlainHead, in_five_places, plain_piece}
use Rattle.event_formatter_lines.specs.Shown.{PlainShown}
use Rattle.event_formatter_lines.specs.declared.place.Place.{Place}
use Rattle.event_formatter_lines.specs.declared.place.Thread.{Thread}

-- a thread by its name and its number, as the format shows them
pub record PlainThread : Type 0 where
  pub name : Option (List ℕ)
  pub id : Option (List ℕ)

-- what stands behind the fields of an event
pub record PlainPlace : Type 0 where
  pub file : Option (List ℕ)
  pub line : Option ℕ
  pub thread : Option PlainThread

abbrev pub plain_thread : Thread → PlainThread
plain_thread thread =
    record {
      name = option_map (λ text. text.now) thread.name;
      id = option_map (λ text. text.now) thread.id;
    }

abbrev pub plain_place : Place → PlainPlace
plain_place place =
    record {
      file = option_map (λ text. text.now) place.file;
      line = place.line;
      thread = option_map plain_thread place.thread;
    }

-- the level in five places, and a space
abbrev pub level_part : Option ℕ → List ℕ
level_part None = []
level_part (Some level) = in_five_places (level_name level) ++ codes " "

-- the target and a colon
abbrev pub target_part : Option (List ℕ) → List ℕ
target_part None = []
target_part (Some target) = target ++ codes ":"

-- the line's number and a colon
abbrev pub number_part : Option ℕ → List ℕ
number_part None = []
number_part (Some line) = decimal line ++ codes ":"

-- what stands before the fields
abbrev pub pretty_head : PlainHead → List ℕ
pretty_head head =
    codes "  " ++ plain_piece head.time ++ level_part head.level ++ target_part head.target ++ number_part head.line
    ++ codes " "

-- a line's number behind its file
abbrev pub line_part : Option ℕ → List ℕ
line_part None = []
line_part (Some line) = codes ":" ++ decimal line

-- the file, with the line's number where that is known
abbrev pub file_part : Option (List ℕ) → Option ℕ → List ℕ
file_part None line = []
file_part (Some file) line = codes "    at " ++ file ++ line_part line

-- what begins a thread, which stands behind the file or on a line of its own
abbrev pub thread_start : Bool → List ℕ
thread_start true = codes " on "
thread_start false = codes "    on "

-- a thread's name, and a space where its number follows
abbrev pub space_before_id : Bool → List ℕ
space_before_id true = codes " "
space_before_id false = []

abbrev pub name_part : Bool → Option (List ℕ) → List ℕ
name_part has_id None = []
name_part has_id (Some name) = name ++ space_before_id has_id

abbrev pub id_part : Option (List ℕ) → List ℕ
id_part None = []
id_part (Some id) = id

abbrev pub thread_part : Bool → Option PlainThread → List ℕ
thread_part has_file None = []
thread_part has_file (Some thread) =
    thread_start has_file ++ name_part (is_some thread.id) thread.name ++ id_part thread.id

-- the end of the line of the file and the thread, where it was begun
abbrev pub newline_if : Bool → List ℕ
newline_if true = codes "\n"
newline_if false = []

-- the line of the file and the thread
abbrev pub place_text : PlainPlace → List ℕ
place_text place =
    file_part place.file place.line ++ thread_part (is_some place.file) place.thread
    ++ newline_if (is_some place.file || is_some place.thread)

-- a span's target before its name
abbrev pub path_part : Bool → List ℕ → List ℕ
path_part true target = target ++ codes "::"
path_part false target = []

-- a span's text, where it isn't empty
abbrev pub with_part : List ℕ → List ℕ
with_part [] = []
with_part (b ∷ bs) = codes " with " ++ (b ∷ bs)

-- the line of a span
unfoldable pub span_line : Bool → PlainShown → List ℕ
span_line shows_target span =
    codes "    in " ++ path_part shows_target span.target ++ span.name ++ with_part span.text ++ codes "\n"

-- the lines of spans, which come from the root on: the last one's line stands first
unfoldable pub from_leaf : Bool → List PlainShown → List ℕ
from_leaf shows_target [] = []
from_leaf shows_target (span ∷ spans) = from_leaf shows_target spans ++ span_line shows_target span

-- what stands behind the fields
abbrev pub pretty_tail : PlainPlace → Bool → List PlainShown → List ℕ
pretty_tail place shows_target loose =
    codes "\n" ++ place_text place ++ from_leaf shows_target loose ++ codes "\n"

-- the line, where its fields can be formatted
abbrev pub pretty_line : PlainHead → PlainPlace → Bool → List PlainShown → Option (List ℕ) → Option (List ℕ)
pretty_line head place shows_target loose fields =
    framed_text (pretty_head head) fields (pretty_tail place shows_target loose)
