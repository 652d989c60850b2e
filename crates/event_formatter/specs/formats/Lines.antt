-- The line of an event in each format.
use Rattle.std.specs.Prelude.{ℕ, Bool, true, false, ◌&&◌, ◌||◌, not, List, Option, Some, None}
use Rattle.tracing_core_fields.specs.PlainMetadata.{PlainMetadata}
use Rattle.tracing_core_fields.specs.requests.PlainRequests.{PlainEvent, PlainValues}
use Rattle.event_formatter_text.specs.Visitors.{pretty_text}
use Rattle.event_formatter_text.specs.declared.settings.Settings.{Settings}
use Rattle.event_formatter_lines.specs.Compact.{compact_line}
use Rattle.event_formatter_lines.specs.Full.{full_line}
use Rattle.event_formatter_lines.specs.Heads.{PlainHead}
use Rattle.event_formatter_lines.specs.Json.{json_line}
use Rattle.event_formatter_lines.specs.Pretty as pretty
use Rattle.event_formatter_lines.specs.Pretty.{PlainPlace, pretty_line}
use Rattle.event_formatter.specs.formats.Contexts.{PlainContext, PlainThread}
use Rattle.event_formatter.specs.formats.Headings.{id_shown, name_shown, time_shown}
use Rattle.event_formatter.specs.declared.formats.line_format.LineFormat.{LineFormat}
use Rattle.event_formatter.specs.declared.formats.line_format.LineFormat.TheVariants as format
use Rattle.event_formatter.specs.declared.formats.line_format.Pretty.{Pretty}
use Rattle.event_formatter.specs.declared.formats.parts.Parts.{Parts}

-- what there is, where it is asked for
abbrev pub asked : {A : Type 0} → Bool → Option A → Option A
asked true x = x
asked false x = None

-- whether the texts of a thread are brought to a common width
abbrev pub is_padded : LineFormat → Bool
is_padded format.Full = true
is_padded format.Compact = true
is_padded (format.Pretty p) = false
is_padded (format.Json shape) = false

-- what a line shows of an event beside its fields and spans, with these texts of the time and the thread
abbrev pub head_with : Parts → Option (List ℕ) → Option (List ℕ) → Option (List ℕ) → PlainMetadata → PlainHead
head_with parts time name id m =
    record {
      time = time;
      level = asked parts.level (Some m.level);
      thread_name = name;
      thread_id = id;
      target = asked parts.target (Some m.target);
      file = asked parts.file m.file;
      line = asked parts.line_number m.line;
    }

abbrev pub head_of : Bool → Parts → Option (List ℕ) → PlainThread → PlainMetadata → PlainHead
head_of padded parts time thread m =
    head_with parts (time_shown parts time) (name_shown padded parts thread) (id_shown padded parts thread) m

-- the pretty format shows the line's number before the fields where the location is shown without a file
abbrev pub pretty_heading : Pretty → Parts → PlainHead → PlainHead
pretty_heading p parts head = record head { line = asked (p.display_location && not parts.file) head.line }

-- the thread behind the fields
abbrev pub pretty_thread : Parts → Option (List ℕ) → PlainHead → pretty.PlainThread
pretty_thread parts name head = record { name = asked parts.thread_names name; id = head.thread_id }

-- the place behind the fields
abbrev pub pretty_place : Pretty → Parts → Option (List ℕ) → PlainHead → PlainPlace
pretty_place p parts name head =
    record {
      file = asked p.display_location head.file;
      line = head.line;
      thread = asked (parts.thread_names || parts.thread_ids) (Some (pretty_thread parts name head));
    }

-- the line of an event behind this head, where it can be formatted
abbrev pub line_behind : LineFormat → Parts → Settings → PlainHead → PlainContext → PlainValues → Option (List ℕ)
line_behind format.Full parts settings head c values =
    full_line settings head c.strict (c.text_of settings values)
line_behind format.Compact parts settings head c values =
    compact_line settings head c.loose c.strict (c.text_of settings values)
line_behind (format.Pretty p) parts settings head c values =
    pretty_line (pretty_heading p parts head) (pretty_place p parts c.thread.name head) parts.target c.loose
    (pretty_text settings values)
line_behind (format.Json json) parts settings head c values = json_line json.shape head c.loose values

-- the line of an event, where it can be formatted; the time is that of the timer
abbrev pub line_in : LineFormat → Parts → Settings → Option (List ℕ) → PlainContext → PlainEvent → Option (List ℕ)
line_in shape parts settings time c e =
    line_behind shape parts settings (head_of (is_padded shape) parts time c.thread e.metadata) c e.values

-- the settings of a writer, but for styles where the format has its own word on them
abbrev pub with_styles : Option Bool → Settings → Settings
with_styles None settings = settings
with_styles (Some styles) settings = record settings { styles = styles }
