-- What stands before the spans of a line.
use Rattle.std.specs.Prelude.{ℕ, List, [], ◌∷◌, ◌++◌, if◌then◌else◌, Option, Some, None, codes}
use Rattle.std.specs.Option.{option_map}
use Rattle.std.specs.Str.{bytes_eq}
use Rattle.tracing_core_fields.specs.Level.{level_name}
use Rattle.event_formatter_text.specs.Styles.{dimmed, styled}
use Rattle.event_formatter_text.specs.declared.settings.Settings.{Settings}
use Rattle.event_formatter_lines.specs.declared.head.Head.{Head}

-- the code that begins the style of a level, by the level's name
unfoldable pub level_start : List ℕ → List ℕ
level_start name =
    if bytes_eq name (codes "ERROR") then 27 ∷ codes "[31m"
    else (if bytes_eq name (codes "WARN") then 27 ∷ codes "[33m"
    else (if bytes_eq name (codes "INFO") then 27 ∷ codes "[32m"
    else (if bytes_eq name (codes "DEBUG") then 27 ∷ codes "[34m"
    else 27 ∷ codes "[35m")))

-- a level's name, right-aligned in five places
unfoldable pub in_five_places : List ℕ → List ℕ
in_five_places name =
    if bytes_eq name (codes "INFO") then codes " INFO" else (if bytes_eq name (codes "WARN") then codes " WARN" else name)

abbrev pub level_text : Settings → ℕ → List ℕ
level_text settings level = styled settings (level_start (level_name level)) (in_five_places (level_name level))

-- the level and a space
abbrev pub level_piece : Settings → Option ℕ → List ℕ
level_piece settings None = []
level_piece settings (Some level) = level_text settings level ++ codes " "

-- the time and a space
abbrev pub time_piece : Settings → Option (List ℕ) → List ℕ
time_piece settings None = []
time_piece settings (Some time) = dimmed settings time ++ codes " "

-- a text as it is, and a space
abbrev pub plain_piece : Option (List ℕ) → List ℕ
plain_piece None = []
plain_piece (Some text) = text ++ codes " "

-- what is known of an event beside its fields and spans
pub record PlainHead : Type 0 where
  pub time : Option (List ℕ)
  pub level : Option ℕ
  pub thread_name : Option (List ℕ)
  pub thread_id : Option (List ℕ)
  pub target : Option (List ℕ)
  pub file : Option (List ℕ)
  pub line : Option ℕ

abbrev pub plain_head : Head → PlainHead
plain_head head =
    record {
      time = option_map (λ text. text.now) head.time;
      level = head.level;
      thread_name = option_map (λ text. text.now) head.thread_name;
      thread_id = option_map (λ text. text.now) head.thread_id;
      target = option_map (λ text. text.now) head.target;
      file = option_map (λ text. text.now) head.file;
      line = head.line;
    }

-- a time, a level and a target, and nothing else
abbrev pub usual_head : List ℕ → ℕ → List ℕ → PlainHead
usual_head time level target =
    record {
      time = Some time;
      level = Some level;
      thread_name = None;
      thread_id = None;
      target = Some target;
      file = None;
      line = None;
    }
