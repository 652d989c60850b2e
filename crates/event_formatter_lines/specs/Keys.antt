-- Keys that a line names itself.
use Rattle.std.specs.Prelude.{ℕ, List, codes}
use Rattle.event_formatter_lines.specs.declared.json.key.Key.{Key}
use Rattle.event_formatter_lines.specs.declared.json.key.Key.TheVariants.{Level, LineNumber, Span}
use Rattle.event_formatter_lines.specs.declared.json.key.TextKey.{TextKey}
use Rattle.event_formatter_lines.specs.declared.json.key.TextKey.TheVariants.{Target, Filename, ThreadName, ThreadId, Name, Field}

-- of a value that is no text
abbrev pub key_name : Key → List ℕ
key_name Level = codes "level"
key_name LineNumber = codes "line_number"
key_name Span = codes "span"

-- of a text
abbrev pub text_key_name : TextKey → List ℕ
text_key_name Target = codes "target"
text_key_name Filename = codes "filename"
text_key_name ThreadName = codes "threadName"
text_key_name ThreadId = codes "threadId"
text_key_name Name = codes "name"
text_key_name Field = codes "field"
