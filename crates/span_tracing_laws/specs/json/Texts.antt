-- Texts, and files, that hold one object of JSON on each line.
use Rattle.std.specs.Prelude.{◌≡◌, ℕ, List, ◌++◌, codes}
use Rattle.std.specs.List.{AllByRecursion, flat_map}
use Rattle.std.specs.Str.Lines.{lines}
use Rattle.event_formatter_text.specs.IsJson.{IsJson, Value}
use Rattle.event_formatter_lines.specs.JsonLaws.{IsObjectLine}
use Rattle.tracing_appender_rolling.specs.Sinks.{Handed}
use Rattle.span_tracing_laws.specs.machines.Files.{FilesKeep}
use Rattle.span_tracing_laws.specs.machines.Lines.{AreHanded}

-- an object of JSON
abbrev pub IsJsonObject : List ℕ → Type 0
IsJsonObject text = (inner : List ℕ) × IsJson Value text × (text ≡ codes "{" ++ (inner ++ codes "}"))

-- each line that `str::lines` gives of the text is an object of JSON, and a newline stands behind each
pub record HoldsObjects (text : List ℕ) : Type 0 where
  pub objects : AllByRecursion IsJsonObject (lines text)
  pub ended : text ≡ flat_map (λ line. line ++ codes "\n") (lines text)

-- the text is made up of objects of JSON, each with a newline behind it; the empty text is, of none
abbrev pub IsObjectLines : List ℕ → Type 0
IsObjectLines text = (each : List (List ℕ)) × AllByRecursion IsObjectLine each × (text ≡ flat_map (λ line. line) each)

-- such a text holds one object on each line
abbrev pub LinesGiveObjects : Type 0
LinesGiveObjects = (text : List ℕ) → IsObjectLines text → HoldsObjects text

-- each line that was handed over is an object and a newline, or found no memory and has no bytes
abbrev pub AreObjectsHanded : List Handed → Type 0
AreObjectsHanded handed = AreHanded IsObjectLine handed

-- a file of a sink that was handed objects alone is made up of objects, if the text that its opening found is: by its name, where retention
-- left it, and by its period
abbrev pub FilesHoldObjects : Type 0
FilesHoldObjects = FilesKeep IsObjectLine IsObjectLines
