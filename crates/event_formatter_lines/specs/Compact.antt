-- The compact format.
use Rattle.std.specs.Prelude.{ℕ, Bool, true, false, ◌||◌, List, [], ◌∷◌, ◌++◌, Option, Some, None, codes}
use Rattle.std.specs.Fmt.{decimal}
use Rattle.std.specs.List.{flat_map}
use Rattle.std.specs.Option.{is_some}
use Rattle.event_formatter_text.specs.Styles.{dimmed}
use Rattle.event_formatter_text.specs.declared.settings.Settings.{Settings}
use Rattle.event_formatter_lines.specs.Frames.{framed_text}
use Rattle.event_formatter_lines.specs.Heads.{PlainHead, level_piece, plain_piece, time_piece}
use Rattle.event_formatter_lines.specs.Shown.{PlainShown, name_in_chain}

-- a span by its name
unfoldable pub name_piece : Settings → PlainShown → List ℕ
name_piece settings span = name_in_chain settings span ++ codes ":"

-- spans by their names, and a space where there are any
abbrev pub names_text : Settings → List PlainShown → List ℕ
names_text settings [] = []
names_text settings (span ∷ spans) = flat_map (name_piece settings) (span ∷ spans) ++ codes " "

-- a text and a colon, each a piece of its own
abbrev pub with_colon : Settings → Option (List ℕ) → List ℕ
with_colon settings None = []
with_colon settings (Some text) = dimmed settings text ++ dimmed settings (codes ":")

abbrev pub space_if : Bool → List ℕ
space_if true = codes " "
space_if false = []

-- the file, behind a space where the target is shown
abbrev pub file_text : Settings → Bool → Option (List ℕ) → List ℕ
file_text settings has_target None = []
file_text settings has_target (Some file) = space_if has_target ++ with_colon settings (Some file)

-- the line's number
abbrev pub line_text : Settings → Option ℕ → List ℕ
line_text settings None = []
line_text settings (Some line) = dimmed settings (decimal line) ++ dimmed settings (codes ":")

-- whether the target, the file or the line is shown
abbrev pub shows_place : PlainHead → Bool
shows_place head = is_some head.target || (is_some head.file || is_some head.line)

-- target, file and line, and a space where one of them is shown
unfoldable pub places_text : Settings → PlainHead → List ℕ
places_text settings head =
    with_colon settings head.target ++ file_text settings (is_some head.target) head.file
    ++ line_text settings head.line ++ space_if (shows_place head)

-- what stands before the fields
abbrev pub compact_head : Settings → PlainHead → List PlainShown → List ℕ
compact_head settings head loose =
    time_piece settings head.time ++ level_piece settings head.level ++ plain_piece head.thread_name
    ++ plain_piece head.thread_id ++ names_text settings loose ++ places_text settings head

-- a span's text behind a space, where it isn't empty
abbrev pub behind_space : Settings → List ℕ → List ℕ
behind_space settings [] = []
behind_space settings (b ∷ bs) = codes " " ++ dimmed settings (b ∷ bs)

unfoldable pub text_piece : Settings → PlainShown → List ℕ
text_piece settings span = behind_space settings span.text

-- what stands behind the fields: the texts of the spans, and the line's end
abbrev pub compact_tail : Settings → List PlainShown → List ℕ
compact_tail settings strict = flat_map (text_piece settings) strict ++ codes "\n"

-- the line, where its fields can be formatted
abbrev pub compact_line : Settings → PlainHead → List PlainShown → List PlainShown → Option (List ℕ) → Option (List ℕ)
compact_line settings head loose strict fields =
    framed_text (compact_head settings head loose) fields (compact_tail settings strict)
