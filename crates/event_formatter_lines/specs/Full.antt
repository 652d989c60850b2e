-- The full format.
use Rattle.std.specs.Prelude.{ℕ, Bool, true, false, List, [], ◌∷◌, ◌++◌, Option, Some, None, codes}
use Rattle.std.specs.Fmt.{decimal}
use Rattle.std.specs.List.{flat_map}
use Rattle.std.specs.Option.{is_some}
use Rattle.event_formatter_text.specs.Styles.{bold, dimmed}
use Rattle.event_formatter_text.specs.declared.settings.Settings.{Settings}
use Rattle.event_formatter_lines.specs.Frames.{framed_text}
use Rattle.event_formatter_lines.specs.Heads.{PlainHead, level_piece, plain_piece, time_piece}
use Rattle.event_formatter_lines.specs.Shown.{PlainShown, name_in_chain}

-- a span's text between braces, where it isn't empty
abbrev pub braced : Settings → List ℕ → List ℕ
braced settings [] = []
braced settings (b ∷ bs) = bold settings (codes "{") ++ (b ∷ bs) ++ bold settings (codes "}")

-- a span: its name, its text and a colon
unfoldable pub span_piece : Settings → PlainShown → List ℕ
span_piece settings span = name_in_chain settings span ++ braced settings span.text ++ dimmed settings (codes ":")

-- the spans, and a space where there are any
abbrev pub spans_text : Settings → List PlainShown → List ℕ
spans_text settings [] = []
spans_text settings (span ∷ spans) = flat_map (span_piece settings) (span ∷ spans) ++ codes " "

-- the target, a colon and a space
abbrev pub target_piece : Settings → Option (List ℕ) → List ℕ
target_piece settings None = []
target_piece settings (Some target) = dimmed settings target ++ dimmed settings (codes ":") ++ codes " "

-- the space behind a file, where no line's number follows
abbrev pub space_unless : Bool → List ℕ
space_unless true = []
space_unless false = codes " "

-- the file and a colon
abbrev pub file_piece : Settings → Bool → Option (List ℕ) → List ℕ
file_piece settings has_line None = []
file_piece settings has_line (Some file) = dimmed settings file ++ dimmed settings (codes ":") ++ space_unless has_line

-- the line's number with its colon, and a space
abbrev pub line_piece : Settings → Option ℕ → List ℕ
line_piece settings None = []
line_piece settings (Some line) = dimmed settings (decimal line ++ codes ":") ++ codes " "

-- what stands before the fields
abbrev pub full_head : Settings → PlainHead → List PlainShown → List ℕ
full_head settings head spans =
    time_piece settings head.time ++ level_piece settings head.level ++ plain_piece head.thread_name
    ++ plain_piece head.thread_id ++ spans_text settings spans ++ target_piece settings head.target
    ++ file_piece settings (is_some head.line) head.file ++ line_piece settings head.line

-- the line, where its fields can be formatted
abbrev pub full_line : Settings → PlainHead → List PlainShown → Option (List ℕ) → Option (List ℕ)
full_line settings head spans fields = framed_text (full_head settings head spans) fields (codes "\n")
