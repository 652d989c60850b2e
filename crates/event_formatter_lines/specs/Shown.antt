-- The spans that a line shows.
use Rattle.std.specs.Prelude.{ℕ, List, [], slice_index_or}
use Rattle.event_formatter_text.specs.Styles.{bold}
use Rattle.event_formatter_text.specs.declared.settings.Settings.{Settings}
use Rattle.event_formatter_lines.specs.declared.shown.ShownSpan.{ShownSpan}

-- a span by its name, its target, and the text of its fields
pub record PlainShown : Type 0 where
  pub name : List ℕ
  pub target : List ℕ
  pub text : List ℕ

abbrev pub plain_shown : ShownSpan → PlainShown
plain_shown span = record { name = span.name.now; target = span.target.now; text = span.text.now }

abbrev pub nothing_shown : PlainShown
nothing_shown = record { name = []; target = []; text = [] }

abbrev pub span_at : List PlainShown → ℕ → PlainShown
span_at spans index = slice_index_or spans index nothing_shown

-- a span's name in a chain of spans, as the full and the compact format show it
abbrev pub name_in_chain : Settings → PlainShown → List ℕ
name_in_chain settings span = bold settings span.name
