-- What is kept of the fields of a span.
use Rattle.std.specs.Prelude.{◌≡◌, ℕ, List, [], ◌∷◌, ◌++◌, Option, Some, None, Result, Ok, Err, codes, map, string_bytes}
use Rattle.std.specs.Option.{option_map}
use Rattle.event_formatter_text.specs.declared.error.FormatError.{FormatError}
use Rattle.event_formatter_text.specs.declared.error.FormatError.TheVariants.{Failed, OutOfMemory}
use Rattle.event_formatter_text.specs.declared.formatted_fields.FormattedFields.{FormattedFields}
use Rattle.event_formatter_text.specs.declared.settings.Settings.{Settings}

-- the text, the words that a formatter needs to add to it, and how it is written
pub record PlainFields : Type 0 where
  pub text : List ℕ
  pub words : List (List ℕ)
  pub settings : Settings

-- no text and no words, to be written with these settings
abbrev pub no_fields : Settings → PlainFields
no_fields settings = record { text = []; words = []; settings = settings }

abbrev pub plain_fields : FormattedFields → PlainFields
plain_fields fields =
    record { text = string_bytes fields.text; words = map string_bytes fields.words.items; settings = fields.settings }

-- more of the fields was added; a list that can't be formatted, and out of memory, leave what was kept
abbrev pub Adds : Option PlainFields → PlainFields → Result (Unit {0}) FormatError → PlainFields → Type 0
Adds (Some fields) old (Ok done) new = new ≡ fields
Adds None old (Ok done) new = ⊥
Adds (Some fields) old (Err Failed) new = ⊥
Adds None old (Err Failed) new = new ≡ old
Adds fields old (Err OutOfMemory) new = new ≡ old

-- the space behind a text that isn't empty
abbrev pub space_behind : List ℕ → List ℕ
space_behind [] = []
space_behind (b ∷ bs) = codes " "

-- the text of one more list, behind a space where there is a text before it
abbrev pub behind_space : Option (List ℕ) → PlainFields → Option PlainFields
behind_space more fields =
    option_map (λ text. record fields { text = fields.text ++ (space_behind fields.text ++ text) }) more
