-- The texts of single fields.
use Rattle.std.specs.Prelude.{ℕ, List, [], ◌∷◌, ◌++◌, Bool, nat_eq, if◌then◌else◌, Option, Some, None, codes, drop}
use Rattle.std.specs.Fmt.{signed_decimal, decimal}
use Rattle.std.specs.List.{flat_map, starts_with}
use Rattle.std.specs.Option.{option_map}
use Rattle.std.specs.Str.{bytes_eq}
use Rattle.tracing_core_fields.specs.PlainDebug.{PlainDebug, Written, Unwritable, OfSigned, OfUnsigned, OfWideSigned, OfWideUnsigned}
use Rattle.tracing_core_fields.specs.PlainDebug.{OfTruth, OfText, OfBytes, OfError, bytes_text}
use Rattle.tracing_core_fields.specs.Quoted.{quoted}
use Rattle.event_formatter_text.specs.Escapes.{sanitized}
use Rattle.event_formatter_text.specs.Styles.{italic, dimmed}
use Rattle.event_formatter_text.specs.declared.field_text.Punctuation.{Punctuation}
use Rattle.event_formatter_text.specs.declared.field_text.Punctuation.TheVariants.{Default, Pretty}
use Rattle.event_formatter_text.specs.declared.settings.Settings.{Settings}

-- what stands between two fields
abbrev pub separator : Punctuation → List ℕ
separator Default = codes " "
separator Pretty = codes ", "

-- what stands between a field's name and its value
abbrev pub mark : Punctuation → List ℕ
mark Default = codes "="
mark Pretty = codes ": "

abbrev pub is_message : List ℕ → Bool
is_message name = bytes_eq name (codes "message")

-- a name without a leading r#
unfoldable pub plain_name : List ℕ → List ℕ
plain_name name = if starts_with nat_eq name (codes "r#") then drop 2 name else name

-- a text as a message or an error shows it
unfoldable pub shown : Settings → List ℕ → List ℕ
shown settings text = if settings.sanitizes then sanitized text else text

-- texts, a comma and a space before each
abbrev pub shown_later : Settings → List (List ℕ) → List ℕ
shown_later settings texts = flat_map (λ text. codes ", " ++ shown settings text) texts

-- texts, a comma and a space between each two
abbrev pub shown_list : Settings → List (List ℕ) → List ℕ
shown_list settings [] = []
shown_list settings (text ∷ texts) = shown settings text ++ shown_later settings texts

-- what stands before a field's value
abbrev pub label : Settings → Punctuation → List ℕ → List ℕ
label settings punctuation name =
    if is_message name then [] else italic settings (plain_name name) ++ dimmed settings (mark punctuation)

-- what stands before the texts of an error's sources
abbrev pub sources_label : Settings → Punctuation → List ℕ → List ℕ
sources_label settings punctuation name =
    italic settings (plain_name name) ++ italic settings (codes ".sources") ++ dimmed settings (mark punctuation)

-- what stands behind an error's text
abbrev pub sources_text : Settings → Punctuation → List ℕ → List (List ℕ) → List ℕ
sources_text settings punctuation name [] = []
sources_text settings punctuation name (source ∷ sources) =
    separator punctuation ++ sources_label settings punctuation name ++ codes "["
    ++ shown_list settings (source ∷ sources) ++ codes "]"

-- a text that was written before: as a message shows it, or as it is
abbrev pub own_text : Settings → List ℕ → List ℕ → List ℕ
own_text settings name text = if is_message name then shown settings text else text

abbrev pub truth_text : Bool → List ℕ
truth_text b = if b then codes "true" else codes "false"

-- what stands for a value, where that can be formatted
abbrev pub value_text : Settings → Punctuation → List ℕ → PlainDebug → Option (List ℕ)
value_text settings punctuation name (Written plain alternate) = Some (own_text settings name plain)
value_text settings punctuation name Unwritable = None
value_text settings punctuation name (OfSigned n) = Some (signed_decimal n)
value_text settings punctuation name (OfUnsigned n) = Some (decimal n)
value_text settings punctuation name (OfWideSigned n) = Some (signed_decimal n)
value_text settings punctuation name (OfWideUnsigned n) = Some (decimal n)
value_text settings punctuation name (OfTruth b) = Some (truth_text b)
value_text settings punctuation name (OfText text) =
    Some (if is_message name then shown settings text else quoted text)
value_text settings punctuation name (OfBytes bytes) = Some (bytes_text bytes)
value_text settings punctuation name (OfError text sources) =
    Some (shown settings text ++ sources_text settings punctuation name sources)

-- a field's piece of the text
abbrev pub field_piece : Settings → Punctuation → List ℕ → PlainDebug → Option (List ℕ)
field_piece settings punctuation name value =
    option_map (λ text. label settings punctuation name ++ text) (value_text settings punctuation name value)
