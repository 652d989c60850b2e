-- Values and fields as JSON.
use Rattle.std.specs.Prelude.{ℕ, List, [], ◌∷◌, ◌++◌, Option, Some, None, codes}
use Rattle.std.specs.Fmt.{signed_decimal, decimal}
use Rattle.std.specs.List.{flat_map}
use Rattle.std.specs.Option.{option_map}
use Rattle.tracing_core_fields.specs.PlainDebug.{PlainDebug, Written, Unwritable, OfSigned, OfUnsigned, OfWideSigned, OfWideUnsigned}
use Rattle.tracing_core_fields.specs.PlainDebug.{OfTruth, OfText, OfBytes, OfError}
use Rattle.event_formatter_text.specs.Escapes.{json_string}
use Rattle.event_formatter_text.specs.FieldTexts.{plain_name, truth_text}

-- numbers, a comma before each
abbrev pub later_numbers : List ℕ → List ℕ
later_numbers numbers = flat_map (λ n. codes "," ++ decimal n) numbers

-- numbers, a comma between each two
abbrev pub numbers_inside : List ℕ → List ℕ
numbers_inside [] = []
numbers_inside (n ∷ numbers) = decimal n ++ later_numbers numbers

-- a text without anything to escape, as a string
abbrev pub between_quotes : List ℕ → List ℕ
between_quotes text = codes "\"" ++ text ++ codes "\""

-- texts as strings, a comma before each
abbrev pub later_strings : List (List ℕ) → List ℕ
later_strings texts = flat_map (λ text. codes "," ++ json_string text) texts

-- texts as strings, a comma between each two
abbrev pub strings_inside : List (List ℕ) → List ℕ
strings_inside [] = []
strings_inside (text ∷ texts) = json_string text ++ later_strings texts

-- texts as an array of strings
abbrev pub strings_array : List (List ℕ) → List ℕ
strings_array texts = codes "[" ++ strings_inside texts ++ codes "]"

-- a value, where it can be formatted
abbrev pub json_value : PlainDebug → Option (List ℕ)
json_value (Written plain alternate) = Some (json_string plain)
json_value Unwritable = None
json_value (OfSigned n) = Some (signed_decimal n)
json_value (OfUnsigned n) = Some (decimal n)
json_value (OfWideSigned n) = Some (between_quotes (signed_decimal n))
json_value (OfWideUnsigned n) = Some (between_quotes (decimal n))
json_value (OfTruth b) = Some (truth_text b)
json_value (OfText text) = Some (json_string text)
json_value (OfBytes bytes) = Some (codes "[" ++ numbers_inside bytes ++ codes "]")
json_value (OfError text sources) = Some (json_string text)

-- a member of an object
abbrev pub json_piece : List ℕ → PlainDebug → Option (List ℕ)
json_piece name value = option_map (λ text. json_string (plain_name name) ++ codes ":" ++ text) (json_value value)
