-- Texts with some of their characters written out.
use Rattle.std.specs.Prelude.{ℕ, List, ◌++◌, Bool, false, ◌&&◌, ◌||◌, ◌==◌, ◌/◌, ◌%◌, nat_le, nat_lt, if◌then◌else◌, codes, encode_utf8}
use Rattle.std.specs.List.{flat_map}
use Rattle.std.specs.Fmt.{digits}
use Rattle.std.specs.Str.{chars}
use Rattle.tracing_core_fields.specs.Quoted.{quoted_char}
use Rattle.event_formatter_text.specs.declared.escape.Escape.{Escape}
use Rattle.event_formatter_text.specs.declared.escape.Escape.TheVariants.{Sanitized, Json, Quoted}

-- how a character stands where those that steer a terminal are written out
unfoldable pub sanitized_char : ℕ → List ℕ
sanitized_char c =
    if c == 27 then codes "\\x1b"
    else (if c == 7 then codes "\\x07"
    else (if c == 8 then codes "\\x08"
    else (if c == 12 then codes "\\x0c"
    else (if c == 127 then codes "\\x7f"
    else (if nat_le 128 c && nat_le c 159 then codes "\\u{" ++ (digits 16 false c ++ codes "}")
    else encode_utf8 c)))))

-- how a character stands in a JSON string
unfoldable pub json_char : ℕ → List ℕ
json_char c =
    if c == 34 then codes "\\\""
    else (if c == 92 then codes "\\\\"
    else (if c == 8 then codes "\\b"
    else (if c == 12 then codes "\\f"
    else (if c == 10 then codes "\\n"
    else (if c == 13 then codes "\\r"
    else (if c == 9 then codes "\\t"
    else (if nat_lt c 32 then codes "\\u00" ++ (digits 16 false (c / 16) ++ digits 16 false (c % 16))
    else encode_utf8 c)))))))

-- a text by what stands for each of its characters
unfoldable pub escaped : (ℕ → List ℕ) → List ℕ → List ℕ
escaped stands_for text = flat_map stands_for (chars text)

-- a text in which the characters that steer a terminal are written out
unfoldable pub sanitized : List ℕ → List ℕ
sanitized text = escaped sanitized_char text

-- a text as a JSON string
unfoldable pub json_string : List ℕ → List ℕ
json_string text = codes "\"" ++ escaped json_char text ++ codes "\""

-- what stands for a character
abbrev pub written_char : Escape → ℕ → List ℕ
written_char Sanitized c = sanitized_char c
written_char Json c = json_char c
written_char Quoted c = quoted_char c

-- a byte of UTF-8 that a character has which is written out; others may have it too
abbrev pub is_special : Escape → ℕ → Bool
is_special Sanitized b = nat_lt b 32 || ((b == 127) || (b == 194))
is_special Json b = nat_lt b 32 || ((b == 34) || (b == 92))
is_special Quoted b = nat_lt b 32 || ((b == 34) || ((b == 92) || ((b == 127) || (b == 194))))
