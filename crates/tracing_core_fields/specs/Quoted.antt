-- A text between quotes.
use Rattle.std.specs.Prelude.{ℕ, Bool, false, ◌||◌, ◌&&◌, ◌==◌, nat_lt, nat_le, List, ◌++◌, if◌then◌else◌, codes, encode_utf8}
use Rattle.std.specs.Fmt.{digits}
use Rattle.std.specs.List.{flat_map}
use Rattle.std.specs.Str.{chars}

-- controls of ASCII, DEL and the controls from U+0080 on
abbrev pub is_control : ℕ → Bool
is_control c = nat_lt c 32 || (nat_le 127 c && nat_le c 159)

-- how a character stands between quotes
unfoldable pub quoted_char : ℕ → List ℕ
quoted_char c =
    if c == 34 then codes "\\\""
    else (if c == 92 then codes "\\\\"
    else (if c == 10 then codes "\\n"
    else (if c == 13 then codes "\\r"
    else (if c == 9 then codes "\\t"
    else (if c == 0 then codes "\\0"
    else (if is_control c then codes "\\u{" ++ (digits 16 false c ++ codes "}")
    else encode_utf8 c))))))

-- the text between quotes: a quote and a backslash, tabs, ends of lines and other controls are written out
unfoldable pub quoted : List ℕ → List ℕ
quoted text = codes "\"" ++ flat_map quoted_char (chars text) ++ codes "\""
