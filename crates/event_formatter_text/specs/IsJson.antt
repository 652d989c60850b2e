-- JSON texts, by their bytes. No space stands between tokens.
use Rattle.std.specs.Prelude.{◌≡◌, ℕ, zero, suc, Bool, true, false, ◌&&◌, ◌||◌, ◌==◌, not, nat_le, if◌then◌else◌, List, [], ◌∷◌, ◌++◌}
use Rattle.std.specs.Prelude.{codes}
use Rattle.event_formatter_text.specs.FieldTexts.{truth_text}
use Rattle.event_formatter_text.specs.JsonTexts.{between_quotes}

-- where in a string a byte stands: anywhere, behind a backslash, or in the four digits of a code unit, so many of them
-- before the last
pub data StringPart : Type 0 where
  Anywhere : StringPart
  BehindBackslash : StringPart
  InCode : ℕ → StringPart

abbrev pub is_between : ℕ → ℕ → ℕ → Bool
is_between low high b = nat_le low b && nat_le b high

abbrev pub is_hex_digit : ℕ → Bool
is_hex_digit b = is_between 48 57 b || (is_between 65 70 b || is_between 97 102 b)

-- a quote, a backslash or a slash, or the letter of BS, FF, LF, CR or TAB
abbrev pub is_escape : ℕ → Bool
is_escape b =
    (b == 34) || ((b == 92) || ((b == 47) || ((b == 98) || ((b == 102) || ((b == 110) || ((b == 114) || (b == 116)))))))

-- a byte that stands for itself: no control character, quote or backslash
abbrev pub is_itself : ℕ → Bool
is_itself b = nat_le 32 b && (not (b == 34) && not (b == 92))

-- whether the bytes may stand in a string from there to its end
abbrev pub is_inside : StringPart → List ℕ → Bool
is_inside Anywhere [] = true
is_inside BehindBackslash [] = false
is_inside (InCode n) [] = false
is_inside Anywhere (b ∷ bs) = if b == 92 then is_inside BehindBackslash bs else is_itself b && is_inside Anywhere bs
is_inside BehindBackslash (b ∷ bs) = if b == 117 then is_inside (InCode 3) bs else is_escape b && is_inside Anywhere bs
is_inside (InCode zero) (b ∷ bs) = is_hex_digit b && is_inside Anywhere bs
is_inside (InCode (suc n)) (b ∷ bs) = is_hex_digit b && is_inside (InCode n) bs

abbrev pub is_digit : ℕ → Bool
is_digit b = is_between 48 57 b

abbrev pub are_digits : List ℕ → Bool
are_digits [] = true
are_digits (b ∷ bs) = is_digit b && are_digits bs

-- a whole number: one digit, or more of which the first isn't 0
abbrev pub is_whole : List ℕ → Bool
is_whole [] = false
is_whole (b ∷ []) = is_digit b
is_whole (b ∷ c ∷ bs) = is_digit b && (not (b == 48) && are_digits (c ∷ bs))

abbrev pub is_fraction : List ℕ → Bool
is_fraction [] = false
is_fraction (b ∷ bs) = is_digit b && are_digits bs

-- a number, from its sign on; one with an exponent is a number too, but nothing here writes it
pub data IsNumber : List ℕ → Type 0 where
  whole : (text : List ℕ) → is_whole text ≡ true → IsNumber text
  with_fraction : (text digits : List ℕ) → is_whole text ≡ true → is_fraction digits ≡ true →
      IsNumber (text ++ (codes "." ++ digits))
  negative : (text : List ℕ) → is_whole text ≡ true → IsNumber (codes "-" ++ text)
  negative_with_fraction : (text digits : List ℕ) → is_whole text ≡ true → is_fraction digits ≡ true →
      IsNumber (codes "-" ++ (text ++ (codes "." ++ digits)))

-- what a text is of JSON: a value, the elements of an array, or the members of an object, commas between them
pub data Kind : Type 0 where
  Value : Kind
  Elements : Kind
  Members : Kind

pub data IsJson : Kind → List ℕ → Type 0 where
  null : IsJson Value (codes "null")
  truth : (b : Bool) → IsJson Value (truth_text b)
  number : (text : List ℕ) → IsNumber text → IsJson Value text
  string : (text : List ℕ) → is_inside Anywhere text ≡ true → IsJson Value (between_quotes text)
  empty_array : IsJson Value (codes "[]")
  array : (text : List ℕ) → IsJson Elements text → IsJson Value (codes "[" ++ (text ++ codes "]"))
  empty_object : IsJson Value (codes "{}")
  object : (text : List ℕ) → IsJson Members text → IsJson Value (codes "{" ++ (text ++ codes "}"))
  element : (text : List ℕ) → IsJson Value text → IsJson Elements text
  elements : (text more : List ℕ) → IsJson Value text → IsJson Elements more →
      IsJson Elements (text ++ (codes "," ++ more))
  member : (key value : List ℕ) → is_inside Anywhere key ≡ true → IsJson Value value →
      IsJson Members (between_quotes key ++ (codes ":" ++ value))
  members : (text more : List ℕ) → IsJson Members text → IsJson Members more →
      IsJson Members (text ++ (codes "," ++ more))
