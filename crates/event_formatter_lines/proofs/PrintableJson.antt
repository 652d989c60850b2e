-- No control character stands in a text of JSON.
use Rattle.std.proofs.Common.{◌≡◌, ◌≤◌, ◌==◌, ℕ, zero, suc, Bool, true, false, ◌&&◌, if◌then◌else◌, nat_le, List, [], ◌∷◌, ◌++◌, codes}
use Rattle.std.proofs.Common.{refl, sym, ap, ◌∙◌, append_assoc, arith}
use Rattle.std.proofs.lemmas.Bool.Decides.{nat_tests}
use Rattle.std.specs.List.{AllByRecursion}
use Rattle.event_formatter_text.specs.FieldTexts.{truth_text}
use Rattle.event_formatter_text.specs.IsJson.{Anywhere, BehindBackslash, InCode, IsJson, IsNumber, Kind, StringPart, Value, are_digits}
use Rattle.event_formatter_text.specs.IsJson.{array, element, elements, empty_array, empty_object, is_digit, is_escape, is_fraction}
use Rattle.event_formatter_text.specs.IsJson.{is_hex_digit, is_inside, is_itself, is_whole, member, members, negative}
use Rattle.event_formatter_text.specs.IsJson.{negative_with_fraction, null, number, object, string, truth, whole, with_fraction}
use Rattle.event_formatter_text.specs.JsonTexts.{between_quotes}
use Rattle.event_formatter_lines.specs.JsonLaws.{JsonIsPrinted, LinesEndOnce}

abbrev is_printed : List ℕ → Bool
is_printed [] = true
is_printed (b ∷ bs) = nat_le 32 b && is_printed bs

both : (a b : Bool) → a ≡ true → b ≡ true → (a && b) ≡ true
both true b e f = f
both false b e f = absurd (cc)

first_true : (a b : Bool) → (a && b) ≡ true → a ≡ true
first_true true b e = refl
first_true false b e = absurd (cc)

second_true : (a b : Bool) → (a && b) ≡ true → b ≡ true
second_true true b e = e
second_true false b e = absurd (cc)

append_printed : (xs ys : List ℕ) → is_printed xs ≡ true → is_printed ys ≡ true → is_printed (xs ++ ys) ≡ true
append_printed [] ys x y = y
append_printed (b ∷ xs) ys x y =
    both (nat_le 32 b) (is_printed (xs ++ ys)) (first_true (nat_le 32 b) (is_printed xs) x)
    (append_printed xs ys (second_true (nat_le 32 b) (is_printed xs) x) y)

-- the bytes of strings and numbers
digit_printed : (b : ℕ) → is_digit b ≡ true → nat_le 32 b ≡ true
digit_printed b e = grind (arith, nat_tests, e)

hex_printed : (b : ℕ) → is_hex_digit b ≡ true → nat_le 32 b ≡ true
hex_printed b e = grind (arith, nat_tests, e)

escape_printed : (b : ℕ) → is_escape b ≡ true → nat_le 32 b ≡ true
escape_printed b e = grind (arith, nat_tests, e)

number_printed : (b c : ℕ) → (b == c) ≡ true → nat_le 32 c ≡ true → nat_le 32 b ≡ true
number_printed b c e f = grind (arith, nat_tests, e, f)

itself_printed : (b : ℕ) → is_itself b ≡ true → nat_le 32 b ≡ true
itself_printed b e = first_true (nat_le 32 b) _ e

-- a byte that is `c` and what may stand behind it, or one that passes a test
one_or : (is : Bool) (test next later : Bool) (b c : ℕ) (bs : List ℕ) → (b == c) ≡ is → nat_le 32 c ≡ true →
    (test ≡ true → nat_le 32 b ≡ true) → (next ≡ true → is_printed bs ≡ true) → (later ≡ true → is_printed bs ≡ true) →
    (if is then next else test && later) ≡ true → is_printed (b ∷ bs) ≡ true
one_or true test next later b c bs e f t p q inside = both (nat_le 32 b) (is_printed bs) (number_printed b c e f) (p inside)
one_or false test next later b c bs e f t p q inside = both (nat_le 32 b) (is_printed bs) (t (first_true test later inside))
    (q (second_true test later inside))

and_printed : (test later : Bool) (b : ℕ) (bs : List ℕ) → (test ≡ true → nat_le 32 b ≡ true) → (later ≡ true → is_printed bs ≡ true) →
    (test && later) ≡ true → is_printed (b ∷ bs) ≡ true
and_printed test later b bs t q e = both (nat_le 32 b) (is_printed bs) (t (first_true test later e)) (q (second_true test later e))

inside_printed : (part : StringPart) (bs : List ℕ) → is_inside part bs ≡ true → is_printed bs ≡ true
inside_printed Anywhere [] e = refl
inside_printed BehindBackslash [] e = absurd (cc)
inside_printed (InCode n) [] e = absurd (cc)
inside_printed Anywhere (b ∷ bs) e =
    one_or (b == 92) (is_itself b) (is_inside BehindBackslash bs) (is_inside Anywhere bs) b 92 bs refl refl (itself_printed b)
    (inside_printed BehindBackslash bs) (inside_printed Anywhere bs) e
inside_printed BehindBackslash (b ∷ bs) e =
    one_or (b == 117) (is_escape b) (is_inside (InCode 3) bs) (is_inside Anywhere bs) b 117 bs refl refl (escape_printed b)
    (inside_printed (InCode 3) bs) (inside_printed Anywhere bs) e
inside_printed (InCode zero) (b ∷ bs) e = and_printed (is_hex_digit b) (is_inside Anywhere bs) b bs (hex_printed b)
    (inside_printed Anywhere bs) e
inside_printed (InCode (suc n)) (b ∷ bs) e = and_printed (is_hex_digit b) (is_inside (InCode n) bs) b bs (hex_printed b)
    (inside_printed (InCode n) bs) e

digits_printed : (bs : List ℕ) → are_digits bs ≡ true → is_printed bs ≡ true
digits_printed [] e = refl
digits_printed (b ∷ bs) e = and_printed (is_digit b) (are_digits bs) b bs (digit_printed b) (digits_printed bs) e

whole_printed : (bs : List ℕ) → is_whole bs ≡ true → is_printed bs ≡ true
whole_printed [] e = absurd (cc)
whole_printed (b ∷ []) e = both (nat_le 32 b) true (digit_printed b e) refl
whole_printed (b ∷ c ∷ bs) e =
    both (nat_le 32 b) (is_printed (c ∷ bs)) (digit_printed b (first_true (is_digit b) _ e))
    (digits_printed (c ∷ bs) (second_true _ (are_digits (c ∷ bs)) (second_true (is_digit b) _ e)))

fraction_printed : (bs : List ℕ) → is_fraction bs ≡ true → is_printed bs ≡ true
fraction_printed [] e = absurd (cc)
fraction_printed (b ∷ bs) e = and_printed (is_digit b) (are_digits bs) b bs (digit_printed b) (digits_printed bs) e

decimals_printed : (text digits : List ℕ) → is_whole text ≡ true → is_fraction digits ≡ true →
    is_printed (text ++ (codes "." ++ digits)) ≡ true
decimals_printed text digits e f = append_printed text (codes "." ++ digits) (whole_printed text e) (fraction_printed digits f)

number_is_printed : (text : List ℕ) → IsNumber text → is_printed text ≡ true
number_is_printed _ (whole text e) = whole_printed text e
number_is_printed _ (with_fraction text digits e f) = decimals_printed text digits e f
number_is_printed _ (negative text e) = whole_printed text e
number_is_printed _ (negative_with_fraction text digits e f) = decimals_printed text digits e f

truth_printed : (b : Bool) → is_printed (truth_text b) ≡ true
truth_printed true = refl
truth_printed false = refl

quoted_printed : (text : List ℕ) → is_inside Anywhere text ≡ true → is_printed (between_quotes text) ≡ true
quoted_printed text e = append_printed text (codes "\"") (inside_printed Anywhere text e) refl

json_printed : (kind : Kind) (text : List ℕ) → IsJson kind text → is_printed text ≡ true
json_printed _ _ null = refl
json_printed _ _ (truth b) = truth_printed b
json_printed _ _ (number text is) = number_is_printed text is
json_printed _ _ (string text e) = quoted_printed text e
json_printed _ _ empty_array = refl
json_printed _ _ (array text is) = append_printed text (codes "]") (json_printed _ text is) refl
json_printed _ _ empty_object = refl
json_printed _ _ (object text is) = append_printed text (codes "}") (json_printed _ text is) refl
json_printed _ _ (element text is) = json_printed _ text is
json_printed _ _ (elements text more is later) = append_printed text (codes "," ++ more) (json_printed _ text is)
    (json_printed _ more later)
json_printed _ _ (member key value e is) = append_printed (between_quotes key) (codes ":" ++ value) (quoted_printed key e)
    (json_printed _ value is)
json_printed _ _ (members text more is later) = append_printed text (codes "," ++ more) (json_printed _ text is) (json_printed _ more later)

at_least : (b : ℕ) → nat_le 32 b ≡ true → 32 ≤ b
at_least b e = grind (arith, nat_tests, e)

each_printed : (bs : List ℕ) → is_printed bs ≡ true → AllByRecursion (λ b. 32 ≤ b) bs
each_printed [] e = tt
each_printed (b ∷ bs) e = (
  at_least b (first_true (nat_le 32 b) (is_printed bs) e),
  each_printed bs (second_true (nat_le 32 b) (is_printed bs) e),
)

pub json_is_printed : JsonIsPrinted
json_is_printed kind text is = each_printed text (json_printed kind text is)

pub lines_end_once : LinesEndOnce
lines_end_once line is = (
  codes "{" ++ (is.0 ++ codes "}"),
  is.2 ∙ ap (λ (t : List ℕ). 123 ∷ t) (sym (append_assoc is.0 (codes "}") (codes "\n"))),
  json_is_printed Value (codes "{" ++ (is.0 ++ codes "}")) is.1,
)
