-- Texts as JSON strings.
use Rattle.std.proofs.Common.{arith, ◌≡◌, ◌<◌, ◌≤◌, ◌+◌, ◌/◌, ◌%◌, ℕ, zero, suc, Bool, true, false, ◌==◌, ◌&&◌, nat_lt, if◌then◌else◌, List}
use Rattle.std.proofs.Common.{[], ◌∷◌, ◌++◌, codes, inl, inr, refl, sym, ap, ◌∙◌, append_assoc}
use Rattle.std.proofs.lemmas.Bool.{and_parts, cases_eq, cases_lt}
use Rattle.std.proofs.lemmas.Bool.Decides.{nat_tests}
use Rattle.std.specs.Cmp.Lexicographic.{bytes_decides}
use Rattle.std.specs.Fmt.{digits}
use Rattle.std.specs.List.{flat_map}
use Rattle.std.specs.Str.{chars}
use lib.Utf8.{encode}
use Rattle.event_formatter_text.specs.Escapes.{escaped, json_char, json_string}
use Rattle.event_formatter_text.specs.FieldTexts.{is_message, plain_name}
use Rattle.event_formatter_text.specs.IsJson.{StringPart, Anywhere, BehindBackslash, InCode, is_escape, is_hex_digit, is_inside, is_itself}
use Rattle.event_formatter_text.specs.Lists.{further}

both_true : (a b c : Bool) → (a && b) ≡ true → (b ≡ true → c ≡ true) → (a && c) ≡ true
both_true false b c e f = e
both_true true b c e f = f e

either_true : (a x y z w : Bool) → (if a then x else y) ≡ true → (x ≡ true → z ≡ true) → (y ≡ true → w ≡ true) → (if a then z else w) ≡ true
either_true true x y z w e f g = f e
either_true false x y z w e f g = g e

-- bytes that end a string, and then more of them
inside_append : (part : StringPart) (xs ys : List ℕ) → is_inside part xs ≡ true → is_inside Anywhere ys ≡ true →
    is_inside part (xs ++ ys) ≡ true
inside_append Anywhere [] ys e more = more
inside_append BehindBackslash [] ys e more = absurd (cc)
inside_append (InCode n) [] ys e more = absurd (cc)
inside_append Anywhere (b ∷ bs) ys e more =
    either_true (b == 92) (is_inside BehindBackslash bs) (is_itself b && is_inside Anywhere bs) (is_inside BehindBackslash (bs ++ ys))
    (is_itself b && is_inside Anywhere (bs ++ ys)) e (λ f. inside_append BehindBackslash bs ys f more)
    (λ f. both_true (is_itself b) (is_inside Anywhere bs) (is_inside Anywhere (bs ++ ys)) f (λ h. inside_append Anywhere bs ys h more))
inside_append BehindBackslash (b ∷ bs) ys e more =
    either_true (b == 117) (is_inside (InCode 3) bs) (is_escape b && is_inside Anywhere bs) (is_inside (InCode 3) (bs ++ ys))
    (is_escape b && is_inside Anywhere (bs ++ ys)) e (λ f. inside_append (InCode 3) bs ys f more)
    (λ f. both_true (is_escape b) (is_inside Anywhere bs) (is_inside Anywhere (bs ++ ys)) f (λ h. inside_append Anywhere bs ys h more))
inside_append (InCode zero) (b ∷ bs) ys e more = both_true (is_hex_digit b) (is_inside Anywhere bs) (is_inside Anywhere (bs ++ ys)) e
    (λ h. inside_append Anywhere bs ys h more)
inside_append (InCode (suc n)) (b ∷ bs) ys e more = both_true (is_hex_digit b) (is_inside (InCode n) bs) (is_inside (InCode n) (bs ++ ys)) e
    (λ h. inside_append (InCode n) bs ys h more)

-- a byte above ASCII stands for itself
high_byte : (b : ℕ) (bs : List ℕ) → 128 ≤ b → is_inside Anywhere bs ≡ true → is_inside Anywhere (b ∷ bs) ≡ true
high_byte b bs above rest = rw rest (grind (arith, nat_tests))

either_way : (test : Bool) (xs ys : List ℕ) → is_inside Anywhere xs ≡ true → is_inside Anywhere ys ≡ true →
    is_inside Anywhere (if test then xs else ys) ≡ true
either_way true xs ys x y = x
either_way false xs ys x y = y

encoded : (c : ℕ) → 128 ≤ c → is_inside Anywhere (encode c) ≡ true
unfolding encode
encoded c above =
    let low : nat_lt c 128 ≡ false = grind (arith, nat_tests) in
    let last : (d : ℕ) (bs : List ℕ) → is_inside Anywhere bs ≡ true → is_inside Anywhere ((128 + d % 64) ∷ bs) ≡ true =
    λ d bs rest. high_byte (128 + d % 64) bs (omega arith) rest in
    let first : (d n : ℕ) (bs : List ℕ) → 128 ≤ n → is_inside Anywhere bs ≡ true → is_inside Anywhere ((n + d) ∷ bs) ≡ true =
    λ d n bs big rest. high_byte (n + d) bs (omega arith) rest in
    let one : List ℕ = (128 + c % 64) ∷ [] in
    let two : List ℕ = (128 + c / 64 % 64) ∷ one in
    let three : List ℕ = (128 + c / 4096 % 64) ∷ two in
    let one_is : is_inside Anywhere one ≡ true = last c [] refl in
    let two_is : is_inside Anywhere two ≡ true = last (c / 64) one one_is in
    let three_is : is_inside Anywhere three ≡ true = last (c / 4096) two two_is in
    rw low (either_way (nat_lt c 2048) ((192 + c / 64) ∷ one)
    (if nat_lt c 65536 then (224 + c / 4096) ∷ two else (240 + c / 262144) ∷ three) (first (c / 64) 192 one (omega arith) one_is)
    (either_way (nat_lt c 65536) ((224 + c / 4096) ∷ two) ((240 + c / 262144) ∷ three) (first (c / 4096) 224 two (omega arith) two_is)
    (first (c / 262144) 240 three (omega arith) three_is)))

json_char_high : (c : ℕ) → 128 ≤ c → json_char c ≡ encode c
unfolding json_char
json_char_high c above = grind (arith, nat_tests)

-- the characters of ASCII, by looking at each
abbrev are_inside_below : ℕ → Bool
are_inside_below zero = true
are_inside_below (suc n) = is_inside Anywhere (json_char n) && are_inside_below n

low_inside : (n : ℕ) → are_inside_below n ≡ true → (c : ℕ) → c < n → is_inside Anywhere (json_char c) ≡ true
low_inside zero all c below = absurd (omega arith)
low_inside (suc n) all c below =
    let both = and_parts (is_inside Anywhere (json_char n)) (are_inside_below n) all in
    elim (cases_eq c n) [ inl same ↦ rw same both.0 | inr other ↦ low_inside n both.1 c (omega arith) ]

checked : are_inside_below 128 ≡ true
unfolding json_char encode digits
checked = refl

char_inside : (c : ℕ) → is_inside Anywhere (json_char c) ≡ true
char_inside c = elim (cases_lt c 128) [ inl low ↦ low_inside 128 checked c low | inr high ↦ rw (json_char_high c high) (encoded c high) ]

chars_inside : (cs : List ℕ) → is_inside Anywhere (flat_map json_char cs) ≡ true
chars_inside [] = refl
chars_inside (c ∷ cs) = inside_append Anywhere (json_char c) (flat_map json_char cs) (char_inside c) (chars_inside cs)

pub text_inside : (text : List ℕ) → is_inside Anywhere (escaped json_char text) ≡ true
unfolding escaped
text_inside text = chars_inside (chars text)

-- the key of a message, a colon, and the quote that begins its text
pub message_key : (name : List ℕ) → is_message name ≡ true → json_string (plain_name name) ++ codes ":\"" ≡ codes "\"message\":\""
unfolding json_string escaped json_char encode chars plain_name
message_key name same = rw ((bytes_decides name (codes "message")).0 same) refl

-- what is appended to a piece
further_more : (separator a b c : List ℕ) (is_first : Bool) → further separator is_first (a ++ (b ++ c)) ≡ further separator is_first
    (a ++ b) ++ c
further_more separator a b c true = sym (append_assoc a b c)
further_more separator a b c false = ap (λ (t : List ℕ). separator ++ t) (sym (append_assoc a b c)) ∙
    sym (append_assoc separator (a ++ b) c)

-- a key and a colon, and then a quote
pub text_key : (key : List ℕ) (is_first : Bool) →
    further (codes ",") is_first (key ++ codes ":\"") ≡ further (codes ",") is_first (key ++ codes ":") ++ codes "\""
text_key key is_first = further_more (codes ",") key (codes ":") (codes "\"") is_first

-- a key, a colon and a quote, and then the text
pub text_member : (key text : List ℕ) (is_first : Bool) → further (codes ",") is_first (key ++ codes ":" ++ json_string text) ≡ further
    (codes ",") is_first (key ++ codes ":\"") ++ (escaped json_char text ++ codes "\"")
unfolding json_string
text_member key text is_first =
    ap (λ (t : List ℕ). further (codes ",") is_first t) (append_assoc key (codes ":") (json_string text))
    ∙ further_more (codes ",") key (codes ":\"") (escaped json_char text ++ codes "\"") is_first
