-- A text without any byte of a character that is written out stands as it is.
use Rattle.std.proofs.Common.{◌≡◌, ℕ, zero, suc, ◌<◌, ◌≤◌, Bool, true, false, ◌||◌, ◌&&◌, List, [], ◌∷◌, ◌++◌, inl, inr, refl, sym, ap, ◌∙◌}
use Rattle.std.proofs.Common.{arith}
use Rattle.std.proofs.lemmas.Bool.{and_parts, cases_lt, cases_eq}
use Rattle.std.proofs.lemmas.Bool.Decides.{nat_tests}
use Rattle.std.proofs.lemmas.List.Folds.{list_any-append}
use Rattle.std.proofs.lemmas.Str.{encodes-chars}
use Rattle.std.specs.Cmp.Lexicographic.{bytes_decides}
use Rattle.std.specs.Fmt.{digits}
use Rattle.std.specs.List.{flat_map, list_any}
use Rattle.std.specs.Str.{IsUtf8, bytes_eq, chars}
use lib.Utf8.{encode, encodes}
use Rattle.tracing_core_fields.specs.Quoted.{quoted_char}
use Rattle.event_formatter_text.specs.Escapes.{escaped, is_special, json_char, sanitized_char, written_char}
use Rattle.event_formatter_text.specs.declared.escape.Escape.{Escape}
use Rattle.event_formatter_text.specs.declared.escape.Escape.TheVariants.{Sanitized, Json, Quoted}

neither : (a b : Bool) → (a || b) ≡ false → (a ≡ false) × (b ≡ false)
neither false b none = (refl, none)
neither true b none = absurd (cc)

module _ (stands_for : ℕ → List ℕ) (special : ℕ → Bool) (is_plain : (c : ℕ) → list_any special (encode c) ≡ false → stands_for c ≡ encode c)
  where
    plain_list : (cs : List ℕ) → list_any special (encodes cs) ≡ false → flat_map stands_for cs ≡ encodes cs
    plain_list [] none = refl
    plain_list (c ∷ cs) none =
        let both = neither (list_any special (encode c)) (list_any special (encodes cs))
        (sym (list_any-append special (encode c) (encodes cs)) ∙ none) in
        ap (λ (t : List ℕ). t ++ flat_map stands_for cs) (is_plain c both.0) ∙ ap (λ (t : List ℕ). encode c ++ t) (plain_list cs both.1)

    pub plain_text : (text : List ℕ) → IsUtf8 text → list_any special text ≡ false → escaped stands_for text ≡ text
    unfolding escaped
    plain_text text utf8 none =
        plain_list (chars text) (ap (list_any special) (encodes-chars text utf8) ∙ none) ∙ encodes-chars text utf8

-- below U+00A0, by looking at each character
abbrev is_plain_at : Escape → ℕ → Bool
is_plain_at escape c = list_any (is_special escape) (encode c) || bytes_eq (written_char escape c) (encode c)

abbrev are_plain_below : Escape → ℕ → Bool
are_plain_below escape zero = true
are_plain_below escape (suc n) = is_plain_at escape n && are_plain_below escape n

low_plain : (escape : Escape) (n : ℕ) → are_plain_below escape n ≡ true → (c : ℕ) → c < n → is_plain_at escape c ≡ true
low_plain escape zero all c below = absurd (omega arith)
low_plain escape (suc n) all c below =
    let both = and_parts (is_plain_at escape n) (are_plain_below escape n) all in
    elim (cases_eq c n) [ inl same ↦ rw same both.0 | inr other ↦ low_plain escape n both.1 c (omega arith) ]

checked : (escape : Escape) → are_plain_below escape 160 ≡ true
unfolding sanitized_char json_char quoted_char encode digits
checked Sanitized = refl
checked Json = refl
checked Quoted = refl

-- from there on nothing is written out
json_high : (c : ℕ) → 160 ≤ c → json_char c ≡ encode c
unfolding json_char
json_high c above = grind (arith, nat_tests)

sanitized_high : (c : ℕ) → 160 ≤ c → sanitized_char c ≡ encode c
unfolding sanitized_char
sanitized_high c above = grind (arith, nat_tests)

quoted_high : (c : ℕ) → 160 ≤ c → quoted_char c ≡ encode c
unfolding quoted_char
quoted_high c above = grind (arith, nat_tests)

high_plain : (escape : Escape) (c : ℕ) → 160 ≤ c → written_char escape c ≡ encode c
high_plain Sanitized c above = sanitized_high c above
high_plain Json c above = json_high c above
high_plain Quoted c above = quoted_high c above

second : (a b : Bool) → (a || b) ≡ true → a ≡ false → b ≡ true
second false b some none = some
second true b some none = absurd (cc)

written_plain : (escape : Escape) (c : ℕ) → list_any (is_special escape) (encode c) ≡ false → written_char escape c ≡ encode c
written_plain escape c none =
    elim (cases_lt c 160) [
      | inl low ↦ (bytes_decides (written_char escape c) (encode c)).0
          (second (list_any (is_special escape) (encode c)) (bytes_eq (written_char escape c) (encode c))
          (low_plain escape 160 (checked escape) c low) none)
      | inr high ↦ high_plain escape c high
    ]

pub stands : (escape : Escape) (text : List ℕ) → IsUtf8 text → list_any (is_special escape) text ≡ false →
    escaped (written_char escape) text ≡ text
stands escape text utf8 none = plain_text (written_char escape) (is_special escape) (written_plain escape) text utf8 none
