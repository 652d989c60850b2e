-- Fields and lists of fields don't steer a terminal.
use Rattle.std.proofs.Common.{arith, ◌≡◌, ◌<◌, ◌≤◌, ◌^◌, ◌/◌, ◌%◌, ℕ, zero, suc, ℤ, pos, negsuc, Bool, true, false, ◌==◌, ◌&&◌, not}
use Rattle.std.proofs.Common.{if◌then◌else◌, List, [], ◌∷◌, ◌++◌, codes, Option, Some, None, IfSome, is_none, inl, inr, refl}
use Rattle.std.proofs.Common.{slice_index_or, sym, subst}
use Rattle.std.proofs.lemmas.Bool.{and_parts, cases_eq, cases_lt}
use Rattle.std.proofs.lemmas.Bool.Decides.{nat_tests}
use Rattle.std.specs.Fmt.{decimal, digit_glyph, digits, signed_decimal}
use Rattle.std.specs.List.{AllByRecursion, cons_option, filter_map, flat_map, join_by, list_any}
use Rattle.std.specs.Option.{option_map}
use Rattle.std.specs.Str.{chars}
use lib.Utf8.{encode}
use Rattle.tracing_core_fields.specs.PlainDebug.{PlainDebug, Written, Unwritable, OfSigned, OfUnsigned, OfWideSigned, OfWideUnsigned}
use Rattle.tracing_core_fields.specs.PlainDebug.{OfTruth, OfText, OfBytes, OfError, bytes_text, hex_pair}
use Rattle.tracing_core_fields.specs.PlainValue.{PlainValue, debug_of}
use Rattle.tracing_core_fields.specs.Quoted.{quoted, quoted_char}
use Rattle.event_formatter_text.proofs.JsonNumbers.{decimal_whole}
use Rattle.event_formatter_text.proofs.TerminalControls.{Passes, are_harmless, both_pass, encoded, harmless_pass, is_harmless}
use Rattle.event_formatter_text.proofs.TerminalSafeFields.{label_passes, shown_passes, sources_pass}
use Rattle.event_formatter_text.specs.FieldTexts.{field_piece, is_message, label, plain_name, shown, sources_text, truth_text, value_text}
use Rattle.event_formatter_text.specs.HarmlessTexts.{AreTame, FieldsAreHarmless, IsTame, ListsAreHarmless}
use Rattle.event_formatter_text.specs.IsJson.{are_digits, is_digit, is_whole}
use Rattle.event_formatter_text.specs.JsonLaws.{IsSignedBelow}
use Rattle.event_formatter_text.specs.Lists.{entry_piece, joined}
use Rattle.event_formatter_text.specs.TerminalControls.{AreHarmless, steers}
use Rattle.event_formatter_text.specs.Visitors.{default_piece, pretty_piece}
use Rattle.event_formatter_text.specs.Writers.{without_styles}
use Rattle.event_formatter_text.specs.declared.field_text.Punctuation.{Punctuation}
use Rattle.event_formatter_text.specs.declared.field_text.Punctuation.TheVariants.{Default, Pretty}
use Rattle.event_formatter_text.specs.declared.settings.Settings.{Settings}

-- the characters of a quoted text
quoted_high : (c : ℕ) → 160 ≤ c → quoted_char c ≡ encode c
unfolding quoted_char
quoted_high c above = grind (arith, nat_tests)

abbrev are_quoted_below : ℕ → Bool
are_quoted_below zero = true
are_quoted_below (suc n) = are_harmless (quoted_char n) && are_quoted_below n

low_quoted : (n : ℕ) → are_quoted_below n ≡ true → (c : ℕ) → c < n → are_harmless (quoted_char c) ≡ true
low_quoted zero all c below = absurd (omega arith)
low_quoted (suc n) all c below =
    let both = and_parts (are_harmless (quoted_char n)) (are_quoted_below n) all in
    elim (cases_eq c n) [ inl same ↦ rw same both.0 | inr other ↦ low_quoted n both.1 c (omega arith) ]

quoted_checked : are_quoted_below 160 ≡ true
unfolding quoted_char encode digits
quoted_checked = refl

quoted_char_passes : (c : ℕ) → Passes (quoted_char c)
quoted_char_passes c = elim (cases_lt c 160) [
  | inl low ↦ harmless_pass (quoted_char c) (low_quoted 160 quoted_checked c low)
  | inr up ↦ subst Passes
      (sym (quoted_high c up)) (encoded c up)
]

quoted_chars_pass : (cs : List ℕ) → Passes (flat_map quoted_char cs)
quoted_chars_pass [] rest = refl
quoted_chars_pass (c ∷ cs) rest = both_pass (quoted_char c) (flat_map quoted_char cs) (quoted_char_passes c) (quoted_chars_pass cs) rest

quoted_passes : (text : List ℕ) → Passes (quoted text)
unfolding quoted
quoted_passes text =
    both_pass (codes "\"" ++ flat_map quoted_char (chars text)) (codes "\"")
    (both_pass (codes "\"") (flat_map quoted_char (chars text)) (harmless_pass (codes "\"") refl) (quoted_chars_pass (chars text)))
    (harmless_pass (codes "\"") refl)

-- digits
both_true : (x y : Bool) → x ≡ true → y ≡ true → (x && y) ≡ true
both_true true true p q = refl
both_true true false p q = absurd (cc)
both_true false y p q = absurd (cc)

digit_harmless : (b : ℕ) → is_digit b ≡ true → is_harmless b ≡ true
digit_harmless b is = grind (arith, nat_tests)

digits_harmless : (bs : List ℕ) → are_digits bs ≡ true → are_harmless bs ≡ true
digits_harmless [] all = refl
digits_harmless (b ∷ bs) all =
    let both = and_parts (is_digit b) (are_digits bs) all in
    both_true (is_harmless b) (are_harmless bs) (digit_harmless b both.0) (digits_harmless bs both.1)

whole_harmless : (bs : List ℕ) → is_whole bs ≡ true → are_harmless bs ≡ true
whole_harmless [] whole = absurd (cc)
whole_harmless (b ∷ []) whole = both_true (is_harmless b) true (digit_harmless b whole) refl
whole_harmless (b ∷ c ∷ bs) whole =
    let first = and_parts (is_digit b) (not (b == 48) && are_digits (c ∷ bs)) whole in
    let rest = and_parts (not (b == 48)) (are_digits (c ∷ bs)) first.1 in
    both_true (is_harmless b) (are_harmless (c ∷ bs)) (digit_harmless b first.0) (digits_harmless (c ∷ bs) rest.1)

pub decimal_passes : (n : ℕ) → n < 10 ^ 64 → Passes (decimal n)
decimal_passes n below = harmless_pass (decimal n) (whole_harmless (decimal n) (decimal_whole n below))

signed_passes : (n : ℤ) → IsSignedBelow (2 ^ 127) n → Passes (signed_decimal n)
signed_passes (pos n) below = decimal_passes n (omega arith)
signed_passes (negsuc n) below =
    both_pass (codes "-") (decimal (suc n)) (harmless_pass (codes "-") refl) (decimal_passes (suc n) (omega arith))

narrow_below : (n : ℤ) → IsSignedBelow (2 ^ 63) n → IsSignedBelow (2 ^ 127) n
narrow_below (pos n) below = omega arith
narrow_below (negsuc n) below = omega arith

-- bytes in two digits each
abbrev are_pairs_below : ℕ → Bool
are_pairs_below zero = true
are_pairs_below (suc n) = are_harmless (hex_pair n) && are_pairs_below n

low_pair : (n : ℕ) → are_pairs_below n ≡ true → (b : ℕ) → b < n → are_harmless (hex_pair b) ≡ true
low_pair zero all b below = absurd (omega arith)
low_pair (suc n) all b below =
    let both = and_parts (are_harmless (hex_pair n)) (are_pairs_below n) all in
    elim (cases_eq b n) [ inl same ↦ rw same both.0 | inr other ↦ low_pair n both.1 b (omega arith) ]

pairs_checked : are_pairs_below 256 ≡ true
pairs_checked = refl

pair_passes : (b : ℕ) → b < 2 ^ 8 → Passes (hex_pair b)
pair_passes b below = harmless_pass (hex_pair b) (low_pair 256 pairs_checked b below)

later_pairs_pass : (bytes : List ℕ) → AllByRecursion (λ b. b < 2 ^ 8) bytes → Passes (flat_map (λ b. (32 ∷ []) ++ hex_pair b) bytes)
later_pairs_pass [] all rest = refl
later_pairs_pass (b ∷ bs) all rest =
    both_pass (32 ∷ hex_pair b) (flat_map (λ c. (32 ∷ []) ++ hex_pair c) bs)
    (both_pass (32 ∷ []) (hex_pair b) (harmless_pass (32 ∷ []) refl) (pair_passes b all.0)) (later_pairs_pass bs all.1) rest

inside_passes : (bytes : List ℕ) → AllByRecursion (λ b. b < 2 ^ 8) bytes → Passes (join_by hex_pair (32 ∷ []) bytes)
inside_passes [] all rest = refl
inside_passes (b ∷ bs) all rest =
    both_pass (hex_pair b) (flat_map (λ c. (32 ∷ []) ++ hex_pair c) bs) (pair_passes b all.0) (later_pairs_pass bs all.1) rest

bytes_pass : (bytes : List ℕ) → AllByRecursion (λ b. b < 2 ^ 8) bytes → Passes (bytes_text bytes)
bytes_pass bytes all =
    both_pass (91 ∷ []) (join_by hex_pair (32 ∷ []) bytes ++ (93 ∷ [])) (harmless_pass (91 ∷ []) refl)
    (both_pass (join_by hex_pair (32 ∷ []) bytes) (93 ∷ []) (inside_passes bytes all) (harmless_pass (93 ∷ []) refl))

truth_passes : (b : Bool) → Passes (truth_text b)
truth_passes true = harmless_pass (codes "true") refl
truth_passes false = harmless_pass (codes "false") refl

either_passes : (test : Bool) (xs ys : List ℕ) → Passes xs → (test ≡ false → Passes ys) → Passes (if test then xs else ys)
either_passes true xs ys x y = x
either_passes false xs ys x y = y refl

-- a field's value, and the field
module _ (settings : Settings) (harmless : AreHarmless settings) (punctuation : Punctuation) (name : List ℕ)
    (is : steers (plain_name name) ≡ false) where
  value_passes : (value : PlainDebug) → IsTame name value → IfSome (value_text settings punctuation name value) Passes
  value_passes (Written plain alternate) tame =
      either_passes (is_message name) (shown settings plain) plain (shown_passes settings harmless.1 plain) tame
  value_passes Unwritable tame = tt
  value_passes (OfSigned n) tame = signed_passes n (narrow_below n tame)
  value_passes (OfUnsigned n) tame = decimal_passes n (omega arith)
  value_passes (OfWideSigned n) tame = signed_passes n tame
  value_passes (OfWideUnsigned n) tame = decimal_passes n (omega arith)
  value_passes (OfTruth b) tame = truth_passes b
  value_passes (OfText text) tame =
      either_passes (is_message name) (shown settings text) (quoted text) (shown_passes settings harmless.1 text)
      (λ other. quoted_passes text)
  value_passes (OfBytes bytes) tame = bytes_pass bytes tame
  value_passes (OfError text sources) tame =
      both_pass (shown settings text) (sources_text settings punctuation name sources) (shown_passes settings harmless.1 text)
      (sources_pass settings harmless punctuation name is sources)

  labelled : (text : Option (List ℕ)) → IfSome text Passes →
      IfSome (option_map (λ t. label settings punctuation name ++ t) text) Passes
  labelled None passes = tt
  labelled (Some text) passes =
      both_pass (label settings punctuation name) text (label_passes settings harmless punctuation name is) passes

pub fields_are : FieldsAreHarmless
fields_are settings harmless punctuation name is value tame =
    labelled settings harmless punctuation name is (value_text settings punctuation name value)
    (value_passes settings harmless punctuation name is value tame)

-- lists of fields
cons_passes : (piece : Option (List ℕ)) (more : List (List ℕ)) → IfSome piece Passes → AllByRecursion Passes more →
    AllByRecursion Passes (cons_option piece more)
cons_passes None more passes rest = rest
cons_passes (Some piece) more passes rest = (passes, rest)

later_join : (separator : List ℕ) → Passes separator → (pieces : List (List ℕ)) → AllByRecursion Passes pieces →
    Passes (flat_map (λ p. separator ++ p) pieces)
later_join separator between [] all rest = refl
later_join separator between (p ∷ ps) all rest =
    both_pass (separator ++ p) (flat_map (λ q. separator ++ q) ps) (both_pass separator p between all.0)
    (later_join separator between ps all.1) rest

join_passes : (separator : List ℕ) → Passes separator → (pieces : List (List ℕ)) → AllByRecursion Passes pieces →
    Passes (joined separator true pieces)
join_passes separator between [] all rest = refl
join_passes separator between (p ∷ ps) all rest =
    both_pass p (flat_map (λ q. separator ++ q) ps) all.0 (later_join separator between ps all.1) rest

unless_passes : (separator : List ℕ) → Passes separator → (fails : Bool) (pieces : List (List ℕ)) → AllByRecursion Passes pieces →
    IfSome (if fails then None else Some (joined separator true pieces)) Passes
unless_passes separator between true pieces all = tt
unless_passes separator between false pieces all = join_passes separator between pieces all

module _ (settings : Settings) (harmless : AreHarmless settings) (punctuation : Punctuation) (names : List (List ℕ)) where
  abbrev piece : List ℕ → PlainValue → Option (List ℕ)
  piece name value = field_piece settings punctuation name (debug_of value)

  entries_pass : (entries : List (ℕ × PlainValue)) →
      AllByRecursion (λ e. (steers (plain_name (slice_index_or names e.0 [])) ≡ false)
      × IsTame (slice_index_or names e.0 []) (debug_of e.1)) entries →
      AllByRecursion Passes (filter_map (entry_piece piece names) entries)
  entries_pass [] tame = tt
  entries_pass (e ∷ es) tame =
      cons_passes (entry_piece piece names e) (filter_map (entry_piece piece names) es)
      (fields_are settings harmless punctuation (slice_index_or names e.0 []) tame.0.0 (debug_of e.1) tame.0.1) (entries_pass es tame.1)

pub lists_are : ListsAreHarmless
lists_are settings harmless values tame =
    let plainly : AreHarmless (without_styles settings) = (refl, harmless.1) in (
      unless_passes (codes " ") (harmless_pass (codes " ") refl)
          (list_any (λ e. is_none (entry_piece (default_piece settings) values.names e)) values.entries)
          (filter_map (entry_piece (default_piece settings) values.names) values.entries)
          (entries_pass settings harmless Default values.names values.entries tame),
      unless_passes (codes ", ") (harmless_pass (codes ", ") refl)
          (list_any (λ e. is_none (entry_piece (pretty_piece (without_styles settings)) values.names e)) values.entries)
          (filter_map (entry_piece (pretty_piece (without_styles settings)) values.names) values.entries)
          (entries_pass (without_styles settings) plainly Pretty values.names values.entries tame),
    )
