-- Messages and errors don't steer a terminal.
use Rattle.std.proofs.Common.{arith, ◌≡◌, ◌<◌, ℕ, Bool, true, false, ◌==◌, ◌&&◌, ◌||◌, if◌then◌else◌, List, [], ◌∷◌, ◌++◌, codes, refl, sym}
use Rattle.std.proofs.Common.{ap, subst, ◌∙◌, append_assoc}
use Rattle.std.proofs.lemmas.Bool.Decides.{nat_tests}
use Rattle.event_formatter_text.specs.FieldTexts.{is_message, label, mark, plain_name, separator, shown, shown_later, shown_list}
use Rattle.event_formatter_text.specs.FieldTexts.{sources_label, sources_text}
use Rattle.event_formatter_text.specs.TerminalControls.{AreHarmless, begins_low, is_control, steers}
use Rattle.event_formatter_text.specs.Styles.{dimmed, italic, styled}
use Rattle.event_formatter_text.specs.declared.field_text.Punctuation.{Punctuation}
use Rattle.event_formatter_text.specs.declared.field_text.Punctuation.TheVariants.{Default, Pretty}
use Rattle.event_formatter_text.specs.declared.settings.Settings.{Settings}
use Rattle.event_formatter_text.proofs.TerminalControls.{Passes, both_pass, harmless_pass, passing_is, sanitized_passes}

pub shown_passes : (settings : Settings) → settings.sanitizes ≡ true → (text : List ℕ) → Passes (shown settings text)
unfolding shown
shown_passes settings on text = rw on (sanitized_passes text)

pub unstyled : (settings : Settings) → settings.styles ≡ false → (start text : List ℕ) → styled settings start text ≡ text
unfolding styled
unstyled settings off start text = rw off refl

pub messages_are : (settings : Settings) → AreHarmless settings → (punctuation : Punctuation) (text alternate : List ℕ) →
    (steers (shown settings text) ≡ false) × (steers (shown settings text) ≡ false)
messages_are settings harmless punctuation text alternate =
    let is : steers (shown settings text) ≡ false = passing_is (shown settings text) (shown_passes settings harmless.1 text) in (is, is)

-- before a byte of ASCII, a text that doesn't steer lets all pass
not_low : (xs rest : List ℕ) (b : ℕ) → b < 128 → begins_low (xs ++ (b ∷ rest)) ≡ begins_low xs
not_low [] rest b below = grind (arith, nat_tests)
not_low (x ∷ xs) rest b below = refl

first_parts : (c e t s : Bool) → (c || ((e && t) || s)) ≡ false → (c ≡ false) × ((e && t) ≡ false) × (s ≡ false)
first_parts true e t s h = absurd (cc)
first_parts false true true s h = absurd (cc)
first_parts false true false true h = absurd (cc)
first_parts false true false false h = (refl, refl, refl)
first_parts false false t true h = absurd (cc)
first_parts false false t false h = (refl, refl, refl)

joined : (c e t s z : Bool) → (c ≡ false) × ((e && t) ≡ false) × (s ≡ z) → (c || ((e && t) || s)) ≡ z
joined true e t s z h = let never : true ≡ false = h.0 in absurd (cc)
joined false true true s z h = let never : true ≡ false = h.1 in absurd (cc)
joined false true false s z h = h.2
joined false false t s z h = h.2

named : (xs : List ℕ) (b : ℕ) (rest : List ℕ) → steers xs ≡ false → b < 128 → steers (xs ++ (b ∷ rest)) ≡ steers (b ∷ rest)
named [] b rest is below = refl
named (x ∷ xs) b rest is below =
    let parts = first_parts (is_control x) (x == 194) (begins_low xs) (steers xs) is in
    joined (is_control x) (x == 194) (begins_low (xs ++ (b ∷ rest))) (steers (xs ++ (b ∷ rest))) (steers (b ∷ rest))
    (parts.0, ap (λ (t : Bool). (x == 194) && t) (not_low xs rest b below) ∙ parts.1, named xs b rest parts.2 below)

named_pass : (xs : List ℕ) (b : ℕ) (bs : List ℕ) → steers xs ≡ false → b < 128 → Passes (b ∷ bs) → Passes (xs ++ (b ∷ bs))
named_pass xs b bs is below p rest = ap steers (append_assoc xs (b ∷ bs) rest) ∙ named xs b (bs ++ rest) is below ∙ p rest

marked : (punctuation : Punctuation) (name : List ℕ) → steers name ≡ false → Passes (name ++ mark punctuation)
marked Default name is = named_pass name 61 [] is (omega arith) (harmless_pass (codes "=") refl)
marked Pretty name is = named_pass name 58 (codes " ") is (omega arith) (harmless_pass (codes ": ") refl)

sources_marked : (punctuation : Punctuation) (name : List ℕ) → steers name ≡ false → Passes (name ++ (codes ".sources" ++ mark punctuation))
sources_marked Default name is = named_pass name 46 (codes "sources=") is (omega arith) (harmless_pass (codes ".sources=") refl)
sources_marked Pretty name is = named_pass name 46 (codes "sources: ") is (omega arith) (harmless_pass (codes ".sources: ") refl)

separated : (punctuation : Punctuation) → Passes (separator punctuation)
separated Default = harmless_pass (codes " ") refl
separated Pretty = harmless_pass (codes ", ") refl

later_pass : (settings : Settings) → settings.sanitizes ≡ true → (texts : List (List ℕ)) → Passes (shown_later settings texts)
later_pass settings on [] rest = refl
later_pass settings on (text ∷ texts) rest =
    both_pass (codes ", " ++ shown settings text) (shown_later settings texts)
    (both_pass (codes ", ") (shown settings text) (harmless_pass (codes ", ") refl) (shown_passes settings on text))
    (later_pass settings on texts) rest

list_passes : (settings : Settings) → settings.sanitizes ≡ true → (texts : List (List ℕ)) → Passes (shown_list settings texts)
list_passes settings on [] rest = refl
list_passes settings on (text ∷ texts) rest = both_pass (shown settings text) (shown_later settings texts) (shown_passes settings on text)
    (later_pass settings on texts) rest

pub error_text_is : (settings : Settings) → AreHarmless settings → (text : List ℕ) → steers (shown settings text) ≡ false
error_text_is settings harmless text = passing_is (shown settings text) (shown_passes settings harmless.1 text)

pub source_texts_are : (settings : Settings) → AreHarmless settings → (sources : List (List ℕ)) →
    steers (shown_list settings sources) ≡ false
source_texts_are settings harmless sources = passing_is (shown_list settings sources) (list_passes settings harmless.1 sources)

module _ (settings : Settings) (harmless : AreHarmless settings) (punctuation : Punctuation) (name : List ℕ)
    (is : steers (plain_name name) ≡ false) where
  pub label_passes : Passes (label settings punctuation name)
  label_passes = by_test (is_message name)
    where
      equal : italic settings (plain_name name) ++ dimmed settings (mark punctuation) ≡ plain_name name ++ mark punctuation
      equal = ap (λ (t : List ℕ). t ++ dimmed settings (mark punctuation))
          (unstyled settings harmless.0 (27 ∷ codes "[3m") (plain_name name))
          ∙ ap (λ (t : List ℕ). plain_name name ++ t) (unstyled settings harmless.0 (27 ∷ codes "[2m") (mark punctuation))

      by_test : (test : Bool) → Passes (if test then [] else italic settings (plain_name name) ++ dimmed settings (mark punctuation))
      by_test true rest = refl
      by_test false rest = subst Passes (sym equal) (marked punctuation (plain_name name) is) rest

  sources_label_passes : Passes (sources_label settings punctuation name)
  sources_label_passes = subst Passes (sym equal) (sources_marked punctuation (plain_name name) is)
    where
      equal : sources_label settings punctuation name ≡ plain_name name ++ (codes ".sources" ++ mark punctuation)
      equal = append_assoc (italic settings (plain_name name)) (italic settings (codes ".sources")) (dimmed settings (mark punctuation))
          ∙ ap (λ (t : List ℕ). t ++ (italic settings (codes ".sources") ++ dimmed settings (mark punctuation)))
          (unstyled settings harmless.0 (27 ∷ codes "[3m") (plain_name name))
          ∙ ap (λ (t : List ℕ). plain_name name ++ (t ++ dimmed settings (mark punctuation)))
          (unstyled settings harmless.0 (27 ∷ codes "[3m") (codes ".sources"))
          ∙ ap (λ (t : List ℕ). plain_name name ++ (codes ".sources" ++ t))
          (unstyled settings harmless.0 (27 ∷ codes "[2m") (mark punctuation))

  pub sources_pass : (sources : List (List ℕ)) → Passes (sources_text settings punctuation name sources)
  sources_pass [] rest = refl
  sources_pass (source ∷ sources) rest =
      let all : List ℕ = shown_list settings (source ∷ sources) in
      let all_pass : Passes all = list_passes settings harmless.1 (source ∷ sources) in
      let labelled : List ℕ = separator punctuation ++ sources_label settings punctuation name in
      let labelled_pass : Passes labelled = both_pass (separator punctuation) (sources_label settings punctuation name)
      (separated punctuation) sources_label_passes in
      let opened_pass : Passes (labelled ++ codes "[") = both_pass labelled (codes "[") labelled_pass (harmless_pass (codes "[") refl) in
      both_pass ((labelled ++ codes "[") ++ all) (codes "]") (both_pass (labelled ++ codes "[") all opened_pass all_pass)
      (harmless_pass (codes "]") refl) rest

  error_is : (text : List ℕ) (sources : List (List ℕ)) →
      steers (label settings punctuation name ++ (shown settings text ++ sources_text settings punctuation name sources)) ≡ false
  error_is text sources = passing_is (label settings punctuation name ++
      (shown settings text ++ sources_text settings punctuation name sources))
      (both_pass (label settings punctuation name) (shown settings text ++ sources_text settings punctuation name sources) label_passes
      (both_pass (shown settings text) (sources_text settings punctuation name sources) (shown_passes settings harmless.1 text)
      (sources_pass sources)))

pub errors_are : (settings : Settings) → AreHarmless settings → (punctuation : Punctuation) (name : List ℕ) →
    steers (plain_name name) ≡ false → (text : List ℕ) (sources : List (List ℕ)) →
    steers (label settings punctuation name ++ (shown settings text ++ sources_text settings punctuation name sources)) ≡ false
errors_are settings harmless punctuation name is text sources = error_is settings harmless punctuation name is text sources
