-- Texts that steer a terminal.
use Rattle.std.specs.Prelude.{◌≡◌, ℕ, List, [], ◌∷◌, Bool, true, false, ◌&&◌, ◌||◌, ◌==◌, nat_le, IfSome, codes}
use Rattle.tracing_core_fields.specs.PlainDebug.{OfError, OfText, Written}
use Rattle.event_formatter_text.specs.Escapes.{sanitized}
use Rattle.event_formatter_text.specs.FieldTexts.{field_piece, plain_name, shown, shown_list}
use Rattle.event_formatter_text.specs.declared.field_text.Punctuation.{Punctuation}
use Rattle.event_formatter_text.specs.declared.settings.Settings.{Settings}

-- ESC, BEL, BS, FF or DEL
abbrev pub is_control : ℕ → Bool
is_control b = (b == 27) || ((b == 7) || ((b == 8) || ((b == 12) || (b == 127))))

-- whether the first byte is from 0x80 to 0x9F
abbrev pub begins_low : List ℕ → Bool
begins_low [] = false
begins_low (b ∷ bs) = nat_le 128 b && nat_le b 159

-- whether a text has a character that steers a terminal: ESC, BEL, BS, FF, DEL, or one from U+0080 to U+009F, which is
-- 0xC2 and a byte from 0x80 to 0x9F in UTF-8
abbrev pub steers : List ℕ → Bool
steers [] = false
steers (b ∷ bs) = is_control b || (((b == 194) && begins_low bs) || steers bs)

-- no sanitized text steers a terminal
abbrev pub SanitizedTextsAreHarmless : Type 0
SanitizedTextsAreHarmless = (text : List ℕ) → steers (sanitized text) ≡ false

-- settings without styles, by which texts are sanitized
abbrev pub AreHarmless : Settings → Type 0
AreHarmless settings = (settings.styles ≡ false) × (settings.sanitizes ≡ true)

-- nor does a message, be it a text or a debug value
abbrev pub MessagesAreHarmless : Type 0
MessagesAreHarmless =
    (settings : Settings) → AreHarmless settings → (punctuation : Punctuation) (text alternate : List ℕ) →
    IfSome (field_piece settings punctuation (codes "message") (OfText text)) (λ piece. steers piece ≡ false)
    × IfSome (field_piece settings punctuation (codes "message") (Written text alternate)) (λ piece. steers piece ≡ false)

-- nor does an error with its sources, where the field's name doesn't
abbrev pub ErrorsAreHarmless : Type 0
ErrorsAreHarmless =
    (settings : Settings) → AreHarmless settings → (punctuation : Punctuation) (name : List ℕ) →
    steers (plain_name name) ≡ false → (text : List ℕ) (sources : List (List ℕ)) →
    IfSome (field_piece settings punctuation name (OfError text sources)) (λ piece. steers piece ≡ false)

-- nor does an error's own text, whatever the field's name is
abbrev pub ErrorTextsAreHarmless : Type 0
ErrorTextsAreHarmless =
    (settings : Settings) → AreHarmless settings → (text : List ℕ) → steers (shown settings text) ≡ false

-- nor does the list of the texts of its sources
abbrev pub SourceTextsAreHarmless : Type 0
SourceTextsAreHarmless =
    (settings : Settings) → AreHarmless settings → (sources : List (List ℕ)) →
    steers (shown_list settings sources) ≡ false
