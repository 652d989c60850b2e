-- A text as a message shows it.
use Rattle.std.proofs.Common.{◌≡◌, ℕ, Bool, true, false, List, refl, if◌then◌else◌}
use Rattle.std.specs.List.{list_any}
use Rattle.std.specs.Str.{IsUtf8}
use Rattle.event_formatter_text.proofs.UnescapedText.{stands}
use Rattle.event_formatter_text.specs.Escapes.{escaped, is_special, sanitized, written_char}
use Rattle.event_formatter_text.specs.FieldTexts.{shown}
use Rattle.event_formatter_text.specs.declared.escape.Escape.TheVariants.{Sanitized}
use Rattle.event_formatter_text.specs.declared.settings.Settings.{Settings}

-- where texts are sanitized
pub shown_sanitized : (settings : Settings) (text : List ℕ) → settings.sanitizes ≡ true →
    shown settings text ≡ escaped (written_char Sanitized) text
unfolding shown sanitized
shown_sanitized settings text on = rw on refl

-- where they aren't
pub shown_unsanitized : (settings : Settings) (text : List ℕ) → settings.sanitizes ≡ false → shown settings text ≡ text
unfolding shown
shown_unsanitized settings text off = rw off refl

either : (test : Bool) (xs ys : List ℕ) → xs ≡ ys → (if test then xs else ys) ≡ ys
either true xs ys same = same
either false xs ys same = refl

-- one without a byte of a character that is written out
pub shown_as_it_is : (settings : Settings) (text : List ℕ) → IsUtf8 text → list_any (is_special Sanitized) text ≡ false →
    shown settings text ≡ text
unfolding shown sanitized
shown_as_it_is settings text utf8 none = either settings.sanitizes (escaped (written_char Sanitized) text) text
    (stands Sanitized text utf8 none)
