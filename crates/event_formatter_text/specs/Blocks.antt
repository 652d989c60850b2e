-- Blocks of bytes that are looked at at once.
use Rattle.std.specs.Prelude.{◌≡◌, ℕ, ◌≤◌, ◌<◌, false, List, get_or}
use Rattle.event_formatter_text.specs.Escapes.{is_special}
use Rattle.event_formatter_text.specs.declared.escape.Escape.{Escape}

-- no byte from i up to j may be part of a character that is written out
abbrev pub IsPlainBetween : Escape → List ℕ → ℕ → ℕ → Type 0
IsPlainBetween escape bytes i j = (k : ℕ) → i ≤ k → k < j → is_special escape (get_or bytes k 0) ≡ false
