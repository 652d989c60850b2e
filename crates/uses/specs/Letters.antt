-- Letters that stand for values.
use Rattle.std.specs.Prelude.{◌≡◌, ◌++◌, ◌∷◌, [], ℕ, List, Result, OnOk}
use Rattle.tracing_core.specs.PlainDebug.{PlainDebug, OfText}
use Rattle.tracing_core.specs.PlainValue.{PlainValue, Signed, Unsigned, WideSigned, WideUnsigned, Truth, Text, Bytes, Error, Debug}

-- the letter of the call that takes the value: one of i u I U b s y e d
abbrev pub kind_letter : PlainValue → ℕ
kind_letter (Signed n) = 105
kind_letter (Unsigned n) = 117
kind_letter (WideSigned n) = 73
kind_letter (WideUnsigned n) = 85
kind_letter (Truth b) = 98
kind_letter (Text text) = 115
kind_letter (Bytes bytes) = 121
kind_letter (Error text sources) = 101
kind_letter (Debug debug) = 100

-- t for a text, and - for another value
abbrev pub text_letter : PlainDebug → ℕ
text_letter (OfText text) = 116
text_letter _ = 45

-- one letter more was written, unless there was no memory
abbrev pub AddsLetter : {E : Type 0} → List ℕ → ℕ → Result (Unit {0}) E → List ℕ → Type 0
AddsLetter before letter answer after = OnOk answer (after ≡ before ++ letter ∷ [])
