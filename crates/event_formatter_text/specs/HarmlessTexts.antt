-- Texts of fields that don't steer a terminal.
use Rattle.std.specs.Prelude.{◌≡◌, ◌<◌, ◌^◌, ℕ, false, List, [], ◌++◌, IfSome, slice_index_or}
use Rattle.std.specs.List.{AllByRecursion}
use Rattle.tracing_core_fields.specs.PlainDebug.{PlainDebug, Written, Unwritable, OfSigned, OfUnsigned, OfWideSigned, OfWideUnsigned}
use Rattle.tracing_core_fields.specs.PlainDebug.{OfTruth, OfText, OfBytes, OfError}
use Rattle.tracing_core_fields.specs.PlainValue.{debug_of}
use Rattle.tracing_core_fields.specs.requests.PlainRequests.{PlainValues}
use Rattle.event_formatter_text.specs.FieldTexts.{field_piece, is_message, plain_name}
use Rattle.event_formatter_text.specs.JsonLaws.{IsInRange}
use Rattle.event_formatter_text.specs.TerminalControls.{AreHarmless, steers}
use Rattle.event_formatter_text.specs.Visitors.{default_text, pretty_text}
use Rattle.event_formatter_text.specs.declared.field_text.Punctuation.{Punctuation}
use Rattle.event_formatter_text.specs.declared.settings.Settings.{Settings}

-- the text steers nothing, and what stands behind it steers as it does alone
abbrev pub LetsPass : List ℕ → Type 0
LetsPass text = (rest : List ℕ) → steers (text ++ rest) ≡ steers rest

-- A debug value that isn't the message stands as it is, so its own text has to be harmless. Numbers are in the ranges of their types.
abbrev pub IsTame : List ℕ → PlainDebug → Type 0
IsTame name (Written plain alternate) = is_message name ≡ false → LetsPass plain
IsTame name Unwritable = IsInRange Unwritable
IsTame name (OfSigned n) = IsInRange (OfSigned n)
IsTame name (OfUnsigned n) = IsInRange (OfUnsigned n)
IsTame name (OfWideSigned n) = IsInRange (OfWideSigned n)
IsTame name (OfWideUnsigned n) = IsInRange (OfWideUnsigned n)
IsTame name (OfTruth b) = IsInRange (OfTruth b)
IsTame name (OfText text) = IsInRange (OfText text)
IsTame name (OfBytes bytes) = IsInRange (OfBytes bytes)
IsTame name (OfError text sources) = IsInRange (OfError text sources)

-- no field steers a terminal, where its name doesn't
abbrev pub FieldsAreHarmless : Type 0
FieldsAreHarmless =
    (settings : Settings) → AreHarmless settings → (punctuation : Punctuation) (name : List ℕ) →
    steers (plain_name name) ≡ false → (value : PlainDebug) → IsTame name value →
    IfSome (field_piece settings punctuation name value) LetsPass

-- the names of these values don't steer a terminal, and the values are tame
abbrev pub AreTame : PlainValues → Type 0
AreTame values =
    AllByRecursion (λ e. (steers (plain_name (slice_index_or values.names e.0 [])) ≡ false)
    × IsTame (slice_index_or values.names e.0 []) (debug_of e.1)) values.entries

-- nor does what a span's first list of values is kept as, or an event's fields in a line
abbrev pub ListsAreHarmless : Type 0
ListsAreHarmless =
    (settings : Settings) → AreHarmless settings → (values : PlainValues) → AreTame values →
    IfSome (default_text settings values) LetsPass × IfSome (pretty_text settings values) LetsPass
