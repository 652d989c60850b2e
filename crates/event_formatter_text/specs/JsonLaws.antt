-- What holds of JSON texts.
use Rattle.std.specs.Prelude.{◌≡◌, ◌<◌, ◌^◌, ℕ, ℤ, pos, negsuc, true, List, ◌∷◌, IfSome}
use Rattle.std.specs.Fmt.{decimal}
use Rattle.std.specs.List.{AllByRecursion}
use Rattle.tracing_core_fields.specs.PlainDebug.{PlainDebug, Written, Unwritable, OfSigned, OfUnsigned, OfWideSigned, OfWideUnsigned}
use Rattle.tracing_core_fields.specs.PlainDebug.{OfTruth, OfText, OfBytes, OfError}
use Rattle.tracing_core_fields.specs.PlainValue.{debug_of}
use Rattle.tracing_core_fields.specs.requests.PlainRequests.{PlainValues}
use Rattle.event_formatter_text.specs.MemberChains.{members_of}
use Rattle.event_formatter_text.specs.Escapes.{escaped, json_char, json_string}
use Rattle.event_formatter_text.specs.IsJson.{Anywhere, IsJson, Members, Value, is_inside}
use Rattle.event_formatter_text.specs.JsonObjects.{Pair, members_inside, object_text}
use Rattle.event_formatter_text.specs.JsonTexts.{json_value, strings_array}

-- what stands for a text in a JSON string may stand there
abbrev pub TextsAreStrings : Type 0
TextsAreStrings = (text : List ℕ) → is_inside Anywhere (escaped json_char text) ≡ true

-- a text as a JSON string is a value
abbrev pub StringsAreJson : Type 0
StringsAreJson = (text : List ℕ) → IsJson Value (json_string text)

-- texts as an array of strings are a value
abbrev pub ListsOfStringsAreJson : Type 0
ListsOfStringsAreJson = (texts : List (List ℕ)) → IsJson Value (strings_array texts)

-- members with values of JSON make an object
abbrev pub ObjectsAreJson : Type 0
ObjectsAreJson =
    (pairs : List Pair) → AllByRecursion (λ p. IsJson Value p.1) pairs → IsJson Value (object_text pairs)

-- and what stands in the object, where there is a member, are members
abbrev pub InsidesAreJson : Type 0
InsidesAreJson =
    (p : Pair) (ps : List Pair) → IsJson Value p.1 → AllByRecursion (λ q. IsJson Value q.1) ps →
    IsJson Members (members_inside (p ∷ ps))

-- a number of its type's range
abbrev pub IsSignedBelow : ℕ → ℤ → Type 0
IsSignedBelow bound (pos n) = n < bound
IsSignedBelow bound (negsuc n) = n < bound

-- the numbers of the value are in the ranges of their types
abbrev pub IsInRange : PlainDebug → Type 0
IsInRange (Written plain alternate) = Unit {0}
IsInRange Unwritable = Unit {0}
IsInRange (OfSigned n) = IsSignedBelow (2 ^ 63) n
IsInRange (OfUnsigned n) = n < 2 ^ 64
IsInRange (OfWideSigned n) = IsSignedBelow (2 ^ 127) n
IsInRange (OfWideUnsigned n) = n < 2 ^ 128
IsInRange (OfTruth b) = Unit {0}
IsInRange (OfText text) = Unit {0}
IsInRange (OfBytes bytes) = AllByRecursion (λ b. b < 2 ^ 8) bytes
IsInRange (OfError text sources) = Unit {0}

-- what stands for a value is JSON
abbrev pub ValuesAreJson : Type 0
ValuesAreJson = (value : PlainDebug) → IsInRange value → IfSome (json_value value) (IsJson Value)

-- so are the members of a list of values
abbrev pub MembersAreJson : Type 0
MembersAreJson =
    (values : PlainValues) → AllByRecursion (λ e. IsInRange (debug_of e.1)) values.entries →
    IfSome (members_of values) (AllByRecursion (IsJson Members))

-- and a number below 2 to the 32nd
abbrev pub NumbersAreJson : Type 0
NumbersAreJson = (n : ℕ) → n < 2 ^ 32 → IsJson Value (decimal n)
