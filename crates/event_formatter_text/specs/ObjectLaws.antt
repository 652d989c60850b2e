-- What holds of the members of an object.
use Rattle.std.specs.Prelude.{◌≡◌, ℕ, true, List, [], ◌∷◌, if◌then◌else◌, Option, Some, None, IfSome, slice_index_or}
use Rattle.std.specs.Cmp.Lexicographic.{slice_cmp}
use Rattle.std.specs.Ordering.{is_lt, nat_cmp}
use Rattle.std.specs.Str.{bytes_eq}
use Rattle.tracing_core_fields.specs.PlainValue.{PlainValue, debug_of}
use Rattle.event_formatter_text.specs.FieldTexts.{plain_name}
use Rattle.event_formatter_text.specs.JsonObjects.{Pair, put_all}
use Rattle.event_formatter_text.specs.JsonTexts.{json_value}

-- the key is less than that of the first member, where there is one
abbrev pub IsBelowFirst : List ℕ → List Pair → Type 0
IsBelowFirst key [] = Unit {0}
IsBelowFirst key (p ∷ ps) = is_lt (slice_cmp nat_cmp key p.0) ≡ true

-- each key is less than the next one, byte by byte
abbrev pub KeysRise : List Pair → Type 0
KeysRise [] = Unit {0}
KeysRise (p ∷ ps) = IsBelowFirst p.0 ps × KeysRise ps

-- the value under the key, where there is one
abbrev pub value_under : List ℕ → List Pair → Option (List ℕ)
value_under key [] = None
value_under key (p ∷ ps) = if bytes_eq p.0 key then Some p.1 else value_under key ps

-- the value of the last entry of this name, or else this one
abbrev pub last_value : List (List ℕ) → List ℕ → List (ℕ × PlainValue) → Option (List ℕ) → Option (List ℕ)
last_value names key [] before = before
last_value names key (e ∷ es) before =
    last_value names key es
    (if bytes_eq (plain_name (slice_index_or names e.0 [])) key then json_value (debug_of e.1) else before)

-- where keys rise, they still do once entries were put
abbrev pub ObjectKeysRise : Type 0
ObjectKeysRise =
    (names : List (List ℕ)) (entries : List (ℕ × PlainValue)) (pairs : List Pair) → KeysRise pairs →
    IfSome (put_all names entries pairs) KeysRise

-- each key then has the value of its last entry, and one without an entry has the value from before
abbrev pub ObjectsHaveLastValues : Type 0
ObjectsHaveLastValues =
    (names : List (List ℕ)) (entries : List (ℕ × PlainValue)) (pairs : List Pair) (key : List ℕ) →
    IfSome (put_all names entries pairs) (λ all. value_under key all ≡ last_value names key entries (value_under key pairs))
