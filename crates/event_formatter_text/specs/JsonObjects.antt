-- The members of a JSON object, in order of their keys.
use Rattle.std.specs.Prelude.{ℕ, Bool, false, List, [], ◌∷◌, ◌++◌, if◌then◌else◌, Option, Some, option_and_then, codes, slice_index_or}
use Rattle.std.specs.Prelude.{string_bytes}
use Rattle.std.specs.Cmp.Lexicographic.{slice_cmp}
use Rattle.std.specs.List.{flat_map}
use Rattle.std.specs.Ordering.{is_lt, nat_cmp}
use Rattle.std.specs.Str.{bytes_eq}
use Rattle.tracing_core_fields.specs.PlainValue.{PlainValue, debug_of}
use Rattle.event_formatter_text.specs.Escapes.{json_string}
use Rattle.event_formatter_text.specs.FieldTexts.{plain_name}
use Rattle.event_formatter_text.specs.JsonTexts.{json_value}
use Rattle.event_formatter_text.specs.declared.json_object.Member.{Member}

-- a key, and the JSON of its value
abbrev pub Pair : Type 0
Pair = List ℕ × List ℕ

abbrev pub pair_of : Member → Pair
pair_of member = (string_bytes member.key, string_bytes member.value)

-- the value under its key: in the place of an earlier one, or before the first greater key
abbrev pub put : List ℕ → List ℕ → List Pair → List Pair
put key value [] = (key, value) ∷ []
put key value (p ∷ ps) =
    if is_lt (slice_cmp nat_cmp p.0 key) then p ∷ put key value ps
    else (if bytes_eq p.0 key then (key, value) ∷ ps else (key, value) ∷ p ∷ ps)

-- whether the first of them has the key
abbrev pub is_first_key : List ℕ → List Pair → Bool
is_first_key key [] = false
is_first_key key (p ∷ ps) = bytes_eq p.0 key

-- the value under its key, where the first of them has it or a greater one
abbrev pub put_first : List ℕ → List ℕ → List Pair → List Pair
put_first key value [] = (key, value) ∷ []
put_first key value (p ∷ ps) = if bytes_eq p.0 key then (key, value) ∷ ps else (key, value) ∷ p ∷ ps

-- the members once the entries were put, where all can be formatted
abbrev pub put_all : List (List ℕ) → List (ℕ × PlainValue) → List Pair → Option (List Pair)
put_all names [] pairs = Some pairs
put_all names (e ∷ es) pairs =
    option_and_then (λ value. put_all names es (put (plain_name (slice_index_or names e.0 [])) value pairs))
    (json_value (debug_of e.1))

-- a member
abbrev pub member_text : Pair → List ℕ
member_text p = json_string p.0 ++ (codes ":" ++ p.1)

-- members, a comma before each
abbrev pub later_members : List Pair → List ℕ
later_members pairs = flat_map (λ p. codes "," ++ member_text p) pairs

-- members, a comma between each two
abbrev pub members_inside : List Pair → List ℕ
members_inside [] = []
members_inside (p ∷ ps) = member_text p ++ later_members ps

abbrev pub object_text : List Pair → List ℕ
object_text pairs = codes "{" ++ (members_inside pairs ++ codes "}")

-- the words that are kept of members: each key, and then its value
abbrev pub words_of : List Pair → List (List ℕ)
words_of pairs = flat_map (λ p. p.0 ∷ p.1 ∷ []) pairs

-- the members that the words are of
abbrev pub pairs_in : List (List ℕ) → List Pair
pairs_in (key ∷ value ∷ words) = (key, value) ∷ pairs_in words
pairs_in (key ∷ []) = []
pairs_in [] = []
