-- Values and lists of values as JSON.
use Rattle.std.proofs.Common.{arith, ◌<◌, ◌^◌, ℕ, ℤ, pos, negsuc, suc, Bool, true, false, List, [], ◌∷◌, ◌++◌, codes, Option, Some, None}
use Rattle.std.proofs.Common.{IfSome, if◌then◌else◌, is_none, slice_index_or, sym, subst, append_assoc}
use Rattle.std.proofs.lemmas.List.{append-nil}
use Rattle.std.specs.Fmt.{decimal, signed_decimal}
use Rattle.std.specs.List.{AllByRecursion, cons_option, filter_map, list_any}
use Rattle.std.specs.Option.{option_map}
use Rattle.tracing_core_fields.specs.PlainDebug.{Written, Unwritable, OfSigned, OfUnsigned, OfWideSigned, OfWideUnsigned, OfTruth, OfText}
use Rattle.tracing_core_fields.specs.PlainDebug.{OfBytes, OfError}
use Rattle.tracing_core_fields.specs.PlainValue.{PlainValue, debug_of}
use Rattle.event_formatter_text.proofs.JsonNumbers.{decimal_whole, whole_inside}
use Rattle.event_formatter_text.proofs.JsonObjects.{string_is}
use Rattle.event_formatter_text.proofs.JsonStrings.{text_inside}
use Rattle.event_formatter_text.specs.Escapes.{escaped, json_char, json_string}
use Rattle.event_formatter_text.specs.FieldTexts.{plain_name}
use Rattle.event_formatter_text.specs.IsJson.{Elements, IsJson, Members, Value, array, element, elements, empty_array, member, negative}
use Rattle.event_formatter_text.specs.IsJson.{number, string, truth, whole}
use Rattle.event_formatter_text.specs.JsonLaws.{IsInRange, IsSignedBelow, ListsOfStringsAreJson, MembersAreJson, NumbersAreJson}
use Rattle.event_formatter_text.specs.JsonLaws.{ValuesAreJson}
use Rattle.event_formatter_text.specs.JsonTexts.{between_quotes, json_value, numbers_inside, strings_inside}
use Rattle.event_formatter_text.specs.Lists.{entry_piece}
use Rattle.event_formatter_text.specs.Visitors.{member_piece}

number_is : (n : ℕ) → n < 10 ^ 64 → IsJson Value (decimal n)
number_is n below = number (decimal n) (whole (decimal n) (decimal_whole n below))

pub numbers_are : NumbersAreJson
numbers_are n below = number_is n (omega arith)

signed_is : (n : ℤ) → IsSignedBelow (2 ^ 63) n → IsJson Value (signed_decimal n)
signed_is (pos n) below = number_is n (omega arith)
signed_is (negsuc n) below = number (45 ∷ decimal (suc n)) (negative (decimal (suc n)) (decimal_whole (suc n) (omega arith)))

quoted_is : (n : ℕ) → n < 2 ^ 128 → IsJson Value (between_quotes (decimal n))
quoted_is n below = string (decimal n) (whole_inside (decimal n) (decimal_whole n (omega arith)))

quoted_signed_is : (n : ℤ) → IsSignedBelow (2 ^ 127) n → IsJson Value (between_quotes (signed_decimal n))
quoted_signed_is (pos n) below = quoted_is n (omega arith)
quoted_signed_is (negsuc n) below = string (45 ∷ decimal (suc n)) (whole_inside (decimal (suc n)) (decimal_whole (suc n) (omega arith)))

all_numbers : (b : ℕ) (bs : List ℕ) → b < 2 ^ 8 → AllByRecursion (λ c. c < 2 ^ 8) bs → IsJson Elements (numbers_inside (b ∷ bs))
all_numbers b [] below rest = subst (IsJson Elements) (sym (append-nil (decimal b))) (element (decimal b) (number_is b (omega arith)))
all_numbers b (c ∷ cs) below rest = elements (decimal b) (numbers_inside (c ∷ cs)) (number_is b (omega arith))
    (all_numbers c cs rest.0 rest.1)

bytes_are : (bytes : List ℕ) → AllByRecursion (λ b. b < 2 ^ 8) bytes → IsJson Value (codes "[" ++ numbers_inside bytes ++ codes "]")
bytes_are [] all = empty_array
bytes_are (b ∷ bs) all = array (numbers_inside (b ∷ bs)) (all_numbers b bs all.0 all.1)

all_strings : (text : List ℕ) (texts : List (List ℕ)) → IsJson Elements (strings_inside (text ∷ texts))
all_strings text [] = subst (IsJson Elements) (sym (append-nil (json_string text))) (element (json_string text) (string_is text))
all_strings text (next ∷ texts) =
    elements (json_string text) (strings_inside (next ∷ texts)) (string_is text) (all_strings next texts)

pub lists_of_strings_are : ListsOfStringsAreJson
lists_of_strings_are [] = empty_array
lists_of_strings_are (text ∷ texts) = array (strings_inside (text ∷ texts)) (all_strings text texts)

pub values_are : ValuesAreJson
values_are (Written plain alternate) range = string_is plain
values_are Unwritable range = tt
values_are (OfSigned n) range = signed_is n range
values_are (OfUnsigned n) range = number_is n (omega arith)
values_are (OfWideSigned n) range = quoted_signed_is n range
values_are (OfWideUnsigned n) range = quoted_is n range
values_are (OfTruth b) range = truth b
values_are (OfText text) range = string_is text
values_are (OfBytes bytes) range = bytes_are bytes range
values_are (OfError text sources) range = string_is text

member_is : (key : List ℕ) (value : Option (List ℕ)) (more : List (List ℕ)) → IfSome value (IsJson Value) →
    AllByRecursion (IsJson Members) more →
    AllByRecursion (IsJson Members) (cons_option (option_map (λ text. json_string key ++ codes ":" ++ text) value) more)
unfolding json_string
member_is key None more value rest = rest
member_is key (Some text) more value rest = (
  subst (IsJson Members) (sym (append_assoc (between_quotes (escaped json_char key)) (codes ":") text))
      (member (escaped json_char key) text (text_inside key) value),
  rest,
)

module _ (names : List (List ℕ)) where
  entries_are : (entries : List (ℕ × PlainValue)) → AllByRecursion (λ e. IsInRange (debug_of e.1)) entries →
      AllByRecursion (IsJson Members) (filter_map (entry_piece member_piece names) entries)
  entries_are [] ranges = tt
  entries_are (e ∷ es) ranges =
      member_is (plain_name (slice_index_or names e.0 [])) (json_value (debug_of e.1)) (filter_map (entry_piece member_piece names) es)
      (values_are (debug_of e.1) ranges.0) (entries_are es ranges.1)

pub members_are : MembersAreJson
members_are values ranges = by_test (list_any (λ e. is_none (entry_piece member_piece values.names e)) values.entries)
  where
    by_test : (fails : Bool) → IfSome (if fails then None else Some (filter_map (entry_piece member_piece values.names) values.entries))
        (AllByRecursion (IsJson Members))
    by_test true = tt
    by_test false = entries_are values.names values.entries ranges
