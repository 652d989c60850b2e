-- Objects that are kept of the fields of spans.
use Rattle.std.proofs.Common.{◌≡◌, ℕ, Bool, true, false, List, [], ◌∷◌, Option, Some, None, IfSome, if◌then◌else◌, option_and_then}
use Rattle.std.proofs.Common.{slice_index_or, refl, sym, ap, subst, ◌∙◌}
use Rattle.std.specs.Cmp.Lexicographic.{slice_cmp}
use Rattle.std.specs.List.{AllByRecursion}
use Rattle.std.specs.Option.{option_map}
use Rattle.std.specs.Ordering.{is_lt, nat_cmp}
use Rattle.std.specs.Str.{bytes_eq}
use Rattle.tracing_core_fields.specs.PlainValue.{PlainValue, debug_of}
use Rattle.tracing_core_fields.specs.requests.PlainRequests.{PlainValues}
use Rattle.event_formatter_text.specs.FieldTexts.{plain_name}
use Rattle.event_formatter_text.specs.IsJson.{IsJson, Value}
use Rattle.event_formatter_text.specs.JsonLaws.{IsInRange, ValuesAreJson}
use Rattle.event_formatter_text.specs.JsonObjects.{Pair, object_text, pairs_in, put, put_all, words_of}
use Rattle.event_formatter_text.specs.JsonTexts.{json_value}
use Rattle.event_formatter_text.specs.SpanFields.{PlainFields}
use Rattle.event_formatter_text.specs.Members.{with_members}
use Rattle.event_formatter_lines.specs.JsonLaws.{IsObject, ObjectsAreKept}

abbrev AreValues : List Pair → Type 0
AreValues pairs = AllByRecursion (λ p. IsJson Value p.1) pairs

put_by : (less same : Bool) (key value : List ℕ) (p : Pair) (ps rest : List Pair) → IsJson Value value → IsJson Value p.1 → AreValues ps →
    AreValues rest →
    AreValues (if less then p ∷ rest else (if same then (key, value) ∷ ps else (key, value) ∷ p ∷ ps))
put_by true same key value p ps rest is here later put_is = (here, put_is)
put_by false true key value p ps rest is here later put_is = (is, later)
put_by false false key value p ps rest is here later put_is = (is, (here, later))

put_is : (key value : List ℕ) (pairs : List Pair) → IsJson Value value → AreValues pairs → AreValues (put key value pairs)
put_is key value [] is all = (is, tt)
put_is key value (p ∷ ps) is all =
    put_by (is_lt (slice_cmp nat_cmp p.0 key)) (bytes_eq p.0 key) key value p ps (put key value ps) is all.0 all.1
    (put_is key value ps is all.1)

then_is : {A B : Type 0} (P : A → Type 0) (Q : B → Type 0) (o : Option A) (f : A → Option B) → IfSome o P →
    ((a : A) → P a → IfSome (f a) Q) → IfSome (option_and_then f o) Q
then_is P Q None f is later = tt
then_is P Q (Some a) f is later = later a is

pairs_again : (pairs : List Pair) → pairs_in (words_of pairs) ≡ pairs
pairs_again [] = refl
pairs_again (p ∷ ps) = ap (λ (qs : List Pair). p ∷ qs) (pairs_again ps)

with_is : (o : Option (List Pair)) (fields : PlainFields) → IfSome o AreValues →
    IfSome (option_map (λ pairs. record fields { text = object_text pairs; words = words_of pairs }) o) IsObject
with_is None fields all = tt
with_is (Some pairs) fields all = (pairs, all, refl, refl)

module _ (values_are : ValuesAreJson) where
  all_put : (names : List (List ℕ)) (entries : List (ℕ × PlainValue)) (pairs : List Pair) →
      AllByRecursion (λ e. IsInRange (debug_of e.1)) entries → AreValues pairs →
      IfSome (put_all names entries pairs) AreValues
  all_put names [] pairs ranges all = all
  all_put names (e ∷ es) pairs ranges all =
      let key = plain_name (slice_index_or names e.0 []) in
      then_is (IsJson Value) AreValues (json_value (debug_of e.1)) (λ value. put_all names es (put key value pairs))
      (values_are (debug_of e.1) ranges.0)
      (λ value is. all_put names es (put key value pairs) ranges.1 (put_is key value pairs is all))

  pub added_is : (fields : PlainFields) (values : PlainValues) → AllByRecursion (λ e. IsInRange (debug_of e.1)) values.entries →
      IsObject fields →
      IfSome (with_members values fields) IsObject
  added_is fields values ranges kept =
      let same : pairs_in fields.words ≡ kept.0 = ap pairs_in kept.3 ∙ pairs_again kept.0 in
      with_is (put_all values.names values.entries (pairs_in fields.words)) fields
      (all_put values.names values.entries (pairs_in fields.words) ranges (subst AreValues (sym same) kept.1))

pub objects_are_kept : ObjectsAreKept
objects_are_kept fields span kept same = (kept.0, kept.1, same ∙ kept.2)
