-- Lines are objects of JSON.
use Rattle.std.proofs.Common.{◌≡◌, ◌<◌, ◌^◌, inl, inr, ℕ, Bool, true, false, List, [], ◌∷◌, ◌++◌, codes, Option, Some, None, IfSome, refl}
use Rattle.std.proofs.Common.{sym, ap, subst, ◌∙◌, append_assoc}
use Rattle.std.proofs.lemmas.List.{append-nil}
use Rattle.std.specs.Fmt.{decimal}
use Rattle.std.specs.List.{AllByRecursion, join_by, last_or}
use Rattle.std.specs.Option.{option_map}
use Rattle.tracing_core_fields.specs.Level.{level_name}
use Rattle.event_formatter_text.specs.MemberChains.{members_of}
use Rattle.event_formatter_text.specs.Escapes.{json_string}
use Rattle.event_formatter_text.specs.IsJson.{Anywhere, Elements, IsJson, Members, Value, array, element, elements, empty_object, is_inside}
use Rattle.event_formatter_text.specs.IsJson.{member, members, object}
use Rattle.event_formatter_text.specs.JsonLaws.{InsidesAreJson, MembersAreJson, NumbersAreJson, StringsAreJson}
use Rattle.event_formatter_text.specs.JsonObjects.{Pair, members_inside, object_text}
use Rattle.event_formatter_lines.proofs.Braces.{inside}
use Rattle.event_formatter_lines.specs.Heads.{PlainHead}
use Rattle.event_formatter_lines.specs.Json.{field_as_kept, field_members, first_members, kept_by, kept_members, key_text, last_members}
use Rattle.event_formatter_lines.specs.Json.{member_if, members_as_kept, object_line, object_of, span_array, span_members, span_object}
use Rattle.event_formatter_lines.specs.Json.{text_member, where_asked}
use Rattle.event_formatter_lines.specs.JsonLaws.{IsKeptWell, IsObjectLine, LinesAreJson}
use Rattle.event_formatter_lines.specs.Shown.{PlainShown}
use Rattle.event_formatter_lines.specs.declared.json.JsonShape.{JsonShape}

abbrev AreMembers : List (List ℕ) → Type 0
AreMembers texts = AllByRecursion (IsJson Members) texts

abbrev joined_members : List (List ℕ) → List ℕ
joined_members texts = join_by (λ m. m) (codes ",") texts

append_members : (xs ys : List (List ℕ)) → AreMembers xs → AreMembers ys → AreMembers (xs ++ ys)
append_members [] ys x y = y
append_members (m ∷ ms) ys x y = (x.0, append_members ms ys x.1 y)

join_members : (m : List ℕ) (ms : List (List ℕ)) → IsJson Members m → AreMembers ms → IsJson Members (joined_members (m ∷ ms))
join_members m [] x rest = subst (IsJson Members) (sym (append-nil m)) x
join_members m (n ∷ ns) x rest = members m (joined_members (n ∷ ns)) x (join_members n ns rest.0 rest.1)

object_is : (texts : List (List ℕ)) → AreMembers texts → IsJson Value (object_of texts)
object_is [] all = empty_object
object_is (m ∷ ms) all = object (joined_members (m ∷ ms)) (join_members m ms all.0 all.1)

key_member : (key value : List ℕ) → is_inside Anywhere key ≡ true → IsJson Value value → IsJson Members (key_text key ++ value)
unfolding key_text
key_member key value key_is value_is =
    subst (λ (t : List ℕ). IsJson Members (34 ∷ t)) (append_assoc key (34 ∷ []) (58 ∷ value) ∙ sym (append_assoc key (34 ∷ 58 ∷ []) value))
    (member key value key_is value_is)

member_is : (key : List ℕ) (value : Option (List ℕ)) → is_inside Anywhere key ≡ true → IfSome value (IsJson Value) →
    AreMembers (member_if key value)
member_is key None key_is value_is = tt
member_is key (Some value) key_is value_is = (key_member key value key_is value_is, tt)

asked_is : (asked : Bool) (value : Option (List ℕ)) → IfSome value (IsJson Value) → IfSome (where_asked asked value) (IsJson Value)
asked_is true value value_is = value_is
asked_is false value value_is = tt

number_is : NumbersAreJson → (line : Option ℕ) → IfSome line (λ n. n < 2 ^ 32) → IfSome (option_map decimal line) (IsJson Value)
number_is numbers None below = tt
number_is numbers (Some n) below = numbers n below

last_is : (P : PlainShown → Type 0) (o : Option PlainShown) (spans : List PlainShown) → IfSome o P → AllByRecursion P spans →
    IfSome (last_or o spans) P
last_is P o [] first all = first
last_is P o (span ∷ spans) first all = last_is P (Some span) spans all.0 all.1

module _ (strings : StringsAreJson) (insides : InsidesAreJson) where
  text_is : (key : List ℕ) (text : Option (List ℕ)) → is_inside Anywhere key ≡ true → AreMembers (text_member key text)
  text_is key None key_is = tt
  text_is key (Some text) key_is = (key_member key (json_string text) key_is (strings text), tt)

  field_is : (text : List ℕ) → AreMembers (field_as_kept text)
  field_is [] = tt
  field_is (b ∷ bs) = text_is (codes "field") (Some (b ∷ bs)) refl

  inner_is : (pairs : List Pair) → AllByRecursion (λ p. IsJson Value p.1) pairs → AreMembers (members_as_kept (members_inside pairs))
  unfolding json_string
  inner_is [] all = tt
  inner_is (p ∷ ps) all = (insides p ps all.0 all.1, tt)

  kept_is : (span : PlainShown) → IsKeptWell span → AreMembers (kept_members span.text)
  kept_is span (inr none) = subst (λ (o : Option (List ℕ)). AreMembers (kept_by o span.text)) (sym none) (field_is span.text)
  kept_is span (inl (pairs, all, kept)) =
      subst (λ (t : List ℕ). AreMembers (kept_members t)) (sym kept)
      (subst (λ (o : Option (List ℕ)). AreMembers (kept_by o (object_text pairs))) (sym (inside (members_inside pairs)))
      (inner_is pairs all))

  span_is : (span : PlainShown) → IsKeptWell span → IsJson Value (span_object span)
  unfolding span_object
  span_is span well = object_is (kept_members span.text ++ text_member (codes "name") (Some span.name))
      (append_members (kept_members span.text) (text_member (codes "name") (Some span.name)) (kept_is span well)
      (text_is (codes "name") (Some span.name) refl))

  last_span_is : (o : Option PlainShown) → IfSome o IsKeptWell → IfSome (option_map span_object o) (IsJson Value)
  last_span_is None well = tt
  last_span_is (Some span) well = span_is span well

  spans_are : (span : PlainShown) (spans : List PlainShown) → IsKeptWell span → AllByRecursion IsKeptWell spans →
      IsJson Elements (join_by span_object (codes ",") (span ∷ spans))
  spans_are span [] well rest = subst (IsJson Elements) (sym (append-nil (span_object span)))
      (element (span_object span) (span_is span well))
  spans_are span (next ∷ later) well rest = elements (span_object span) (join_by span_object (codes ",") (next ∷ later)) (span_is span well)
      (spans_are next later rest.0 rest.1)

  array_is : (spans : List PlainShown) → AllByRecursion IsKeptWell spans → IfSome (span_array spans) (IsJson Value)
  array_is [] well = tt
  array_is (span ∷ spans) well = array (join_by span_object (codes ",") (span ∷ spans)) (spans_are span spans well.0 well.1)

  span_members_are : (shape : JsonShape) (spans : List PlainShown) → AllByRecursion IsKeptWell spans → AreMembers (span_members shape spans)
  span_members_are shape spans well =
      append_members (member_if (codes "span") (where_asked shape.current_span (option_map span_object (last_or None spans))))
      (member_if (codes "spans") (where_asked shape.span_list (span_array spans)))
      (member_is (codes "span") (where_asked shape.current_span (option_map span_object (last_or None spans))) refl
      (asked_is shape.current_span (option_map span_object (last_or None spans))
      (last_span_is (last_or None spans) (last_is IsKeptWell None spans tt well))))
      (member_is (codes "spans") (where_asked shape.span_list (span_array spans)) refl
      (asked_is shape.span_list (span_array spans) (array_is spans well)))

  first_are : (head : PlainHead) → AreMembers (first_members head)
  first_are head = append_members (text_member (codes "timestamp") head.time)
      (text_member (codes "level") (option_map level_name head.level)) (text_is (codes "timestamp") head.time refl)
      (text_is (codes "level") (option_map level_name head.level) refl)

  fields_are : (o : Option (List (List ℕ))) → IfSome o AreMembers →
      IfSome (option_map (λ texts. member_if (codes "fields") (Some (object_of texts))) o) AreMembers
  fields_are None all = tt
  fields_are (Some texts) all = member_is (codes "fields") (Some (object_of texts)) refl (object_is texts all)

  last_are : NumbersAreJson → (shape : JsonShape) (head : PlainHead) (spans : List PlainShown) → IfSome head.line (λ n. n < 2 ^ 32) →
      AllByRecursion IsKeptWell spans → AreMembers (last_members shape head spans)
  last_are numbers shape head spans below well =
      let target = text_member (codes "target") head.target in
      let file = text_member (codes "filename") head.file in
      let line = member_if (codes "line_number") (option_map decimal head.line) in
      let name = text_member (codes "threadName") head.thread_name in
      let id = text_member (codes "threadId") head.thread_id in
      let place : AreMembers (target ++ file ++ line) =
      append_members (target ++ file) line
      (append_members target file (text_is (codes "target") head.target refl) (text_is (codes "filename") head.file refl))
      (member_is (codes "line_number") (option_map decimal head.line) refl (number_is numbers head.line below)) in
      let thread : AreMembers (name ++ id) = append_members name id (text_is (codes "threadName") head.thread_name refl)
      (text_is (codes "threadId") head.thread_id refl) in
      append_members (target ++ file ++ line ++ span_members shape spans) (name ++ id)
      (append_members (target ++ file ++ line) (span_members shape spans) place (span_members_are shape spans well)) thread

line_is : (before behind : List (List ℕ)) (fields : Option (List (List ℕ))) → AreMembers before → IfSome fields AreMembers →
    AreMembers behind → IfSome (object_line before fields behind) IsObjectLine
line_is before behind None b f e = tt
line_is before behind (Some texts) b f e =
    let all = before ++ texts ++ behind in
    let inner = joined_members all in (
      inner,
      object_is all (append_members (before ++ texts) behind (append_members before texts b f) e),
      ap (λ (t : List ℕ). 123 ∷ t) (append_assoc inner (codes "}") (codes "\n")),
    )

pub lines_are : StringsAreJson → InsidesAreJson → NumbersAreJson → MembersAreJson → LinesAreJson
lines_are strings insides numbers lists shape head spans values below well ranges =
    line_is (first_members head) (last_members shape head spans) (field_members shape.flatten_event values) (first_are strings insides head)
    (by_flag shape.flatten_event) (last_are strings insides numbers shape head spans below well)
  where
    by_flag : (flat : Bool) → IfSome (field_members flat values) AreMembers
    by_flag true = lists values ranges
    by_flag false = fields_are strings insides (members_of values) (lists values ranges)
