-- Spans of which an object is kept.
use Rattle.std.proofs.Common.{◌≡◌, ℕ, List, [], ◌∷◌, ◌++◌, codes, Option, Some, refl, sym, ap, ◌∙◌, append_assoc}
use Rattle.std.proofs.lemmas.Grind.{flat_map-append}
use lib.Utf8.{encode}
use Rattle.std.specs.Str.{chars}
use Rattle.std.specs.List.{join_by}
use Rattle.event_formatter_text.specs.Escapes.{escaped, json_char, json_string}
use Rattle.event_formatter_text.specs.JsonObjects.{Pair, later_members, member_text, members_inside, object_text}
use Rattle.event_formatter_lines.proofs.Braces.{inside}
use Rattle.event_formatter_lines.specs.Json.{kept_by, kept_members, key_text, members_as_kept, object_of, span_object, text_member}
use Rattle.event_formatter_lines.specs.JsonLaws.{SpansExtendObjects}

abbrev name_pair : List ℕ → Pair
name_pair name = (codes "name", json_string name)

named : (name : List ℕ) → key_text (codes "name") ++ json_string name ≡ member_text (name_pair name)
unfolding key_text json_string escaped json_char encode chars
named name = refl

abbrev joined_members : List (List ℕ) → List ℕ
joined_members members = join_by (λ m. m) (codes ",") members

-- the members of an object, and one more
one_more : (pairs : List Pair) (name : List ℕ) →
    joined_members (members_as_kept (members_inside pairs) ++ text_member (codes "name") (Some name)) ≡ members_inside
    (pairs ++ (name_pair name ∷ []))
unfolding json_string
one_more [] name = ap (λ (t : List ℕ). t ++ []) (named name)
one_more (p ∷ ps) name =
    let text = key_text (codes "name") ++ json_string name in
    append_assoc (member_text p) (later_members ps) ((codes "," ++ text) ++ [])
    ∙ ap (λ (t : List ℕ). member_text p ++ t) (ap (λ (t : List ℕ). later_members ps ++ ((codes "," ++ t) ++ [])) (named name) ∙
    sym (flat_map-append (λ q. codes "," ++ member_text q) ps (name_pair name ∷ [])))

pub spans_extend_objects : SpansExtendObjects
unfolding span_object
spans_extend_objects span pairs kept =
    let inner = members_inside pairs in
    let named_member = text_member (codes "name") (Some span.name) in
    let members : kept_members span.text ≡ members_as_kept inner = ap kept_members kept ∙
    ap (λ (o : Option (List ℕ)). kept_by o (object_text pairs)) (inside inner) in
    ap (λ (ms : List (List ℕ)). object_of (ms ++ named_member)) members
    ∙ ap (λ (t : List ℕ). codes "{" ++ t ++ codes "}") (one_more pairs span.name)
    ∙ append_assoc (codes "{") (members_inside (pairs ++ (name_pair span.name ∷ []))) (codes "}")
