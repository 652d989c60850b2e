-- Objects of members.
use Rattle.std.proofs.Common.{ℕ, List, [], ◌∷◌, subst, sym}
use Rattle.std.proofs.lemmas.List.{append-nil}
use Rattle.std.specs.List.{AllByRecursion}
use Rattle.event_formatter_text.proofs.JsonStrings.{text_inside}
use Rattle.event_formatter_text.specs.Escapes.{escaped, json_char, json_string}
use Rattle.event_formatter_text.specs.IsJson.{IsJson, Members, Value, empty_object, member, members, object, string}
use Rattle.event_formatter_text.specs.JsonObjects.{Pair, member_text, members_inside, object_text}

pub string_is : (text : List ℕ) → IsJson Value (json_string text)
unfolding json_string
string_is text = string (escaped json_char text) (text_inside text)

one : (p : Pair) → IsJson Value p.1 → IsJson Members (member_text p)
unfolding json_string
one p value = member (escaped json_char p.0) p.1 (text_inside p.0) value

pub all : (p : Pair) (ps : List Pair) → IsJson Value p.1 → AllByRecursion (λ q. IsJson Value q.1) ps →
    IsJson Members (members_inside (p ∷ ps))
all p [] value rest = subst (IsJson Members) (sym (append-nil (member_text p))) (one p value)
all p (q ∷ qs) value rest = members (member_text p) (members_inside (q ∷ qs)) (one p value) (all q qs rest.0 rest.1)

pub objects_are : (pairs : List Pair) → AllByRecursion (λ p. IsJson Value p.1) pairs → IsJson Value (object_text pairs)
objects_are [] values = empty_object
objects_are (p ∷ ps) values = object (members_inside (p ∷ ps)) (all p ps values.0 values.1)
