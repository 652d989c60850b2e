-- A line whose fields were appended as members.
use Rattle.std.proofs.Common.{◌≡◌, ℕ, Bool, true, false, List, ◌++◌, codes, Option, Some, None, Ok, Err, refl, sym, ap, ◌∙◌, append_assoc}
use Rattle.std.specs.Option.{option_map}
use Rattle.event_formatter_text.specs.MemberChains.{Extends, ExtendsWhole}
use Rattle.event_formatter_text.specs.Lists.{Formats, further, joined}
use Rattle.event_formatter_text.specs.declared.error.FormatError.{FormatError}
use Rattle.event_formatter_text.specs.declared.error.FormatError.TheVariants.{Failed, OutOfMemory}
use Rattle.event_formatter_lines.proofs.Members.{chained, object, one}
use Rattle.event_formatter_lines.specs.Json.{key_text, member_if, object_line, object_of}

abbrev as_member : List ℕ → Option (List (List ℕ)) → Option (List (List ℕ))
as_member key fields = option_map (λ members. member_if key (Some (object_of members))) fields

-- an object of the fields as a member
pub nested : (key : List ℕ) (fields : Option (List (List ℕ))) (is_first is_still : Bool) (old mid begun end new : List ℕ) → mid ≡ old ++
    further (codes ",") is_first (key_text key) → begun ≡ mid ++ codes "{" →
    ExtendsWhole fields true begun (Ok is_still) end → new ≡ end ++ codes "}" →
    ExtendsWhole (as_member key fields) is_first old (Ok false) new
nested key None is_first is_still old mid begun end new m b e n = absurd e
nested key (Some members) is_first is_still old mid begun end new m b e n =
    one (key_text key) (object_of members) is_first old mid new m
    (n ∙ ap (λ (t : List ℕ). t ++ codes "}") (e.text ∙ ap (λ (t : List ℕ). t ++ joined (codes ",") true members) b ∙
    append_assoc mid (codes "{") (joined (codes ",") true members)) ∙ append_assoc mid (codes "{" ++ joined (codes ",") true members)
    (codes "}"))

pub nested_refused : (key : List ℕ) (fields : Option (List (List ℕ))) (is_first : Bool) (old begun end : List ℕ) (error : FormatError) →
    ExtendsWhole fields true begun (Err error) end → ExtendsWhole (as_member key fields) is_first old (Err error) end
nested_refused key None is_first old begun end Failed e = tt
nested_refused key (Some members) is_first old begun end Failed e = absurd e
nested_refused key None is_first old begun end OutOfMemory e = tt
nested_refused key (Some members) is_first old begun end OutOfMemory e = tt

pub no_memory : (fields : Option (List (List ℕ))) (is_first : Bool) (old new : List ℕ) →
    ExtendsWhole fields is_first old (Err OutOfMemory) new
no_memory None is_first old new = tt
no_memory (Some members) is_first old new = tt

-- the line, where its fields were appended
pub written : (before behind : List (List ℕ)) (fields : Option (List (List ℕ))) (f g h : Bool) (old begun first mid end new : List ℕ) →
    begun ≡ old ++ codes "{" → Extends before true begun f first →
    ExtendsWhole fields f first (Ok g) mid → Extends behind g mid h end → new ≡ end ++ codes "}\n" →
    Formats (object_line before fields behind) old (Ok tt) new
written before behind None f g h old begun first mid end new b x e y n = absurd e
written before behind (Some members) f g h old begun first mid end new b x e y n =
    n ∙ sym (append_assoc end (codes "}") (codes "\n")) ∙
    ap (λ (t : List ℕ). t ++ codes "\n") (object (before ++ members) behind g h old begun mid end (end ++ codes "}") b (chained x e) y
    refl)
    ∙ append_assoc old (object_of (before ++ members ++ behind)) (codes "\n")

pub refused : (before behind : List (List ℕ)) (fields : Option (List (List ℕ))) (f : Bool) (old first mid : List ℕ) (error : FormatError) →
    ExtendsWhole fields f first (Err error) mid → Formats (object_line before fields behind) old (Err error) mid
refused before behind None f old first mid Failed e = tt
refused before behind (Some members) f old first mid Failed e = absurd e
refused before behind None f old first mid OutOfMemory e = tt
refused before behind (Some members) f old first mid OutOfMemory e = tt
