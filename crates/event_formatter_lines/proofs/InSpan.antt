-- The JSON line of an event in one span, with no other part than time, level and target.
use Rattle.std.proofs.Common.{◌≡◌, ℕ, Bool, true, List, [], ◌∷◌, ◌++◌, length, codes, Option, Some, None, Result, Ok, Err, OnOk, sym, ap}
use Rattle.std.proofs.Common.{◌∙◌, append_assoc, arith}
use Rattle.std.proofs.lemmas.Grind.{common_steps}
use Rattle.std.specs.Option.{option_map}
use Rattle.tracing_core_fields.specs.Level.{level_name}
use Rattle.event_formatter_text.specs.MemberChains.{ExtendsWhole}
use Rattle.event_formatter_text.specs.Escapes.{escaped, json_char, json_string}
use Rattle.event_formatter_text.specs.Lists.{Formats, joined}
use Rattle.event_formatter_text.specs.declared.error.FormatError.{FormatError}
use Rattle.event_formatter_text.specs.declared.error.FormatError.TheVariants.{Failed, OutOfMemory}
use Rattle.event_formatter_lines.specs.Heads.{usual_head}
use Rattle.event_formatter_lines.specs.Json.{before_fields, behind_fields, default_shape, first_members, inside_braces, kept_by, key_text}
use Rattle.event_formatter_lines.specs.Json.{last_members, member_if, object_line, object_of, span_object, text_member}
use Rattle.event_formatter_lines.specs.Shown.{PlainShown}

-- what was appended, and then more
pub joined_to : (old b c mid new : List ℕ) → mid ≡ old ++ b → new ≡ mid ++ c → new ≡ old ++ (b ++ c)
joined_to old b c mid new m n = n ∙ ap (λ (t : List ℕ). t ++ c) m ∙ append_assoc old b c

pub behind : {E : Type 0} (r : Result (Unit {0}) E) (old b c mid new : List ℕ) → mid ≡ old ++ b → OnOk r (new ≡ mid ++ c) →
    OnOk r (new ≡ old ++ (b ++ c))
behind (Ok done) old b c mid new m n = joined_to old b c mid new m n
behind (Err error) old b c mid new m n = tt

begun_with : (time name : List ℕ) →
    (codes "{\"timestamp\":\"" ++ time) ++ (codes "\"" ++ (codes "," ++ (codes "\"level\":" ++ (codes "\"" ++ name ++ codes "\""))) ++
    codes ",\"fields\":{")
    ≡ codes "{\"timestamp\":" ++ (codes "\"" ++ time ++ codes "\"") ++ codes ",\"level\":" ++ (codes "\"" ++ name ++ codes "\"") ++
    codes ",\"fields\":{"
begun_with time name = grind (arith, common_steps)

pub before_is : (time : List ℕ) (level : ℕ) →
    (codes "{\"timestamp\":\"" ++ escaped json_char time) ++ (codes "\"" ++
    (codes "," ++ (key_text (codes "level") ++ json_string (level_name level))) ++ codes ",\"fields\":{") ≡ before_fields time level
unfolding key_text json_string
before_is time level = begun_with (escaped json_char time) (escaped json_char (level_name level))

pub behind_is : (target : List ℕ) (span : PlainShown) →
    (codes "},\"target\":\"" ++ escaped json_char target) ++ (codes "\",\"span\":" ++ span_object span ++ codes ",\"spans\":[" ++
    span_object span ++ codes "]}\n") ≡ behind_fields target span
unfolding json_string
behind_is target span = grind (arith, common_steps)

-- an object with members that are kept, and a name in which nothing is written out
object_by : (inside : Option (List ℕ)) (text name begun : List ℕ) → option_map (λ members. codes "{" ++ members) inside ≡ Some begun →
    (length begun ≡ 1 → ⊥) → escaped json_char name ≡ name →
    object_of (kept_by inside text ++ text_member (codes "name") (Some name)) ≡ begun ++ codes ",\"name\":\"" ++ name ++ codes "\"}"
unfolding key_text json_string
object_by None text name begun is long plain = absurd (cc)
object_by (Some []) text name begun is long plain = absurd (long (grind (arith, common_steps)))
object_by (Some (x ∷ xs)) text name begun is long plain = grind (arith, common_steps)

pub object_is : (span : PlainShown) (begun : List ℕ) → option_map (λ members. codes "{" ++ members) (inside_braces span.text) ≡ Some begun →
    (length begun ≡ 1 → ⊥) → escaped json_char span.name ≡ span.name →
    span_object span ≡ begun ++ codes ",\"name\":\"" ++ span.name ++ codes "\"}"
unfolding span_object
object_is span begun is long plain = object_by (inside_braces span.text) span.text span.name begun is long plain

pub twice_is : (begun name : List ℕ) →
    codes "\",\"span\":" ++ (begun ++ codes ",\"name\":\"" ++ name) ++ codes "\"},\"spans\":[" ++ (begun ++ codes ",\"name\":\"" ++ name) ++
    codes "\"}]}\n"
    ≡ codes "\",\"span\":" ++ (begun ++ codes ",\"name\":\"" ++ name ++
    codes "\"}") ++ codes ",\"spans\":[" ++ (begun ++ codes ",\"name\":\"" ++ name ++ codes "\"}") ++ codes "]}\n"
twice_is begun name = grind (arith, common_steps)

-- members of which the third is an object, in an object
before_rest : (t l j rest : List ℕ) →
    codes "{" ++ ((codes "\"timestamp\":" ++ t) ++
    ((codes "," ++ (codes "\"level\":" ++ l)) ++ ((codes "," ++ (codes "\"fields\":" ++ (codes "{" ++ j ++ codes "}"))) ++ rest))) ++
    codes "}" ++ codes "\n"
    ≡ (codes "{\"timestamp\":" ++ t ++ codes ",\"level\":" ++ l ++ codes ",\"fields\":{") ++ (j ++ (codes "}" ++ (rest ++ codes "}\n")))
before_rest t l j rest = grind (arith, common_steps)

rest_is : (g s : List ℕ) →
    codes "}" ++ (((codes "," ++ (codes "\"target\":" ++ g)) ++
    ((codes "," ++ (codes "\"span\":" ++ s)) ++ ((codes "," ++ (codes "\"spans\":" ++ (codes "[" ++ (s ++ []) ++ codes "]"))) ++ [])))
    ++ codes "}\n")
    ≡ codes "},\"target\":" ++ g ++ codes ",\"span\":" ++ s ++ codes ",\"spans\":[" ++ s ++ codes "]}\n"
rest_is g s = grind (arith, common_steps)

joined_up : (t l j g s : List ℕ) →
    codes "{" ++ ((codes "\"timestamp\":" ++ t) ++
    ((codes "," ++ (codes "\"level\":" ++ l)) ++ ((codes "," ++ (codes "\"fields\":" ++ (codes "{" ++ j ++ codes "}")))
    ++ ((codes "," ++ (codes "\"target\":" ++ g)) ++
    ((codes "," ++ (codes "\"span\":" ++ s)) ++ ((codes "," ++ (codes "\"spans\":" ++ (codes "[" ++ (s ++ []) ++ codes "]"))) ++
    [])))))) ++ codes "}" ++ codes "\n"
    ≡ (codes "{\"timestamp\":" ++ t ++ codes ",\"level\":" ++ l ++ codes ",\"fields\":{") ++
    (j ++ (codes "},\"target\":" ++ g ++ codes ",\"span\":" ++ s ++ codes ",\"spans\":[" ++ s ++ codes "]}\n"))
joined_up t l j g s =
    before_rest t l j ((codes "," ++ (codes "\"target\":" ++ g)) ++
    ((codes "," ++ (codes "\"span\":" ++ s)) ++ ((codes "," ++ (codes "\"spans\":" ++ (codes "[" ++ (s ++ []) ++ codes "]"))) ++ [])))
    ∙ ap (λ (b : List ℕ). (codes "{\"timestamp\":" ++ t ++ codes ",\"level\":" ++ l ++ codes ",\"fields\":{") ++ (j ++ b)) (rest_is g s)

abbrev as_member : Option (List (List ℕ)) → Option (List (List ℕ))
as_member fields = option_map (λ members. member_if (codes "fields") (Some (object_of members))) fields

-- the line, where its fields were appended
pub line_is : (time : List ℕ) (level : ℕ) (target : List ℕ) (span : PlainShown) (fields : Option (List (List ℕ))) (is_still : Bool)
    (old first mid new : List ℕ) → first ≡ old ++ before_fields time level →
    ExtendsWhole fields true first (Ok is_still) mid → new ≡ mid ++ behind_fields target span →
    Formats (object_line (first_members (usual_head time level target)) (as_member fields)
    (last_members default_shape (usual_head time level target) (span ∷ []))) old (Ok tt) new
unfolding key_text
line_is time level target span None is_still old first mid new f e n = absurd e
line_is time level target span (Some members) is_still old first mid new f e n =
    let a = before_fields time level in
    let j = joined (codes ",") true members in
    let b = behind_fields target span in
    n ∙ ap (λ (t : List ℕ). t ++ b) (e.text ∙ ap (λ (t : List ℕ). t ++ j) f ∙ append_assoc old a j) ∙ append_assoc old (a ++ j) b ∙
    ap (λ (t : List ℕ). old ++ t) (append_assoc a j b)
    ∙ ap (λ (t : List ℕ). old ++ t)
    (sym (joined_up (json_string time) (json_string (level_name level)) j (json_string target) (span_object span)))

pub refused_fields : (before later : List (List ℕ)) (fields : Option (List (List ℕ))) (old first mid : List ℕ) (error : FormatError) →
    ExtendsWhole fields true first (Err error) mid → Formats (object_line before (as_member fields) later) old (Err error) mid
refused_fields before later None old first mid Failed e = tt
refused_fields before later (Some members) old first mid Failed e = absurd e
refused_fields before later None old first mid OutOfMemory e = tt
refused_fields before later (Some members) old first mid OutOfMemory e = tt

pub no_memory : (before later : List (List ℕ)) (fields : Option (List (List ℕ))) (old new : List ℕ) →
    Formats (object_line before (as_member fields) later) old (Err OutOfMemory) new
no_memory before later None old new = tt
no_memory before later (Some members) old new = tt
