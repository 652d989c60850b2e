-- Members that a visit appends.
use Rattle.std.proofs.Common.{◌≡◌, ℕ, Bool, true, false, ◌||◌, List, [], ◌∷◌, codes, Option, Some, None, is_none, if◌then◌else◌, Result, Ok}
use Rattle.std.proofs.Common.{Err, String, Global, string_bytes, refl, sym, ap, subst, ◌∙◌}
use Rattle.std.specs.List.{cons_option, filter_map, list_any}
use base.Fml.{GName}
use Rattle.tracing_core_fields.specs.PlainField.{PlainField}
use Rattle.tracing_core_fields.specs.PlainValue.{PlainValue, debug_of}
use Rattle.tracing_core_fields.specs.Visits.{Visits, all_taken, refused, taken}
use Rattle.tracing_core_fields.specs.requests.PlainRequests.{PlainValues}
use Rattle.event_formatter_text.proofs.PieceVisits.{fields_visited}
use Rattle.event_formatter_text.specs.MemberChains.{ExtendsWhole, is_still_first, members_of}
use Rattle.event_formatter_text.specs.Lists.{Formats, entry_piece, joined_unless}
use Rattle.event_formatter_text.specs.Visitors.{Frame, ShowsAsJson, frame_of, member_piece}
use Rattle.event_formatter_text.specs.Writers.{written}
use Rattle.event_formatter_text.specs.declared.error.FormatError.{FormatError}
use Rattle.event_formatter_text.specs.declared.error.FormatError.TheVariants.{Failed, OutOfMemory}
use Rattle.event_formatter_text.specs.declared.visitors.json.JsonVisitor.{JsonVisitor}
use Rattle.event_formatter_text.specs.declared.writer.Writer.{Writer}

-- where each entry has a piece, there are pieces where there are entries
as_entries : {X : Type 0} (piece : X → Option (List ℕ)) (entries : List X) (is_first : Bool) →
    list_any (λ e. is_none (piece e)) entries ≡ false → is_still_first is_first entries ≡ is_still_first is_first (filter_map piece entries)
as_entries piece [] is_first all = refl
as_entries piece (e ∷ es) is_first all = one (piece e) (filter_map piece es) all
  where
    one : (o : Option (List ℕ)) (rest : List (List ℕ)) → (is_none o || list_any (λ e. is_none (piece e)) es) ≡ false →
        false ≡ is_still_first is_first (cons_option o rest)
    one None rest all = absurd (cc)
    one (Some p) rest all = refl

-- the answer of a visit, and whether the next member is the first
abbrev pub told : Result (Unit {0}) FormatError → Bool → Result Bool FormatError
told (Ok done) is_still = Ok is_still
told (Err error) is_still = Err error

-- what pieces, or none, leave
joined_whole : (fails : Bool) (pieces : List (List ℕ)) (is_first is_still : Bool) (old new : List ℕ)
    (answer : Result (Unit {0}) FormatError) → (answer ≡ Ok tt → fails ≡ false → is_still ≡ is_still_first is_first pieces) →
    Formats (joined_unless (codes ",") is_first fails pieces) old answer new →
    ExtendsWhole (if fails then None else Some pieces) is_first old (told answer is_still) new
joined_whole false pieces is_first is_still old new (Ok done) still w = record { text = w; first = still refl refl }
joined_whole true pieces is_first is_still old new (Ok done) still w = absurd w
joined_whole false pieces is_first is_still old new (Err Failed) still w = absurd w
joined_whole true pieces is_first is_still old new (Err Failed) still w = tt
joined_whole false pieces is_first is_still old new (Err OutOfMemory) still w = tt
joined_whole true pieces is_first is_still old new (Err OutOfMemory) still w = tt

abbrev pub TakesMembers : JsonVisitor → PlainField → PlainValue → Result (Unit {0}) FormatError → JsonVisitor → Type 0
TakesMembers before field value answer after = ShowsAsJson before field (debug_of value) answer after

module _ {callsite : ℕ} {names : List (List ℕ)} where
  -- whether the next member is the first
  still_first : {entries : List (ℕ × PlainValue)} {before after : JsonVisitor} {answer : Result (Unit {0}) FormatError} →
      Visits TakesMembers callsite names entries before answer after → answer ≡ Ok tt →
      after.is_empty ≡ is_still_first before.is_empty entries
  still_first all_taken ok = refl
  still_first (refused field is t) ok = absurd (cc)
  still_first (taken {entries = es} {next = next} field is t more) ok = still_first more ok ∙ none es
    where
      none : (es : List (ℕ × PlainValue)) → is_still_first next.is_empty es ≡ false
      none [] = t.1
      none (e ∷ es) = refl

-- what a visit over a lent text leaves in it
pub appended : (values : PlainValues) (old : List ℕ) (name : GName) (given : Writer) (before after : JsonVisitor) (is_first : Bool)
    (answer : Result (Unit {0}) FormatError) (final : String Global) → given.out.ghost_name ≡ name → written given ≡ old →
    before.writer ≡ given → before.is_empty ≡ is_first → (name ≡ after.writer.out.ghost_name → final ≡ after.writer.out.now) →
    Visits TakesMembers values.callsite values.names values.entries before answer after →
    ExtendsWhole (members_of values) is_first old (told answer after.is_empty) (string_bytes final)
appended values old name given before after is_first answer final named begun lent first tie visits =
    let v = fields_visited (λ v. written v.writer) (λ v. v.is_empty) (λ v. frame_of v.writer) (λ s. codes ",")
    (λ (f : Frame) n value. member_piece n value) visits in
    let ended : string_bytes final ≡ written after.writer =
    ap string_bytes (tie (sym (ap (λ f. f.text) v.0 ∙ ap (λ w. w.out.ghost_name) lent ∙ named))) in
    let fails : Bool = list_any (λ e. is_none (entry_piece member_piece values.names e)) values.entries in
    let pieces : List (List ℕ) = filter_map (entry_piece member_piece values.names) values.entries in
    let whole : ExtendsWhole (members_of values) before.is_empty (written before.writer) (told answer after.is_empty) (written after.writer)
    = joined_whole fails pieces before.is_empty after.is_empty (written before.writer) (written after.writer) answer
    (λ ok all. still_first visits ok ∙ as_entries (entry_piece member_piece values.names) values.entries before.is_empty all) v.1 in
    subst (λ (t : List ℕ). ExtendsWhole (members_of values) is_first old (told answer after.is_empty) t) (sym ended)
    (subst (λ (t : List ℕ). ExtendsWhole (members_of values) is_first t (told answer after.is_empty) (written after.writer))
    (ap written lent ∙ begun)
    (subst (λ (b : Bool). ExtendsWhole (members_of values) b (written before.writer) (told answer after.is_empty) (written after.writer))
    first whole))
