-- A visit by a visitor that keeps members keeps those of all entries.
use Rattle.std.proofs.Common.{ℕ, List, [], Option, Some, None, option_and_then, Result, Ok, Err, slice_index_or, refl, subst}
use Rattle.std.specs.Option.{option_map}
use Rattle.tracing_core_fields.specs.PlainField.{PlainField}
use Rattle.tracing_core_fields.specs.PlainValue.{PlainValue, debug_of}
use Rattle.tracing_core_fields.specs.Visits.{Visits, all_taken, refused, taken}
use Rattle.event_formatter_text.specs.FieldTexts.{plain_name}
use Rattle.event_formatter_text.specs.JsonObjects.{Pair, put, put_all}
use Rattle.event_formatter_text.specs.JsonTexts.{json_value}
use Rattle.event_formatter_text.specs.Members.{Keeps, KeepsMember, KeepsOne, kept_pairs}
use Rattle.event_formatter_text.specs.declared.error.FormatError.{FormatError}
use Rattle.event_formatter_text.specs.declared.error.FormatError.TheVariants.{Failed, OutOfMemory}
use Rattle.event_formatter_text.specs.declared.members.MembersVisitor.{MembersVisitor}

abbrev pub TakesMember : MembersVisitor → PlainField → PlainValue → Result (Unit {0}) FormatError → MembersVisitor → Type 0
TakesMember before field value answer after = KeepsMember before field (debug_of value) answer after

taken_then : (o : Option (List ℕ)) (f : List ℕ → List Pair) (rest : List Pair → Option (List Pair)) (mid new : List Pair)
    (answer : Result (Unit {0}) FormatError) →
    KeepsOne (option_map f o) (Ok tt) mid → Keeps (rest mid) answer new → Keeps (option_and_then (λ v. rest (f v)) o) answer new
taken_then None f rest mid new answer k later = absurd k
taken_then (Some v) f rest mid new answer k later = subst (λ (m : List Pair). Keeps (rest m) answer new) k later

refused_at : (o : Option (List ℕ)) (f : List ℕ → List Pair) (rest : List Pair → Option (List Pair)) (new : List Pair)
    (error : FormatError) →
    KeepsOne (option_map f o) (Err error) new → Keeps (option_and_then (λ v. rest (f v)) o) (Err error) new
refused_at None f rest new Failed k = tt
refused_at (Some v) f rest new Failed k = absurd k
refused_at None f rest new OutOfMemory k = absurd k
refused_at (Some v) f rest new OutOfMemory k = out (rest (f v)) new
  where
    out : (o : Option (List Pair)) (new : List Pair) → Keeps o (Err OutOfMemory) new
    out None new = tt
    out (Some x) new = tt

module _ {callsite : ℕ} {names : List (List ℕ)} where
  pub kept : {entries : List (ℕ × PlainValue)} {before after : MembersVisitor} {answer : Result (Unit {0}) FormatError} →
      Visits TakesMember callsite names entries before answer after →
      Keeps (put_all names entries (kept_pairs before)) answer (kept_pairs after)
  kept all_taken = refl
  kept {before = before} {after = after} (refused {place = place} {value = value} {entries = es} {error = error} field is t) =
      refused_at (json_value (debug_of value)) (λ v. put (plain_name (slice_index_or names place [])) v (kept_pairs before))
      (put_all names es) (kept_pairs after) error
      (subst (λ (n : List ℕ). KeepsOne (option_map (λ v. put (plain_name n) v (kept_pairs before)) (json_value (debug_of value)))
      (Err error) (kept_pairs after)) is.is_named t)
  kept {before = before} {after = after} {answer = answer} (taken {place = place} {value = value} {entries = es} {next = next} field is t
      more) =
      taken_then (json_value (debug_of value)) (λ v. put (plain_name (slice_index_or names place [])) v (kept_pairs before))
      (put_all names es) (kept_pairs next) (kept_pairs after) answer
      (subst (λ (n : List ℕ). KeepsOne (option_map (λ v. put (plain_name n) v (kept_pairs before)) (json_value (debug_of value))) (Ok tt)
      (kept_pairs next)) is.is_named t) (kept more)
