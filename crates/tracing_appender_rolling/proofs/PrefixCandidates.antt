-- What a listing by the prefix leaves out is no candidate.
use Rattle.std.proofs.Common.{◌≡◌, ℕ, Bool, true, false, ◌&&◌, cond, List, [], ◌∷◌, refl, ap, sym, ◌∙◌, Option, Some, None}
use Rattle.std.specs.List.{filter}
use Rattle.tracing_core_moments.specs.declared.moment.Moment.{Moment}
use Rattle.tracing_appender_rolling.specs.folders.Contents.{Listed, begins_with}
use Rattle.tracing_appender_rolling.specs.Names.{FileNames}
use Rattle.tracing_appender_rolling.specs.Retention.{text_or_empty, asked_prefix, begins, ends, counted_from, date_in, with_candidate}
use Rattle.tracing_appender_rolling.specs.Retention.{candidate_first, candidates_in}

asked_begins : (prefix : Option (List ℕ)) (l : Listed) → begins_with (text_or_empty prefix) l ≡ begins prefix l.name
asked_begins None l = refl
asked_begins (Some prefix) l = refl

unmade : (plain begun ended some : Bool) (made : Option Moment) → begun ≡ false → cond (plain && begun && ended && some) made None ≡ None
unmade true begun ended some made other = ap (λ b. cond (true && b && ended && some) made None) other
unmade false begun ended some made other = refl

asked_first : (names : FileNames) (l : Listed) (asked ls : List Listed) → candidates_in names asked ≡ candidates_in names ls → (b : Bool) →
    begins_with (asked_prefix names) l ≡ b → candidates_in names (cond b (l ∷ asked) asked) ≡ candidates_in names (l ∷ ls)
asked_first names l asked ls same true begun = ap (candidate_first names l) same
asked_first names l asked ls same false begun =
    let other = sym (asked_begins names.prefix l) ∙ begun in
    same
    ∙ sym (ap (λ (made : Option Moment). with_candidate l.name made (candidates_in names ls))
    (unmade l.plain (begins names.prefix l.name) (ends names.suffix l.name) _ (counted_from l.created (date_in names l.name)) other))

pub asked_candidates : (names : FileNames) (ls : List Listed) →
    candidates_in names (filter (begins_with (asked_prefix names)) ls) ≡ candidates_in names ls
asked_candidates names [] = refl
asked_candidates names (l ∷ ls) =
    asked_first names l (filter (begins_with (asked_prefix names)) ls) ls (asked_candidates names ls) (begins_with (asked_prefix names) l)
    refl
