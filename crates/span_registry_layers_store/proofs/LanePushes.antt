-- Which ids are entered on lanes after an entry.
use Rattle.std.proofs.Common.{◌≡◌, ◌⊎◌, inl, inr, ℕ, zero, suc, List, [], ◌∷◌, ◌++◌, true, false, ◌==◌, ◌∙◌}
use Rattle.std.proofs.lemmas.Bool.{false≢true, or_cases, eqb-true}
use Rattle.std.proofs.lemmas.List.Folds.{list_any-append}
use Rattle.span_registry_layers_store.specs.Lanes.{pushed}
use Rattle.span_registry_layers_store.specs.Spans.{is_entered, is_member}
use Rattle.span_registry_layers_store.proofs.EnteredIds.{member_cases}
use Rattle.span_registry_layers_store.proofs.OpenSpans.{or_left, or_map, or_right}

member_more : (ids : List ℕ) (new id : ℕ) → is_member ids id ≡ true → is_member (ids ++ new ∷ []) id ≡ true
member_more ids new id member = list_any-append (λ (x : ℕ). x == id) ids (new ∷ []) ∙ or_left (is_member ids id) (is_member (new ∷ []) id)
    member

-- what is entered stays so with one more entry on a lane
pub pushed_more : (lanes : List (List ℕ)) (lane new id : ℕ) → is_entered lanes id ≡ true → is_entered (pushed lane new lanes) id ≡ true
pushed_more [] lane new id entry = absurd (false≢true entry)
pushed_more (l ∷ ls) zero new id entry =
    or_map (is_member l id) (is_entered ls id) (is_member (l ++ new ∷ []) id) (is_entered ls id) (member_more l new id) (λ later. later)
    entry
pushed_more (l ∷ ls) (suc n) new id entry =
    or_map (is_member l id) (is_entered ls id) (is_member l id) (is_entered (pushed n new ls) id) (λ here. here) (pushed_more ls n new id)
    entry

one_member : (new id : ℕ) → is_member (new ∷ []) id ≡ true → new ≡ id
one_member new id member = elim (or_cases (new == id) false member)
    [ inl here ↦ eqb-true new id here | inr none ↦ absurd (false≢true none) ]

-- and the other way round: it was so, or is the new one
pub pushed_from : (lanes : List (List ℕ)) (n new id : ℕ) → is_entered (pushed n new lanes) id ≡ true → (is_entered lanes id ≡ true) ⊎
    (new ≡ id)
pushed_from [] zero new id entry = elim (or_cases (is_member (new ∷ []) id) false entry)
    [ inl here ↦ inr (one_member new id here) | inr none ↦ absurd (false≢true none) ]
pushed_from [] (suc n) new id entry = pushed_from [] n new id entry
pushed_from (l ∷ ls) zero new id entry = elim (or_cases (is_member (l ++ new ∷ []) id) (is_entered ls id) entry) [
  | inl here ↦ elim (member_cases l (new ∷ []) id here) [
    | inl before ↦ inl (or_left (is_member l id) (is_entered ls id) before)
    | inr last ↦ inr (one_member new id last)
  ]
  | inr later ↦ inl (or_right (is_member l id) (is_entered ls id) later)
]
pushed_from (l ∷ ls) (suc n) new id entry = elim (or_cases (is_member l id) (is_entered (pushed n new ls) id) entry) [
  | inl here ↦ inl (or_left (is_member l id) (is_entered ls id) here)
  | inr later ↦ elim (pushed_from ls n new id later) [
    | inl was ↦ inl (or_right (is_member l id) (is_entered ls id) was)
    | inr same ↦ inr same
  ]
]
