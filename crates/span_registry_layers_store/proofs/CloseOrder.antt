-- Who closes, a child before its parent.
use Rattle.std.proofs.Common.{◌≡◌, inl, inr, ℕ, ◌<◌, ◌≤◌, List, [], ◌∷◌, ◌++◌, Bool, true, false, ◌==◌, Option, Some, None, refl, ◌∙◌}
use Rattle.std.proofs.Common.{arith}
use Rattle.std.proofs.lemmas.Bool.{false≢true, or_cases, eqb-true}
use Rattle.std.proofs.lemmas.List.{append-nil}
use Rattle.std.proofs.lemmas.List.Folds.{list_any-append}
use Rattle.std.specs.List.{AllByRecursion}
use Rattle.span_registry_layers_store.specs.Laws.{ChildFirst, IsOrdered, ParentIn}
use Rattle.span_registry_layers_store.specs.Registries.{PlainSpan, kin_in}
use Rattle.span_registry_layers_store.specs.Spans.{closed_of, has_child, is_member, is_parent, open_of, stays, unless}

abbrev Above : ℕ → List PlainSpan → Type 0
Above n ss = AllByRecursion (λ (s : PlainSpan). n < s.kin.id) ss

abbrev Below : ℕ → List PlainSpan → Type 0
Below n ss = AllByRecursion (λ (s : PlainSpan). s.kin.id < n) ss

above_less : (n m : ℕ) (ss : List PlainSpan) → n < m → Above m ss → Above n ss
above_less n m [] less above = tt
above_less n m (s ∷ ss) less above = (omega (arith, above.0), above_less n m ss less above.1)

above_more : (n : ℕ) (ss : List PlainSpan) (x : PlainSpan) → Above n ss → n < x.kin.id → Above n (ss ++ x ∷ [])
above_more n [] x above here = (here, tt)
above_more n (s ∷ ss) x above here = (above.0, above_more n ss x above.1 here)

below_end : (n : ℕ) (ss : List PlainSpan) (x : PlainSpan) → Below n ss → x.kin.id < n → Below n (ss ++ x ∷ [])
below_end n [] x below here = (here, tt)
below_end n (s ∷ ss) x below here = (below.0, below_end n ss x below.1 here)

-- the parent isn't this id
no_parent : (id : ℕ) (parent : Option ℕ) → ((p : ℕ) → parent ≡ Some p → p < id) → is_parent id parent ≡ false
no_parent id None low = refl
no_parent id (Some p) low = let less : p < id = low p refl in grind (arith)

child_end : (id : ℕ) (ss : List PlainSpan) (x : PlainSpan) → has_child kin_in ss id ≡ false → is_parent id x.kin.parent ≡ false →
    has_child kin_in (ss ++ x ∷ []) id ≡ false
child_end id ss x none other = list_any-append (λ (s : PlainSpan). is_parent id s.kin.parent) ss (x ∷ []) ∙ rw (none, other) refl

-- one more that was made earlier, and whose parent was too
first_more : (ss : List PlainSpan) (x : PlainSpan) → ChildFirst ss → Above x.kin.id ss → ((p : ℕ) → x.kin.parent ≡ Some p → p < x.kin.id) →
    ChildFirst (ss ++ x ∷ [])
first_more [] x first above low = (tt, refl, tt)
first_more (s ∷ ss) x first above low = (
  below_end s.kin.id ss x first.0 above.0,
  child_end s.kin.id ss x first.1 (no_parent s.kin.id x.kin.parent (λ p is. let less : p < x.kin.id = low p is in
      let high : x.kin.id < s.kin.id = above.0 in omega arith)),
  first_more ss x first.2 above.1 low,
)

-- all of these ids are at most the number
AtMost : List ℕ → ℕ → Type 0
AtMost ids n = (p : ℕ) → is_member ids p ≡ true → p ≤ n

at_most_more : (ids : List ℕ) (n id : ℕ) → AtMost ids n → n < id → AtMost (id ∷ ids) id
unfolding AtMost
at_most_more ids n id most less p member = elim (or_cases (id == p) (is_member ids p) member) [
  | inl here ↦ let same : id ≡ p = eqb-true id p here in omega arith
  | inr before ↦ let low : p ≤ n = most p before in omega arith
]

parent_low : (earlier : List ℕ) (n id : ℕ) (parent : Option ℕ) → AtMost earlier n → n < id → ParentIn earlier parent → (p : ℕ) →
    parent ≡ Some p → p < id
unfolding AtMost
parent_low earlier n id None most less among p is = cc
parent_low earlier n id (Some q) most less among p is =
    let low : q ≤ n = most q among in
    let same : q ≡ p = cc in
    omega arith

one_more_if : (is_kept : Bool) (x : PlainSpan) (ss : List PlainSpan) (n : ℕ) → ChildFirst ss → Above x.kin.id ss → n < x.kin.id →
    ((p : ℕ) → x.kin.parent ≡ Some p → p < x.kin.id) →
    ChildFirst (ss ++ unless is_kept x) × Above n (ss ++ unless is_kept x)
one_more_if true x ss n first above less low = rw (append-nil ss) (first, above_less n x.kin.id ss less above)
one_more_if false x ss n first above less low =
    (first_more ss x first above low, above_more n ss x (above_less n x.kin.id ss less above) less)

told : (lanes : List (List ℕ)) (earlier : List ℕ) (n : ℕ) (ss : List PlainSpan) → IsOrdered earlier n ss → AtMost earlier n →
    ChildFirst (closed_of kin_in lanes ss) × Above n (closed_of kin_in lanes ss)
unfolding closed_of
told lanes earlier n [] ordered most = (tt, tt)
told lanes earlier n (s ∷ ss) ordered most =
    let later = told lanes (s.kin.id ∷ earlier) s.kin.id ss ordered.2 (at_most_more earlier n s.kin.id most ordered.0) in
    one_more_if (stays kin_in lanes s (open_of kin_in lanes ss)) s (closed_of kin_in lanes ss) n later.0 later.1 ordered.0
    (parent_low earlier n s.kin.id s.kin.parent most ordered.0 ordered.1)

pub child_first : (lanes : List (List ℕ)) (ss : List PlainSpan) → IsOrdered [] 0 ss → ChildFirst (closed_of kin_in lanes ss)
unfolding AtMost
child_first lanes ss ordered = (told lanes [] 0 ss ordered (λ p none. absurd (false≢true none))).0
