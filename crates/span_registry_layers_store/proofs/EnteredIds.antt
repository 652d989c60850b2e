-- Which ids are entered on lanes after an entry or an exit.
use Rattle.std.proofs.Common.{◌≡◌, ◌⊎◌, inl, inr, ℕ, zero, suc, ◌-◌, List, [], ◌∷◌, ◌++◌, length, take, drop, set, reverse, Bool, true}
use Rattle.std.proofs.Common.{false, ◌||◌, ◌==◌, not, if◌then◌else◌, Some, refl, sym, ap, ◌∙◌, subst}
use Rattle.std.proofs.lemmas.Bool.{false≢true, or_cases, eqb-true, eq-eqb}
use Rattle.std.proofs.lemmas.List.{take-append-drop}
use Rattle.std.proofs.lemmas.List.Folds.{list_any-append}
use Rattle.std.proofs.lemmas.List.Sorted.{list_any-IsPermutation, IsPermutation-reverse}
use Rattle.std.specs.List.{AllByRecursion, before_last, after_last, suffix_len}
use Rattle.span_registry_layers_store.specs.Spans.{is_member, is_entered, latest, current, without_last}
use Rattle.span_registry_layers_store.specs.Lanes.{lane_at}
use Rattle.span_registry_layers_store.proofs.OpenSpans.{or_left, or_right}

-- a member of two lists is one of the first or of the second
pub member_cases : (xs ys : List ℕ) (id : ℕ) → is_member (xs ++ ys) id ≡ true → (is_member xs id ≡ true) ⊎ (is_member ys id ≡ true)
member_cases xs ys id member = or_cases (is_member xs id) (is_member ys id) (sym (list_any-append (λ (x : ℕ). x == id) xs ys) ∙ member)

-- a member of one of two lists is one of both together
member_whole : (front back : List ℕ) (id : ℕ) → (is_member front id || is_member back id) ≡ true → is_member (front ++ back) id ≡ true
member_whole front back id either = list_any-append (λ (x : ℕ). x == id) front back ∙ either

-- a member of a front is one of the whole
member_take : (n : ℕ) (xs : List ℕ) (id : ℕ) → is_member (take n xs) id ≡ true → is_member xs id ≡ true
member_take n xs id member =
    ap (λ (ys : List ℕ). is_member ys id) (sym (take-append-drop n xs))
    ∙ member_whole (take n xs) (drop n xs) id (or_left (is_member (take n xs) id) (is_member (drop n xs) id) member)

-- a member of a back is one of the whole
member_drop : (n : ℕ) (xs : List ℕ) (id : ℕ) → is_member (drop n xs) id ≡ true → is_member xs id ≡ true
member_drop n xs id member =
    ap (λ (ys : List ℕ). is_member ys id) (sym (take-append-drop n xs))
    ∙ member_whole (take n xs) (drop n xs) id (or_right (is_member (take n xs) id) (is_member (drop n xs) id) member)

-- without the last entry of an id a lane has no new member
pub member_without : (out : ℕ) (lane : List ℕ) (id : ℕ) → is_member (without_last out lane) id ≡ true → is_member lane id ≡ true
unfolding without_last
member_without out lane id member =
    elim (member_cases (before_last (λ (x : ℕ). x == out) lane) (after_last (λ (x : ℕ). x == out) lane) id member) [
      | inl before ↦ member_take (length lane - suffix_len (λ (x : ℕ). not (x == out)) lane - 1) lane id before
      | inr after ↦ member_drop (length lane - suffix_len (λ (x : ℕ). not (x == out)) lane) lane id after
    ]

-- the current span of a lane is a member of it: by the test of the last entry
latest_if : (is_duplicate : Bool) (id : ℕ) (earlier : List ℕ) (p : ℕ) → (latest earlier ≡ Some p → is_member earlier p ≡ true) →
    (if is_duplicate then latest earlier else Some id) ≡ Some p → is_member (id ∷ earlier) p ≡ true
latest_if true id earlier p before found = or_right (id == p) (is_member earlier p) (before found)
latest_if false id earlier p before found = let same : id ≡ p = cc in or_left (id == p) (is_member earlier p) (eq-eqb id p same)

-- the latest entry is a member
latest_member : (ids : List ℕ) (p : ℕ) → latest ids ≡ Some p → is_member ids p ≡ true
latest_member [] p found = cc
latest_member (id ∷ earlier) p found = latest_if (is_member earlier id) id earlier p (latest_member earlier p) found

-- the current span of a lane is a member of it
current_member : (lane : List ℕ) (p : ℕ) → current lane ≡ Some p → is_member lane p ≡ true
unfolding current
current_member lane p found = list_any-IsPermutation (λ (x : ℕ). x == p) lane (reverse lane) (IsPermutation-reverse lane) ∙
    latest_member (reverse lane) p found

-- a member of a lane is entered
pub lane_entered : (lanes : List (List ℕ)) (n id : ℕ) → is_member (lane_at lanes n) id ≡ true → is_entered lanes id ≡ true
lane_entered [] n id member = absurd (false≢true member)
lane_entered (l ∷ ls) zero id member = or_left (is_member l id) (is_entered ls id) member
lane_entered (l ∷ ls) (suc n) id member = or_right (is_member l id) (is_entered ls id) (lane_entered ls n id member)

-- the current span of a lane is entered
pub current_entered : (lanes : List (List ℕ)) (n p : ℕ) → current (lane_at lanes n) ≡ Some p → is_entered lanes p ≡ true
current_entered lanes n p found = lane_entered lanes n p (current_member (lane_at lanes n) p found)

-- where a lane was changed, what is entered was so or is a member of the changed lane
pub changed_entered : (lanes : List (List ℕ)) (n : ℕ) (f : List ℕ → List ℕ) (id : ℕ) →
    is_entered (set lanes n (f (lane_at lanes n))) id ≡ true →
    (is_entered lanes id ≡ true) ⊎ (is_member (f (lane_at lanes n)) id ≡ true)
changed_entered [] n f id entry = absurd (false≢true entry)
changed_entered (l ∷ ls) zero f id entry = elim (or_cases (is_member (f l) id) (is_entered ls id) entry) [
  | inl here ↦ inr here
  | inr later ↦ inl (or_right (is_member l id) (is_entered ls id) later)
]
changed_entered (l ∷ ls) (suc n) f id entry = elim (or_cases (is_member l id) (is_entered (set ls n (f (lane_at ls n))) id) entry) [
  | inl here ↦ inl (or_left (is_member l id) (is_entered ls id) here)
  | inr later ↦ elim (changed_entered ls n f id later) [
    | inl was ↦ inl (or_right (is_member l id) (is_entered ls id) was)
    | inr new ↦ inr new
  ]
]

-- an id of which something holds for each member of a lane
lane_all : (B : ℕ → Bool) (lane : List ℕ) → AllByRecursion (λ id. B id ≡ true) lane → (id : ℕ) → is_member lane id ≡ true → B id ≡ true
lane_all B [] all id member = absurd (false≢true member)
lane_all B (x ∷ xs) all id member = elim (or_cases (x == id) (is_member xs id) member) [
  | inl here ↦ subst (λ (k : ℕ). B k ≡ true) (eqb-true x id here) all.0
  | inr later ↦ lane_all B xs all.1 id later
]

-- and the other way round
lane_from : (B : ℕ → Bool) (lane : List ℕ) → ((id : ℕ) → is_member lane id ≡ true → B id ≡ true) → AllByRecursion (λ id. B id ≡ true) lane
lane_from B [] each = tt
lane_from B (x ∷ xs) each = (
  each x (or_left (x == x) (is_member xs x) (eq-eqb x x refl)),
  lane_from B xs (λ id later. each id (or_right (x == id) (is_member xs id) later)),
)

-- what holds of each entry of lanes holds of each entered id
pub entered_all : (B : ℕ → Bool) (lanes : List (List ℕ)) → AllByRecursion (λ (lane : List ℕ). AllByRecursion (λ id. B id ≡ true) lane)
    lanes →
    (id : ℕ) → is_entered lanes id ≡ true → B id ≡ true
entered_all B [] all id entry = absurd (false≢true entry)
entered_all B (l ∷ ls) all id entry = elim (or_cases (is_member l id) (is_entered ls id) entry) [
  | inl here ↦ lane_all B l all.0 id here
  | inr later ↦ entered_all B ls all.1 id later
]

-- and the other way round
pub entered_from : (B : ℕ → Bool) (lanes : List (List ℕ)) → ((id : ℕ) → is_entered lanes id ≡ true → B id ≡ true) →
    AllByRecursion (λ (lane : List ℕ). AllByRecursion (λ id. B id ≡ true) lane) lanes
entered_from B [] each = tt
entered_from B (l ∷ ls) each = (
  lane_from B l (λ id here. each id (or_left (is_member l id) (is_entered ls id) here)),
  entered_from B ls (λ id later. each id (or_right (is_member l id) (is_entered ls id) later)),
)
