-- What a sweep and a step leave of the spans.
use Rattle.std.proofs.Common.{◌≡◌, ◌⊎◌, inl, inr, ℕ, zero, suc, ◌+◌, ◌<◌, ◌≤◌, List, [], ◌∷◌, ◌++◌, length, set, Bool, true, false, ◌||◌}
use Rattle.std.proofs.Common.{◌==◌, nat_lt, Some, refl, sym, ap, ◌∙◌, arith}
use Rattle.std.proofs.lemmas.Bool.{false≢true, both_ways, or_cases, eqb-true}
use Rattle.std.proofs.lemmas.List.Folds.{list_any-append}
use Rattle.std.specs.List.{AllByRecursion}
use Rattle.span_registry_layers_store.specs.Registries.{PlainSpan, kin_in}
use Rattle.span_registry_layers_store.specs.Spans.{is_member, is_open, is_entered, is_parent, has_child, stays, keep_if, open_of}
use Rattle.span_registry_layers_store.specs.Lanes.{lane_at}
use Rattle.span_registry_layers_store.specs.Laws.{ParentIn, IsOrdered}
use Rattle.span_registry_layers_store.proofs.OpenSpans.{or_left, or_right, or_map, child_beside, kept_child, parent_stays, parent_in}
use Rattle.span_registry_layers_store.proofs.OpenSpans.{parent_from}

-- what stays, stays: by whether the first span is kept
again_if : (is_kept : Bool) (lanes : List (List ℕ)) (s : PlainSpan) (others : List PlainSpan) → stays kin_in lanes s others ≡ is_kept →
    open_of kin_in lanes others ≡ others →
    open_of kin_in lanes (keep_if is_kept s others) ≡ keep_if is_kept s others
unfolding open_of
again_if true lanes s others is again = rw (again, is) refl
again_if false lanes s others is again = again

-- what stays, stays
pub open_again : (lanes : List (List ℕ)) (ss : List PlainSpan) → open_of kin_in lanes (open_of kin_in lanes ss) ≡ open_of kin_in lanes ss
unfolding open_of
open_again lanes [] = refl
open_again lanes (s ∷ ss) = again_if (stays kin_in lanes s (open_of kin_in lanes ss)) lanes s (open_of kin_in lanes ss) refl
    (open_again lanes ss)

-- no more stay than there were: by whether the first span is kept
shorter_if : (is_kept : Bool) (s : PlainSpan) (others : List PlainSpan) (n : ℕ) → length others ≤ n →
    length (keep_if is_kept s others) ≤ suc n
shorter_if true s others n most = omega (arith, most)
shorter_if false s others n most = omega (arith, most)

-- no more spans stay than there were
open_shorter : (lanes : List (List ℕ)) (ss : List PlainSpan) → length (open_of kin_in lanes ss) ≤ length ss
unfolding open_of
open_shorter lanes [] = omega arith
open_shorter lanes (s ∷ ss) = shorter_if (stays kin_in lanes s (open_of kin_in lanes ss)) s (open_of kin_in lanes ss) (length ss)
    (open_shorter lanes ss)

-- a list without its first span
abbrev tail_of : List PlainSpan → List PlainSpan
tail_of [] = []
tail_of (s ∷ ss) = ss

-- where all stay, the first does, and so do all others: by whether the first is kept
all_stay_if : (is_kept : Bool) (s : PlainSpan) (others ss : List PlainSpan) → length others ≤ length ss →
    keep_if is_kept s others ≡ s ∷ ss → (is_kept ≡ true) × (others ≡ ss)
all_stay_if true s others ss most all = (refl, ap tail_of all)
all_stay_if false s others ss most all = let longer : length others ≡ suc (length ss) = ap length all in
    absurd (omega (arith, longer, most))

-- where all stay, the first does, and so do all others
pub all_stay_split : (lanes : List (List ℕ)) (s : PlainSpan) (ss : List PlainSpan) → open_of kin_in lanes (s ∷ ss) ≡ s ∷ ss →
    (stays kin_in lanes s ss ≡ true) × (open_of kin_in lanes ss ≡ ss)
unfolding open_of
all_stay_split lanes s ss all =
    let parts = all_stay_if (stays kin_in lanes s (open_of kin_in lanes ss)) s (open_of kin_in lanes ss) ss (open_shorter lanes ss) all in
    (ap (stays kin_in lanes s) (sym parts.1) ∙ parts.0, parts.1)

-- and the other way round
pub all_stay_join : (lanes : List (List ℕ)) (s : PlainSpan) (ss : List PlainSpan) → stays kin_in lanes s ss ≡ true →
    open_of kin_in lanes ss ≡ ss → open_of kin_in lanes (s ∷ ss) ≡ s ∷ ss
unfolding open_of
all_stay_join lanes s ss first others = rw (others, first) refl

-- a child is one beside a further span
child_more : (ss : List PlainSpan) (x : PlainSpan) (id : ℕ) → has_child kin_in ss id ≡ true → has_child kin_in (ss ++ x ∷ []) id ≡ true
child_more ss x id child =
    list_any-append (λ (s : PlainSpan). is_parent id s.kin.parent) ss (x ∷ [])
    ∙ or_left (has_child kin_in ss id) (has_child kin_in (x ∷ []) id) child

-- a span stays beside a further one
pub stays_more : (lanes : List (List ℕ)) (s x : PlainSpan) (ss : List PlainSpan) → stays kin_in lanes s ss ≡ true →
    stays kin_in lanes s (ss ++ x ∷ []) ≡ true
stays_more lanes s x ss =
    or_map (nat_lt 0 s.kin.handles) (is_entered lanes s.kin.id || has_child kin_in ss s.kin.id) (nat_lt 0 s.kin.handles)
    (is_entered lanes s.kin.id || has_child kin_in (ss ++ x ∷ []) s.kin.id) (λ handle. handle)
    (or_map (is_entered lanes s.kin.id) (has_child kin_in ss s.kin.id) (is_entered lanes s.kin.id)
    (has_child kin_in (ss ++ x ∷ []) s.kin.id) (λ entry. entry) (child_more ss x s.kin.id))

-- where all stay, they do with one more that has a handle
pub all_stay_more : (lanes : List (List ℕ)) (ss : List PlainSpan) (x : PlainSpan) → nat_lt 0 x.kin.handles ≡ true →
    open_of kin_in lanes ss ≡ ss → open_of kin_in lanes (ss ++ x ∷ []) ≡ ss ++ x ∷ []
unfolding open_of
all_stay_more lanes [] x handle all = rw handle refl
all_stay_more lanes (s ∷ ss) x handle all =
    let parts = all_stay_split lanes s ss all in
    all_stay_join lanes s (ss ++ x ∷ []) (stays_more lanes s x ss parts.0) (all_stay_more lanes ss x handle parts.1)

-- where all stay, they do with more entries
pub all_stay_entered : (lanes more : List (List ℕ)) → ((id : ℕ) → is_entered lanes id ≡ true → is_entered more id ≡ true) →
    (ss : List PlainSpan) → open_of kin_in lanes ss ≡ ss → open_of kin_in more ss ≡ ss
unfolding open_of
all_stay_entered lanes more entries [] all = refl
all_stay_entered lanes more entries (s ∷ ss) all =
    let parts = all_stay_split lanes s ss all in
    all_stay_join more s ss
    (or_map (nat_lt 0 s.kin.handles) (is_entered lanes s.kin.id || has_child kin_in ss s.kin.id) (nat_lt 0 s.kin.handles)
    (is_entered more s.kin.id || has_child kin_in ss s.kin.id) (λ handle. handle)
    (or_map (is_entered lanes s.kin.id) (has_child kin_in ss s.kin.id) (is_entered more s.kin.id) (has_child kin_in ss s.kin.id)
    (entries s.kin.id) (λ child. child)) parts.0)
    (all_stay_entered lanes more entries ss parts.1)

-- a member stays one with one more entry
member_more : (ids : List ℕ) (new id : ℕ) → is_member ids id ≡ true → is_member (ids ++ new ∷ []) id ≡ true
member_more ids new id member = list_any-append (λ (x : ℕ). x == id) ids (new ∷ []) ∙ or_left (is_member ids id) (is_member (new ∷ []) id)
    member

-- what is entered stays so with one more entry on a lane
pub entered_more : (lanes : List (List ℕ)) (lane new id : ℕ) → is_entered lanes id ≡ true →
    is_entered (set lanes lane (lane_at lanes lane ++ new ∷ [])) id ≡ true
entered_more [] lane new id entry = absurd (false≢true entry)
entered_more (l ∷ ls) zero new id entry =
    or_map (is_member l id) (is_entered ls id) (is_member (l ++ new ∷ []) id) (is_entered ls id) (member_more l new id) (λ later. later)
    entry
entered_more (l ∷ ls) (suc n) new id entry =
    or_map (is_member l id) (is_entered ls id) (is_member l id) (is_entered (set ls n (lane_at ls n ++ new ∷ [])) id) (λ here. here)
    (entered_more ls n new id) entry

-- a sweep keeps the order, among the kept ones of the earlier ids: by whether the first span is kept
ordered_if : (is_kept : Bool) (lanes : List (List ℕ)) (s : PlainSpan) (others : List PlainSpan) (earlier kept : List ℕ) (least low : ℕ) →
    stays kin_in lanes s others ≡ is_kept →
    low ≤ least → least < s.kin.id → ParentIn earlier s.kin.parent →
    ((p : ℕ) → has_child kin_in (keep_if is_kept s others) p ≡ true → is_member earlier p ≡ true → is_member kept p ≡ true) →
    ((ids : List ℕ) (from : ℕ) → from ≤ s.kin.id → ((p : ℕ) → has_child kin_in others p ≡ true → is_member (s.kin.id ∷ earlier) p ≡ true →
    is_member ids p ≡ true) → IsOrdered ids from others) →
    IsOrdered kept low (keep_if is_kept s others)
ordered_if true lanes s others earlier kept least low is low_least least_id parent still rest = (
  omega (arith, low_least, least_id),
  parent_from kept s.kin.parent (λ p is_p. still p (kept_child true s others p refl is_p) (parent_in earlier s.kin.parent p parent is_p)),
  rest (s.kin.id ∷ kept) s.kin.id (let all : s.kin.id ≤ s.kin.id = omega arith in all)
      (λ p child member. or_map (s.kin.id == p) (is_member earlier p) (s.kin.id == p) (is_member kept p) (λ here. here)
      (still p (child_beside true s others p child)) member),
)
ordered_if false lanes s others earlier kept least low is low_least least_id parent still rest =
    rest kept low (omega (arith, low_least, least_id))
    (λ p child member. elim (or_cases (s.kin.id == p) (is_member earlier p) member) [
      | inl here ↦
          let same : s.kin.id ≡ p = eqb-true s.kin.id p here in
          absurd (both_ways (stays kin_in lanes s others) is (parent_stays lanes s others (ap (has_child kin_in others) same ∙ child)))
      | inr before ↦ still p child before
    ])

-- a sweep keeps the order, where the parents of those that stay are among the kept ids
ordered_open : (lanes : List (List ℕ)) (earlier kept : List ℕ) (least low : ℕ) (ss : List PlainSpan) → IsOrdered earlier least ss →
    low ≤ least →
    ((p : ℕ) → has_child kin_in (open_of kin_in lanes ss) p ≡ true → is_member earlier p ≡ true → is_member kept p ≡ true) →
    IsOrdered kept low (open_of kin_in lanes ss)
unfolding open_of
ordered_open lanes earlier kept least low [] ordered low_least still = tt
ordered_open lanes earlier kept least low (s ∷ ss) ordered low_least still =
    ordered_if (stays kin_in lanes s (open_of kin_in lanes ss)) lanes s (open_of kin_in lanes ss) earlier kept least low refl low_least
    ordered.0 ordered.1 still
    (λ ids from small. ordered_open lanes (s.kin.id ∷ earlier) ids s.kin.id from ss ordered.2 small)

-- a sweep keeps the order
pub swept_ordered : (lanes : List (List ℕ)) (ss : List PlainSpan) → IsOrdered [] 0 ss → IsOrdered [] 0 (open_of kin_in lanes ss)
swept_ordered lanes ss ordered = ordered_open lanes [] [] 0 0 ss ordered (let all : 0 ≤ 0 = omega arith in all) (λ p child member. member)

-- what holds of each span holds of each that stays: by whether the first is kept
all_if : (P : PlainSpan → Type 0) (is_kept : Bool) (s : PlainSpan) (others : List PlainSpan) → P s → AllByRecursion P others →
    AllByRecursion P (keep_if is_kept s others)
all_if P true s others first all = (first, all)
all_if P false s others first all = all

-- what holds of each span holds of each that stays
pub swept_all : (P : PlainSpan → Type 0) (lanes : List (List ℕ)) (ss : List PlainSpan) → AllByRecursion P ss →
    AllByRecursion P (open_of kin_in lanes ss)
unfolding open_of
swept_all P lanes [] all = tt
swept_all P lanes (s ∷ ss) all = all_if P (stays kin_in lanes s (open_of kin_in lanes ss)) s (open_of kin_in lanes ss) all.0
    (swept_all P lanes ss all.1)

-- a further span with a greater id, whose parent is an earlier one or open, keeps the order
pub ordered_more : (earlier : List ℕ) (least next : ℕ) (ss : List PlainSpan) (x : PlainSpan) → IsOrdered earlier least ss →
    AllByRecursion (λ (s : PlainSpan). s.kin.id < next) ss →
    least < next → x.kin.id ≡ next → ((p : ℕ) → x.kin.parent ≡ Some p → (is_member earlier p ≡ true) ⊎ (is_open kin_in ss p ≡ true)) →
    IsOrdered earlier least (ss ++ x ∷ [])
ordered_more earlier least next [] x ordered below high is parent = (
  omega (arith, high, is),
  parent_from earlier x.kin.parent (λ p is_p. elim (parent p is_p) [ inl before ↦ before | inr none ↦ absurd (false≢true none) ]),
  tt,
)
ordered_more earlier least next (s ∷ ss) x ordered below high is parent = (
  ordered.0,
  ordered.1,
  ordered_more (s.kin.id ∷ earlier) s.kin.id next ss x ordered.2 below.1 below.0 is
      (λ p is_p. elim (parent p is_p) [
        | inl before ↦ inl (or_right (s.kin.id == p) (is_member earlier p) before)
        | inr listed ↦ elim (or_cases (s.kin.id == p) (is_open kin_in ss p) listed) [
          | inl here ↦ inl (or_left (s.kin.id == p) (is_member earlier p) here)
          | inr later ↦ inr later
        ]
      ]),
)

-- with it ids are below the number after
pub below_more : (next : ℕ) (ss : List PlainSpan) (x : PlainSpan) → AllByRecursion (λ (s : PlainSpan). s.kin.id < next) ss →
    x.kin.id ≡ next → AllByRecursion (λ (s : PlainSpan). s.kin.id < next + 1) (ss ++ x ∷ [])
below_more next [] x below is = (omega (arith, is), tt)
below_more next (s ∷ ss) x below is = (let low : s.kin.id < next = below.0 in omega arith, below_more next ss x below.1 is)

-- and what was open is open
pub open_more : (ss : List PlainSpan) (x : PlainSpan) (id : ℕ) → is_open kin_in ss id ≡ true → is_open kin_in (ss ++ x ∷ []) id ≡ true
open_more ss x id listed =
    list_any-append (λ (s : PlainSpan). s.kin.id == id) ss (x ∷ [])
    ∙ or_left (is_open kin_in ss id) (is_open kin_in (x ∷ []) id) listed
