-- Which spans are open, and which stay where spans may be kept or dropped.
use Rattle.std.proofs.Common.{◌≡◌, ◌⊎◌, inl, inr, ℕ, ◌<◌, List, [], ◌∷◌, Bool, true, false, ◌||◌, ◌==◌, nat_lt, Option, Some, None, refl}
use Rattle.std.proofs.Common.{sym, ap, ◌∙◌, arith}
use Rattle.std.proofs.lemmas.Bool.{false≢true, or_cases, eqb-true, eq-eqb}
use Rattle.span_registry_layers_store.specs.Registries.{PlainSpan, kin_in}
use Rattle.span_registry_layers_store.specs.Spans.{is_member, is_open, is_entered, is_parent, has_child, stays, keep_if, open_of}
use Rattle.span_registry_layers_store.specs.Laws.{Among, ParentIn, IsOrdered}

-- a test passes where its first part does
pub or_left : (a b : Bool) → a ≡ true → (a || b) ≡ true
or_left a b is_a = rw is_a refl

-- and where its second part does
pub or_right : (a b : Bool) → b ≡ true → (a || b) ≡ true
or_right true b is_b = refl
or_right false b is_b = is_b

-- a test passes where each part of another one makes its own part pass
pub or_map : (a b c d : Bool) → (a ≡ true → c ≡ true) → (b ≡ true → d ≡ true) → (a || b) ≡ true → (c || d) ≡ true
or_map true b c d first second either = or_left c d (first refl)
or_map false b c d first second either = or_right c d (second either)

-- a listed span is open
pub among_open : (ss : List PlainSpan) (s : PlainSpan) → Among s ss → is_open kin_in ss s.kin.id ≡ true
among_open [] s among = absurd among
among_open (x ∷ xs) s among = elim among [
  | inl same ↦ or_left (x.kin.id == s.kin.id) (is_open kin_in xs s.kin.id)
      (eq-eqb x.kin.id s.kin.id (sym (ap (λ (y : PlainSpan). y.kin.id) same)))
  | inr later ↦ or_right (x.kin.id == s.kin.id) (is_open kin_in xs s.kin.id) (among_open xs s later)
]

-- what is open among the others is open beside a span that may be kept
pub beside_kept : (is_kept : Bool) (s : PlainSpan) (others : List PlainSpan) (id : ℕ) → is_open kin_in others id ≡ true →
    is_open kin_in (keep_if is_kept s others) id ≡ true
beside_kept true s others id listed = or_right (s.kin.id == id) (is_open kin_in others id) listed
beside_kept false s others id listed = listed

-- a kept span is open
pub kept_open : (is_kept : Bool) (s : PlainSpan) (others : List PlainSpan) (id : ℕ) → is_kept ≡ true → s.kin.id ≡ id →
    is_open kin_in (keep_if is_kept s others) id ≡ true
kept_open true s others id kept same = or_left (s.kin.id == id) (is_open kin_in others id) (eq-eqb s.kin.id id same)
kept_open false s others id kept same = absurd (false≢true kept)

-- what is open is the kept span or one of the others
pub open_cases : (is_kept : Bool) (s : PlainSpan) (others : List PlainSpan) (id : ℕ) → is_open kin_in (keep_if is_kept s others) id ≡ true →
    ((is_kept ≡ true) × (s.kin.id ≡ id)) ⊎ (is_open kin_in others id ≡ true)
open_cases true s others id listed = elim (or_cases (s.kin.id == id) (is_open kin_in others id) listed)
    [ inl same ↦ inl (refl, eqb-true s.kin.id id same) | inr later ↦ inr later ]
open_cases false s others id listed = inr listed

-- a child among the others is one beside a span that may be kept
pub child_beside : (is_kept : Bool) (s : PlainSpan) (others : List PlainSpan) (id : ℕ) → has_child kin_in others id ≡ true →
    has_child kin_in (keep_if is_kept s others) id ≡ true
child_beside true s others id child = or_right (is_parent id s.kin.parent) (has_child kin_in others id) child
child_beside false s others id child = child

-- a span with this parent is its child
is_parent_of : (id : ℕ) (parent : Option ℕ) → parent ≡ Some id → is_parent id parent ≡ true
is_parent_of id None is = cc
is_parent_of id (Some p) is = let same : p ≡ id = cc in eq-eqb p id same

-- a kept span is its parent's child
pub kept_child : (is_kept : Bool) (s : PlainSpan) (others : List PlainSpan) (id : ℕ) → is_kept ≡ true → s.kin.parent ≡ Some id →
    has_child kin_in (keep_if is_kept s others) id ≡ true
kept_child true s others id kept parent = or_left (is_parent id s.kin.parent) (has_child kin_in others id)
    (is_parent_of id s.kin.parent parent)
kept_child false s others id kept parent = absurd (false≢true kept)

-- a span with a handle or an entry stays
pub held_stays : (lanes : List (List ℕ)) (s : PlainSpan) (later : List PlainSpan) →
    (nat_lt 0 s.kin.handles || is_entered lanes s.kin.id) ≡ true → stays kin_in lanes s later ≡ true
held_stays lanes s later held = elim (or_cases (nat_lt 0 s.kin.handles) (is_entered lanes s.kin.id) held) [
  | inl handle ↦ or_left (nat_lt 0 s.kin.handles) (is_entered lanes s.kin.id || has_child kin_in later s.kin.id) handle
  | inr entry ↦ or_right (nat_lt 0 s.kin.handles) (is_entered lanes s.kin.id || has_child kin_in later s.kin.id)
      (or_left (is_entered lanes s.kin.id) (has_child kin_in later s.kin.id) entry)
]

-- and so does one with a child
pub parent_stays : (lanes : List (List ℕ)) (s : PlainSpan) (later : List PlainSpan) → has_child kin_in later s.kin.id ≡ true →
    stays kin_in lanes s later ≡ true
parent_stays lanes s later child =
    or_right (nat_lt 0 s.kin.handles) (is_entered lanes s.kin.id || has_child kin_in later s.kin.id)
    (or_right (is_entered lanes s.kin.id) (has_child kin_in later s.kin.id) child)

-- a span that stays was open
pub was_open : (lanes : List (List ℕ)) (ss : List PlainSpan) (id : ℕ) → is_open kin_in (open_of kin_in lanes ss) id ≡ true →
    is_open kin_in ss id ≡ true
unfolding open_of
was_open lanes [] id listed = listed
was_open lanes (s ∷ ss) id listed = elim (open_cases (stays kin_in lanes s (open_of kin_in lanes ss)) s (open_of kin_in lanes ss) id listed) [
  | inl here ↦ or_left (s.kin.id == id) (is_open kin_in ss id) (eq-eqb s.kin.id id here.1)
  | inr later ↦ or_right (s.kin.id == id) (is_open kin_in ss id) (was_open lanes ss id later)
]

-- an open span that is entered stays
pub entered_stays : (lanes : List (List ℕ)) (ss : List PlainSpan) (id : ℕ) → is_open kin_in ss id ≡ true → is_entered lanes id ≡ true →
    is_open kin_in (open_of kin_in lanes ss) id ≡ true
unfolding open_of
entered_stays lanes [] id listed entry = listed
entered_stays lanes (s ∷ ss) id listed entry = elim (or_cases (s.kin.id == id) (is_open kin_in ss id) listed) [
  | inl here ↦
      let same : s.kin.id ≡ id = eqb-true s.kin.id id here in
      let entry_here : is_entered lanes s.kin.id ≡ true = ap (is_entered lanes) same ∙ entry in
      kept_open (stays kin_in lanes s (open_of kin_in lanes ss)) s (open_of kin_in lanes ss) id
      (held_stays lanes s (open_of kin_in lanes ss) (or_right (nat_lt 0 s.kin.handles) (is_entered lanes s.kin.id) entry_here)) same
  | inr later ↦ beside_kept (stays kin_in lanes s (open_of kin_in lanes ss)) s (open_of kin_in lanes ss) id
      (entered_stays lanes ss id later entry)
]

-- a parent that is among some ids is one of them
pub parent_in : (ids : List ℕ) (parent : Option ℕ) (p : ℕ) → ParentIn ids parent → parent ≡ Some p → is_member ids p ≡ true
parent_in ids None p among is = cc
parent_in ids (Some q) p among is = let same : p ≡ q = cc in rw same among

-- and the other way round
pub parent_from : (ids : List ℕ) (parent : Option ℕ) → ((p : ℕ) → parent ≡ Some p → is_member ids p ≡ true) → ParentIn ids parent
parent_from ids None member = tt
parent_from ids (Some p) member = member p refl

-- ordered spans have ids above the least number
pub open_above : (earlier : List ℕ) (least : ℕ) (ss : List PlainSpan) (id : ℕ) → IsOrdered earlier least ss → is_open kin_in ss id ≡ true →
    least < id
open_above earlier least [] id ordered listed = absurd (false≢true listed)
open_above earlier least (s ∷ ss) id ordered listed = elim (or_cases (s.kin.id == id) (is_open kin_in ss id) listed) [
  | inl here ↦
      let same : s.kin.id ≡ id = eqb-true s.kin.id id here in
      let low : least < s.kin.id = ordered.0 in
      omega arith
  | inr later ↦
      let low : least < s.kin.id = ordered.0 in
      let high : s.kin.id < id = open_above (s.kin.id ∷ earlier) s.kin.id ss id ordered.2 later in
      omega arith
]
