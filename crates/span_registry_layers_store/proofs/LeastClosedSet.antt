-- The spans that stay are the least set that is closed up.
use Rattle.std.proofs.Common.{◌≡◌, ◌⊎◌, inl, inr, ℕ, ◌<◌, List, [], ◌∷◌, Bool, true, false, ◌||◌, ◌==◌, nat_lt, Option, Some, None, refl}
use Rattle.std.proofs.Common.{sym, ap, ◌∙◌, subst, arith}
use Rattle.std.proofs.lemmas.Bool.{false≢true, or_cases, eqb-true}
use Rattle.span_registry_layers_store.specs.Registries.{PlainSpan, kin_in}
use Rattle.span_registry_layers_store.specs.Spans.{is_member, is_open, is_entered, is_parent, has_child, stays, keep_if, open_of}
use Rattle.span_registry_layers_store.specs.Laws.{Among, IsClosedUp, IsOrdered}
use Rattle.span_registry_layers_store.proofs.OpenSpans.{or_left, or_right, among_open, beside_kept, kept_open, open_cases, child_beside}
use Rattle.span_registry_layers_store.proofs.OpenSpans.{kept_child, held_stays, parent_stays, was_open, parent_in, open_above}

-- a set that is closed up for some spans is so for the later ones
fewer : (lanes : List (List ℕ)) (s : PlainSpan) (ss : List PlainSpan) (S : ℕ → Bool) → IsClosedUp lanes (s ∷ ss) S → IsClosedUp lanes ss S
fewer lanes s ss S closed = record { held = λ x among. closed.held x (inr among); parents = λ x p among. closed.parents x p (inr among) }

-- a parent that is this one
parent_is : (id : ℕ) (parent : Option ℕ) → is_parent id parent ≡ true → parent ≡ Some id
parent_is id None is = absurd (false≢true is)
parent_is id (Some p) is = ap (λ k. Some k) (eqb-true p id is)

-- where there is a child, it is a listed span
child_among : (ss : List PlainSpan) (id : ℕ) → has_child kin_in ss id ≡ true → (c : PlainSpan) × Among c ss × (c.kin.parent ≡ Some id)
child_among [] id child = absurd (false≢true child)
child_among (s ∷ ss) id child = elim (or_cases (is_parent id s.kin.parent) (has_child kin_in ss id) child) [
  | inl here ↦ (s, inl refl, parent_is id s.kin.parent here)
  | inr later ↦ let found = child_among ss id later in (found.0, inr found.1, found.2)
]

-- a listed span is the one that may be kept, which is kept, or one of the others
among_cases : (is_kept : Bool) (s x : PlainSpan) (others : List PlainSpan) → Among x (keep_if is_kept s others) →
    ((is_kept ≡ true) × (x ≡ s)) ⊎ Among x others
among_cases true s x others among = elim among [ inl same ↦ inl (refl, same) | inr later ↦ inr later ]
among_cases false s x others among = inr among

-- a span that stays was listed
was_among : (lanes : List (List ℕ)) (ss : List PlainSpan) (x : PlainSpan) → Among x (open_of kin_in lanes ss) → Among x ss
unfolding open_of
was_among lanes [] x among = among
was_among lanes (s ∷ ss) x among = elim (among_cases (stays kin_in lanes s (open_of kin_in lanes ss)) s x (open_of kin_in lanes ss) among) [
  | inl here ↦ inl here.1
  | inr later ↦ inr (was_among lanes ss x later)
]

-- a span that stays lies in each set that is closed up
pub least : (lanes : List (List ℕ)) (ss : List PlainSpan) (S : ℕ → Bool) → IsClosedUp lanes ss S → (x : PlainSpan) →
    Among x (open_of kin_in lanes ss) → S x.kin.id ≡ true
unfolding open_of
least lanes [] S closed x among = absurd among
least lanes (s ∷ ss) S closed x among =
    let later = least lanes ss S (fewer lanes s ss S closed) in
    elim (among_cases (stays kin_in lanes s (open_of kin_in lanes ss)) s x (open_of kin_in lanes ss) among) [
      | inl here ↦
          ap (λ (y : PlainSpan). S y.kin.id) here.1
          ∙ elim (or_cases (nat_lt 0 s.kin.handles) (is_entered lanes s.kin.id || has_child kin_in (open_of kin_in lanes ss) s.kin.id)
          here.0) [
            | inl handle ↦ closed.held s (inl refl) (or_left (nat_lt 0 s.kin.handles) (is_entered lanes s.kin.id) handle)
            | inr rest ↦ elim (or_cases (is_entered lanes s.kin.id) (has_child kin_in (open_of kin_in lanes ss) s.kin.id) rest) [
              | inl entry ↦ closed.held s (inl refl) (or_right (nat_lt 0 s.kin.handles) (is_entered lanes s.kin.id) entry)
              | inr child ↦
                  let found = child_among (open_of kin_in lanes ss) s.kin.id child in
                  closed.parents found.0 s.kin.id (inr (was_among lanes ss found.0 found.1)) (later found.0 found.1) found.2
            ]
          ]
      | inr behind ↦ later x behind
    ]

-- a span with a handle or an entry stays
held_open : (lanes : List (List ℕ)) (ss : List PlainSpan) (s : PlainSpan) → Among s ss →
    (nat_lt 0 s.kin.handles || is_entered lanes s.kin.id) ≡ true → is_open kin_in (open_of kin_in lanes ss) s.kin.id ≡ true
unfolding open_of
held_open lanes [] s among held = absurd among
held_open lanes (x ∷ xs) s among held = elim among [
  | inl same ↦
      let held_here : (nat_lt 0 x.kin.handles || is_entered lanes x.kin.id) ≡ true =
      subst (λ (y : PlainSpan). (nat_lt 0 y.kin.handles || is_entered lanes y.kin.id) ≡ true) same held in
      kept_open (stays kin_in lanes x (open_of kin_in lanes xs)) x (open_of kin_in lanes xs) s.kin.id
      (held_stays lanes x (open_of kin_in lanes xs) held_here) (sym (ap (λ (y : PlainSpan). y.kin.id) same))
  | inr later ↦ beside_kept (stays kin_in lanes x (open_of kin_in lanes xs)) x (open_of kin_in lanes xs) s.kin.id
      (held_open lanes xs s later held)
]

-- a later span that stays does so among the later ones: its id is not that of the first
later_open : (lanes : List (List ℕ)) (earlier : List ℕ) (x : PlainSpan) (xs : List PlainSpan) (s : PlainSpan) →
    IsOrdered earlier x.kin.id xs → Among s xs →
    is_open kin_in (open_of kin_in lanes (x ∷ xs)) s.kin.id ≡ true → is_open kin_in (open_of kin_in lanes xs) s.kin.id ≡ true
unfolding open_of
later_open lanes earlier x xs s ordered among listed =
    elim (open_cases (stays kin_in lanes x (open_of kin_in lanes xs)) x (open_of kin_in lanes xs) s.kin.id listed) [
      | inl here ↦
          let same : x.kin.id ≡ s.kin.id = here.1 in
          let high : x.kin.id < s.kin.id = open_above earlier x.kin.id xs s.kin.id ordered (among_open xs s among) in
          absurd (omega arith)
      | inr later ↦ later
    ]

-- a span that stays is a child of its parent among those that stay
child_stays : (lanes : List (List ℕ)) (earlier : List ℕ) (low : ℕ) (ss : List PlainSpan) (s : PlainSpan) (p : ℕ) →
    IsOrdered earlier low ss → Among s ss →
    is_open kin_in (open_of kin_in lanes ss) s.kin.id ≡ true → s.kin.parent ≡ Some p → has_child kin_in (open_of kin_in lanes ss) p ≡ true
unfolding open_of
child_stays lanes earlier low [] s p ordered among listed parent = absurd among
child_stays lanes earlier low (x ∷ xs) s p ordered among listed parent = elim among [
  | inl same ↦ elim (open_cases (stays kin_in lanes x (open_of kin_in lanes xs)) x (open_of kin_in lanes xs) s.kin.id listed) [
    | inl here ↦ kept_child (stays kin_in lanes x (open_of kin_in lanes xs)) x (open_of kin_in lanes xs) p here.0
        (sym (ap (λ (y : PlainSpan). y.kin.parent) same) ∙ parent)
    | inr later ↦
        let same_id : s.kin.id ≡ x.kin.id = ap (λ (y : PlainSpan). y.kin.id) same in
        let high : x.kin.id < s.kin.id = open_above (x.kin.id ∷ earlier) x.kin.id xs s.kin.id ordered.2
        (was_open lanes xs s.kin.id later) in
        absurd (omega arith)
  ]
  | inr later ↦
      child_beside (stays kin_in lanes x (open_of kin_in lanes xs)) x (open_of kin_in lanes xs) p
      (child_stays lanes (x.kin.id ∷ earlier) x.kin.id xs s p ordered.2 later
      (later_open lanes (x.kin.id ∷ earlier) x xs s ordered.2 later listed) parent)
]

-- the parent of a span that stays is an earlier one, or stays too
parent_open : (lanes : List (List ℕ)) (earlier : List ℕ) (low : ℕ) (ss : List PlainSpan) (s : PlainSpan) (p : ℕ) →
    IsOrdered earlier low ss → Among s ss →
    is_open kin_in (open_of kin_in lanes ss) s.kin.id ≡ true → s.kin.parent ≡ Some p → (is_member earlier p ≡ true) ⊎
    (is_open kin_in (open_of kin_in lanes ss) p ≡ true)
unfolding open_of
parent_open lanes earlier low [] s p ordered among listed parent = absurd among
parent_open lanes earlier low (x ∷ xs) s p ordered among listed parent = elim among [
  | inl same ↦ inl (parent_in earlier x.kin.parent p ordered.1 (sym (ap (λ (y : PlainSpan). y.kin.parent) same) ∙ parent))
  | inr later ↦
      let still = later_open lanes (x.kin.id ∷ earlier) x xs s ordered.2 later listed in
      elim (parent_open lanes (x.kin.id ∷ earlier) x.kin.id xs s p ordered.2 later still parent) [
        | inl before ↦ elim (or_cases (x.kin.id == p) (is_member earlier p) before) [
          | inl here ↦
              let same : x.kin.id ≡ p = eqb-true x.kin.id p here in
              let child : has_child kin_in (open_of kin_in lanes xs) x.kin.id ≡ true = ap (has_child kin_in (open_of kin_in lanes xs))
              same ∙ child_stays lanes (x.kin.id ∷ earlier) x.kin.id xs s p ordered.2 later still parent in
              inr (kept_open (stays kin_in lanes x (open_of kin_in lanes xs)) x (open_of kin_in lanes xs) p
              (parent_stays lanes x (open_of kin_in lanes xs) child) same)
          | inr earlier_still ↦ inl earlier_still
        ]
        | inr behind ↦ inr (beside_kept (stays kin_in lanes x (open_of kin_in lanes xs)) x (open_of kin_in lanes xs) p behind)
      ]
]

-- where spans are ordered, those that stay are closed up
pub closed_up : (lanes : List (List ℕ)) (ss : List PlainSpan) → IsOrdered [] 0 ss →
    IsClosedUp lanes ss (is_open kin_in (open_of kin_in lanes ss))
closed_up lanes ss ordered = record {
  held = held_open lanes ss;
  parents = λ s p among listed parent. elim (parent_open lanes [] 0 ss s p ordered among listed parent)
      [ inl none ↦ absurd (false≢true none) | inr stays ↦ stays ];
}
