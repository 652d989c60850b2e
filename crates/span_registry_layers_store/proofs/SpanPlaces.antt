-- The place of a span, found from the front.
use Rattle.std.proofs.Common.{◌≡◌, ℕ, zero, suc, ◌<◌, ◌+◌, ◌==◌, List, [], ◌∷◌, length, drop, get_or, true, false, refl, sym, ap, ◌∙◌}
use Rattle.std.proofs.Common.{subst, arith, ◌≤◌}
use Rattle.std.proofs.Math.ListN.{drop_of_length-le}
use Rattle.std.proofs.lemmas.Option.{same_Some}
use Rattle.std.proofs.lemmas.Bool.Decides.{nat_tests}
use Rattle.span_registry_layers_store.specs.Places.{IsPlace, kin_of}
use Rattle.span_registry_layers_store.specs.Spans.{is_open}
use Rattle.span_registry_layers_store.specs.declared.span.Span.{Span}

-- the first item has the id
pub place_here : (s : Span) (ss : List Span) (id : ℕ) → s.kin.id ≡ id → IsPlace (s ∷ ss) id 0
place_here s ss id same =
    let t : (s.kin.id == id) ≡ true = grind (arith, nat_tests) in
    record {
      within = omega arith;
      is_there = rw t refl;
      here = rw t refl;
      change = λ f x e. rw t (ap (λ y. f y ∷ ss) (same_Some s x e));
    }

-- one more in front, with another id
pub place_later : (s : Span) (ss : List Span) (id place : ℕ) → (s.kin.id == id) ≡ false → IsPlace ss id place →
    IsPlace (s ∷ ss) id (suc place)
place_later s ss id place other p =
    record {
      within = let w = p.within in omega arith;
      is_there = rw other p.is_there;
      here = rw other p.here;
      change = λ f x e. rw other (ap (λ xs. s ∷ xs) (p.change f x e));
    }

-- what is left from a place on begins with the item there
pub drop_at : (ss : List Span) (n : ℕ) (s : Span) → n < length ss → s ≡ get_or ss n s → drop n ss ≡ s ∷ drop (suc n) ss
drop_at [] n s h e = absurd (omega arith)
drop_at (x ∷ xs) zero s h e = ap (λ y. y ∷ xs) (sym e)
drop_at (x ∷ xs) (suc n) s h e = drop_at xs n s (omega arith) e

-- the one there has another id
pub there_turn : (ss : List Span) (n m id : ℕ) (s : Span) → m ≡ suc n → n < length ss → s ≡ get_or ss n s → (s.kin.id == id) ≡ false →
    is_open kin_of (drop n ss) id ≡ is_open kin_of ss id → is_open kin_of (drop m ss) id ≡ is_open kin_of ss id
there_turn ss n m id s em h e other there =
    ap (λ k. is_open kin_of (drop k ss) id) em ∙ sym (ap (λ xs. is_open kin_of xs id) (drop_at ss n s h e) ∙ rw other) ∙ there

pub shift_turn : (ss : List Span) (n m id : ℕ) (s : Span) → m ≡ suc n → n < length ss → s ≡ get_or ss n s → (s.kin.id == id) ≡ false →
    ((k : ℕ) → IsPlace (drop n ss) id k → IsPlace ss id (n + k)) → (k : ℕ) → IsPlace (drop m ss) id k → IsPlace ss id (m + k)
shift_turn ss n m id s em h e other shift k p =
    let same : n + suc k ≡ m + k = omega arith in
    let later : IsPlace (drop (suc n) ss) id k = subst (λ j. IsPlace (drop j ss) id k) em p in
    let here : IsPlace (drop n ss) id (suc k) = subst (λ xs. IsPlace xs id (suc k)) (sym (drop_at ss n s h e))
    (place_later s (drop (suc n) ss) id k other later) in
    subst (λ j. IsPlace ss id j) same (shift (suc k) here)

pub place_at : (ss : List Span) (n id : ℕ) (s : Span) → n < length ss → s ≡ get_or ss n s → s.kin.id ≡ id →
    ((k : ℕ) → IsPlace (drop n ss) id k → IsPlace ss id (n + k)) → IsPlace ss id n
place_at ss n id s h e same shift =
    let here : IsPlace (drop n ss) id 0 = subst (λ xs. IsPlace xs id 0) (sym (drop_at ss n s h e))
    (place_here s (drop (suc n) ss) id same) in
    let none : n + 0 ≡ n = omega arith in
    subst (λ j. IsPlace ss id j) none (shift 0 here)

pub nothing_left : (ss : List Span) (n id : ℕ) → length ss ≤ n → is_open kin_of (drop n ss) id ≡ is_open kin_of ss id →
    is_open kin_of ss id ≡ false
nothing_left ss n id h there = sym there ∙ ap (λ xs. is_open kin_of xs id) (drop_of_length-le ss h)

pub differs : (a b : ℕ) → (a ≡ b → ⊥) → (a == b) ≡ false
differs a b h = grind (arith, nat_tests, h)

pub shift_none : (ss : List Span) (id k : ℕ) → IsPlace ss id k → IsPlace ss id (0 + k)
shift_none ss id k p = let same : k ≡ 0 + k = omega arith in subst (λ j. IsPlace ss id j) same p
