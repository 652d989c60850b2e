-- The order in which candidates go.
use Rattle.std.proofs.Common.{◌≡◌, ◌<◌, ◌≤◌, ◌<ℤ◌, Bool, true, false, not, ◌&&◌, ◌||◌, cond, refl, sym, ap, ◌∙◌, arith, inl, inr, Ordering}
use Rattle.std.specs.Prelude.{◌⊎◌, int_le, nat_lt}
use Rattle.std.specs.Cmp.Lexicographic.{slice_cmp}
use Rattle.std.specs.Ordering.{nat_cmp, is_lt}
use Rattle.std.specs.declared.cmp.Ordering.TheVariants.{Less, Equal, Greater}
use Rattle.std.proofs.lemmas.Bool.{ltb-true, ltb-false}
use Rattle.std.proofs.lemmas.Cmp.{nat_list_cmp_total}
use Rattle.jiff_core.proofs.SignedLemmas.{signed_arith}
use Rattle.tracing_core_moments.specs.declared.moment.Moment.{Moment}
use Rattle.tracing_core_moments.specs.Moments.{is_earlier}
use Rattle.tracing_appender_rolling.specs.Retention.{PlainCandidate, is_before}

-- an earlier moment, and the same one
abbrev pub Earlier : Moment → Moment → Type 0
Earlier a b = (a.seconds <ℤ b.seconds) ⊎ ((a.seconds ≡ b.seconds) × (a.nanoseconds < b.nanoseconds))

abbrev pub NoEarlier : Moment → Moment → Type 0
NoEarlier a b = (b.seconds <ℤ a.seconds) ⊎ ((a.seconds ≡ b.seconds) × (b.nanoseconds ≤ a.nanoseconds))

first_true : (a b : Bool) → (a && b) ≡ true → (a ≡ true) × (b ≡ true)
first_true true b e = (refl, e)
first_true false b e = cc

pub to_earlier : (a b : Moment) → is_earlier a b ≡ true → Earlier a b
to_earlier a b e = by_case (int_le b.seconds a.seconds) refl e
  where
    by_case : (t : Bool) → int_le b.seconds a.seconds ≡ t → cond t (int_le a.seconds b.seconds && nat_lt a.nanoseconds b.nanoseconds)
        true ≡ true → Earlier a b
    by_case true h f =
        let both = first_true (int_le a.seconds b.seconds) (nat_lt a.nanoseconds b.nanoseconds) f in
        inr (omega (arith, signed_arith, h, both.0), ltb-true a.nanoseconds b.nanoseconds both.1)
    by_case false h f = inl (omega (arith, signed_arith, h))

pub to_no_earlier : (a b : Moment) → is_earlier a b ≡ false → NoEarlier a b
to_no_earlier a b e = by_case (int_le b.seconds a.seconds) (int_le a.seconds b.seconds) (nat_lt a.nanoseconds b.nanoseconds) refl refl refl
    e
  where
    by_case : (t u v : Bool) → int_le b.seconds a.seconds ≡ t → int_le a.seconds b.seconds ≡ u → nat_lt a.nanoseconds b.nanoseconds ≡ v →
        cond t (u && v) true ≡ false → NoEarlier a b
    by_case false u v h k l f = cc
    by_case true false v h k l f = inl (omega (arith, signed_arith, k))
    by_case true true true h k l f = cc
    by_case true true false h k l f = inr (omega (arith, signed_arith, h, k), ltb-false a.nanoseconds b.nanoseconds l)

earlier_clash : (a b : Moment) → NoEarlier a b → Earlier a b → ⊥
earlier_clash a b (inl x) (inl y) = omega (arith, signed_arith, x, y)
earlier_clash a b (inl x) (inr (same, less)) = omega (arith, signed_arith, x, same)
earlier_clash a b (inr (same, le)) (inl y) = omega (arith, signed_arith, y, same)
earlier_clash a b (inr (same, le)) (inr (again, less)) = omega (arith, le, less)

from_earlier : (a b : Moment) → Earlier a b → is_earlier a b ≡ true
from_earlier a b e = by_case (is_earlier a b) refl
  where
    by_case : (t : Bool) → is_earlier a b ≡ t → is_earlier a b ≡ true
    by_case true h = h
    by_case false h = absurd (earlier_clash a b (to_no_earlier a b h) e)

from_no_earlier : (a b : Moment) → NoEarlier a b → is_earlier a b ≡ false
from_no_earlier a b e = by_case (is_earlier a b) refl
  where
    by_case : (t : Bool) → is_earlier a b ≡ t → is_earlier a b ≡ false
    by_case false h = h
    by_case true h = absurd (earlier_clash a b e (to_earlier a b h))

-- one candidate before another
abbrev pub NameBefore : PlainCandidate → PlainCandidate → Type 0
NameBefore a b = NoEarlier b.made a.made × (slice_cmp nat_cmp a.name b.name ≡ Less)

less_is : (o : Ordering) → is_lt o ≡ true → o ≡ Less
less_is Less e = refl
less_is Equal e = cc
less_is Greater e = cc

pub to_before : (a b : PlainCandidate) → is_before a b ≡ true → Earlier a.made b.made ⊎ NameBefore a b
to_before a b e = by_case (is_earlier a.made b.made) (is_earlier b.made a.made) refl refl e
  where
    by_case : (t u : Bool) → is_earlier a.made b.made ≡ t → is_earlier b.made a.made ≡ u →
        (t || (not u && is_lt (slice_cmp nat_cmp a.name b.name))) ≡ true → Earlier a.made b.made ⊎ NameBefore a b
    by_case true u h k f = inl (to_earlier a.made b.made h)
    by_case false true h k f = cc
    by_case false false h k f = inr (to_no_earlier b.made a.made k, less_is (slice_cmp nat_cmp a.name b.name) f)

either_true : (b : Bool) → (b || true) ≡ true
either_true true = refl
either_true false = refl

pub from_before : (a b : PlainCandidate) → Earlier a.made b.made ⊎ NameBefore a b → is_before a b ≡ true
from_before a b (inl earlier) = ap (λ t. t || (not (is_earlier b.made a.made) && is_lt (slice_cmp nat_cmp a.name b.name)))
    (from_earlier a.made b.made earlier)
from_before a b (inr (late, less)) =
    ap (λ t. is_earlier a.made b.made || (not t && is_lt (slice_cmp nat_cmp a.name b.name))) (from_no_earlier b.made a.made late)
    ∙ ap (λ o. is_earlier a.made b.made || is_lt o) less
    ∙ either_true (is_earlier a.made b.made)

earlier_then : (a b c : Moment) → Earlier a b → Earlier b c → Earlier a c
earlier_then a b c (inl x) (inl y) = inl (omega (arith, signed_arith, x, y))
earlier_then a b c (inl x) (inr (same, less)) = inl (omega (arith, signed_arith, x, same))
earlier_then a b c (inr (same, less)) (inl y) = inl (omega (arith, signed_arith, y, same))
earlier_then a b c (inr (same, less)) (inr (again, more)) = inr (same ∙ again, omega (arith, less, more))

-- the second doesn't come before the third, nor the third before it
earlier_not : (a b c : Moment) → Earlier a b → NoEarlier c b → Earlier a c
earlier_not a b c (inl x) (inl y) = inl (omega (arith, signed_arith, x, y))
earlier_not a b c (inl x) (inr (same, le)) = inl (omega (arith, signed_arith, x, same))
earlier_not a b c (inr (same, less)) (inl y) = inl (omega (arith, signed_arith, y, same))
earlier_not a b c (inr (same, less)) (inr (again, le)) = inr (same ∙ sym again, omega (arith, less, le))

pub not_earlier : (a b c : Moment) → NoEarlier b a → Earlier b c → Earlier a c
not_earlier a b c (inl x) (inl y) = inl (omega (arith, signed_arith, x, y))
not_earlier a b c (inl x) (inr (same, less)) = inl (omega (arith, signed_arith, x, same))
not_earlier a b c (inr (same, le)) (inl y) = inl (omega (arith, signed_arith, y, same))
not_earlier a b c (inr (same, le)) (inr (again, less)) = inr (sym same ∙ again, omega (arith, less, le))

pub not_then : (a b c : Moment) → NoEarlier b a → NoEarlier c b → NoEarlier c a
not_then a b c (inl x) (inl y) = inl (omega (arith, signed_arith, x, y))
not_then a b c (inl x) (inr (same, le)) = inl (omega (arith, signed_arith, x, same))
not_then a b c (inr (same, le)) (inl y) = inl (omega (arith, signed_arith, y, same))
not_then a b c (inr (same, le)) (inr (again, more)) = inr (again ∙ same, omega (arith, le, more))

pub before_then : (a b c : PlainCandidate) → is_before a b ≡ true → is_before b c ≡ true → is_before a c ≡ true
before_then a b c first second = from_before a c (by_case (to_before a b first) (to_before b c second))
  where
    by_case : Earlier a.made b.made ⊎ NameBefore a b → Earlier b.made c.made ⊎ NameBefore b c → Earlier a.made c.made ⊎ NameBefore a c
    by_case (inl x) (inl y) = inl (earlier_then a.made b.made c.made x y)
    by_case (inl x) (inr (late, less)) = inl (earlier_not a.made b.made c.made x late)
    by_case (inr (late, less)) (inl y) = inl (not_earlier a.made b.made c.made late y)
    by_case (inr (late, less)) (inr (later, more)) =
        inr (not_then a.made b.made c.made late later, nat_list_cmp_total.trans a.name b.name c.name less more)
