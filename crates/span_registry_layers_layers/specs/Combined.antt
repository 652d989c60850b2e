-- What the filters of this crate answer, and that they are consistent.
use Rattle.std.specs.Prelude.{◌≡◌, ◌<◌, ℕ, Bool, true, false, not, nat_le, min, max, Option, Some, None, refl}
use Rattle.std.proofs.Common.{sym, ap, subst, ◌∙◌, arith, true≢false}
use Rattle.std.proofs.lemmas.Bool.Decides.{nat_tests}
use Rattle.tracing_core_fields.specs.requests.Interests.{PlainInterest}
use Rattle.tracing_core_fields.specs.declared.requests.interest.InterestInner.TheVariants.{Never, Sometimes, Always}
use Rattle.tracing_core_fields.specs.PlainMetadata.{PlainMetadata}
use Rattle.tracing_core_fields.specs.requests.Steady.{HintFits, InterestFits, SameWord}
use Rattle.span_registry_layers_layers.specs.Honesty.{Fair}
use Rattle.span_registry_layers_layers.specs.FilterViews.{View}

-- nothing of the word changes
pub same_word : (says : PlainMetadata → PlainInterest → Type 0) (hint : Option ℕ) → SameWord says says hint hint
same_word says hint = record { onward = λ m k h. h; back = λ m k h. h; same_hint = refl }

-- always or never
abbrev pub kept_by : Bool → PlainInterest
kept_by true = Always
kept_by false = Never

abbrev pub level_interest : ℕ → ℕ → PlainInterest
level_interest filter level = kept_by (nat_le level filter)

fits_kept : (p b : Bool) (k : PlainInterest) → b ≡ p → k ≡ kept_by p → InterestFits k b
fits_kept true b k e f = rw f e
fits_kept false b k e f = rw f e

pub level_fair : (filter : ℕ) → Fair (λ m v b. b ≡ nat_le m.level filter) (λ m k. k ≡ level_interest filter m.level) (Some filter)
level_fair filter = record {
  interest = λ m v b k a s. fits_kept (nat_le m.level filter) b k a s;
  below = λ m v b a h. a ∙ grind (arith, nat_tests, h);
}

-- a rule over metadata, with no most verbose level, says what it answers
pub rule_fair : (passes : PlainMetadata → Bool) → Fair (λ m v b. b ≡ passes m) (λ m k. k ≡ kept_by (passes m)) None
rule_fair passes = record { interest = λ m v b k a s. fits_kept (passes m) b k a s; below = λ m v b a. tt }

-- asked in turn: the second only where the first passes
abbrev pub Then : (Bool → Type 0) → Bool → Bool → Type 0
Then Q true r = Q r
Then Q false r = r ≡ false

abbrev pub Both : (Bool → Type 0) → (Bool → Type 0) → Bool → Type 0
Both P Q r = (p : Bool) × P p × Then Q p r

-- the second only where the first refuses
abbrev pub Else : (Bool → Type 0) → Bool → Bool → Type 0
Else Q true r = r ≡ true
Else Q false r = Q r

abbrev pub Either : (Bool → Type 0) → (Bool → Type 0) → Bool → Type 0
Either P Q r = (p : Bool) × P p × Else Q p r

abbrev pub Turned : (Bool → Type 0) → Bool → Type 0
Turned P r = (p : Bool) × P p × (r ≡ not p)

-- never where one never passes, always where both always pass
abbrev pub both_interests : PlainInterest → PlainInterest → PlainInterest
both_interests Never k = Never
both_interests Sometimes Never = Never
both_interests Sometimes Sometimes = Sometimes
both_interests Sometimes Always = Sometimes
both_interests Always k = k

-- always where one always passes, never where both never pass
abbrev pub either_interest : PlainInterest → PlainInterest → PlainInterest
either_interest Always k = Always
either_interest Sometimes Always = Always
either_interest Sometimes Sometimes = Sometimes
either_interest Sometimes Never = Sometimes
either_interest Never k = k

abbrev pub turned_interest : PlainInterest → PlainInterest
turned_interest Never = Always
turned_interest Sometimes = Sometimes
turned_interest Always = Never

abbrev pub SaysOf : (PlainInterest → PlainInterest → PlainInterest) → (PlainInterest → Type 0) → (PlainInterest → Type 0) → PlainInterest →
    Type 0
SaysOf joined P Q r = (k : PlainInterest) × P k × ((j : PlainInterest) × Q j × (r ≡ joined k j))

abbrev pub SaysTurned : (PlainInterest → Type 0) → PlainInterest → Type 0
SaysTurned P r = (k : PlainInterest) × P k × (r ≡ turned_interest k)

-- known where both are known, the lower of two
abbrev pub both_hints : Option ℕ → Option ℕ → Option ℕ
both_hints None h = None
both_hints (Some a) None = None
both_hints (Some a) (Some b) = Some (min a b)

-- known where both are known, the higher of two
abbrev pub either_hint : Option ℕ → Option ℕ → Option ℕ
either_hint None h = None
either_hint (Some a) None = None
either_hint (Some a) (Some b) = Some (max a b)

pub then_passed : (Q : Bool → Type 0) (p r : Bool) → Then Q p r → p ≡ true → Q r
then_passed Q true r t e = t
then_passed Q false r t e = absurd (true≢false (sym e))

pub then_refused : (Q : Bool → Type 0) (p r : Bool) → Then Q p r → p ≡ false → r ≡ false
then_refused Q true r t e = absurd (true≢false e)
then_refused Q false r t e = t

else_passed : (Q : Bool → Type 0) (p r : Bool) → Else Q p r → p ≡ true → r ≡ true
else_passed Q true r t e = t
else_passed Q false r t e = absurd (true≢false (sym e))

else_refused : (Q : Bool → Type 0) (p r : Bool) → Else Q p r → p ≡ false → Q r
else_refused Q true r t e = absurd (true≢false e)
else_refused Q false r t e = t

both_fit : (k j : PlainInterest) (p r : Bool) → InterestFits k p → (p ≡ true → InterestFits j r) → (p ≡ false → r ≡ false) →
    InterestFits (both_interests k j) r
both_fit Never j p r a b c = c a
both_fit Sometimes Never true r a b c = b refl
both_fit Sometimes Never false r a b c = c refl
both_fit Sometimes Sometimes p r a b c = tt
both_fit Sometimes Always p r a b c = tt
both_fit Always j p r a b c = b a

both_below : (h i : Option ℕ) (level : ℕ) (p r : Bool) → HintFits h level p → (p ≡ true → HintFits i level r) → (p ≡ false → r ≡ false) →
    HintFits (both_hints h i) level r
both_below None i level p r a b c = tt
both_below (Some x) None level p r a b c = tt
both_below (Some x) (Some y) level true r a b c = λ lt. b refl (let no : x < level → ⊥ = λ h. true≢false (a h) in omega (arith, lt, no))
both_below (Some x) (Some y) level false r a b c = λ lt. c refl

either_fit : (k j : PlainInterest) (p r : Bool) → InterestFits k p → (p ≡ false → InterestFits j r) → (p ≡ true → r ≡ true) →
    InterestFits (either_interest k j) r
either_fit Always j p r a b c = c a
either_fit Sometimes Always true r a b c = c refl
either_fit Sometimes Always false r a b c = b refl
either_fit Sometimes Sometimes p r a b c = tt
either_fit Sometimes Never p r a b c = tt
either_fit Never j p r a b c = b a

either_below : (h i : Option ℕ) (level : ℕ) (p r : Bool) → HintFits h level p → (p ≡ false → HintFits i level r) →
    HintFits (either_hint h i) level r
either_below None i level p r a b = tt
either_below (Some x) None level p r a b = tt
either_below (Some x) (Some y) level p r a b = λ lt. b (a (omega (arith, lt))) (omega (arith, lt))

turned_fit : (k : PlainInterest) (p : Bool) → InterestFits k p → InterestFits (turned_interest k) (not p)
turned_fit Never p a = rw a refl
turned_fit Sometimes p a = tt
turned_fit Always p a = rw a refl

module _ {A B : PlainMetadata → View → Bool → Type 0} {S T : PlainMetadata → PlainInterest → Type 0} {h i : Option ℕ} where
  -- both asked in turn, what they say joined in a way that fits
  pub joined_fair : (say : PlainInterest → PlainInterest → PlainInterest) (top : Option ℕ → Option ℕ → Option ℕ) →
      ((k j : PlainInterest) (p r : Bool) → InterestFits k p → (p ≡ true → InterestFits j r) → (p ≡ false → r ≡ false) →
      InterestFits (say k j) r) → ((h i : Option ℕ) (level : ℕ) (p r : Bool) → HintFits h level p → (p ≡ true → HintFits i level r) →
      (p ≡ false → r ≡ false) → HintFits (top h i) level r) → Fair A S h → Fair B T i →
      Fair (λ m v r. Both (A m v) (B m v) r) (λ m k. SaysOf say (S m) (T m) k) (top h i)
  joined_fair say top fit below f g = record {
    interest = λ m v r k a s.
        subst (λ z. InterestFits z r) (sym s.2.2)
        (fit s.0 s.2.0 a.0 r (f.interest m v a.0 s.0 a.1 s.1) (λ e. g.interest m v r s.2.0 (then_passed (B m v) a.0 r a.2 e) s.2.1)
        (then_refused (B m v) a.0 r a.2));
    below = λ m v r a. below h i m.level a.0 r (f.below m v a.0 a.1) (λ e. g.below m v r (then_passed (B m v) a.0 r a.2 e))
        (then_refused (B m v) a.0 r a.2);
  }

  pub both_fair : Fair A S h → Fair B T i → Fair (λ m v r. Both (A m v) (B m v) r) (λ m k. SaysOf both_interests (S m) (T m) k)
      (both_hints h i)
  both_fair f g = joined_fair both_interests both_hints both_fit both_below f g

  pub either_fair : Fair A S h → Fair B T i → Fair (λ m v r. Either (A m v) (B m v) r) (λ m k. SaysOf either_interest (S m) (T m) k)
      (either_hint h i)
  either_fair f g = record {
    interest = λ m v r k a s.
        subst (λ z. InterestFits z r) (sym s.2.2)
        (either_fit s.0 s.2.0 a.0 r (f.interest m v a.0 s.0 a.1 s.1) (λ e. g.interest m v r s.2.0 (else_refused (B m v) a.0 r a.2 e) s.2.1)
        (else_passed (B m v) a.0 r a.2));
    below = λ m v r a. either_below h i m.level a.0 r (f.below m v a.0 a.1) (λ e. g.below m v r (else_refused (B m v) a.0 r a.2 e));
  }

module _ {S S' T T' : PlainMetadata → PlainInterest → Type 0} {h h' i i' : Option ℕ} where
  pub joined_word : (joined : PlainInterest → PlainInterest → PlainInterest) (hints : Option ℕ → Option ℕ → Option ℕ) → SameWord S S' h h' →
      SameWord T T' i i' → SameWord (λ m k. SaysOf joined (S m) (T m) k) (λ m k. SaysOf joined (S' m) (T' m) k) (hints h i) (hints h' i')
  joined_word joined hints a b = record {
    onward = λ m k s. (s.0, a.onward m s.0 s.1, (s.2.0, b.onward m s.2.0 s.2.1, s.2.2));
    back = λ m k s. (s.0, a.back m s.0 s.1, (s.2.0, b.back m s.2.0 s.2.1, s.2.2));
    same_hint = ap (λ x. hints x i') a.same_hint ∙ ap (hints h) b.same_hint;
  }

module _ {A : PlainMetadata → View → Bool → Type 0} {S : PlainMetadata → PlainInterest → Type 0} {h : Option ℕ} where
  pub turned_fair : Fair A S h → Fair (λ m v r. Turned (A m v) r) (λ m k. SaysTurned (S m) k) None
  turned_fair f = record {
    interest = λ m v r k a s. subst (λ z. InterestFits z r) (sym s.2)
        (subst (λ b. InterestFits (turned_interest s.0) b) (sym a.2) (turned_fit s.0 a.0 (f.interest m v a.0 s.0 a.1 s.1)));
    below = λ m v r a. tt;
  }

module _ {S S' : PlainMetadata → PlainInterest → Type 0} {h h' : Option ℕ} where
  pub turned_word : SameWord S S' h h' → SameWord (λ m k. SaysTurned (S m) k) (λ m k. SaysTurned (S' m) k) None None
  turned_word a = record {
    onward = λ m k s. (s.0, a.onward m s.0 s.1, s.2);
    back = λ m k s. (s.0, a.back m s.0 s.1, s.2);
    same_hint = refl;
  }
