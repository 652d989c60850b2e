-- Filters that say one thing of a callsite, which agrees with their hint.
use Rattle.std.specs.Prelude.{◌≡◌, ◌<◌, ◌⊎◌, ℕ, Bool, true, false, nat_le, nat_lt, if◌then◌else◌, Option, Some, None, refl}
use Rattle.std.specs.Borrow.{Bor}
use Rattle.std.proofs.Common.{inl, inr, sym, ap, subst, ◌∙◌, arith, true≢false}
use Rattle.std.proofs.lemmas.Bool.Decides.{nat_tests}
use Rattle.tracing_core_fields.specs.declared.requests.interest.InterestInner.TheVariants.{Never, Sometimes, Always}
use Rattle.tracing_core_fields.specs.requests.Interests.{PlainInterest}
use Rattle.tracing_core_fields.specs.Metadata.{plain_metadata}
use Rattle.tracing_core_fields.specs.PlainMetadata.{PlainMetadata}
use Rattle.tracing_core_fields.specs.requests.Steady.{HintFits}
use Rattle.tracing_core_fields.specs.declared.metadata.Metadata.{Metadata}
use Rattle.span_registry_layers_layers.specs.Combined.{SaysOf, SaysTurned, both_hints, both_interests, either_hint, either_interest}
use Rattle.span_registry_layers_layers.specs.Combined.{kept_by, level_interest, turned_interest}
use Rattle.span_registry_layers_layers.specs.Dynamic.{SaysIn, hinted_interest}
use Rattle.span_registry_layers_layers.specs.Functions.{AnswersBy, IsDetermined, SaysBy}
use Rattle.span_registry_layers_layers.specs.Honesty.{Fair, Firm}
use Rattle.span_registry_layers_layers.specs.FilterViews.{View}

always_passed : (p : Bool) → Always ≡ kept_by p → p ≡ true
always_passed true e = refl
always_passed false e = absurd (cc)

pub level_firm : (filter : ℕ) → Firm (λ m k. k ≡ level_interest filter m.level) (Some filter)
level_firm filter = record {
  one = λ m j k x y. x ∙ sym y;
  below = λ m v s lt. let passed : nat_le m.level filter ≡ true = always_passed (nat_le m.level filter) s in
      absurd (grind (arith, nat_tests, passed, lt));
}

pub rule_firm : (passes : PlainMetadata → Bool) → Firm (λ m k. k ≡ kept_by (passes m)) None
rule_firm passes = record { one = λ m j k x y. x ∙ sym y; below = λ m v s. tt }

-- what is determined by the metadata is said once
pub closure_firm : (P : Bor Metadata → Bool → Type 0) (hint : Option ℕ) → IsDetermined P → Fair (AnswersBy P) (SaysBy P) hint →
    Firm (SaysBy P) hint
closure_firm P hint d f = record {
  one = λ m j k x y. x.4 ∙ ap kept_by (d x.0 y.0 x.1 y.1 (x.2 ∙ sym y.2) x.3 y.3) ∙ sym y.4;
  below = λ m v s. subst (HintFits hint m.level) (always_passed s.1 s.4) (f.below m v s.1 (s.0, s.2, s.3));
}

-- the closure for callsites says one thing of metadata that is the same, and never that what is above the hint always passes
abbrev pub CallsitesAreFirm : {G : Type 0} → (G → Bor Metadata → PlainInterest → Type 0) → Option G → Option ℕ → Type 0
CallsitesAreFirm post None hint = Unit {0}
CallsitesAreFirm post (Some g) hint =
    ((x y : Bor Metadata) (j k : PlainInterest) → plain_metadata x.now ≡ plain_metadata y.now → post g x j → post g y k → j ≡ k)
    × ((x : Bor Metadata) → post g x Always → HintFits hint (plain_metadata x.now).level true)

not_always : (hint : Option ℕ) (level : ℕ) → Always ≡ hinted_interest hint level → ⊥
not_always None level e = absurd (cc)
not_always (Some top) level e = neither (nat_lt top level) e
  where
    neither : (b : Bool) → Always ≡ (if b then Never else Sometimes) → ⊥
    neither true e = absurd (cc)
    neither false e = absurd (cc)

pub dynamic_firm : {G : Type 0} (post : G → Bor Metadata → PlainInterest → Type 0) (callsite : Option G) (hint : Option ℕ) →
    CallsitesAreFirm post callsite hint → Firm (SaysIn post callsite hint) hint
dynamic_firm post None hint w = record { one = λ m j k x y. x ∙ sym y; below = λ m v s. absurd (not_always hint m.level s) }
dynamic_firm post (Some g) hint w = record {
  one = λ m j k x y. w.0 x.0 y.0 j k (x.1 ∙ sym y.1) x.2 y.2;
  below = λ m v s. subst (λ (n : PlainMetadata). HintFits hint n.level true) s.1 (w.1 s.0 s.2);
}

both_always : (j k : PlainInterest) → Always ≡ both_interests j k → (j ≡ Always) × (k ≡ Always)
both_always Never k e = absurd (cc)
both_always Sometimes Never e = absurd (cc)
both_always Sometimes Sometimes e = absurd (cc)
both_always Sometimes Always e = absurd (cc)
both_always Always k e = (refl, sym e)

either_always : (j k : PlainInterest) → Always ≡ either_interest j k → (j ≡ Always) ⊎ (k ≡ Always)
either_always Always k e = inl refl
either_always Sometimes Always e = inr refl
either_always Sometimes Sometimes e = absurd (cc)
either_always Sometimes Never e = absurd (cc)
either_always Never k e = inr (sym e)

both_hint : (h i : Option ℕ) (level : ℕ) → HintFits h level true → HintFits i level true → HintFits (both_hints h i) level true
both_hint None i level a b = tt
both_hint (Some x) None level a b = tt
both_hint (Some x) (Some y) level a b = λ lt. b (let within : x < level → ⊥ = λ above. true≢false (a above) in omega (arith, lt, within))

either_left : (h i : Option ℕ) (level : ℕ) → HintFits h level true → HintFits (either_hint h i) level true
either_left None i level a = tt
either_left (Some x) None level a = tt
either_left (Some x) (Some y) level a = λ lt. a (omega (arith, lt))

either_right : (h i : Option ℕ) (level : ℕ) → HintFits i level true → HintFits (either_hint h i) level true
either_right None i level a = tt
either_right (Some x) None level a = tt
either_right (Some x) (Some y) level a = λ lt. a (omega (arith, lt))

module _ {S T : PlainMetadata → PlainInterest → Type 0} {h i : Option ℕ} where
  joined_one : (joined : PlainInterest → PlainInterest → PlainInterest) → Firm S h → Firm T i → (m : PlainMetadata) (j k : PlainInterest) →
      SaysOf joined (S m) (T m) j → SaysOf joined (S m) (T m) k → j ≡ k
  joined_one joined f g m j k x y =
      x.2.2 ∙ ap (λ z. joined z x.2.0) (f.one m x.0 y.0 x.1 y.1) ∙ ap (joined y.0) (g.one m x.2.0 y.2.0 x.2.1 y.2.1) ∙ sym y.2.2

  pub both_firm : Firm S h → Firm T i → Firm (λ m k. SaysOf both_interests (S m) (T m) k) (both_hints h i)
  both_firm f g = record {
    one = joined_one both_interests f g;
    below = λ m v s.
        let always = both_always s.0 s.2.0 s.2.2 in
        both_hint h i m.level (f.below m v (subst (S m) always.0 s.1)) (g.below m v (subst (T m) always.1 s.2.1));
  }

  pub either_firm : Firm S h → Firm T i → Firm (λ m k. SaysOf either_interest (S m) (T m) k) (either_hint h i)
  either_firm f g = record {
    one = joined_one either_interest f g;
    below = λ m v s. by_side m v s (either_always s.0 s.2.0 s.2.2);
  }
    where
      by_side : (m : PlainMetadata) (v : View) (s : SaysOf either_interest (S m) (T m) Always) → (s.0 ≡ Always) ⊎ (s.2.0 ≡ Always) →
          HintFits (either_hint h i) m.level true
      by_side m v s (inl e) = either_left h i m.level (f.below m v (subst (S m) e s.1))
      by_side m v s (inr e) = either_right h i m.level (g.below m v (subst (T m) e s.2.1))

module _ {S : PlainMetadata → PlainInterest → Type 0} {h : Option ℕ} where
  pub turned_firm : Firm S h → Firm (λ m k. SaysTurned (S m) k) None
  turned_firm f = record {
    one = λ m j k x y. x.2 ∙ ap turned_interest (f.one m x.0 y.0 x.1 y.1) ∙ sym y.2;
    below = λ m v s. tt;
  }
