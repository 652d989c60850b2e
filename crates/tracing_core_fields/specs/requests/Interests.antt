-- What subscribers say of a callsite.
use Rattle.std.specs.Prelude.{◌≡◌, Bool, true, false, Option, Some, None, refl}
use Rattle.std.specs.Bool.{Decides}
use Rattle.std.specs.Cmp.{IsEquivalence, decided}
use Rattle.tracing_core_fields.specs.declared.requests.interest.InterestInner.{InterestInner}
use Rattle.tracing_core_fields.specs.declared.requests.interest.InterestInner.TheVariants.{Never, Sometimes, Always}

abbrev pub PlainInterest : Type 0
PlainInterest = InterestInner

abbrev pub says_never : PlainInterest → Bool
says_never Never = true
says_never Sometimes = false
says_never Always = false

abbrev pub says_sometimes : PlainInterest → Bool
says_sometimes Never = false
says_sometimes Sometimes = true
says_sometimes Always = false

abbrev pub says_always : PlainInterest → Bool
says_always Never = false
says_always Sometimes = false
says_always Always = true

-- the common interest of two subscribers
abbrev pub common : PlainInterest → PlainInterest → PlainInterest
common Never Never = Never
common Never Sometimes = Sometimes
common Never Always = Sometimes
common Sometimes other = Sometimes
common Always Never = Sometimes
common Always Sometimes = Sometimes
common Always Always = Always

-- the common interest with those before, where there were any
abbrev pub joined : Option PlainInterest → PlainInterest → Option PlainInterest
joined None answer = Some answer
joined (Some interest) answer = Some (common interest answer)

-- never where nobody was asked
abbrev pub settled : Option PlainInterest → PlainInterest
settled None = Never
settled (Some interest) = interest

-- a common interest that isn't sometimes is the own one
abbrev pub Covers : PlainInterest → PlainInterest → Type 0
Covers Never own = own ≡ Never
Covers Sometimes own = Unit {0}
Covers Always own = own ≡ Always

-- order and repetition don't matter
pub record CommonInterestLaw : Type 0 where
  pub associative : (a b c : PlainInterest) → common (common a b) c ≡ common a (common b c)
  pub commutative : (a b : PlainInterest) → common a b ≡ common b a
  pub idempotent : (a : PlainInterest) → common a a ≡ a

abbrev pub is_same_interest : PlainInterest → PlainInterest → Bool
is_same_interest Never other = says_never other
is_same_interest Sometimes other = says_sometimes other
is_same_interest Always other = says_always other

pub is_same_interest-decides : (a b : PlainInterest) → Decides (is_same_interest a b) (a ≡ b)
is_same_interest-decides Never Never = (λ _. refl, λ _. refl)
is_same_interest-decides Never Sometimes = (λ e. absurd (cc), λ e. absurd (cc))
is_same_interest-decides Never Always = (λ e. absurd (cc), λ e. absurd (cc))
is_same_interest-decides Sometimes Never = (λ e. absurd (cc), λ e. absurd (cc))
is_same_interest-decides Sometimes Sometimes = (λ _. refl, λ _. refl)
is_same_interest-decides Sometimes Always = (λ e. absurd (cc), λ e. absurd (cc))
is_same_interest-decides Always Never = (λ e. absurd (cc), λ e. absurd (cc))
is_same_interest-decides Always Sometimes = (λ e. absurd (cc), λ e. absurd (cc))
is_same_interest-decides Always Always = (λ _. refl, λ _. refl)

pub is_same_interest-equivalence : IsEquivalence is_same_interest
is_same_interest-equivalence = decided is_same_interest is_same_interest-decides
