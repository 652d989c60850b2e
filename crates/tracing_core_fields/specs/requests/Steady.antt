-- What it means that a subscriber is consistent.
use Rattle.std.specs.Prelude.{◌≡◌, ◌<◌, ℕ, Bool, true, false, Option, Some, None}
use Rattle.tracing_core_fields.specs.Level.{IsRank}
use Rattle.tracing_core_fields.specs.PlainMetadata.{PlainMetadata}
use Rattle.tracing_core_fields.specs.requests.Interests.{PlainInterest}
use Rattle.tracing_core_moments.specs.declared.at.At.{At}
use Rattle.tracing_core_fields.specs.declared.requests.interest.InterestInner.TheVariants.{Never, Sometimes, Always}

-- metadata that a callsite can have: its level is one of the five
abbrev pub IsReal : PlainMetadata → Type 0
IsReal metadata = IsRank metadata.level

-- what is never enabled isn't enabled, and what is always enabled is
abbrev pub InterestFits : PlainInterest → Bool → Type 0
InterestFits Never enabled = enabled ≡ false
InterestFits Sometimes enabled = Unit {0}
InterestFits Always enabled = enabled ≡ true

-- a level above the hint isn't enabled
abbrev pub HintFits : Option ℕ → ℕ → Bool → Type 0
HintFits None level enabled = Unit {0}
HintFits (Some top) level enabled = top < level → enabled ≡ false

-- what a subscriber answers agrees with what it says of its interests, and with its hint
pub record Agrees (answers : PlainMetadata → At → Bool → Type 0) (says : PlainMetadata → PlainInterest → Type 0) (hint : Option ℕ) : Type 0
  where
    pub interest : (m : PlainMetadata) (at : At) (b : Bool) (k : PlainInterest) → IsReal m → answers m at b → says m k → InterestFits k b
    pub below : (m : PlainMetadata) (at : At) (b : Bool) → IsReal m → answers m at b → HintFits hint m.level b

-- what is said of interests, and the hint, stay
pub record SameWord (says later : PlainMetadata → PlainInterest → Type 0) (hint hint_later : Option ℕ) : Type 0 where
  pub onward : (m : PlainMetadata) (k : PlainInterest) → says m k → later m k
  pub back : (m : PlainMetadata) (k : PlainInterest) → later m k → says m k
  pub same_hint : hint_later ≡ hint
