-- What it means that a filter is consistent.
use Rattle.std.specs.Prelude.{◌≡◌, ℕ, Bool, true, List, Option}
use Rattle.tracing_core_fields.specs.declared.requests.interest.InterestInner.TheVariants.{Always}
use Rattle.tracing_core_fields.specs.requests.Interests.{PlainInterest}
use Rattle.tracing_core_fields.specs.PlainMetadata.{PlainMetadata}
use Rattle.tracing_core_fields.specs.requests.PlainRequests.{PlainEvent}
use Rattle.tracing_core_fields.specs.requests.Steady.{HintFits, InterestFits}
use Rattle.span_registry_layers_layers.specs.FilterViews.{View}

-- in each place, what it says it always passes it passes, and what it never passes, or is above its hint, it refuses
pub record Fair (answers : PlainMetadata → View → Bool → Type 0) (says : PlainMetadata → PlainInterest → Type 0) (hint : Option ℕ) : Type 0
  where
    pub interest : (m : PlainMetadata) (v : View) (b : Bool) (k : PlainInterest) → answers m v b → says m k → InterestFits k b
    pub below : (m : PlainMetadata) (v : View) (b : Bool) → answers m v b → HintFits hint m.level b

-- at most one answer
abbrev pub One : (Bool → Type 0) → Type 0
One P = (a b : Bool) → P a → P b → a ≡ b

-- asked twice of the same in the same place, it answers the same
pub record Single (answers : PlainMetadata → View → Bool → Type 0) (event_answers : PlainEvent → View → Bool → Type 0) : Type 0 where
  pub callsite : (m : PlainMetadata) (v : View) → One (answers m v)
  pub event : (e : PlainEvent) (v : View) → One (event_answers e v)

-- it says one thing of a callsite, and doesn't say of what is above its hint that it always passes it
pub record Firm (says : PlainMetadata → PlainInterest → Type 0) (hint : Option ℕ) : Type 0 where
  pub one : (m : PlainMetadata) (j k : PlainInterest) → says m j → says m k → j ≡ k
  pub below : (m : PlainMetadata) (v : View) → says m Always → HintFits hint m.level true

-- whether some layer is to be told of a new span has one answer
abbrev pub OneAnswer : (PlainMetadata → View → Bool → List Bool → Bool → Type 0) → Type 0
OneAnswer kept = (m : PlainMetadata) (v : View) (passes : Bool) (verdicts others : List Bool) (a b : Bool) → kept m v passes verdicts a →
    kept m v passes others b → a ≡ b
