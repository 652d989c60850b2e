-- What a hub keeps of a subscriber and of a callsite, as plain data.
use Rattle.std.specs.Prelude.{ℕ, Bool, List, Option}
use Rattle.tracing_core_fields.specs.requests.Interests.{PlainInterest}

-- a subscriber that some handle leads to
pub record KeptSubscriber (S : Type 0) : Type 0 where
  pub serial : ℕ
  -- how many handles and defaults lead to it
  pub handles : ℕ
  -- whether it was lent for writing since it was last asked, or was never asked
  pub lent : Bool
  -- its own answer of each callsite, in their order, as far as answers are kept
  pub interests : List PlainInterest
  -- its own hint, where one is kept
  pub hint : Option (Option ℕ)
  pub subscriber : S

-- a callsite, with what is kept of it
pub record KeptCallsite (C : Type 0) : Type 0 where
  pub callsite : C
  pub identifier : ℕ
  -- the rank of the least verbose filter that passes its level
  pub level : ℕ
  -- what all subscribers have in common
  pub interest : PlainInterest
