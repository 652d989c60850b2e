-- A subscriber that is lent for writing.
use Rattle.std.specs.Prelude.{ℕ, Option}
use Rattle.std.specs.Borrow.{LendsIf, MutBor, Fml}
use denote.RattleType.{RattleType}
use Rattle.tracing_core.specs.HandleSubscribers.{lent_to}
use Rattle.tracing_core.specs.Table.{Table}
use Rattle.tracing_core.specs.contracts.hub.Hub.{the_row}

-- the hub ends with the subscriber of the handle as the last value behind r, and marked as lent
abbrev pub LendsSubscriber : (S C : RattleType) → MutBor (Table S.Denot C.Denot) → Option ℕ → Option (MutBor S.Denot) → Fml
LendsSubscriber S C h dispatch r = LendsIf (the_row S C) S h r (λ w. record h.now { subscribers = lent_to dispatch w h.now.subscribers })
    h.now
