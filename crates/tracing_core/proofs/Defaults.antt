-- What giving up a default comes to.
use Rattle.std.proofs.Common.{◌≡◌, ℕ, Option, Some, Result, Ok, ap}
use Rattle.std.specs.Prelude.{slice_get}
use Rattle.tracing_core.specs.Defaults.{end_gives, given_up, running}
use Rattle.tracing_core.specs.Table.{Table}
use Rattle.tracing_core.specs.declared.hub.parts.Lane.TheVariants.{Ended}
use Rattle.tracing_core.specs.declared.hub.parts.LaneDefault.{LaneDefault}
use Rattle.tracing_core.specs.declared.refusal.UnknownLane.{UnknownLane}

-- a lane that runs ends as its default is given up
pub ended : {S C : Type 0} (t u : Table S C) (lane : ℕ) (setting : LaneDefault) (given : Option S) →
    Some setting ≡ running (slice_get t.lanes lane) → ◌≡◌ {A = Option S × Table S C} (given, u) (given_up t lane setting Ended) →
    ◌≡◌ {A = Result (Option S) UnknownLane × Table S C} (Ok given, u) (end_gives t lane)
ended {S = S} {C = C} t u lane setting given runs gives = rw (← runs) (ap (λ (p : Option S × Table S C). (Ok p.0, p.1)) gives)
