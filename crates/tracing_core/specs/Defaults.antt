-- Handles and defaults: what the commands on them answer and leave.
use Rattle.std.specs.Prelude.{ℕ, ◌==◌, Bool, true, false, if◌then◌else◌, Option, Some, None, Result, Ok, Err, slice_get, slice_set}
use Rattle.std.specs.Option.{option_map}
use Rattle.tracing_core.specs.Handles.{hold_refusal, held, given_back}
use Rattle.tracing_core.specs.Table.{Table, chosen, own_setting}
use Rattle.tracing_core.specs.declared.guard.DefaultGuard.{DefaultGuard}
use Rattle.tracing_core.specs.declared.guard.WrongLane.{WrongLane}
use Rattle.tracing_core.specs.declared.hub.parts.LaneDefault.{LaneDefault}
use Rattle.tracing_core.specs.declared.hub.parts.LaneDefault.TheVariants.{Unset, Nothing, To}
use Rattle.tracing_core.specs.declared.hub.parts.Lane.{Lane}
use Rattle.tracing_core.specs.declared.hub.parts.Lane.TheVariants.{Ended, Running}
use Rattle.tracing_core.specs.declared.refusal.HandleError.{HandleError}
use Rattle.tracing_core.specs.declared.refusal.HandleError.TheVariants.{Unknown, TooMany}
use Rattle.tracing_core.specs.declared.refusal.TooManyHandles.{TooManyHandles}
use Rattle.tracing_core.specs.declared.refusal.UnknownLane.{UnknownLane}
use Rattle.tracing_core.specs.declared.refusal.SetGlobalDefaultError.{SetGlobalDefaultError}
use Rattle.tracing_core.specs.declared.refusal.SetGlobalDefaultError.TheVariants as global
use Rattle.tracing_core.specs.declared.refusal.SetDefaultError.{SetDefaultError}
use Rattle.tracing_core.specs.declared.refusal.SetDefaultError.TheVariants as own

-- the default that a handle is set as
abbrev pub setting_to : Option ℕ → LaneDefault
setting_to None = Nothing
setting_to (Some serial) = To serial

abbrev pub was_set : LaneDefault → Bool
was_set Unset = false
was_set Nothing = true
was_set (To serial) = true

-- the default of a lane that runs
abbrev pub running : Option Lane → Option LaneDefault
running None = None
running (Some Ended) = None
running (Some (Running setting)) = Some setting

-- what an upgrade answers: none where the subscriber was released
abbrev pub upgrade_answer : Option ℕ → Option HandleError → Result (Option (Option ℕ)) TooManyHandles
upgrade_answer dispatch None = Ok (Some dispatch)
upgrade_answer dispatch (Some Unknown) = Ok None
upgrade_answer dispatch (Some TooMany) = Err (record { 0 = tt })

module _ {S C : Type 0} where
  -- with one more handle to what this one leads to
  abbrev pub holding : Table S C → Option ℕ → Table S C
  holding t dispatch = record t { subscribers = held dispatch t.subscribers }

  -- with one handle less
  abbrev pub letting_go : Table S C → Option ℕ → Table S C
  letting_go t dispatch = record t { subscribers = (given_back dispatch t.subscribers).1 }

  -- why the global default isn't set
  abbrev pub global_refusal : Table S C → Option ℕ → Option SetGlobalDefaultError
  global_refusal t dispatch = if was_set t.global then Some global.AlreadySet else option_map global.Handle
      (hold_refusal dispatch t.subscribers)

  -- with the global default set
  abbrev pub globally : Table S C → Option ℕ → Table S C
  globally t dispatch = record t { subscribers = held dispatch t.subscribers; global = setting_to dispatch }

  -- with another default of a lane
  abbrev pub with_lane : Table S C → ℕ → Lane → Table S C
  with_lane t lane value = record t { lanes = slice_set t.lanes lane value }

  abbrev pub default_refusal_at : Table S C → Option ℕ → Option LaneDefault → Option SetDefaultError
  default_refusal_at t dispatch None = Some own.UnknownLane
  default_refusal_at t dispatch (Some setting) = option_map own.Handle (hold_refusal dispatch t.subscribers)

  -- why the default of a lane isn't set
  abbrev pub default_refusal : Table S C → ℕ → Option ℕ → Option SetDefaultError
  default_refusal t lane dispatch = default_refusal_at t dispatch (running (slice_get t.lanes lane))

  -- what remembers the default that the lane has
  abbrev pub guard_of : Table S C → ℕ → DefaultGuard
  guard_of t lane = record { lane = lane; before = own_setting (slice_get t.lanes lane) }

  -- with the default of a lane set
  abbrev pub locally : Table S C → ℕ → Option ℕ → Table S C
  locally t lane dispatch = with_lane (holding t dispatch) lane (Running (setting_to dispatch))

  -- with one hold of a default given up, and another value of the lane: the subscriber that this releases comes back
  abbrev pub given_up : Table S C → ℕ → LaneDefault → Lane → Option S × Table S C
  given_up t lane setting value = ((given_back (chosen setting) t.subscribers).0, with_lane (letting_go t (chosen setting)) lane value)

  abbrev pub end_gives_at : Table S C → ℕ → Option LaneDefault → Result (Option S) UnknownLane × Table S C
  end_gives_at t lane None = (Err (record { 0 = tt }), t)
  end_gives_at t lane (Some setting) = (Ok (given_up t lane setting Ended).0, (given_up t lane setting Ended).1)

  -- a lane that ends gives up its default
  abbrev pub end_gives : Table S C → ℕ → Result (Option S) UnknownLane × Table S C
  end_gives t lane = end_gives_at t lane (running (slice_get t.lanes lane))

  abbrev pub reset_gives_at : Table S C → ℕ → DefaultGuard → Option Lane → Result (Option S) WrongLane × Table S C
  reset_gives_at t lane guard None = (Err (record { 0 = guard }), t)
  reset_gives_at t lane guard (Some Ended) = (Ok (given_up t lane guard.before Ended).0, (given_up t lane guard.before Ended).1)
  reset_gives_at t lane guard (Some (Running present)) =
      (Ok (given_up t lane present (Running guard.before)).0, (given_up t lane present (Running guard.before)).1)

  -- the lane gets the default that its guard remembers, and gives up the one that it has; a lane that ended gives up what the guard
  -- remembers
  abbrev pub reset_gives : Table S C → ℕ → DefaultGuard → Result (Option S) WrongLane × Table S C
  reset_gives t lane guard = if guard.lane == lane then reset_gives_at t lane guard
      (slice_get t.lanes lane) else (Err (record { 0 = guard }), t)
