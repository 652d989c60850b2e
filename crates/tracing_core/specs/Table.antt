-- What a hub keeps, as plain data.
use Rattle.std.specs.Prelude.{ℕ, Bool, List, [], Option, Some, None}
use Rattle.tracing_core.specs.TableRows.{KeptCallsite, KeptSubscriber}
use Rattle.tracing_core.specs.declared.hub.parts.LaneDefault.{LaneDefault}
use Rattle.tracing_core.specs.declared.hub.parts.LaneDefault.TheVariants.{Unset, Nothing, To}
use Rattle.tracing_core.specs.declared.hub.parts.Lane.{Lane}
use Rattle.tracing_core.specs.declared.hub.parts.Lane.TheVariants.{Ended, Running}

pub record Table (S C : Type 0) : Type 0 where
  -- the subscribers that some handle leads to, in order of their numbers
  pub subscribers : List (KeptSubscriber S)
  -- the number of the next one
  pub next : ℕ
  -- the callsites, in order of registration
  pub callsites : List (KeptCallsite C)
  -- the lanes, by their numbers
  pub lanes : List Lane
  -- by lane, whether it is within a call that lends its subscriber
  pub entered : List Bool
  pub global : LaneDefault
  -- the rank of the greatest level that some subscriber enables
  pub greatest : ℕ

abbrev pub fresh : {S C : Type 0} → Table S C
fresh = record { subscribers = []; next = 0; callsites = []; lanes = []; entered = []; global = Unset; greatest = 0 }

-- the subscriber that a default leads to
abbrev pub chosen : LaneDefault → Option ℕ
chosen Unset = None
chosen Nothing = None
chosen (To serial) = Some serial

-- the default of a lane, where it has one of its own; a lane that was never given reaches nothing
abbrev pub own_setting : Option Lane → LaneDefault
own_setting None = Nothing
own_setting (Some Ended) = Unset
own_setting (Some (Running setting)) = setting

-- the own default where one was set, else the global one
abbrev pub effective : LaneDefault → LaneDefault → LaneDefault
effective Unset global = global
effective Nothing global = Nothing
effective (To serial) global = To serial
