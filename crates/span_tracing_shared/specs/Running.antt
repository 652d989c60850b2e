-- What lanes' runs leave of their seats.
use Rattle.std.specs.Prelude.{◌≡◌, false, ◌≤◌, List, ◌++◌, length, take, map}
use Rattle.span_tracing_skeleton.specs.PlainData.{AnyStep}
use Rattle.span_tracing_shared.specs.Entries.{PlainCall}
use Rattle.span_tracing_shared.specs.Seats.{own_calls}
use Rattle.span_tracing_shared.specs.declared.seat.Seat.{Seat}

abbrev pub steps_of : List PlainCall → List AnyStep
steps_of cs = map (λ (c : PlainCall). c.step) cs

-- the calls after a run are those before and then some for the first steps, in order
abbrev pub Ran : List AnyStep → List PlainCall → List PlainCall → Type 0
Ran steps before after = (more : List PlainCall) × (after ≡ before ++ more) × (steps_of more ≡ take (length more) steps)
    × (length more ≤ length steps)

-- the calls after a run are those before and then one for each step, in order
abbrev pub RanAll : List AnyStep → List PlainCall → List PlainCall → Type 0
RanAll steps before after = (more : List PlainCall) × (after ≡ before ++ more) × (steps_of more ≡ steps)

-- a seat ran the steps, up to where there was no memory, which it tells
pub record Went {L : Type 0} (steps : List AnyStep) (before after : Seat L) : Type 0 where
  pub lane : after.lane ≡ before.lane
  pub ran : Ran steps (own_calls before) (own_calls after)
  pub all : after.stopped ≡ false → RanAll steps (own_calls before) (own_calls after)
