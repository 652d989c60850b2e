use Rattle.std.proofs.Common.{◌≡◌, ◌++◌, List, take}
use Rattle.span_tracing_skeleton.specs.PlainData.{any_steps}
use Rattle.span_tracing_shared.specs.Entries.{PlainCall}
use Rattle.span_tracing_shared.specs.Running.{steps_of}
use Rattle.span_tracing_shared.specs.Seats.{own_calls}
use Rattle.span_tracing_shared.proofs.shared.Shared.run_steps.Given as goal

abbrev pub invariant-loop-n : goal.invariant-loop-n
invariant-loop-n g l =
    (l.seat.lane ≡ l.initial.seat.lane)
    × ((more : List PlainCall) × (own_calls l.seat ≡ own_calls l.initial.seat ++ more) × (steps_of more ≡ take l.n (any_steps l.steps)))
