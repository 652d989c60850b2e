-- A stack with the sinks of its outputs, and what a call makes of both.
use Rattle.std.specs.Prelude.{◌≡◌, List, length, map, Result, Ok, Err}
use Rattle.tracing_core_moments.specs.declared.at.At.{At}
use Rattle.tracing_core_fields.specs.requests.Calls.{Call, ReplyTo, DispatchRegistered, CallsiteRegistered, Asked, HintAsked, SpanMade}
use Rattle.tracing_core_fields.specs.requests.Calls.{Recorded, FollowsRecorded, EventAsked, EventDispatched, Entered, Exited, Cloned}
use Rattle.tracing_core_fields.specs.requests.Calls.{Dropped, CloseTried, CurrentAsked}
use Rattle.span_registry_layers_layers.specs.declared.filter.Filter.{Ghosts as FilterGhosts}
use Rattle.span_registry_layers_layers.specs.declared.layer.Layer.{Ghosts as LayerGhosts}
use Rattle.span_registry_layers.specs.Moves.{Moves}
use Rattle.span_tracing_outputs.specs.SinkLines.{HandsOver, NoLines, cleared_row}
use Rattle.span_tracing_outputs.specs.OutputMachines.{PlainLine}
use Rattle.span_tracing_outputs.specs.StackFollows.{LinedStack}
use Rattle.span_tracing_outputs.specs.Turns.{Lines}
use Rattle.span_tracing_outputs.specs.declared.trace_stack.UnpairedSinks.{UnpairedSinks}

-- each output has its sink at its own place
pub record TraceStackValue (N E F S : Type 0) : Type 0 where
  pub stack : LinedStack N E F
  pub sinks : List S

-- there are as many sinks as outputs, and no output keeps a line
abbrev pub IsAtRest : {N E F S : Type 0} → LinedStack N E F → List S → Type 0
IsAtRest stack sinks = (length sinks ≡ length stack.rows) × NoLines stack.rows

-- as many sinks as outputs, whose lines are forgotten, or both come back
abbrev pub NewGives : {N E F S : Type 0} → LinedStack N E F → List S → Result (TraceStackValue N E F S) (UnpairedSinks N E F S) → Type 0
NewGives stack sinks (Ok made) = (length sinks ≡ length stack.rows) ×
    (made ≡ record { stack = record stack { rows = map cleared_row stack.rows }; sinks = sinks })
NewGives stack sinks (Err back) = (length sinks ≡ length stack.rows → ⊥) × (back.stack ≡ stack) × (back.sinks.items ≡ sinks)

module _ {N E F S : Type 0} (g : FilterGhosts F) (h : LayerGhosts (Lines N E)) (takes : S → At → PlainLine → S → Type 0) where
  -- the stack takes the call, and then its lines are handed to the sinks
  abbrev pub ThenHandsOver : At → TraceStackValue N E F S → (c : Call) → ReplyTo c → TraceStackValue N E F S → Type 0
  ThenHandsOver at x c r y = (mid : LinedStack N E F) × Moves g h x.stack c r mid × HandsOver takes at mid x.sinks y.stack y.sinks

  -- the stack takes the call, and the sinks stay
  abbrev pub LeavesSinks : TraceStackValue N E F S → (c : Call) → ReplyTo c → TraceStackValue N E F S → Type 0
  LeavesSinks x c r y = Moves g h x.stack c r y.stack × (y.sinks ≡ x.sinks)

  -- what a call may answer and leave
  abbrev pub TraceMoves : TraceStackValue N E F S → (c : Call) → ReplyTo c → TraceStackValue N E F S → Type 0
  TraceMoves x (DispatchRegistered dispatch) r y = LeavesSinks x (DispatchRegistered dispatch) r y
  TraceMoves x (CallsiteRegistered m) r y = LeavesSinks x (CallsiteRegistered m) r y
  TraceMoves x (Asked m at) r y = LeavesSinks x (Asked m at) r y
  TraceMoves x HintAsked r y = LeavesSinks x HintAsked r y
  TraceMoves x (SpanMade a at) r y = ThenHandsOver at x (SpanMade a at) r y
  TraceMoves x (Recorded id values at) r y = ThenHandsOver at x (Recorded id values at) r y
  TraceMoves x (FollowsRecorded id follows at) r y = ThenHandsOver at x (FollowsRecorded id follows at) r y
  TraceMoves x (EventAsked e at) r y = LeavesSinks x (EventAsked e at) r y
  TraceMoves x (EventDispatched e at) r y = ThenHandsOver at x (EventDispatched e at) r y
  TraceMoves x (Entered id at) r y = ThenHandsOver at x (Entered id at) r y
  TraceMoves x (Exited id at) r y = ThenHandsOver at x (Exited id at) r y
  TraceMoves x (Cloned id at) r y = LeavesSinks x (Cloned id at) r y
  TraceMoves x (Dropped id at) r y = ThenHandsOver at x (Dropped id at) r y
  TraceMoves x (CloseTried id at) r y = ThenHandsOver at x (CloseTried id at) r y
  TraceMoves x (CurrentAsked at) r y = LeavesSinks x (CurrentAsked at) r y
