-- The mask of a step that a trace carried out.
use Rattle.std.specs.Prelude.{◌≡◌, ◌≤◌, ℕ, Bool, List, [], length, Option, Some, None, IfSome}
use Rattle.span_registry_layers_layers.specs.declared.filter.Filter.{Ghosts as FilterGhosts}
use Rattle.span_tracing_skeleton.specs.PlainData.{AnyStep, OfQueue, OfTrace}
use Rattle.span_tracing_skeleton.specs.Skeleton.{Skeleton}
use Rattle.span_tracing_skeleton.specs.declared.call.Reply.{Reply}
use Rattle.span_tracing_steps.specs.States.{held_in}
use Rattle.span_tracing_laws.specs.runs.StepFollows.{Traced, skeleton_of}
use Rattle.span_tracing_laws.specs.runs.StepMasks.{IsMask, asked_stack, marks_at, unless_refused}

-- the stack whose outputs' filters a step asks; a call on a queue asks none
abbrev pub asked_by : Skeleton → AnyStep → Option ℕ
asked_by s (OfTrace step) = asked_stack s step
asked_by s (OfQueue ask) = None

module _ {N E F S : Type 0} where
  -- the marks that a step left in the stack that it asked; a refused step has none
  abbrev pub mask_of : Traced N E F S → AnyStep → Reply → Traced N E F S → List Bool
  mask_of v step reply w = unless_refused reply (marks_at (asked_by (skeleton_of v) step) w)

  -- the stack has no more outputs than a mask
  abbrev pub FitsMask : Option ℕ → Traced N E F S → Type 0
  FitsMask None w = Unit {0}
  FitsMask (Some stack) w = IfSome (held_in w stack) (λ x. length x.stack.rows ≤ 64)

-- the mask says of each output of the stack that was asked what its filter answers of the callsite, there and then
abbrev pub IsMaskOf : {N E F S : Type 0} → FilterGhosts F → Traced N E F S → AnyStep → Reply → List Bool → Type 0
IsMaskOf g v (OfTrace step) reply mask = IsMask g v step reply mask
IsMaskOf g v (OfQueue ask) reply mask = mask ≡ []
