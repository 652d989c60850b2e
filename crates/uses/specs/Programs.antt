-- The steps of a program that logs.
use Rattle.std.specs.Prelude.{ℕ, List, [], ◌∷◌, Some}
use Rattle.tracing_core.specs.PlainValue.{Text}
use Rattle.tracing_appender.specs.Moment.{Moment}
use Rattle.span_tracing.specs.PlainData.{AnyStep, DefaultStep, EventStep, OfTrace, ResetStep}
use Rattle.span_tracing.specs.Parent.TheVariants.{Contextual}

-- an event on a lane whose first field is a text
abbrev pub message_on : ℕ → Moment → ℕ → List ℕ → AnyStep
message_on lane moment callsite text =
    OfTrace (EventStep (record { lane = lane; moment = moment; callsite = callsite; parent = Contextual; values = (0, Text text) ∷ [] }))

-- on the first lane
abbrev pub message_step : Moment → ℕ → List ℕ → AnyStep
message_step moment callsite text = message_on 0 moment callsite text

-- the same while the lane has the stack with this handle as its own default, which a guard gives back
abbrev pub apart_steps : ℕ → ℕ → ℕ → Moment → ℕ → List ℕ → List AnyStep
apart_steps lane handle guard moment callsite text =
    OfTrace (DefaultStep (record { lane = lane; handle = Some handle })) ∷ message_on lane moment callsite text ∷
    OfTrace (ResetStep (record { lane = lane; guard = guard })) ∷ []
