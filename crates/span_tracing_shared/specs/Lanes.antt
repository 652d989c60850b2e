-- The lanes of steps.
use Rattle.std.specs.Prelude.{◌≡◌, ℕ, All, List, Option, Some, None, IfSome}
use Rattle.span_tracing_skeleton.specs.PlainData.{AnyStep, OfQueue, OfTrace, PlainStep, GlobalStep, EventStep, EnabledStep, SpanStep}
use Rattle.span_tracing_skeleton.specs.PlainData.{RecordStep, FollowsFromStep, EnterStep, ExitStep, CloneStep, CloseStep, DefaultStep}
use Rattle.span_tracing_skeleton.specs.PlainData.{ResetStep, CloneHandleStep, ReleaseStep, SetStep, any_step}
use Rattle.span_tracing_skeleton.specs.declared.call.Step.{Step}

abbrev pub plain_lane : PlainStep → Option ℕ
plain_lane (GlobalStep handle) = None
plain_lane (EventStep e) = Some e.lane
plain_lane (EnabledStep call) = Some call.lane
plain_lane (SpanStep n) = Some n.lane
plain_lane (RecordStep r) = Some r.lane
plain_lane (FollowsFromStep call) = Some call.lane
plain_lane (EnterStep call) = Some call.lane
plain_lane (ExitStep call) = Some call.lane
plain_lane (CloneStep call) = Some call.lane
plain_lane (CloseStep call) = Some call.lane
plain_lane (DefaultStep call) = Some call.lane
plain_lane (ResetStep call) = Some call.lane
plain_lane (CloneHandleStep handle) = None
plain_lane (ReleaseStep handle) = None
plain_lane (SetStep call) = None

-- the lane that a step names, where it names one
abbrev pub lane_of : AnyStep → Option ℕ
lane_of (OfTrace step) = plain_lane step
lane_of (OfQueue ask) = None

-- a step with a lane names this one
abbrev pub IsOfLane : ℕ → AnyStep → Type 0
IsOfLane lane step = IfSome (lane_of step) (λ named. named ≡ lane)

-- each of the steps that has a lane names this one
abbrev pub AreOfLane : ℕ → List Step → Type 0
AreOfLane lane steps = All (λ (s : Step). IsOfLane lane (any_step s)) steps
