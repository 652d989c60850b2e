-- The mask of a step: what the filters of the outputs of the reached stack answered of the callsite, one for each output, in order.
use Rattle.std.specs.Prelude.{◌≡◌, ℕ, Bool, true, false, List, [], Option, Some, None}
use Rattle.tracing_core_fields.specs.PlainMetadata.{PlainMetadata}
use Rattle.tracing_core_moments.specs.declared.at.At.{At}
use Rattle.span_registry_layers_layers.specs.declared.filter.Filter.{Ghosts as FilterGhosts}
use Rattle.span_registry_layers.specs.OutputSlots.{Afresh, marks_of}
use Rattle.span_tracing_outputs.specs.TraceFollows.{EachAnswers}
use Rattle.span_tracing_outputs.specs.TraceStacks.{TraceStackValue}
use Rattle.span_tracing_skeleton.specs.Looking.{known, named, reach}
use Rattle.span_tracing_skeleton.specs.PlainData.{PlainStep, GlobalStep, EventStep, EnabledStep, SpanStep, RecordStep, FollowsFromStep}
use Rattle.span_tracing_skeleton.specs.PlainData.{EnterStep, ExitStep, CloneStep, CloseStep, DefaultStep, ResetStep, CloneHandleStep}
use Rattle.span_tracing_skeleton.specs.PlainData.{ReleaseStep, SetStep}
use Rattle.span_tracing_skeleton.specs.Skeleton.{Skeleton}
use Rattle.span_tracing_skeleton.specs.declared.call.Reply.{Reply}
use Rattle.span_tracing_skeleton.specs.declared.call.Reply.TheVariants.{Done, Enabled, Span, Closed, Handle, Guard, Worked, Refused}
use Rattle.span_tracing_steps.specs.States.{held_in}
use Rattle.span_tracing_steps.specs.StackRequests.{place_at}
use Rattle.span_tracing_laws.specs.runs.StepFollows.{Traced, skeleton_of}

-- the stack whose outputs' filters a step asks: that which the lane of an event, a question or a new span reaches
abbrev pub asked_stack : Skeleton → PlainStep → Option ℕ
asked_stack s (GlobalStep handle) = None
asked_stack s (EventStep e) = reach s e.lane
asked_stack s (EnabledStep call) = reach s call.lane
asked_stack s (SpanStep q) = reach s q.lane
asked_stack s (RecordStep r) = None
asked_stack s (FollowsFromStep call) = None
asked_stack s (EnterStep call) = None
asked_stack s (ExitStep call) = None
asked_stack s (CloneStep call) = None
asked_stack s (CloseStep call) = None
asked_stack s (DefaultStep call) = None
asked_stack s (ResetStep call) = None
asked_stack s (CloneHandleStep handle) = None
asked_stack s (ReleaseStep handle) = None
asked_stack s (SetStep call) = None

-- a refused step has none
abbrev pub unless_refused : Reply → List Bool → List Bool
unless_refused Done mask = mask
unless_refused (Enabled wanted) mask = mask
unless_refused (Span name) mask = mask
unless_refused (Closed closed) mask = mask
unless_refused (Handle handle) mask = mask
unless_refused (Guard guard) mask = mask
unless_refused (Worked lines) mask = mask
unless_refused (Refused refusal) mask = []

module _ {N E F S : Type 0} where
  -- what the outputs' filters are marked to have answered last
  abbrev pub marks_in : Option (TraceStackValue N E F S) → List Bool
  marks_in None = []
  marks_in (Some x) = marks_of x.stack.rows

  -- in the stack with a number, where somebody holds it
  abbrev pub marks_at : Option ℕ → Traced N E F S → List Bool
  marks_at None w = []
  marks_at (Some stack) w = marks_in (held_in w stack)

  -- of a step: the marks that it left in the stack that it asked
  abbrev pub mask_of : Traced N E F S → PlainStep → Reply → Traced N E F S → List Bool
  mask_of v step reply w = unless_refused reply (marks_at (asked_stack (skeleton_of v) step) w)

-- a refused step has no mask, and any other one that answers so
abbrev pub MaskIf : Reply → (List Bool → Type 0) → List Bool → Type 0
MaskIf Done answers mask = answers mask
MaskIf (Enabled wanted) answers mask = answers mask
MaskIf (Span name) answers mask = answers mask
MaskIf (Closed closed) answers mask = answers mask
MaskIf (Handle handle) answers mask = answers mask
MaskIf (Guard guard) answers mask = answers mask
MaskIf (Worked lines) answers mask = answers mask
MaskIf (Refused refusal) answers mask = mask ≡ []

-- where no stack is reached, no filter is asked
abbrev pub MaskWhere : Option ℕ → Option PlainMetadata → (ℕ → PlainMetadata → List Bool → Type 0) → List Bool → Type 0
MaskWhere None callsite answers mask = mask ≡ []
MaskWhere (Some stack) None answers mask = mask ≡ []
MaskWhere (Some stack) (Some m) answers mask = answers stack m mask

module _ {N E F S : Type 0} (g : FilterGhosts F) where
  -- the filter of each output of a stack, asked again, answers so of a callsite, there and then
  abbrev pub AnswerMask : Option (TraceStackValue N E F S) → PlainMetadata → At → List Bool → Type 0
  AnswerMask None m at mask = mask ≡ []
  AnswerMask (Some x) m at mask = EachAnswers (Afresh g) m at x.stack.registry x.stack.rows mask

  -- so do those of the stack that is reached, of an event, a question and a new span; of any other step none is asked
  abbrev pub StepMask : Traced N E F S → PlainStep → List Bool → Type 0
  StepMask v (GlobalStep handle) mask = mask ≡ []
  StepMask v (EventStep e) mask = MaskWhere (reach (skeleton_of v) e.lane) (known (skeleton_of v) e.callsite false)
      (λ stack m bs. AnswerMask (held_in v stack) m (place_at e.lane e.moment) bs) mask
  StepMask v (EnabledStep call) mask = MaskWhere (reach (skeleton_of v) call.lane) (named (skeleton_of v).callsites call.callsite.0)
      (λ stack m bs. AnswerMask (held_in v stack) m (place_at call.lane call.moment) bs) mask
  StepMask v (SpanStep q) mask = MaskWhere (reach (skeleton_of v) q.lane) (known (skeleton_of v) q.callsite true)
      (λ stack m bs. AnswerMask (held_in v stack) m (place_at q.lane q.moment) bs) mask
  StepMask v (RecordStep r) mask = mask ≡ []
  StepMask v (FollowsFromStep call) mask = mask ≡ []
  StepMask v (EnterStep call) mask = mask ≡ []
  StepMask v (ExitStep call) mask = mask ≡ []
  StepMask v (CloneStep call) mask = mask ≡ []
  StepMask v (CloseStep call) mask = mask ≡ []
  StepMask v (DefaultStep call) mask = mask ≡ []
  StepMask v (ResetStep call) mask = mask ≡ []
  StepMask v (CloneHandleStep handle) mask = mask ≡ []
  StepMask v (ReleaseStep handle) mask = mask ≡ []
  StepMask v (SetStep call) mask = mask ≡ []

  abbrev pub IsMask : Traced N E F S → PlainStep → Reply → List Bool → Type 0
  IsMask v step reply mask = MaskIf reply (StepMask v step) mask
