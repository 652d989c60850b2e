-- The marks that a step leaves are what the filters answered.
use Rattle.std.proofs.Common.{◌≡◌, ℕ, Bool, true, false, List, [], Option, Some, None, Ok, Err, refl, sym, ap, ◌∙◌, subst}
use Rattle.tracing_core_fields.specs.PlainMetadata.{PlainMetadata}
use Rattle.tracing_core_fields.specs.requests.Calls.{Call, ReplyTo, Asked, SpanMade, EventDispatched}
use Rattle.tracing_core_fields.specs.requests.PlainRequests.{PlainEvent}
use Rattle.tracing_core_moments.specs.declared.at.At.{At}
use Rattle.tracing_core_fields.specs.declared.requests.refusal.RequestError.{RequestError}
use Rattle.tracing_core_fields.specs.declared.requests.refusal.RequestError.TheVariants as errors
use Rattle.tracing_core_fields.specs.declared.requests.subscriber.Subscriber.{Ghosts as SubscriberGhosts}
use Rattle.span_registry_layers_layers.specs.declared.filter.Filter.{Ghosts as FilterGhosts}
use Rattle.span_registry_layers_layers.specs.declared.layer.Layer.{Ghosts as LayerGhosts}
use Rattle.span_registry_layers.specs.OutputSlots.{Afresh, marks_of}
use Rattle.span_registry_layers.specs.Questions.{cleared_passes}
use Rattle.event_formatter_text.specs.declared.format_fields.FormatFields.{Ghosts}
use Rattle.event_formatter_text.specs.declared.settings.Settings.{Settings}
use Rattle.event_formatter.specs.formats.Contexts.{PlainContext}
use Rattle.span_tracing_outputs.specs.OutputMachines.{PlainLine}
use Rattle.span_tracing_outputs.specs.OutputSettings.{stack_set}
use Rattle.span_tracing_outputs.specs.StackFollows.{LinedStack}
use Rattle.span_tracing_outputs.specs.TraceFollows.{EachAnswers, EventIf, TraceFollows, some_passes}
use Rattle.span_tracing_outputs.specs.TraceStacks.{TraceMoves, TraceStackValue}
use Rattle.span_tracing_outputs.specs.Turns.{Lines}
use Rattle.span_tracing_outputs.proofs.MarkedRows.{answer_again, asked_answer, refused_answer}
use Rattle.span_tracing_skeleton.specs.Looking.{known, named, reach}
use Rattle.span_tracing_skeleton.specs.Order.{refusal_of}
use Rattle.span_tracing_skeleton.specs.PlainData.{PlainStep, Request, GlobalStep, EventStep, EnabledStep, SpanStep, RecordStep}
use Rattle.span_tracing_skeleton.specs.PlainData.{FollowsFromStep, EnterStep, ExitStep, CloneStep, CloseStep, DefaultStep, ResetStep}
use Rattle.span_tracing_skeleton.specs.PlainData.{CloneHandleStep, ReleaseStep, SetStep}
use Rattle.span_tracing_skeleton.specs.declared.call.EnabledCall.{EnabledCall}
use Rattle.span_tracing_skeleton.specs.declared.call.Reply.{Reply}
use Rattle.span_tracing_skeleton.specs.declared.call.Reply.TheVariants.{Done, Enabled, Span, Closed, Handle, Guard, Worked, Refused}
use Rattle.span_tracing_skeleton.specs.declared.refusal.Refusal.{Refusal}
use Rattle.span_tracing_skeleton.specs.declared.refusal.Refusal.TheVariants as refusals
use Rattle.span_tracing_steps.specs.StackRequests.{place_at, request_of}
use Rattle.span_tracing_steps.specs.States.{held_in}
use Rattle.span_tracing_steps.specs.Steps.{EventGoes, QuestionGoes, SpanGoes, StepGives, StepGoes, StepUnless, becoming, span_reply}
use Rattle.span_tracing_laws.specs.runs.StepFollows.{TraceIsReady, Traced, registry_of, skeleton_of}
use Rattle.span_tracing_laws.specs.runs.StepMasks.{AnswerMask, IsMask, MaskIf, MaskWhere, StepMask, asked_stack, marks_at, marks_in}
use Rattle.span_tracing_laws.specs.runs.StepMasks.{mask_of, unless_refused}
use Rattle.span_tracing_laws.proofs.runs.HubStacks.{became_own, registry_there}
use Rattle.span_tracing_laws.proofs.runs.RequestSteps.{called}
use Rattle.span_tracing_laws.proofs.runs.StepOutcomes.{parent_passed, reached_there}
use Rattle.span_tracing_laws.proofs.runs.UnrefusedSteps.{parent_known}

-- a mask that is answered so is it also where the step is refused, and has none
pub by_reply : (reply : Reply) (answers : List Bool → Type 0) (mask : List Bool) → answers mask →
    MaskIf reply answers (unless_refused reply mask)
by_reply Done answers mask is = is
by_reply (Enabled wanted) answers mask is = is
by_reply (Span name) answers mask is = is
by_reply (Closed closed) answers mask is = is
by_reply (Handle handle) answers mask is = is
by_reply (Guard guard) answers mask is = is
by_reply (Worked lines) answers mask is = is
by_reply (Refused refusal) answers mask is = refl

pub by_refusal : (reply : Reply) (answers : List Bool → Type 0) (mask : List Bool) (refusal : Refusal) → reply ≡ Refused refusal →
    MaskIf reply answers (unless_refused reply mask)
by_refusal reply answers mask refusal is = subst (λ r. MaskIf r answers (unless_refused r mask)) (sym is) refl

-- a span that finds an error is refused
span_error : (stack : ℕ) (e : RequestError) → (refusal : Refusal) × (span_reply stack (Err e) ≡ Refused refusal)
span_error stack errors.IdsSpent = (refusals.IdsSpent, refl)
span_error stack errors.OutOfMemory = (refusals.OutOfMemory, refl)
span_error stack errors.UnknownSpan = (refusals.OutOfMemory, refl)
span_error stack errors.UnknownParent = (refusals.OutOfMemory, refl)
span_error stack errors.TooManyHandles = (refusals.OutOfMemory, refl)

module _ {N E F S : Type 0} (n : Ghosts N) (line_of : E → Settings → PlainContext → PlainEvent → Option (List ℕ)) (g : FilterGhosts F)
    (takes : S → At → PlainLine → S → Type 0) (h : LayerGhosts (Lines N E)) (sg : SubscriberGhosts (TraceStackValue N E F S))
    (moved : (x : TraceStackValue N E F S) (c : Call) (r : ReplyTo c) (y : TraceStackValue N E F S) → sg.moves x c r y →
    TraceMoves g h takes x c r y) (law : TraceFollows n line_of g takes h) where
  abbrev Stack : Type 0
  Stack = TraceStackValue N E F S

  held_after : (v w : Traced N E F S) (stack : ℕ) (x y : Stack) → held_in v stack ≡ Some x → w ≡ becoming stack y v →
      held_in w stack ≡ Some y
  held_after v w stack x y there is = ap (λ (u : Traced N E F S). held_in u stack) is ∙ became_own stack y v.hub.subscribers x there

  -- the marks of a stack are what its filters answered
  by_marks : (v w : Traced N E F S) (stack : ℕ) (x y : Stack) (m : PlainMetadata) (here : At) → held_in v stack ≡ Some x →
      w ≡ becoming stack y v → EachAnswers (Afresh g) m here x.stack.registry x.stack.rows (marks_of y.stack.rows) →
      AnswerMask g (held_in v stack) m here (marks_in (held_in w stack))
  by_marks v w stack x y m here there is answers =
      subst (λ (o : Option Stack). AnswerMask g o m here (marks_in (held_in w stack))) (sym there)
      (subst (λ (o : Option Stack). AnswerMask g (Some x) m here (marks_in o)) (sym (held_after v w stack x y there is)) answers)

  event_mask : (v : Traced N E F S) (e : Request) (w : Traced N E F S) (o : Option ℕ) (k : Option PlainMetadata) →
      reach (skeleton_of v) e.lane ≡ o → TraceIsReady g h v → refusal_of (skeleton_of v) (EventStep e) ≡ None → EventGoes sg o k v e w →
      MaskWhere o k (λ stack m bs. AnswerMask g (held_in v stack) m (place_at e.lane e.moment) bs) (marks_at o w)
  event_mask v e w None k at ready none goes = refl
  event_mask v e w (Some stack) None at ready none goes = absurd goes
  event_mask v e w (Some stack) (Some m) at ready none goes =
      let s = skeleton_of v in
      let here = place_at e.lane e.moment in
      let q = request_of m e in
      let (x, there) = reached_there n line_of g takes h v e.lane stack at in
      let home = registry_there registry_of v stack x there in
      let call = called n line_of g takes h sg moved law stack x (EventDispatched q here) goes.0 v w ready there goes.1 in
      let parent = parent_passed n line_of g takes h s e.lane e.moment (known s e.callsite false) e.parent none in
      let told = (subst (λ (b : Bool). EventIf n line_of g takes b q here x goes.0 call.0)
      (parent_known s x.stack.registry e.lane stack e.parent at home parent) call.1).1 in
      by_marks v w stack x call.0 m here there call.2
      (subst (EachAnswers (Afresh g) m here x.stack.registry x.stack.rows) (sym told.4)
      (asked_answer g q here x.stack.registry x.stack.rows told.0 told.1 told.2))

  question_mask : (v : Traced N E F S) (ask : EnabledCall) (reply : Reply) (w : Traced N E F S) (o : Option ℕ) (k : Option PlainMetadata) →
      reach (skeleton_of v) ask.lane ≡ o → TraceIsReady g h v → QuestionGoes sg o k v ask reply w →
      MaskWhere o k (λ stack m bs. AnswerMask g (held_in v stack) m (place_at ask.lane ask.moment) bs) (marks_at o w)
  question_mask v ask reply w None k at ready goes = refl
  question_mask v ask reply w (Some stack) None at ready goes = absurd goes
  question_mask v ask reply w (Some stack) (Some m) at ready goes =
      let here = place_at ask.lane ask.moment in
      let (x, there) = reached_there n line_of g takes h v ask.lane stack at in
      let call = called n line_of g takes h sg moved law stack x (Asked m here) goes.0 v w ready there goes.1 in
      by_marks v w stack x call.0 m here there call.2 call.1.0

  span_mask : (v : Traced N E F S) (q : Request) (reply : Reply) (w : Traced N E F S) (o : Option ℕ) (k : Option PlainMetadata) →
      reach (skeleton_of v) q.lane ≡ o → TraceIsReady g h v → SpanGoes sg o k v q reply w →
      MaskIf reply (MaskWhere o k (λ stack m bs. AnswerMask g (held_in v stack) m (place_at q.lane q.moment) bs))
      (unless_refused reply (marks_at o w))
  span_mask v q reply w None k at ready goes =
      by_reply reply (MaskWhere None k (λ stack m bs. AnswerMask g (held_in v stack) m (place_at q.lane q.moment) bs)) [] refl
  span_mask v q reply w (Some stack) None at ready goes = absurd goes
  span_mask v q reply w (Some stack) (Some m) at ready (Err error, goes, told) =
      let (refusal, is) = span_error stack error in
      by_refusal reply (λ bs. AnswerMask g (held_in v stack) m (place_at q.lane q.moment) bs) (marks_in (held_in w stack)) refusal
      (told ∙ is)
  span_mask v q reply w (Some stack) (Some m) at ready (Ok None, goes, told) =
      let here = place_at q.lane q.moment in
      let (x, there) = reached_there n line_of g takes h v q.lane stack at in
      let call = called n line_of g takes h sg moved law stack x (SpanMade (request_of m q) here) (Ok None) v w ready there goes in
      by_reply reply (λ bs. AnswerMask g (held_in v stack) m here bs) (marks_in (held_in w stack))
      (by_marks v w stack x call.0 m here there call.2
      (subst (EachAnswers (Afresh g) m here x.stack.registry x.stack.rows)
      (sym (ap (λ (z : LinedStack N E F). marks_of z.rows) call.1.2))
      (refused_answer g m here x.stack.registry x.stack.rows call.1.1)))
  span_mask v q reply w (Some stack) (Some m) at ready (Ok (Some id), goes, told) =
      let here = place_at q.lane q.moment in
      let (x, there) = reached_there n line_of g takes h v q.lane stack at in
      let call = called n line_of g takes h sg moved law stack x (SpanMade (request_of m q) here) (Ok (Some id)) v w ready there goes in
      by_reply reply (λ bs. AnswerMask g (held_in v stack) m here bs) (marks_in (held_in w stack))
      (by_marks v w stack x call.0 m here there call.2
      (subst (EachAnswers (Afresh g) m here x.stack.registry x.stack.rows) (sym call.1.7)
      (answer_again g m here x.stack.registry x.stack.rows call.1.0 call.1.1)))

  -- a step that isn't refused by reading
  goes_mask : (v : Traced N E F S) (step : PlainStep) (reply : Reply) (w : Traced N E F S) → TraceIsReady g h v →
      refusal_of (skeleton_of v) step ≡ None → StepGoes sg registry_of stack_set v step reply w →
      IsMask g v step reply (mask_of v step reply w)
  goes_mask v (GlobalStep handle) reply w ready none goes = by_reply reply (StepMask g v (GlobalStep handle)) [] refl
  goes_mask v (EventStep e) reply w ready none goes =
      by_reply reply (StepMask g v (EventStep e)) (marks_at (reach (skeleton_of v) e.lane) w)
      (event_mask v e w (reach (skeleton_of v) e.lane) (known (skeleton_of v) e.callsite false) refl ready none goes.1)
  goes_mask v (EnabledStep ask) reply w ready none goes =
      by_reply reply (StepMask g v (EnabledStep ask)) (marks_at (reach (skeleton_of v) ask.lane) w)
      (question_mask v ask reply w (reach (skeleton_of v) ask.lane) (named (skeleton_of v).callsites ask.callsite.0) refl ready goes)
  goes_mask v (SpanStep q) reply w ready none goes =
      span_mask v q reply w (reach (skeleton_of v) q.lane) (known (skeleton_of v) q.callsite true) refl ready goes
  goes_mask v (RecordStep r) reply w ready none goes = by_reply reply (StepMask g v (RecordStep r)) [] refl
  goes_mask v (FollowsFromStep ask) reply w ready none goes = by_reply reply (StepMask g v (FollowsFromStep ask)) [] refl
  goes_mask v (EnterStep ask) reply w ready none goes = by_reply reply (StepMask g v (EnterStep ask)) [] refl
  goes_mask v (ExitStep ask) reply w ready none goes = by_reply reply (StepMask g v (ExitStep ask)) [] refl
  goes_mask v (CloneStep ask) reply w ready none goes = by_reply reply (StepMask g v (CloneStep ask)) [] refl
  goes_mask v (CloseStep ask) reply w ready none goes = by_reply reply (StepMask g v (CloseStep ask)) [] refl
  goes_mask v (DefaultStep ask) reply w ready none goes = by_reply reply (StepMask g v (DefaultStep ask)) [] refl
  goes_mask v (ResetStep ask) reply w ready none goes = by_reply reply (StepMask g v (ResetStep ask)) [] refl
  goes_mask v (CloneHandleStep handle) reply w ready none goes = by_reply reply (StepMask g v (CloneHandleStep handle)) [] refl
  goes_mask v (ReleaseStep handle) reply w ready none goes = by_reply reply (StepMask g v (ReleaseStep handle)) [] refl
  goes_mask v (SetStep ask) reply w ready none goes = by_reply reply (StepMask g v (SetStep ask)) [] refl

  mask_unless : (o : Option Refusal) (v : Traced N E F S) (step : PlainStep) (reply : Reply) (w : Traced N E F S) →
      refusal_of (skeleton_of v) step ≡ o → TraceIsReady g h v → StepUnless sg registry_of stack_set o v step reply w →
      IsMask g v step reply (mask_of v step reply w)
  mask_unless None v step reply w is ready goes = goes_mask v step reply w ready is goes
  mask_unless (Some refusal) v step reply w is ready goes =
      by_refusal reply (StepMask g v step) (marks_at (asked_stack (skeleton_of v) step) w) refusal goes.0

  pub step_masked : (v : Traced N E F S) (step : PlainStep) (reply : Reply) (w : Traced N E F S) → TraceIsReady g h v →
      StepGives sg registry_of stack_set v step reply w → IsMask g v step reply (mask_of v step reply w)
  step_masked v step reply w ready goes = mask_unless (refusal_of (skeleton_of v) step) v step reply w refl ready goes

  -- a question is answered by whether some mark is left
  question_by : (v : Traced N E F S) (ask : EnabledCall) (b : Bool) (w : Traced N E F S) (o : Option ℕ) (k : Option PlainMetadata) →
      reach (skeleton_of v) ask.lane ≡ o → TraceIsReady g h v → QuestionGoes sg o k v ask (Enabled b) w → some_passes (marks_at o w) ≡ b
  question_by v ask b w None k at ready goes = let told : Enabled b ≡ Enabled false = goes.0 in cc
  question_by v ask b w (Some stack) None at ready goes = absurd goes
  question_by v ask b w (Some stack) (Some m) at ready goes =
      let here = place_at ask.lane ask.moment in
      let (x, there) = reached_there n line_of g takes h v ask.lane stack at in
      let call = called n line_of g takes h sg moved law stack x (Asked m here) goes.0 v w ready there goes.1 in
      let told : Enabled b ≡ Enabled goes.0 = goes.2 in
      let same : goes.0 ≡ b = cc in
      ap (λ (o : Option Stack). some_passes (marks_in o)) (held_after v w stack x call.0 there call.2) ∙ (sym call.1.1 ∙ same)

  question_unless : (o : Option Refusal) (v : Traced N E F S) (ask : EnabledCall) (b : Bool) (w : Traced N E F S) → TraceIsReady g h v →
      StepUnless sg registry_of stack_set o v (EnabledStep ask) (Enabled b) w → some_passes (marks_at (reach (skeleton_of v) ask.lane) w) ≡ b
  question_unless None v ask b w ready goes =
      question_by v ask b w (reach (skeleton_of v) ask.lane) (named (skeleton_of v).callsites ask.callsite.0) refl ready goes
  question_unless (Some refusal) v ask b w ready goes = let never : Enabled b ≡ Refused refusal = goes.0 in absurd (cc)

  pub question_wanted : (v : Traced N E F S) (ask : EnabledCall) (b : Bool) (w : Traced N E F S) → TraceIsReady g h v →
      StepGives sg registry_of stack_set v (EnabledStep ask) (Enabled b) w → some_passes (marks_at (reach (skeleton_of v) ask.lane) w) ≡ b
  question_wanted v ask b w ready goes = question_unless (refusal_of (skeleton_of v) (EnabledStep ask)) v ask b w ready goes

  -- a span is dropped where no mark is left
  dropped_by : (v : Traced N E F S) (q : Request) (w : Traced N E F S) (o : Option ℕ) (k : Option PlainMetadata) →
      reach (skeleton_of v) q.lane ≡ o → TraceIsReady g h v → SpanGoes sg o k v q (Span None) w → some_passes (marks_at o w) ≡ false
  dropped_by v q w None k at ready goes = refl
  dropped_by v q w (Some stack) None at ready goes = absurd goes
  dropped_by v q w (Some stack) (Some m) at ready (Err error, goes, told) =
      let (refusal, is) = span_error stack error in
      let never : Span None ≡ Refused refusal = told ∙ is in absurd (cc)
  dropped_by v q w (Some stack) (Some m) at ready (Ok None, goes, told) =
      let here = place_at q.lane q.moment in
      let (x, there) = reached_there n line_of g takes h v q.lane stack at in
      let call = called n line_of g takes h sg moved law stack x (SpanMade (request_of m q) here) (Ok None) v w ready there goes in
      ap (λ (o : Option Stack). some_passes (marks_in o)) (held_after v w stack x call.0 there call.2)
      ∙ (ap (λ (z : LinedStack N E F). some_passes (marks_of z.rows)) call.1.2 ∙ cleared_passes x.stack.rows)
  dropped_by v q w (Some stack) (Some m) at ready (Ok (Some id), goes, told) =
      let never : Span None ≡ span_reply stack (Ok (Some id)) = told in absurd (cc)

  dropped_unless : (o : Option Refusal) (v : Traced N E F S) (q : Request) (w : Traced N E F S) → TraceIsReady g h v →
      StepUnless sg registry_of stack_set o v (SpanStep q) (Span None) w → some_passes (marks_at (reach (skeleton_of v) q.lane) w) ≡ false
  dropped_unless None v q w ready goes =
      dropped_by v q w (reach (skeleton_of v) q.lane) (known (skeleton_of v) q.callsite true) refl ready goes
  dropped_unless (Some refusal) v q w ready goes = let never : Span None ≡ Refused refusal = goes.0 in absurd (cc)

  pub span_dropped : (v : Traced N E F S) (q : Request) (w : Traced N E F S) → TraceIsReady g h v →
      StepGives sg registry_of stack_set v (SpanStep q) (Span None) w → some_passes (marks_at (reach (skeleton_of v) q.lane) w) ≡ false
  span_dropped v q w ready goes = dropped_unless (refusal_of (skeleton_of v) (SpanStep q)) v q w ready goes
