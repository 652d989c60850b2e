-- A trace that carries out a step does what the machine on skeletons does with the step's mask.
use Rattle.std.proofs.Common.{◌≡◌, ◌≤◌, ◌⊎◌, length, IfSome, inl, inr, ℕ, Bool, true, false, List, [], Option, Some, None, refl, sym, ap, subst, ◌∙◌}
use Rattle.tracing_core_fields.specs.requests.PlainRequests.{PlainEvent}
use Rattle.tracing_core_fields.specs.declared.requests.subscriber.Subscriber.{Ghosts as SubscriberGhosts}
use Rattle.tracing_core_moments.specs.declared.at.At.{At}
use Rattle.tracing_appender_rolling.specs.folders.Contents.{Contents}
use Rattle.span_registry_layers_layers.specs.declared.filter.Filter.{Ghosts as FilterGhosts}
use Rattle.span_registry_layers_layers.specs.declared.layer.Layer.{Ghosts as LayerGhosts}
use Rattle.event_formatter_text.specs.declared.format_fields.FormatFields.{Ghosts}
use Rattle.event_formatter_text.specs.declared.settings.Settings.{Settings}
use Rattle.event_formatter.specs.formats.Contexts.{PlainContext}
use Rattle.span_tracing_outputs.specs.OutputMachines.{PlainLine}
use Rattle.span_tracing_outputs.specs.OutputSettings.{stack_set}
use Rattle.span_tracing_outputs.specs.TraceStacks.{TraceStackValue}
use Rattle.span_tracing_outputs.specs.Turns.{Lines}
use Rattle.span_tracing_outputs.specs.sinks.Routed.{Routed}
use Rattle.span_tracing_outputs.specs.sinks.SinkCalls.{CallsIn, outputs_hold}
use Rattle.span_tracing_outputs.specs.declared.sinks.any_sink.AnySink.{AnySink}
use Rattle.span_tracing_outputs.proofs.OutputNumbers.{few_rows}
use Rattle.span_tracing_skeleton.specs.Looking.{reach}
use Rattle.span_tracing_skeleton.specs.Machine.{after, is_wanted, new_name, or_refused, reply_of}
use Rattle.span_tracing_skeleton.specs.Order.{refusal_of}
use Rattle.span_tracing_skeleton.specs.PlainData.{AnyStep, OfQueue, OfTrace, PlainStep, Request, GlobalStep, EventStep, EnabledStep}
use Rattle.span_tracing_skeleton.specs.PlainData.{SpanStep, RecordStep, FollowsFromStep, EnterStep, ExitStep, CloneStep, CloseStep}
use Rattle.span_tracing_skeleton.specs.PlainData.{DefaultStep, ResetStep, CloneHandleStep, ReleaseStep, SetStep}
use Rattle.span_tracing_skeleton.specs.Skeleton.{Skeleton, Answers, Unasked, Wanted, Dropped, Passed, Heard}
use Rattle.span_tracing_skeleton.specs.declared.call.EnabledCall.{EnabledCall}
use Rattle.span_tracing_skeleton.specs.declared.call.Reply.{Reply}
use Rattle.span_tracing_skeleton.specs.declared.call.Reply.TheVariants.{Done, Enabled, Span, Closed, Handle, Guard, Worked, Refused}
use Rattle.span_tracing_skeleton.specs.declared.call.SpanName.{SpanName}
use Rattle.span_tracing_skeleton.specs.declared.queue_call.SinkCall.{SinkCall}
use Rattle.span_tracing_skeleton.specs.declared.refusal.Refusal.{Refusal}
use Rattle.span_tracing_skeleton.specs.declared.refusal.Refusal.TheVariants.{Busy}
use Rattle.span_tracing_shared.specs.Journals.{counts, left_by, made_by_mask, next_by, reply_by, reply_if, some_pass}
use Rattle.span_tracing_shared.specs.Masks.{Shows, ShowsSpan}
use Rattle.span_tracing_shared.proofs.MachineReplies.{reply_counts}
use Rattle.span_tracing_shared.proofs.Masks.{SameByMask, mask_shows}
use Rattle.span_tracing_steps.specs.SinkCalls.{DriveGives}
use Rattle.span_tracing_steps.specs.Steps.{StepGives}
use Rattle.span_tracing_steps.specs.States.{held_in}
use Rattle.span_tracing_laws.specs.runs.AnySteps.{AnyFollows}
use Rattle.span_tracing_laws.specs.runs.DrivenSinks.{drives}
use Rattle.span_tracing_laws.specs.runs.Files.{FileTrace}
use Rattle.span_tracing_laws.specs.runs.Laws.{StepsFollow}
use Rattle.span_tracing_laws.specs.runs.SpanMasks.{read_of, seen_of}
use Rattle.span_tracing_laws.specs.runs.StepMasks.{MaskIf, StepMask, asked_stack, marks_at, marks_in, unless_refused}
use Rattle.span_tracing_laws.specs.runs.StepMasks.{mask_of as step_mask}
use Rattle.span_tracing_laws.specs.runs.StepFollows.{FindsNoMemory, FollowsStep, IsAnswered, TraceIsReady, Traced, registry_of, skeleton_of}
use Rattle.span_tracing.specs.CarriedSteps.{FitsMask, IsMaskOf, asked_by, mask_of}
use Rattle.span_tracing.specs.Ready.{FileStepGives}
use Rattle.span_tracing.proofs.QueueReplies.{driven_told}

-- what decides replies is as the machine leaves it, and the reply is the machine's, where the step counts
pub record Carried (s : Skeleton) (step : AnyStep) (reply : Reply) (mask : List Bool) (t : Skeleton) : Type 0 where
  pub left : t ≡ next_by (counts reply) s step mask
  pub replied : reply ≡ reply_if (counts reply) s step mask reply

-- a refused step has no mask
by_refusal : (reply : Reply) (answers : List Bool → Type 0) (mask : List Bool) (refusal : Refusal) → reply ≡ Refused refusal →
    MaskIf reply answers (unless_refused reply mask)
by_refusal reply answers mask refusal is = subst (λ r. MaskIf r answers (unless_refused r mask)) (sym is) refl

-- a step that doesn't count changes nothing
pub uncounted : (s : Skeleton) (step : AnyStep) (reply : Reply) (mask : List Bool) (t : Skeleton) → counts reply ≡ false → t ≡ s →
    Carried s step reply mask t
uncounted s step reply mask t not_counted same = record {
  left = rw not_counted same;
  replied = rw not_counted refl;
}

-- one that counts
counted : (s : Skeleton) (step : AnyStep) (reply : Reply) (mask : List Bool) (t : Skeleton) → counts reply ≡ true →
    t ≡ left_by s step mask → reply ≡ reply_by s step mask reply → Carried s step reply mask t
counted s step reply mask t is left replied = record { left = rw is left; replied = rw is replied }

machine_counts : (s : Skeleton) (step : PlainStep) (a : Answers) (reply : Reply) → reply ≡ reply_of s step a → counts reply ≡ true
machine_counts s step a reply replied = ap counts replied ∙ reply_counts s step a

-- by a mask with which the machine does the same
by_mask : (s : Skeleton) (step : PlainStep) (a : Answers) (reply : Reply) (mask : List Bool) (t : Skeleton) →
    reply ≡ reply_of s step a → t ≡ after s step a → SameByMask s step a mask → Carried s (OfTrace step) reply mask t
by_mask s step a reply mask t replied left same =
    counted s (OfTrace step) reply mask t (machine_counts s step a reply replied) (left ∙ sym same.left) (replied ∙ sym same.replied)

-- by the answers that are read off a mask in which some output passes
by_read : (s : Skeleton) (n : Request) (reply : Reply) (seen : List Bool) (t : Skeleton) → some_pass seen ≡ true →
    reply ≡ reply_of s (SpanStep n) (read_of seen) → t ≡ after s (SpanStep n) (read_of seen) →
    Carried s (OfTrace (SpanStep n)) reply seen t
by_read s n reply seen t some replied left =
    let read : made_by_mask (some_pass seen) seen ≡ read_of seen = rw some refl in
    counted s (OfTrace (SpanStep n)) reply seen t (machine_counts s (SpanStep n) (read_of seen) reply replied)
    (left ∙ ap (after s (SpanStep n)) (sym read)) (replied ∙ ap (reply_of s (SpanStep n)) (sym read))

unrefused : (o : Option Refusal) (told : Reply) → o ≡ None → or_refused o told ≡ told
unrefused None told none = refl
unrefused (Some refusal) told none = absurd (cc)

-- the span that a reply names
abbrev told_name : Reply → Option SpanName
told_name Done = None
told_name (Enabled wanted) = None
told_name (Span name) = name
told_name (Closed closed) = None
told_name (Handle handle) = None
told_name (Guard guard) = None
told_name (Worked lines) = None
told_name (Refused refusal) = None

told_is : (reply : Reply) (name : SpanName) → told_name reply ≡ Some name → reply ≡ Span (Some name)
told_is Done name named = absurd (cc)
told_is (Enabled wanted) name named = absurd (cc)
told_is (Span made) name named = ap Span named
told_is (Closed closed) name named = absurd (cc)
told_is (Handle handle) name named = absurd (cc)
told_is (Guard guard) name named = absurd (cc)
told_is (Worked lines) name named = absurd (cc)
told_is (Refused refusal) name named = absurd (cc)

module _ {N E F S : Type 0} (n : Ghosts N) (line_of : E → Settings → PlainContext → PlainEvent → Option (List ℕ)) (g : FilterGhosts F)
    (takes : S → At → PlainLine → S → Type 0) (h : LayerGhosts (Lines N E)) (sg : SubscriberGhosts (TraceStackValue N E F S))
    (law : StepsFollow n line_of g takes h sg) where
  -- of a question some mark is the answer
  question_shown : (v w : Traced N E F S) (call : EnabledCall) (a : Answers) (reply : Reply) → TraceIsReady g h v →
      StepGives sg registry_of stack_set v (EnabledStep call) reply w →
      reply ≡ reply_of (skeleton_of v) (EnabledStep call) a → refusal_of (skeleton_of v) (EnabledStep call) ≡ None →
      Shows (EnabledStep call) a (step_mask v (EnabledStep call) reply w)
  question_shown v w call a reply ready gives replied none =
      let told : reply ≡ Enabled (is_wanted a) =
      replied ∙ unrefused (refusal_of (skeleton_of v) (EnabledStep call)) (Enabled (is_wanted a)) none in
      ap (λ r. some_pass (step_mask v (EnabledStep call) r w)) told ∙
      law.wanted v call (is_wanted a) w ready (subst (λ r. StepGives sg registry_of stack_set v (EnabledStep call) r w) told gives)

  -- where no span was made, no filter passed it
  none_made : (v : Traced N E F S) (q : Request) (a : Answers) (found : Option ℕ) (mask : List Bool) → reach (skeleton_of v) q.lane ≡ found →
      IsAnswered g h v (SpanStep q) a → new_name (skeleton_of v) (reach (skeleton_of v) q.lane) a ≡ None → some_pass mask ≡ false →
      ShowsSpan a mask
  none_made v q Unasked found mask there asked named none = none
  none_made v q (Wanted b) found mask there asked named none = none
  none_made v q Dropped found mask there asked named none = none
  none_made v q (Heard passed told) found mask there asked named none = none
  none_made v q (Passed passed) (Some stack) mask there asked named none =
      let made = ap (λ o. new_name (skeleton_of v) o (Passed passed)) (sym there) ∙ named in absurd (cc)
  none_made v q (Passed passed) None mask there asked named none = absurd (nobody there asked)
    where
      nobody : reach (skeleton_of v) q.lane ≡ None → IsAnswered g h v (SpanStep q) (Passed passed) → ⊥
      nobody none asked = let it : Passed passed ≡ Unasked = rw none at asked in cc

  -- a mask shows what was answered, but for a new span
  shown : (v w : Traced N E F S) (step : PlainStep) (reply : Reply) → TraceIsReady g h v →
      StepGives sg registry_of stack_set v step reply w → (f : FollowsStep n line_of g takes h v step reply w) →
      ((q : Request) → step ≡ SpanStep q → ⊥) → refusal_of (skeleton_of v) step ≡ None → Shows step f.answers (step_mask v step reply w)
  shown v w (GlobalStep handle) reply ready gives f other none = tt
  shown v w (EventStep e) reply ready gives f other none = tt
  shown v w (EnabledStep call) reply ready gives f other none = question_shown v w call f.answers reply ready gives f.replied none
  shown v w (SpanStep q) reply ready gives f other none = absurd (other q refl)
  shown v w (RecordStep r) reply ready gives f other none = tt
  shown v w (FollowsFromStep call) reply ready gives f other none = tt
  shown v w (EnterStep call) reply ready gives f other none = tt
  shown v w (ExitStep call) reply ready gives f other none = tt
  shown v w (CloneStep call) reply ready gives f other none = tt
  shown v w (CloseStep call) reply ready gives f other none = tt
  shown v w (DefaultStep call) reply ready gives f other none = tt
  shown v w (ResetStep call) reply ready gives f other none = tt
  shown v w (CloneHandleStep handle) reply ready gives f other none = tt
  shown v w (ReleaseStep handle) reply ready gives f other none = tt
  shown v w (SetStep call) reply ready gives f other none = tt

  -- of a new span that wasn't made, none passes
  unmade_shown : (v w : Traced N E F S) (q : Request) (reply : Reply) → TraceIsReady g h v →
      StepGives sg registry_of stack_set v (SpanStep q) reply w → (f : FollowsStep n line_of g takes h v (SpanStep q) reply w) →
      told_name reply ≡ None → refusal_of (skeleton_of v) (SpanStep q) ≡ None → ShowsSpan f.answers (step_mask v (SpanStep q) reply w)
  unmade_shown v w q reply ready gives f unnamed none =
      let s = skeleton_of v in
      let name = new_name s (reach s q.lane) f.answers in
      let told : reply ≡ Span name = f.replied ∙ unrefused (refusal_of s (SpanStep q)) (Span name) none in
      let unmade : name ≡ None = ap told_name (sym told) ∙ unnamed in
      let is : reply ≡ Span None = told ∙ ap Span unmade in
      none_made v q f.answers (reach s q.lane) (step_mask v (SpanStep q) reply w) refl (f.asked none) unmade
      (ap (λ r. some_pass (step_mask v (SpanStep q) r w)) is ∙
      law.dropped v q w ready (subst (λ r. StepGives sg registry_of stack_set v (SpanStep q) r w) is gives))

  -- one that was made left marks at the outputs that see it
  made_carried : (v w : Traced N E F S) (q : Request) (name : SpanName) → TraceIsReady g h v →
      StepGives sg registry_of stack_set v (SpanStep q) (Span (Some name)) w →
      Carried (skeleton_of v) (OfTrace (SpanStep q)) (Span (Some name)) (step_mask v (SpanStep q) (Span (Some name)) w) (skeleton_of w)
  made_carried v w q name ready gives =
      let it = law.read v q name w ready gives in
      let same : step_mask v (SpanStep q) (Span (Some name)) w ≡ seen_of it.stack name =
      ap (λ (o : Option ℕ). marks_at o w) it.reached ∙ (ap marks_in it.there ∙ it.marked) in
      subst (λ mask. Carried (skeleton_of v) (OfTrace (SpanStep q)) (Span (Some name)) mask (skeleton_of w)) (sym same)
      (by_read (skeleton_of v) q (Span (Some name)) (seen_of it.stack name) (skeleton_of w) it.some it.replied it.skeleton)

  span_carried : (v w : Traced N E F S) (q : Request) (reply : Reply) (made : Option SpanName) → told_name reply ≡ made →
      TraceIsReady g h v → StepGives sg registry_of stack_set v (SpanStep q) reply w →
      FollowsStep n line_of g takes h v (SpanStep q) reply w →
      Carried (skeleton_of v) (OfTrace (SpanStep q)) reply (step_mask v (SpanStep q) reply w) (skeleton_of w)
  span_carried v w q reply None named ready gives f =
      by_mask (skeleton_of v) (SpanStep q) f.answers reply (step_mask v (SpanStep q) reply w) (skeleton_of w) f.replied f.skeleton
      (mask_shows (skeleton_of v) (SpanStep q) f.answers (step_mask v (SpanStep q) reply w)
      (λ none. unmade_shown v w q reply ready gives f named none))
  span_carried v w q reply (Some name) named ready gives f =
      let same = told_is reply name named in
      subst (λ r. Carried (skeleton_of v) (OfTrace (SpanStep q)) r (step_mask v (SpanStep q) r w) (skeleton_of w)) (sym same)
      (made_carried v w q name ready (subst (λ r. StepGives sg registry_of stack_set v (SpanStep q) r w) same gives))

  other_carried : (v w : Traced N E F S) (step : PlainStep) (reply : Reply) → ((q : Request) → step ≡ SpanStep q → ⊥) →
      TraceIsReady g h v → StepGives sg registry_of stack_set v step reply w → FollowsStep n line_of g takes h v step reply w →
      Carried (skeleton_of v) (OfTrace step) reply (step_mask v step reply w) (skeleton_of w)
  other_carried v w step reply other ready gives f =
      by_mask (skeleton_of v) step f.answers reply (step_mask v step reply w) (skeleton_of w) f.replied f.skeleton
      (mask_shows (skeleton_of v) step f.answers (step_mask v step reply w) (λ none. shown v w step reply ready gives f other none))

  followed : (v w : Traced N E F S) (step : PlainStep) (reply : Reply) → TraceIsReady g h v →
      StepGives sg registry_of stack_set v step reply w → FollowsStep n line_of g takes h v step reply w →
      Carried (skeleton_of v) (OfTrace step) reply (step_mask v step reply w) (skeleton_of w)
  followed v w (GlobalStep handle) reply ready gives f = other_carried v w (GlobalStep handle) reply (λ q e. cc) ready gives f
  followed v w (EventStep e) reply ready gives f = other_carried v w (EventStep e) reply (λ q e. cc) ready gives f
  followed v w (EnabledStep call) reply ready gives f = other_carried v w (EnabledStep call) reply (λ q e. cc) ready gives f
  followed v w (SpanStep q) reply ready gives f = span_carried v w q reply (told_name reply) refl ready gives f
  followed v w (RecordStep r) reply ready gives f = other_carried v w (RecordStep r) reply (λ q e. cc) ready gives f
  followed v w (FollowsFromStep call) reply ready gives f = other_carried v w (FollowsFromStep call) reply (λ q e. cc) ready gives f
  followed v w (EnterStep call) reply ready gives f = other_carried v w (EnterStep call) reply (λ q e. cc) ready gives f
  followed v w (ExitStep call) reply ready gives f = other_carried v w (ExitStep call) reply (λ q e. cc) ready gives f
  followed v w (CloneStep call) reply ready gives f = other_carried v w (CloneStep call) reply (λ q e. cc) ready gives f
  followed v w (CloseStep call) reply ready gives f = other_carried v w (CloseStep call) reply (λ q e. cc) ready gives f
  followed v w (DefaultStep call) reply ready gives f = other_carried v w (DefaultStep call) reply (λ q e. cc) ready gives f
  followed v w (ResetStep call) reply ready gives f = other_carried v w (ResetStep call) reply (λ q e. cc) ready gives f
  followed v w (CloneHandleStep handle) reply ready gives f = other_carried v w (CloneHandleStep handle) reply (λ q e. cc) ready gives f
  followed v w (ReleaseStep handle) reply ready gives f = other_carried v w (ReleaseStep handle) reply (λ q e. cc) ready gives f
  followed v w (SetStep call) reply ready gives f = other_carried v w (SetStep call) reply (λ q e. cc) ready gives f

  -- a step on the trace that hadn't to wait
  pub step_carried : (v w : Traced N E F S) (step : PlainStep) (reply : Reply) → TraceIsReady g h v →
      StepGives sg registry_of stack_set v step reply w →
      Carried (skeleton_of v) (OfTrace step) reply (step_mask v step reply w) (skeleton_of w)
  step_carried v w step reply ready gives = by_outcome (law.each v step reply w ready gives).0
    where
      by_outcome : FollowsStep n line_of g takes h v step reply w ⊎ FindsNoMemory n line_of g takes h v step reply w →
          Carried (skeleton_of v) (OfTrace step) reply (step_mask v step reply w) (skeleton_of w)
      by_outcome (inl f) = followed v w step reply ready gives f
      by_outcome (inr starved) =
          uncounted (skeleton_of v) (OfTrace step) reply (step_mask v step reply w) (skeleton_of w) (ap counts starved.0)
          (ap skeleton_of starved.3)

module _ {N E F S : Type 0} (g : FilterGhosts F) (h : LayerGhosts (Lines N E)) where
  few_in : (w : Traced N E F S) (number : ℕ) (o : Option (TraceStackValue N E F S)) → TraceIsReady g h w → held_in w number ≡ o →
      IfSome o (λ x. length x.stack.rows ≤ 64)
  few_in w number None ready there = tt
  few_in w number (Some x) ready there = few_rows x.stack.rows (ready.stacks number x there).numbers

  -- a stack of a ready trace has no more outputs than a mask
  fits : (w : Traced N E F S) (asked : Option ℕ) → TraceIsReady g h w → FitsMask asked w
  fits w None ready = tt
  fits w (Some stack) ready = few_in w stack (held_in w stack) ready refl

  -- so what is read is the whole mask
  pub mask_is : (v w : Traced N E F S) (step : AnyStep) (reply : Reply) (asked : Option ℕ) (mask : List Bool) → TraceIsReady g h w →
      asked ≡ asked_by (skeleton_of v) step → (FitsMask asked w → mask ≡ unless_refused reply (marks_at asked w)) →
      mask ≡ mask_of v step reply w
  mask_is v w step reply asked mask ready is read =
      read (fits w asked ready) ∙ ap (λ (o : Option ℕ). unless_refused reply (marks_at o w)) is

no_mask : (reply : Reply) → unless_refused reply [] ≡ []
no_mask Done = refl
no_mask (Enabled wanted) = refl
no_mask (Span name) = refl
no_mask (Closed closed) = refl
no_mask (Handle handle) = refl
no_mask (Guard guard) = refl
no_mask (Worked lines) = refl
no_mask (Refused refusal) = refl

module _ {N E F D Q : Type 0} (contents : D → Option Contents) (failed : D → ℕ) (n : Ghosts N) (line_of : E → Settings → PlainContext →
    PlainEvent → Option (List ℕ)) (g : FilterGhosts F) (takes : Routed (AnySink D Q) → At → PlainLine → Routed (AnySink D Q) → Type 0)
    (h : LayerGhosts (Lines N E)) (sg : SubscriberGhosts (TraceStackValue N E F (Routed (AnySink D Q))))
    (law : StepsFollow n line_of g takes h sg) where
  queue_carried : (v w : FileTrace N E F D Q) (ask : SinkCall) (reply : Reply) (is_counted : Bool) → counts reply ≡ is_counted →
      DriveGives (drives (CallsIn contents failed)) v ask.sink ask.call reply w → skeleton_of w ≡ skeleton_of v →
      Carried (skeleton_of v) (OfQueue ask) reply (mask_of v (OfQueue ask) reply w) (skeleton_of w)
  queue_carried v w ask reply false is gives same =
      uncounted (skeleton_of v) (OfQueue ask) reply (mask_of v (OfQueue ask) reply w) (skeleton_of w) is same
  queue_carried v w ask reply true is gives same =
      counted (skeleton_of v) (OfQueue ask) reply (mask_of v (OfQueue ask) reply w) (skeleton_of w) is same
      (sym (driven_told contents failed v ask.sink ask.call reply w gives is))

  -- the mask says what the filters answered
  pub any_masked : (v w : FileTrace N E F D Q) (step : AnyStep) (reply : Reply) → TraceIsReady g h v →
      FileStepGives contents failed sg v step reply w → IsMaskOf g v step reply (mask_of v step reply w)
  any_masked v w (OfTrace step) reply ready (inl waits) =
      by_refusal reply (StepMask g v step) (marks_at (asked_stack (skeleton_of v) step) w) Busy waits.1
  any_masked v w (OfTrace step) reply ready (inr goes) = law.masked v step reply w ready goes.1
  any_masked v w (OfQueue ask) reply ready gives = no_mask reply

  -- any step, whatever it is
  pub any_carried : (v w : FileTrace N E F D Q) (step : AnyStep) (reply : Reply) → TraceIsReady g h v →
      FileStepGives contents failed sg v step reply w →
      AnyFollows n line_of g takes (CallsIn contents failed) outputs_hold h v step reply w →
      Carried (skeleton_of v) step reply (mask_of v step reply w) (skeleton_of w)
  any_carried v w (OfTrace step) reply ready (inl waits) follows =
      uncounted (skeleton_of v) (OfTrace step) reply (mask_of v (OfTrace step) reply w) (skeleton_of w) (ap counts waits.1) (ap skeleton_of waits.2)
  any_carried v w (OfTrace step) reply ready (inr goes) follows = step_carried n line_of g takes h sg law v w step reply ready goes.1
  any_carried v w (OfQueue ask) reply ready gives follows =
      queue_carried v w ask reply (counts reply) refl gives follows.1.skeleton
