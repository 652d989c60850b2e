-- The machine reads of a new span which outputs see it.
use Rattle.std.proofs.Common.{◌≡◌, ◌≤◌, ◌<◌, ℕ, zero, suc, Bool, true, List, length, Option, Some, None, Ok, Err, refl, sym, ap}
use Rattle.std.proofs.Common.{◌∙◌, subst, arith}
use Rattle.tracing_core_fields.specs.PlainMetadata.{PlainMetadata}
use Rattle.tracing_core_fields.specs.requests.Calls.{Call, ReplyTo, SpanMade}
use Rattle.tracing_core_fields.specs.requests.PlainRequests.{PlainEvent}
use Rattle.tracing_core_moments.specs.declared.at.At.{At}
use Rattle.tracing_core_fields.specs.declared.requests.refusal.RequestError.{RequestError}
use Rattle.tracing_core_fields.specs.declared.requests.refusal.RequestError.TheVariants as errors
use Rattle.tracing_core_fields.specs.declared.requests.subscriber.Subscriber.{Ghosts as SubscriberGhosts}
use Rattle.span_registry_layers_store.specs.Registries.{RegistryValue, with_span}
use Rattle.span_registry_layers_store.specs.Verdicts.{all_pass}
use Rattle.span_registry_layers_layers.specs.declared.filter.Filter.{Ghosts as FilterGhosts}
use Rattle.span_registry_layers_layers.specs.declared.layer.Layer.{Ghosts as LayerGhosts}
use Rattle.span_registry_layers.specs.OutputSlots.{marks_of}
use Rattle.span_registry_layers.specs.SpanNotices.{each_sees}
use Rattle.event_formatter_text.specs.declared.format_fields.FormatFields.{Ghosts}
use Rattle.event_formatter_text.specs.declared.settings.Settings.{Settings}
use Rattle.event_formatter.specs.formats.Contexts.{PlainContext}
use Rattle.span_tracing_outputs.specs.OutputMachines.{PlainLine}
use Rattle.span_tracing_outputs.specs.OutputSettings.{stack_set}
use Rattle.span_tracing_outputs.specs.TraceFollows.{TraceFollows, numbers_in, some_passes, verdicts_from}
use Rattle.span_tracing_outputs.specs.TraceStacks.{TraceMoves, TraceStackValue}
use Rattle.span_tracing_outputs.specs.Turns.{Lines}
use Rattle.span_tracing_outputs.proofs.OutputNumbers.{answers_padded, few_rows}
use Rattle.span_tracing_skeleton.specs.Acting.{parent_id, with_made}
use Rattle.span_tracing_skeleton.specs.Looking.{known, reach, registry_at}
use Rattle.span_tracing_skeleton.specs.Machine.{acted, after, answered, next_name, or_refused, or_same, reply_of}
use Rattle.span_tracing_skeleton.specs.Order.{refusal_of}
use Rattle.span_tracing_skeleton.specs.PlainData.{Request, SpanStep}
use Rattle.span_tracing_skeleton.specs.Skeleton.{Passed}
use Rattle.span_tracing_skeleton.specs.SpanNames.{name_of, number_of}
use Rattle.span_tracing_skeleton.specs.declared.call.Reply.{Reply}
use Rattle.span_tracing_skeleton.specs.declared.call.Reply.TheVariants.{Span}
use Rattle.span_tracing_skeleton.specs.declared.call.SpanName.{SpanName}
use Rattle.span_tracing_skeleton.specs.declared.refusal.Refusal.{Refusal}
use Rattle.span_tracing_steps.specs.StackRequests.{place_at, request_of}
use Rattle.span_tracing_steps.specs.States.{held_in}
use Rattle.span_tracing_steps.specs.Steps.{SpanGoes, StepGives, StepUnless, span_reply}
use Rattle.span_tracing_laws.specs.runs.SpanMasks.{SpanIsRead, read_of, seen_of}
use Rattle.span_tracing_laws.specs.runs.StepFollows.{TraceIsReady, Traced, registry_of, skeleton_of}
use Rattle.span_tracing_laws.proofs.runs.HubStacks.{became_own, registry_there}
use Rattle.span_tracing_laws.proofs.runs.RequestSteps.{called}
use Rattle.span_tracing_laws.proofs.runs.StepOutcomes.{reached_there, skeleton_after}

never_named : (stack : ℕ) (e : RequestError) (name : SpanName) → span_reply stack (Err e) ≡ Span (Some name) → ⊥
never_named stack errors.IdsSpent name e = cc
never_named stack errors.OutOfMemory name e = cc
never_named stack errors.UnknownSpan name e = cc
never_named stack errors.UnknownParent name e = cc
never_named stack errors.TooManyHandles name e = cc

-- a name has its id
own_id : (id : ℕ) → 0 < id → (number_of id).value ≡ id
own_id zero some = absurd (omega (arith, some))
own_id (suc id) some = refl

module _ {N E F S : Type 0} (n : Ghosts N) (line_of : E → Settings → PlainContext → PlainEvent → Option (List ℕ)) (g : FilterGhosts F)
    (takes : S → At → PlainLine → S → Type 0) (h : LayerGhosts (Lines N E)) (sg : SubscriberGhosts (TraceStackValue N E F S))
    (moved : (x : TraceStackValue N E F S) (c : Call) (r : ReplyTo c) (y : TraceStackValue N E F S) → sg.moves x c r y →
    TraceMoves g h takes x c r y) (law : TraceFollows n line_of g takes h) where
  -- what is read of a span that was made with these verdicts
  read_by : (v : Traced N E F S) (q : Request) (w : Traced N E F S) (stack : ℕ) (m : PlainMetadata) (id : ℕ)
      (x y : TraceStackValue N E F S) (answers : List Bool) →
      reach (skeleton_of v) q.lane ≡ Some stack → known (skeleton_of v) q.callsite true ≡ Some m →
      refusal_of (skeleton_of v) (SpanStep q) ≡ None → id ≡ (registry_at (skeleton_of v) stack).next_id → 0 < id →
      skeleton_of w ≡ with_made (skeleton_of v) (Some stack) q (Some m) (verdicts_from all_pass (numbers_in x.stack.rows) answers) →
      Passed (verdicts_from all_pass (numbers_in x.stack.rows) answers) ≡ read_of answers → some_passes answers ≡ true →
      held_in w stack ≡ Some y → length y.stack.rows ≤ 64 → each_sees y.stack.registry id y.stack.rows ≡ answers →
      marks_of y.stack.rows ≡ answers → SpanIsRead v q (name_of stack id) w
  read_by v q w stack m id x y answers at is none next above left same some there few seen marked =
      let s = skeleton_of v in
      let passed = verdicts_from all_pass (numbers_in x.stack.rows) answers in
      let own : seen_of y (name_of stack id) ≡ answers = ap (λ (i : ℕ). each_sees y.stack.registry i y.stack.rows) (own_id id above) ∙
      seen in
      let answer : Passed passed ≡ read_of (seen_of y (name_of stack id)) = same ∙ ap read_of (sym own) in
      let replied : Span (Some (name_of stack id)) ≡ answered s (SpanStep q) (Passed passed) =
      ap (λ (i : ℕ). Span (Some (name_of stack i))) next ∙ ap (λ (o : Option ℕ). Span (next_name s o)) (sym at) in
      let acts : skeleton_of w ≡ acted s (SpanStep q) (Passed passed) = left
      ∙ (ap (λ (c : Option PlainMetadata). with_made s (Some stack) q c passed) (sym is) ∙
      ap (λ (o : Option ℕ). with_made s o q (known s q.callsite true) passed) (sym at)) in
      record {
        stack = y;
        reached = at;
        there = there;
        marked = marked ∙ sym own;
        few = few;
        some = ap some_passes own ∙ some;
        replied = replied ∙ (ap (λ (o : Option Refusal). or_refused o (answered s (SpanStep q) (Passed passed))) (sym none) ∙
            ap (reply_of s (SpanStep q)) answer);
        skeleton = acts ∙ (ap (λ (o : Option Refusal). or_same o s (acted s (SpanStep q) (Passed passed))) (sym none) ∙
            ap (after s (SpanStep q)) answer);
      }

  span_read : (v : Traced N E F S) (q : Request) (name : SpanName) (reply : Reply) (w : Traced N E F S) (o : Option ℕ)
      (k : Option PlainMetadata) → reach (skeleton_of v) q.lane ≡ o → known (skeleton_of v) q.callsite true ≡ k → TraceIsReady g h v →
      refusal_of (skeleton_of v) (SpanStep q) ≡ None → reply ≡ Span (Some name) → SpanGoes sg o k v q reply w → SpanIsRead v q name w
  span_read v q name reply w None k at is ready none named goes = let never : Span None ≡ Span (Some name) = sym goes.0 ∙ named in
      absurd (cc)
  span_read v q name reply w (Some stack) None at is ready none named goes = absurd goes
  span_read v q name reply w (Some stack) (Some m) at is ready none named (Err error, goes, told) =
      absurd (never_named stack error name (sym told ∙ named))
  span_read v q name reply w (Some stack) (Some m) at is ready none named (Ok None, goes, told) =
      let never : Span None ≡ Span (Some name) = sym told ∙ named in absurd (cc)
  span_read v q name reply w (Some stack) (Some m) at is ready none named (Ok (Some id), goes, told) =
      let s = skeleton_of v in
      let here = place_at q.lane q.moment in
      let (x, there) = reached_there n line_of g takes h v q.lane stack at in
      let home = registry_there registry_of v stack x there in
      let call = called n line_of g takes h sg moved law stack x (SpanMade (request_of m q) here) (Ok (Some id)) v w ready there goes in
      let y = call.0 in
      let answers = call.1.0 in
      let passed = verdicts_from all_pass (numbers_in x.stack.rows) answers in
      let with_new = λ (r : RegistryValue). with_span r m (parent_id r q.lane q.parent) passed in
      let own : name_of stack id ≡ name = let both : Span (Some (name_of stack id)) ≡ Span (Some name) = sym told ∙ named in cc in
      let held : held_in w stack ≡ Some y = ap (λ (u : Traced N E F S). held_in u stack) call.2 ∙
      became_own stack y v.hub.subscribers x there in
      let one = ready.stacks stack x there in
      subst (λ (name : SpanName). SpanIsRead v q name w) own
      (read_by v q w stack m id x y answers at is none (call.1.4 ∙ ap (λ (r : RegistryValue). r.next_id) (sym home))
      (subst (λ i. 0 < i) (sym call.1.4) one.sound.started)
      (skeleton_after n line_of g takes h v w stack y (with_new (registry_at s stack)) call.2 (call.1.5.skeleton ∙ ap with_new (sym home)))
      (ap Passed (answers_padded g.answers m here x.stack.registry x.stack.rows answers one.numbers call.1.1).1) call.1.2 held
      (few_rows y.stack.rows (call.3.stacks stack y held).numbers) call.1.6 call.1.7)

  read_unless : (o : Option Refusal) (v : Traced N E F S) (q : Request) (name : SpanName) (w : Traced N E F S) →
      refusal_of (skeleton_of v) (SpanStep q) ≡ o → TraceIsReady g h v →
      StepUnless sg registry_of stack_set o v (SpanStep q) (Span (Some name)) w → SpanIsRead v q name w
  read_unless None v q name w is ready goes = span_read v q name (Span (Some name)) w (reach (skeleton_of v) q.lane)
      (known (skeleton_of v) q.callsite true) refl refl ready is refl goes
  read_unless (Some refusal) v q name w is ready goes = let never = goes.0 in absurd (cc)

  pub step_read : (v : Traced N E F S) (q : Request) (name : SpanName) (w : Traced N E F S) → TraceIsReady g h v →
      StepGives sg registry_of stack_set v (SpanStep q) (Span (Some name)) w → SpanIsRead v q name w
  step_read v q name w ready goes = read_unless (refusal_of (skeleton_of v) (SpanStep q)) v q name w refl ready goes
