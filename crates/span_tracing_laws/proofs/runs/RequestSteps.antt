-- What a stack makes of a call, and steps that hand a request to a stack.
use Rattle.std.proofs.Common.{◌≡◌, inr, ℕ, Bool, true, false, not, nat_lt, List, [], Option, Some, None}
use Rattle.std.proofs.Common.{Ok, Err, refl, sym, ap, ◌∙◌, subst}
use Rattle.tracing_core_fields.specs.PlainMetadata.{PlainMetadata}
use Rattle.tracing_core_fields.specs.requests.Calls.{Call, ReplyTo, Asked, SpanMade, EventDispatched}
use Rattle.tracing_core_fields.specs.requests.PlainRequests.{PlainEvent}
use Rattle.tracing_core_moments.specs.declared.at.At.{At}
use Rattle.tracing_core_fields.specs.declared.requests.refusal.RequestError.{RequestError}
use Rattle.tracing_core_fields.specs.declared.requests.refusal.RequestError.TheVariants as errors
use Rattle.tracing_core_fields.specs.declared.requests.subscriber.Subscriber.{Ghosts as SubscriberGhosts}
use Rattle.span_registry_layers_store.specs.SlotIndependence.{bare}
use Rattle.span_registry_layers_store.specs.RegistryCalls as gives
use Rattle.span_registry_layers_store.specs.Registries.{RegistryValue, with_span}
use Rattle.span_registry_layers_layers.specs.declared.filter.Filter.{Ghosts as FilterGhosts}
use Rattle.span_registry_layers_layers.specs.declared.layer.Layer.{Ghosts as LayerGhosts}
use Rattle.span_registry_layers_layers.specs.declared.filtered.Filtered.{Filtered}
use Rattle.span_registry_layers.specs.Stacks.{StackValue}
use Rattle.span_registry_layers_store.specs.Verdicts.{all_pass}
use Rattle.event_formatter_text.specs.declared.format_fields.FormatFields.{Ghosts}
use Rattle.event_formatter_text.specs.declared.settings.Settings.{Settings}
use Rattle.event_formatter.specs.formats.Contexts.{PlainContext}
use Rattle.span_tracing_outputs.specs.OutputNotices.{span_told}
use Rattle.span_tracing_outputs.specs.OutputMachines.{Made, PlainLine}
use Rattle.span_tracing_outputs.specs.OutputFolds.{Fates, call_lists, event_lists}
use Rattle.span_tracing_outputs.specs.TraceFollows.{EventIf, RefusedBy, TraceFollows}
use Rattle.span_tracing_outputs.specs.TraceFollows.{TraceGoes, numbers_in, verdicts_from}
use Rattle.span_tracing_outputs.specs.TraceStacks.{TraceMoves, TraceStackValue}
use Rattle.span_tracing_outputs.specs.Turns.{Lines}
use Rattle.span_tracing_skeleton.specs.Acting.{left, parent_id, told_parent, with_made}
use Rattle.span_tracing_skeleton.specs.Looking.{known, named, reach, reached, reached_by}
use Rattle.span_tracing_skeleton.specs.Looking.{registry_at}
use Rattle.span_tracing_skeleton.specs.Machine.{next_name}
use Rattle.span_tracing_skeleton.specs.Order.{refusal_of, request_refusal}
use Rattle.span_tracing_skeleton.specs.PlainData.{PlainStep, Request, EventStep, EnabledStep, SpanStep}
use Rattle.span_tracing_skeleton.specs.Refusing.{ids_refusal}
use Rattle.span_tracing_skeleton.specs.Refusing.{parent_refusal}
use Rattle.span_tracing_skeleton.specs.Skeleton.{Skeleton, Answers, Unasked, Wanted, Dropped, Passed, Heard}
use Rattle.span_tracing_skeleton.specs.declared.call.EnabledCall.{EnabledCall}
use Rattle.span_tracing_skeleton.specs.declared.call.Parent.{Parent}
use Rattle.span_tracing_skeleton.specs.declared.call.Reply.{Reply}
use Rattle.span_tracing_skeleton.specs.declared.call.Reply.TheVariants.{Done, Span}
use Rattle.span_tracing_skeleton.specs.SpanNames.{name_of}
use Rattle.span_tracing_steps.specs.States.{held_in, stack_in}
use Rattle.span_tracing_steps.specs.Steps.{CallGoes, EventGoes}
use Rattle.span_tracing_steps.specs.Steps.{QuestionGoes, SpanGoes}
use Rattle.span_tracing_steps.specs.Steps.{becoming, span_reply}
use Rattle.span_tracing_steps.specs.StackRequests.{place_at, request_of}
use Rattle.span_tracing_laws.specs.runs.StepFollows.{AnswersEvent, AnswersQuestion, AnswersSpan, AskedWhere, Follows}
use Rattle.span_tracing_laws.specs.runs.StepFollows.{OutputsFollow, TraceIsReady, Traced, registry_of}
use Rattle.span_tracing_laws.specs.runs.StepFollows.{skeleton_of}
use Rattle.span_tracing_laws.specs.runs.StepNotices.{Told, event_told_by}
use Rattle.span_tracing_laws.specs.runs.StepNotices.{span_told_by, told_to}
use Rattle.span_tracing_laws.proofs.runs.HubStacks.{becoming_same}
use Rattle.span_tracing_laws.proofs.runs.HubStacks.{moved_by}
use Rattle.span_tracing_laws.proofs.runs.HubStacks.{registry_there}
use Rattle.span_tracing_laws.proofs.runs.UnrefusedSteps.{first_none}
use Rattle.span_tracing_laws.proofs.runs.UnrefusedSteps.{ids_left, parent_known, second_none}
use Rattle.span_tracing_laws.proofs.runs.StepOutcomes.{made, rested, event_untold, span_untold, dropped_untold, event_tells, span_tells}
use Rattle.span_tracing_laws.proofs.runs.StepOutcomes.{skeleton_after, skeleton_stays, outputs_after, told_after, parent_passed}
use Rattle.span_tracing_laws.proofs.runs.StepOutcomes.{reached_there, became_ready}

module _ {N E F S : Type 0} (n : Ghosts N) (line_of : E → Settings → PlainContext → PlainEvent → Option (List ℕ)) (g : FilterGhosts F)
    (takes : S → At → PlainLine → S → Type 0) (h : LayerGhosts (Lines N E)) (sg : SubscriberGhosts (TraceStackValue N E F S))
    (moved : (x : TraceStackValue N E F S) (c : Call) (r : ReplyTo c) (y : TraceStackValue N E F S) → sg.moves x c r y →
    TraceMoves g h takes x c r y) (law : TraceFollows n line_of g takes h) where
  abbrev Stack : Type 0
  Stack = TraceStackValue N E F S

  abbrev Goes : Traced N E F S → PlainStep → Reply → Traced N E F S → Type 0
  Goes v step reply w = Follows n line_of g takes h v step reply w × TraceIsReady g h w

  abbrev Outs : Option (Told N) → Fates → Traced N E F S → Traced N E F S → Type 0
  Outs told fates v w = (number : ℕ) → OutputsFollow n line_of g takes (told_to N number told) fates (stack_in v number) (stack_in w number)

  -- what a stack makes of a call
  abbrev pub Called : ℕ → Stack → (c : Call) → ReplyTo c → Traced N E F S → Traced N E F S → Type 0
  Called stack x c r v w = (y : Stack) × TraceGoes n line_of g takes h x c r y × (w ≡ becoming stack y v) × TraceIsReady g h w

  pub called : (stack : ℕ) (x : Stack) (c : Call) (r : ReplyTo c) (v w : Traced N E F S) → TraceIsReady g h v → held_in v stack ≡ Some x →
      CallGoes sg stack v c r w → Called stack x c r v w
  called stack x c r v w ready there goes =
      let moves = moved_by sg stack v w c r x there goes in
      let one = ready.stacks stack x there in (
        moves.0,
        law.goes x c r moves.0 one (moved x c r moves.0 moves.1),
        moves.2,
        subst (TraceIsReady g h) (sym moves.2)
            (became_ready n line_of g takes h v stack x moves.0 ready there (law.ready x c r moves.0 one (moved x c r moves.0 moves.1))),
      )

  -- a call that leaves the stack as it is
  pub stays : (v w : Traced N E F S) (stack : ℕ) (x y : Stack) → held_in v stack ≡ Some x → w ≡ becoming stack y v → y ≡ x → w ≡ v
  stays v w stack x y there is same = is ∙ ap (λ (z : Stack). becoming stack z v) same ∙ becoming_same v stack x there

  -- an event
  pub event_goes : (v : Traced N E F S) (e : Request) (reply : Reply) (w : Traced N E F S) (o : Option ℕ) (k : Option PlainMetadata) →
      reach (skeleton_of v) e.lane ≡ o → known (skeleton_of v) e.callsite false ≡ k → TraceIsReady g h v →
      refusal_of (skeleton_of v) (EventStep e) ≡ None → reply ≡ Done → EventGoes sg o k v e w → Goes v (EventStep e) reply w
  event_goes v e reply w None k at is ready none done same =
      let s = skeleton_of v in
      rested n line_of g takes h v (EventStep e) reply w Unasked none refl
      (subst (λ (o : Option ℕ). AskedWhere o (known s e.callsite false)
      (λ stack m b. AnswersEvent g h (held_in v stack) (request_of m e) (place_at e.lane e.moment) b) Unasked) (sym at) refl) done refl
      (event_untold n line_of g takes h s e (reach s e.lane) (known s e.callsite false)) same ready
  event_goes v e reply w (Some stack) None at is ready none done goes = absurd goes
  event_goes v e reply w (Some stack) (Some m) at is ready none done goes =
      let s = skeleton_of v in
      let here = place_at e.lane e.moment in
      let q = request_of m e in
      let (x, there) = reached_there n line_of g takes h v e.lane stack at in
      let home = registry_there registry_of v stack x there in
      let call = called stack x (EventDispatched q here) goes.0 v w ready there goes.1 in
      let parent = parent_passed n line_of g takes h s e.lane e.moment (known s e.callsite false) e.parent none in
      let told = (subst (λ (b : Bool). EventIf n line_of g takes b q here x goes.0 call.0)
      (parent_known s x.stack.registry e.lane stack e.parent at home parent) call.1).1 in
      let answers = Heard told.0 told.1 in
      let asks = λ (number : ℕ) (d : PlainMetadata) (b : Answers). AnswersEvent g h (held_in v number) (request_of d e) here b in (
        made n line_of g takes h v (EventStep e) reply w answers told.3.fates none refl
            (subst (λ (o : Option ℕ). AskedWhere o (known s e.callsite false) asks answers) (sym at)
            (subst (λ (c : Option PlainMetadata). AskedWhere (Some stack) c asks answers) (sym is)
            (subst (λ (o : Option Stack). AnswersEvent g h o q here answers) (sym there) told.2))) done
            (skeleton_stays n line_of g takes h v w stack x call.0 there call.2 told.3.skeleton)
            (told_after n line_of g takes h v w stack x call.0 (event_told_by N s e (reach s e.lane) (known s e.callsite false) answers)
            (record { stack = stack; at = here; lists = event_lists (bare x.stack.registry) here q told.1 }) told.3.fates
            (event_tells n line_of g takes h s e (reach s e.lane) (known s e.callsite false) told.0 told.1 stack m
            (bare x.stack.registry) at is home) refl
            there call.2 told.3.outputs),
        call.3,
      )

  -- a question
  pub question_goes : (v : Traced N E F S) (ask : EnabledCall) (reply : Reply) (w : Traced N E F S) (o : Option ℕ)
      (k : Option PlainMetadata) → reach (skeleton_of v) ask.lane ≡ o → named (skeleton_of v).callsites ask.callsite.0 ≡ k →
      TraceIsReady g h v → refusal_of (skeleton_of v) (EnabledStep ask) ≡ None → QuestionGoes sg o k v ask reply w →
      Goes v (EnabledStep ask) reply w
  question_goes v ask reply w None k at is ready none goes =
      let s = skeleton_of v in
      rested n line_of g takes h v (EnabledStep ask) reply w Unasked none refl
      (subst (λ (o : Option ℕ). AskedWhere o (named s.callsites ask.callsite.0)
      (λ stack m b. AnswersQuestion g h (held_in v stack) m (place_at ask.lane ask.moment) b) Unasked) (sym at) refl) goes.0 refl refl
      goes.1 ready
  question_goes v ask reply w (Some stack) None at is ready none goes = absurd goes
  question_goes v ask reply w (Some stack) (Some m) at is ready none goes =
      let s = skeleton_of v in
      let here = place_at ask.lane ask.moment in
      let (x, there) = reached_there n line_of g takes h v ask.lane stack at in
      let call = called stack x (Asked m here) goes.0 v w ready there goes.1 in
      let asks = λ (number : ℕ) (d : PlainMetadata) (b : Answers). AnswersQuestion g h (held_in v number) d here b in (
        made n line_of g takes h v (EnabledStep ask) reply w (Wanted goes.0) [] none refl
            (subst (λ (o : Option ℕ). AskedWhere o (named s.callsites ask.callsite.0) asks (Wanted goes.0)) (sym at)
            (subst (λ (c : Option PlainMetadata). AskedWhere (Some stack) c asks (Wanted goes.0)) (sym is)
            (subst (λ (o : Option Stack). AnswersQuestion g h o m here (Wanted goes.0)) (sym there) call.1.2))) goes.2
            (skeleton_stays n line_of g takes h v w stack x call.0 there call.2
            (ap (λ (z : StackValue (Filtered (Lines N E) F)). bare z.registry) call.1.3))
            (outputs_after n line_of g takes h v w stack x call.0 None [] tt there call.2 call.1.4),
        call.3,
      )

  -- a new span that nothing refuses but want of memory
  pub span_refused : (s : Skeleton) (x : Stack) (lane stack : ℕ) (parent : Parent) (error : RequestError) → reach s lane ≡ Some stack →
      registry_at s stack ≡ bare x.stack.registry → parent_refusal s lane parent ≡ None → ids_refusal s lane ≡ None →
      RefusedBy (gives.span_refusal x.stack.registry (told_parent parent)) error → error ≡ errors.OutOfMemory
  span_refused s x lane stack parent error at home known left w =
      let is : reached s lane ≡ bare x.stack.registry = ap (reached_by s) at ∙ home in
      let left_there : nat_lt gives.most x.stack.registry.next_id ≡ false =
      sym (ap (λ (y : RegistryValue). nat_lt gives.most y.next_id) is) ∙ ids_left s lane left in
      let none : gives.span_refusal x.stack.registry (told_parent parent) ≡ None =
      ap (λ (b : Bool). gives.first (gives.when (not b) errors.UnknownParent)
      (gives.when (nat_lt gives.most x.stack.registry.next_id) errors.IdsSpent))
      (parent_known s x.stack.registry lane stack parent at home known) ∙ ap (λ (b : Bool). gives.when b errors.IdsSpent) left_there in
      subst (λ (o : Option RequestError). RefusedBy o error) none w

  -- a new span
  pub span_goes : (v : Traced N E F S) (q : Request) (reply : Reply) (w : Traced N E F S) (o : Option ℕ) (k : Option PlainMetadata) →
      reach (skeleton_of v) q.lane ≡ o → known (skeleton_of v) q.callsite true ≡ k → TraceIsReady g h v →
      refusal_of (skeleton_of v) (SpanStep q) ≡ None → SpanGoes sg o k v q reply w → Goes v (SpanStep q) reply w
  span_goes v q reply w None k at is ready none goes =
      let s = skeleton_of v in
      rested n line_of g takes h v (SpanStep q) reply w Unasked none refl
      (subst (λ (o : Option ℕ). AskedWhere o (known s q.callsite true)
      (λ stack m b. AnswersSpan g h (held_in v stack) m (place_at q.lane q.moment) b) Unasked) (sym at) refl) goes.0 refl
      (span_untold n line_of g takes h s q (reach s q.lane) (known s q.callsite true)) goes.1 ready
  span_goes v q reply w (Some stack) None at is ready none goes = absurd goes
  span_goes v q reply w (Some stack) (Some m) at is ready none (Err error, goes, told) =
      let s = skeleton_of v in
      let here = place_at q.lane q.moment in
      let (x, there) = reached_there n line_of g takes h v q.lane stack at in
      let call = called stack x (SpanMade (request_of m q) here) (Err error) v w ready there goes in
      let request = request_refusal s q.lane q.moment q.callsite true q.parent in
      let asked = first_none request (ids_refusal s q.lane) none in
      let same : w ≡ v = stays v w stack x call.0 there call.2 call.1.2 in
      let out = span_refused s x q.lane stack q.parent error at (registry_there registry_of v stack x there)
      (parent_passed n line_of g takes h s q.lane q.moment (known s q.callsite true) q.parent asked)
      (second_none request (ids_refusal s q.lane) none) call.1.0 in
      let some = call.1.1 out in
      let passed = verdicts_from all_pass (numbers_in x.stack.rows) some.0 in
      let asks = λ (number : ℕ) (d : PlainMetadata) (b : Answers). AnswersSpan g h (held_in v number) d here b in (
        inr (
          told ∙ ap (λ (e : RequestError). span_reply stack (Err e)) out,
          none,
          (
            passed,
            subst (λ (o : Option ℕ). AskedWhere o (known s q.callsite true) asks (Passed passed)) (sym at)
                (subst (λ (c : Option PlainMetadata). AskedWhere (Some stack) c asks (Passed passed)) (sym is)
                (subst (λ (o : Option Stack). AnswersSpan g h o m here (Passed passed)) (sym there) (some.0, some.1, some.2, refl))),
          ),
          same,
        ),
        subst (TraceIsReady g h) (sym same) ready,
      )
  span_goes v q reply w (Some stack) (Some m) at is ready none (Ok None, goes, told) =
      let s = skeleton_of v in
      let here = place_at q.lane q.moment in
      let (x, there) = reached_there n line_of g takes h v q.lane stack at in
      let call = called stack x (SpanMade (request_of m q) here) (Ok None) v w ready there goes in
      let asks = λ (number : ℕ) (d : PlainMetadata) (b : Answers). AnswersSpan g h (held_in v number) d here b in (
        made n line_of g takes h v (SpanStep q) reply w Dropped [] none refl
            (subst (λ (o : Option ℕ). AskedWhere o (known s q.callsite true) asks Dropped) (sym at)
            (subst (λ (c : Option PlainMetadata). AskedWhere (Some stack) c asks Dropped) (sym is)
            (subst (λ (o : Option Stack). AnswersSpan g h o m here Dropped) (sym there) call.1.1))) told
            (skeleton_stays n line_of g takes h v w stack x call.0 there call.2
            (ap (λ (z : StackValue (Filtered (Lines N E) F)). bare z.registry) call.1.2))
            (subst (λ (t : Option (Told N)). Outs t [] v w) (sym (dropped_untold n line_of g takes h s q (reach s q.lane)
            (known s q.callsite true)))
            (outputs_after n line_of g takes h v w stack x call.0 None [] tt there call.2 call.1.3)),
        call.3,
      )
  span_goes v q reply w (Some stack) (Some m) at is ready none (Ok (Some id), goes, told) =
      let s = skeleton_of v in
      let here = place_at q.lane q.moment in
      let (x, there) = reached_there n line_of g takes h v q.lane stack at in
      let home = registry_there registry_of v stack x there in
      let call = called stack x (SpanMade (request_of m q) here) (Ok (Some id)) v w ready there goes in
      let passed = verdicts_from all_pass (numbers_in x.stack.rows) call.1.0 in
      let outs = call.1.5 in
      let asks = λ (number : ℕ) (d : PlainMetadata) (b : Answers). AnswersSpan g h (held_in v number) d here b in
      let with_new = λ (r : RegistryValue). with_span r m (parent_id r q.lane q.parent) passed in (
        made n line_of g takes h v (SpanStep q) reply w (Passed passed) outs.fates none refl
            (subst (λ (o : Option ℕ). AskedWhere o (known s q.callsite true) asks (Passed passed)) (sym at)
            (subst (λ (c : Option PlainMetadata). AskedWhere (Some stack) c asks (Passed passed)) (sym is)
            (subst (λ (o : Option Stack). AnswersSpan g h o m here (Passed passed)) (sym there) (call.1.0, call.1.1, call.1.2, refl))))
            (told ∙ ap (λ (i : ℕ). Span (Some (name_of stack i))) (call.1.4 ∙ ap (λ (r : RegistryValue). r.next_id) (sym home)) ∙
            ap (λ (o : Option ℕ). Span (next_name s o)) (sym at))
            (skeleton_after n line_of g takes h v w stack call.0 (with_new (registry_at s stack)) call.2 (outs.skeleton ∙ ap with_new
            (sym home)) ∙
            sym (ap (λ (o : Option ℕ). with_made s o q (known s q.callsite true) passed) at ∙
            ap (λ (c : Option PlainMetadata). with_made s (Some stack) q c passed) is))
            (told_after n line_of g takes h v w stack x call.0 (span_told_by N s q (reach s q.lane) (known s q.callsite true)
            (Passed passed))
            (record {
              stack = stack;
              at = here;
              lists = call_lists
                  (span_told (with_new (bare x.stack.registry)) here (Made (request_of m q)) (bare x.stack.registry).next_id);
            }) outs.fates
            (span_tells n line_of g takes h s q (reach s q.lane) (known s q.callsite true) passed stack m
            (bare x.stack.registry) at is home) refl there
            call.2 outs.outputs),
        call.3,
      )
