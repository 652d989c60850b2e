-- What the steps of a trace leave of its outputs, where one stack changed, or none.
use Rattle.std.proofs.Common.{◌≡◌, inl, ℕ, Bool, true, false, ◌==◌, List, [], length, Option, Some, None, IfSome}
use Rattle.std.proofs.Common.{refl, sym, ap, ◌∙◌, subst, arith}
use Rattle.std.specs.Cmp.{unsigned_Decides}
use Rattle.std.specs.Option.{option_map}
use Rattle.std.specs.Prelude.{if◌then◌else◌, slice_get}
use Rattle.tracing_core_fields.specs.PlainMetadata.{PlainMetadata}
use Rattle.tracing_core_fields.specs.requests.PlainRequests.{PlainEvent}
use Rattle.tracing_core_moments.specs.declared.at.At.{At}
use Rattle.tracing_core_fields.specs.declared.requests.subscriber.Subscriber.{Ghosts as SubscriberGhosts}
use Rattle.tracing_core.specs.Commands.{becomes}
use Rattle.tracing_core.specs.Handles.{given_back, held}
use Rattle.tracing_core.specs.HubInvariant.{IsSound as IsSoundHub, serials}
use Rattle.tracing_core.specs.Table as table
use Rattle.tracing_core.specs.Table.{own_setting}
use Rattle.tracing_core.specs.TableRows.{KeptSubscriber}
use Rattle.tracing_core.specs.declared.guard.DefaultGuard.{DefaultGuard}
use Rattle.tracing_core.proofs.CachePreservation.{Alike, given_back_keeps}
use Rattle.tracing_core.proofs.HubInvariant.{sound_alike}
use Rattle.tracing_core.proofs.SubscriberNumbers.{by_bool, serials_changed}
use Rattle.span_registry_layers_store.specs.SlotIndependence.{bare}
use Rattle.span_registry_layers_store.specs.Registries.{RegistryValue, with_span}
use Rattle.span_registry_layers_layers.specs.declared.filter.Filter.{Ghosts as FilterGhosts}
use Rattle.span_registry_layers_layers.specs.declared.layer.Layer.{Ghosts as LayerGhosts}
use Rattle.event_formatter_text.specs.declared.format_fields.FormatFields.{Ghosts}
use Rattle.event_formatter_text.specs.declared.settings.Settings.{Settings}
use Rattle.event_formatter.specs.formats.Contexts.{PlainContext}
use Rattle.span_tracing_outputs.specs.OutputNotices.{span_told}
use Rattle.span_tracing_outputs.specs.OutputMachines.{Made, PlainLine}
use Rattle.span_tracing_outputs.specs.OutputFolds.{Fates, call_lists, event_lists}
use Rattle.span_tracing_outputs.specs.OutputSettings.{stack_set}
use Rattle.span_tracing_outputs.specs.TraceFollows.{IsReady, Rests}
use Rattle.span_tracing_outputs.specs.TraceStacks.{TraceStackValue}
use Rattle.span_tracing_outputs.specs.Turns.{Lines}
use Rattle.span_tracing_skeleton.specs.Acting.{left, parent_id, with_registry}
use Rattle.span_tracing_skeleton.specs.Looking as looking
use Rattle.span_tracing_skeleton.specs.Looking.{callsite_of, default_of, has_open, known, named, or_global, reach, reached, reached_by}
use Rattle.span_tracing_skeleton.specs.Looking.{inner, is_held, output_at, registry_at}
use Rattle.span_tracing_skeleton.specs.Machine.{acted, answered, or_refused, or_same}
use Rattle.span_tracing_skeleton.specs.Order.{refusal_of}
use Rattle.span_tracing_skeleton.specs.PlainData.{PlainStep, Request}
use Rattle.span_tracing_skeleton.specs.Refusing.{callsite_refusal, first, lane_refusal}
use Rattle.span_tracing_skeleton.specs.Refusing.{moment_refusal}
use Rattle.span_tracing_skeleton.specs.Refusing.{parent_refusal}
use Rattle.span_tracing_skeleton.specs.Skeleton.{Skeleton, Answers, Unasked, Dropped, Passed, Heard}
use Rattle.span_tracing_skeleton.specs.declared.call.Parent.{Parent}
use Rattle.span_tracing_skeleton.specs.declared.call.Reply.{Reply}
use Rattle.tracing_core_moments.specs.declared.moment.Moment.{Moment}
use Rattle.span_tracing_skeleton.specs.declared.call.Reply.TheVariants.{Refused}
use Rattle.span_tracing_skeleton.specs.declared.refusal.Refusal.{Refusal}
use Rattle.span_tracing_skeleton.specs.declared.setting.OutputPlace.{OutputPlace}
use Rattle.span_tracing_skeleton.specs.declared.setting.Setting.{Setting}
use Rattle.span_tracing_steps.specs.States.{held_in, or_retired, stack_in}
use Rattle.span_tracing_steps.specs.Steps as steps
use Rattle.span_tracing_steps.specs.Steps.{CallGoes, CloneGoes, CloseGoes, EnterGoes, EventGoes, ExitGoes, FollowsGoes, OrStarved}
use Rattle.span_tracing_steps.specs.Steps.{QuestionGoes, RecordGoes, SpanGoes, StepGives, StepGoes, StepUnless, ValuesGo, put_away}
use Rattle.span_tracing_steps.specs.Steps.{becoming, set_in, span_reply, with_setting}
use Rattle.span_tracing_steps.specs.StackRequests.{place_at, request_of}
use Rattle.span_tracing_steps.specs.contracts.callsite.TraceCallsiteCallsite.TheImpl.{ghosts}
use Rattle.span_tracing_laws.specs.runs.StepFollows.{Follows, FollowsStep}
use Rattle.span_tracing_laws.specs.runs.StepFollows.{IsAnswered, OutputsFollow, StackFollows, TraceIsReady, Traced, registry_of}
use Rattle.span_tracing_laws.specs.runs.StepFollows.{skeleton_of}
use Rattle.span_tracing_laws.specs.runs.StepNotices.{Told, event_told_by}
use Rattle.span_tracing_laws.specs.runs.StepSettings.{OutputSetting, setting_by, setting_for, stack_with}
use Rattle.span_tracing_laws.specs.runs.StepNotices.{span_told_by, told_by, told_to}
use Rattle.span_tracing_laws.proofs.runs.HubStacks.{back_both, became_elsewhere, became_in, became_other, became_own}
use Rattle.span_tracing_laws.proofs.runs.HubStacks.{held_same, held_serials, held_there, put_count, reach_held}
use Rattle.span_tracing_laws.proofs.runs.HubStacks.{registry_stays, registry_there, skeleton_became}
use Rattle.span_tracing_laws.proofs.runs.HubStacks.{with_number}
use Rattle.span_tracing_laws.proofs.runs.UnrefusedSteps.{second_none}

-- what is told to a stack
module _ (N : Type 0) where
  pub own_if : (b : Bool) (told : Told N) → b ≡ true → (if b then Some told else None) ≡ Some told
  own_if true told is = refl
  own_if false told is = absurd (cc)

  pub other_if : (b : Bool) (told : Told N) → b ≡ false → (if b then Some told else None) ≡ None
  other_if true told is = absurd (cc)
  other_if false told is = refl

  pub told_own : (stack : ℕ) (told : Option (Told N)) → IfSome told (λ (t : Told N). t.stack ≡ stack) → told_to N stack told ≡ told
  told_own stack None is = refl
  told_own stack (Some told) is = own_if (told.stack == stack) told ((unsigned_Decides told.stack stack).1 is)

  pub apart_from : (a k n : ℕ) → a ≡ k → (n == k) ≡ false → (a == n) ≡ false
  apart_from a k n e f = grind arith

  pub told_other : (stack number : ℕ) (told : Option (Told N)) → IfSome told (λ (t : Told N). t.stack ≡ stack) → (number == stack) ≡ false →
      told_to N number told ≡ None
  told_other stack number None is apart = refl
  told_other stack number (Some told) is apart = other_if (told.stack == number) told (apart_from told.stack stack number is apart)

module _ {N E F S : Type 0} (n : Ghosts N) (line_of : E → Settings → PlainContext → PlainEvent → Option (List ℕ)) (g : FilterGhosts F)
    (takes : S → At → PlainLine → S → Type 0) (h : LayerGhosts (Lines N E)) where
  abbrev Stack : Type 0
  Stack = TraceStackValue N E F S

  abbrev Goes : Traced N E F S → PlainStep → Reply → Traced N E F S → Type 0
  Goes v step reply w = Follows n line_of g takes h v step reply w × TraceIsReady g h w

  -- the outputs of each stack follow what it is told
  abbrev Outs : Option (Told N) → Fates → Traced N E F S → Traced N E F S → Type 0
  Outs told fates v w = (number : ℕ) → OutputsFollow n line_of g takes (told_to N number told) fates (stack_in v number) (stack_in w number)

  -- so they do from a setting on
  abbrev Sets : Option OutputSetting → Option (Told N) → Fates → Traced N E F S → Traced N E F S → Type 0
  Sets c told fates v w = (number : ℕ) → OutputsFollow n line_of g takes (told_to N number told) fates
      (stack_with number c (stack_in v number)) (stack_in w number)

  pub rests_same : (x : Stack) → Rests n line_of g takes x x
  rests_same x = record { rows = refl; sinks = refl; agreed = λ outs a. a }

  pub rest_same : (fates : Fates) (o : Option Stack) → OutputsFollow n line_of g takes None fates o o
  rest_same fates None = tt
  rest_same fates (Some x) = rests_same x

  pub rest_all : (fates : Fates) (v w : Traced N E F S) → ((number : ℕ) → stack_in w number ≡ stack_in v number) → Outs None fates v w
  rest_all fates v w same number =
      subst (λ (o : Option Stack). OutputsFollow n line_of g takes None fates (stack_in v number) o) (sym (same number))
      (rest_same fates (stack_in v number))

  -- a step that reading doesn't refuse
  pub made : (v : Traced N E F S) (step : PlainStep) (reply : Reply) (w : Traced N E F S) (a : Answers) (fates : Fates) →
      refusal_of (skeleton_of v) step ≡ None → setting_by (skeleton_of v) step ≡ None → IsAnswered g h v step a →
      reply ≡ answered (skeleton_of v) step a → skeleton_of w ≡ acted (skeleton_of v) step a →
      Outs (told_by N (skeleton_of v) step a) fates v w → Follows n line_of g takes h v step reply w
  made v step reply w a fates none calm asked replied skeleton outputs =
      inl (record {
        answers = a;
        fates = fates;
        asked = λ _. asked;
        replied = replied ∙ ap (λ (o : Option Refusal). or_refused o (answered (skeleton_of v) step a)) (sym none);
        skeleton = skeleton ∙ ap (λ (o : Option Refusal). or_same o (skeleton_of v) (acted (skeleton_of v) step a)) (sym none);
        outputs = subst (λ (o : Option Refusal). Sets (or_same o None (setting_by (skeleton_of v) step))
            (or_same o None (told_by N (skeleton_of v) step a)) fates v w) (sym none)
            (subst (λ (c : Option OutputSetting). Sets c (told_by N (skeleton_of v) step a) fates v w) (sym calm) outputs);
      })

  -- one that it refuses
  pub refused : (v : Traced N E F S) (step : PlainStep) (reply : Reply) (w : Traced N E F S) (refusal : Refusal) →
      refusal_of (skeleton_of v) step ≡ Some refusal → reply ≡ Refused refusal → w ≡ v → FollowsStep n line_of g takes h v step reply w
  refused v step reply w refusal is replied same = record {
    answers = Unasked;
    fates = [];
    asked = λ none. absurd (let clash : Some refusal ≡ None = sym is ∙ none in cc);
    replied = replied ∙ ap (λ (o : Option Refusal). or_refused o (answered (skeleton_of v) step Unasked)) (sym is);
    skeleton = ap skeleton_of same ∙ ap (λ (o : Option Refusal). or_same o (skeleton_of v) (acted (skeleton_of v) step Unasked)) (sym is);
    outputs = subst (λ (o : Option Refusal). Sets (or_same o None (setting_by (skeleton_of v) step))
        (or_same o None (told_by N (skeleton_of v) step Unasked)) [] v w) (sym is)
        (rest_all [] v w (λ number. ap (λ (u : Traced N E F S). stack_in u number) same));
  }

  -- a step that changes no stack, and of which nobody is told
  pub unmoved : (v : Traced N E F S) (step : PlainStep) (reply : Reply) (w : Traced N E F S) (a : Answers) →
      refusal_of (skeleton_of v) step ≡ None → setting_by (skeleton_of v) step ≡ None → IsAnswered g h v step a →
      reply ≡ answered (skeleton_of v) step a → skeleton_of w ≡ acted (skeleton_of v) step a → told_by N (skeleton_of v) step a ≡ None →
      ((number : ℕ) → stack_in w number ≡ stack_in v number) → Follows n line_of g takes h v step reply w
  unmoved v step reply w a none calm asked replied skeleton untold same =
      made v step reply w a [] none calm asked replied skeleton
      (subst (λ (told : Option (Told N)). Outs told [] v w) (sym untold) (rest_all [] v w same))

  -- one that changes nothing
  pub rested : (v : Traced N E F S) (step : PlainStep) (reply : Reply) (w : Traced N E F S) (a : Answers) →
      refusal_of (skeleton_of v) step ≡ None → setting_by (skeleton_of v) step ≡ None → IsAnswered g h v step a →
      reply ≡ answered (skeleton_of v) step a → acted (skeleton_of v) step a ≡ skeleton_of v → told_by N (skeleton_of v) step a ≡ None →
      w ≡ v → TraceIsReady g h v →
      Goes v step reply w
  rested v step reply w a none calm asked replied still untold same ready = (
    unmoved v step reply w a none calm asked replied (ap skeleton_of same ∙ sym still) untold
        (λ number. ap (λ (u : Traced N E F S). stack_in u number) same),
    subst (TraceIsReady g h) (sym same) ready,
  )

  pub event_untold : (s : Skeleton) (e : Request) (o : Option ℕ) (k : Option PlainMetadata) → event_told_by N s e o k Unasked ≡ None
  event_untold s e None k = refl
  event_untold s e (Some stack) None = refl
  event_untold s e (Some stack) (Some m) = refl

  pub span_untold : (s : Skeleton) (e : Request) (o : Option ℕ) (k : Option PlainMetadata) → span_told_by N s e o k Unasked ≡ None
  span_untold s e None k = refl
  span_untold s e (Some stack) None = refl
  span_untold s e (Some stack) (Some m) = refl

  pub dropped_untold : (s : Skeleton) (e : Request) (o : Option ℕ) (k : Option PlainMetadata) → span_told_by N s e o k Dropped ≡ None
  dropped_untold s e None k = refl
  dropped_untold s e (Some stack) None = refl
  dropped_untold s e (Some stack) (Some m) = refl

  -- what the reached stack is told of an event, and of a new span
  pub event_tells : (s : Skeleton) (e : Request) (o : Option ℕ) (k : Option PlainMetadata) (passed told : List Bool) (stack : ℕ)
      (m : PlainMetadata) (r : RegistryValue) → o ≡ Some stack → k ≡ Some m → registry_at s stack ≡ r →
      event_told_by N s e o k (Heard passed told) ≡ Some (record {
        stack = stack;
        at = place_at e.lane e.moment;
        lists = event_lists r (place_at e.lane e.moment) (request_of m e) told;
      })
  event_tells s e o k passed told stack m r at is home =
      ap (λ (p : Option ℕ). event_told_by N s e p k (Heard passed told)) at ∙
      ap (λ (c : Option PlainMetadata). event_told_by N s e (Some stack) c (Heard passed told)) is ∙
      ap (λ (x : RegistryValue). Some (record {
        stack = stack;
        at = place_at e.lane e.moment;
        lists = event_lists x (place_at e.lane e.moment) (request_of m e) told;
      })) home

  pub span_tells : (s : Skeleton) (q : Request) (o : Option ℕ) (k : Option PlainMetadata) (passed : List Bool) (stack : ℕ)
      (m : PlainMetadata) (r : RegistryValue) → o ≡ Some stack → k ≡ Some m → registry_at s stack ≡ r →
      span_told_by N s q o k (Passed passed) ≡ Some (record {
        stack = stack;
        at = place_at q.lane q.moment;
        lists = call_lists (span_told (with_span r m (parent_id r q.lane q.parent) passed) (place_at q.lane q.moment)
            (Made (request_of m q)) r.next_id);
      })
  span_tells s q o k passed stack m r at is home =
      ap (λ (p : Option ℕ). span_told_by N s q p k (Passed passed)) at ∙
      ap (λ (c : Option PlainMetadata). span_told_by N s q (Some stack) c (Passed passed)) is ∙
      ap (λ (x : RegistryValue). Some (record {
        stack = stack;
        at = place_at q.lane q.moment;
        lists = call_lists (span_told (with_span x m (parent_id x q.lane q.parent) passed) (place_at q.lane q.moment)
            (Made (request_of m q)) x.next_id);
      })) home

  -- the skeleton over another stack
  pub skeleton_after : (v w : Traced N E F S) (stack : ℕ) (y : Stack) (r : RegistryValue) → w ≡ becoming stack y v →
      bare y.stack.registry ≡ r → skeleton_of w ≡ with_registry (skeleton_of v) stack r
  skeleton_after v w stack y r is registry =
      ap skeleton_of is ∙ skeleton_became registry_of v stack y ∙ ap (with_registry (skeleton_of v) stack) registry

  -- where the spans are the same
  pub skeleton_stays : (v w : Traced N E F S) (stack : ℕ) (x y : Stack) → held_in v stack ≡ Some x → w ≡ becoming stack y v →
      bare y.stack.registry ≡ bare x.stack.registry → skeleton_of w ≡ skeleton_of v
  skeleton_stays v w stack x y there is registry =
      skeleton_after v w stack y (bare x.stack.registry) is registry ∙
      registry_stays (skeleton_of v) stack (bare x.stack.registry) (registry_there registry_of v stack x there)

  -- the outputs of the one stack are told, and the others rest
  pub outputs_after : (v w : Traced N E F S) (stack : ℕ) (x y : Stack) (told : Option (Told N)) (fates : Fates) →
      IfSome told (λ (t : Told N). t.stack ≡ stack) → held_in v stack ≡ Some x → w ≡ becoming stack y v →
      StackFollows n line_of g takes told fates x y → Outs told fates v w
  outputs_after v w stack x y told fates for there is follows number =
      by_bool (number == stack)
      (λ here.
      let same : number ≡ stack = (unsigned_Decides number stack).0 here in
      let before : stack_in v stack ≡ Some x = ap (λ (o : Option Stack). or_retired o (slice_get v.retired stack)) there in
      let later : stack_in w stack ≡ Some y = ap (λ (u : Traced N E F S). stack_in u stack) is ∙ became_in v stack x y there in
      subst (λ k. OutputsFollow n line_of g takes (told_to N k told) fates (stack_in v k) (stack_in w k)) (sym same)
      (subst (λ (t : Option (Told N)). OutputsFollow n line_of g takes t fates (stack_in v stack) (stack_in w stack))
      (sym (told_own N stack told for))
      (subst (λ (o : Option Stack). OutputsFollow n line_of g takes told fates o (stack_in w stack)) (sym before)
      (subst (λ (o : Option Stack). OutputsFollow n line_of g takes told fates (Some x) o) (sym later) follows))))
      (λ apart.
      let same : stack_in w number ≡ stack_in v number = ap (λ (u : Traced N E F S). stack_in u number) is ∙
      became_elsewhere v stack y number apart in
      subst (λ (t : Option (Told N)). OutputsFollow n line_of g takes t fates (stack_in v number) (stack_in w number))
      (sym (told_other N stack number told for apart))
      (subst (λ (o : Option Stack). OutputsFollow n line_of g takes None fates (stack_in v number) o) (sym same)
      (rest_same fates (stack_in v number))))

  -- the stack of the output has the setting, and the others rest
  pub setting_after : (v w : Traced N E F S) (o : OutputPlace) (setting : Setting) (x : Stack) → held_in v o.stack ≡ Some x →
      w ≡ becoming o.stack (stack_set x o.place setting) v → Sets (setting_for (Some o) setting) None [] v w
  setting_after v w o setting x there is number =
      by_bool (o.stack == number)
      (λ here.
      let same : o.stack ≡ number = (unsigned_Decides o.stack number).0 here in
      let y = stack_set x o.place setting in
      let before : stack_in v o.stack ≡ Some x = ap (λ (p : Option Stack). or_retired p (slice_get v.retired o.stack)) there in
      let later : stack_in w o.stack ≡ Some y = ap (λ (u : Traced N E F S). stack_in u o.stack) is ∙ became_in v o.stack x y there in
      subst (λ k. OutputsFollow n line_of g takes None [] (stack_with k (setting_for (Some o) setting) (stack_in v k)) (stack_in w k)) same
      (subst (λ (b : Bool). OutputsFollow n line_of g takes None [] (if b then option_map (λ z. stack_set z o.place setting)
      (stack_in v o.stack) else stack_in v o.stack) (stack_in w o.stack)) (sym ((unsigned_Decides o.stack o.stack).1 refl))
      (subst (λ (p : Option Stack). OutputsFollow n line_of g takes None [] (option_map (λ z. stack_set z o.place setting) p)
      (stack_in w o.stack)) (sym before)
      (subst (λ (p : Option Stack). OutputsFollow n line_of g takes None [] (Some y) p) (sym later) (rests_same y)))))
      (λ apart.
      let other : (number == o.stack) ≡ false = apart_from N number number o.stack refl apart in
      let same : stack_in w number ≡ stack_in v number = ap (λ (u : Traced N E F S). stack_in u number) is ∙
      became_elsewhere v o.stack (stack_set x o.place setting) number other in
      subst (λ (b : Bool). OutputsFollow n line_of g takes None [] (if b then option_map (λ z. stack_set z o.place setting)
      (stack_in v number) else stack_in v number) (stack_in w number)) (sym apart)
      (subst (λ (p : Option Stack). OutputsFollow n line_of g takes None [] (stack_in v number) p) (sym same)
      (rest_same [] (stack_in v number))))

  -- the same, of what a step tells
  pub told_after : (v w : Traced N E F S) (stack : ℕ) (x y : Stack) (by : Option (Told N)) (told : Told N) (fates : Fates) →
      by ≡ Some told →
      told.stack ≡ stack → held_in v stack ≡ Some x → w ≡ becoming stack y v → StackFollows n line_of g takes (Some told) fates x y →
      Outs by fates v w
  told_after v w stack x y by told fates tells own there is follows =
      subst (λ (t : Option (Told N)). Outs t fates v w) (sym tells) (outputs_after v w stack x y (Some told) fates own there is follows)

  pub parent_passed : (s : Skeleton) (lane : ℕ) (moment : Moment) (k : Option PlainMetadata) (parent : Parent) →
      first (lane_refusal s lane) (first (moment_refusal moment) (first (callsite_refusal k) (parent_refusal s lane parent))) ≡ None →
      parent_refusal s lane parent ≡ None
  parent_passed s lane moment k parent none =
      second_none (callsite_refusal k) (parent_refusal s lane parent)
      (second_none (moment_refusal moment) (first (callsite_refusal k) (parent_refusal s lane parent))
      (second_none (lane_refusal s lane) (first (moment_refusal moment) (first (callsite_refusal k) (parent_refusal s lane parent))) none))

  -- a stack that lanes reach is there
  pub reached_there : (v : Traced N E F S) (lane stack : ℕ) → reach (skeleton_of v) lane ≡ Some stack →
      (x : Stack) × (held_in v stack ≡ Some x)
  reached_there v lane stack at =
      let s = skeleton_of v in
      held_there registry_of v stack (reach_held s (looking.chosen (or_global (default_of s lane) s.default)) stack at)

  -- a trace is ready where its stacks were
  pub ready_of : (v w : Traced N E F S) → TraceIsReady g h v → IsSoundHub ghosts w.hub → length w.retired ≡ w.hub.next →
      ((number : ℕ) (x : Stack) → held_in w number ≡ Some x → held_in v number ≡ Some x) → TraceIsReady g h w
  ready_of v w ready sound given back = record {
    sound = sound;
    given = given;
    stacks = λ number x there. ready.stacks number x (back number x there);
  }

  -- and where one of them changed and is ready
  pub became_ready : (v : Traced N E F S) (stack : ℕ) (x y : Stack) → TraceIsReady g h v → held_in v stack ≡ Some x → IsReady g y →
      TraceIsReady g h (becoming stack y v)
  became_ready v stack x y ready there is = record {
    sound = sound_alike ghosts v.hub (becoming stack y v).hub (serials_changed stack (becomes y) (λ e. refl) v.hub.subscribers) refl refl
        ready.sound;
    given = ready.given;
    stacks = λ number z at.
        by_bool (number == stack)
        (λ here.
        let same : number ≡ stack = (unsigned_Decides number stack).0 here in
        let both : Some y ≡ Some z = sym (became_own stack y v.hub.subscribers x there) ∙
        subst (λ k. held_in (becoming stack y v) k ≡ Some z) same at in
        let own : y ≡ z = cc in
        subst (IsReady g) own is)
        (λ apart. ready.stacks number z (sym (became_other stack y v.hub.subscribers number apart) ∙ at));
  }

  -- one more hold
  pub more_held : (v w : Traced N E F S) (o : Option ℕ) → w.hub.subscribers ≡ held o v.hub.subscribers → w.hub.next ≡ v.hub.next →
      w.hub.callsites ≡ v.hub.callsites → w.retired ≡ v.retired → TraceIsReady g h v →
      TraceIsReady g h w × ((number : ℕ) → stack_in w number ≡ stack_in v number)
  more_held v w o left next callsites retired ready =
      let same = λ (number : ℕ). ap (with_number number) left ∙ held_same o number v.hub.subscribers in (
        ready_of v w ready
            (sound_alike ghosts v.hub w.hub (ap (λ (es : List (KeptSubscriber Stack)). serials es) left ∙
            held_serials o v.hub.subscribers) next callsites ready.sound)
            (ap length retired ∙ ready.given ∙ sym next) (λ number x there. sym (same number) ∙ there),
        λ number. ap (λ (p : Option Stack). or_retired p (slice_get w.retired number)) (same number) ∙
            ap (λ (rs : List (Option Stack)). or_retired (held_in v number) (slice_get rs number)) retired,
      )

  module _ (sg : SubscriberGhosts Stack) where
    -- one hold less: a stack that nobody holds then waits under its number
    pub less_held : (v w : Traced N E F S) (o : Option ℕ) → w.hub.subscribers ≡ (given_back o v.hub.subscribers).1 → Alike v.hub w.hub →
        w.retired ≡ put_away o (given_back o v.hub.subscribers).0 v.retired → TraceIsReady g h v →
        TraceIsReady g h w × ((number : ℕ) → stack_in w number ≡ stack_in v number)
    less_held v w o left alike retired ready =
        let both = back_both o v.hub.subscribers v.hub.next v.retired ready.sound.numbers ready.given in
        let released = (given_back o v.hub.subscribers).0 in (
          ready_of v w ready ((given_back_keeps sg ghosts o v.hub w.hub left alike).sound ready.sound)
              (ap length retired ∙ put_count o released v.retired ∙ ready.given ∙ sym alike.next)
              (λ number x there. both.1 number x (sym (ap (with_number number) left) ∙ there)),
          λ number. ap (λ (es : List (KeptSubscriber Stack)). or_retired (with_number number es) (slice_get w.retired number)) left ∙
              ap (λ (rs : List (Option Stack)). or_retired (with_number number (given_back o v.hub.subscribers).1) (slice_get rs number))
              retired ∙ both.0 number,
        )

    -- a guard that is spent
    pub reset_ready : (v : Traced N E F S) (lane number : ℕ) (o : Option DefaultGuard) → TraceIsReady g h v →
        TraceIsReady g h (steps.restored v lane number o) ×
        ((stack : ℕ) → stack_in (steps.restored v lane number o) stack ≡ stack_in v stack)
    reset_ready v lane number None ready = (ready, λ stack. refl)
    reset_ready v lane number (Some guard) ready =
        less_held v (steps.restored v lane number (Some guard)) (table.chosen (own_setting (slice_get v.hub.lanes lane))) refl
        (record { next = refl; callsites = refl; greatest = refl }) refl ready
