-- Steps that hand a call on a span to its stack.
use Rattle.std.proofs.Common.{◌≡◌, inr, ℕ, Bool, not, List, [], Option, Some, None, Result}
use Rattle.std.proofs.Common.{Ok, Err, refl, sym, ap, ◌∙◌, subst}
use Rattle.std.specs.Prelude.{IsSome}
use Rattle.tracing_core_fields.specs.PlainMetadata.{PlainMetadata}
use Rattle.tracing_core_fields.specs.requests.Calls.{Call, ReplyTo, Asked, SpanMade, FollowsRecorded, EventDispatched, Entered, Exited}
use Rattle.tracing_core_fields.specs.requests.Calls.{Cloned, CloseTried}
use Rattle.tracing_core_fields.specs.requests.Calls as calls
use Rattle.tracing_core_fields.specs.requests.PlainRequests.{PlainEvent}
use Rattle.tracing_core_fields.specs.requests.Refusals.{or_refused as or_error}
use Rattle.tracing_core_fields.specs.requests.Refusals as refusals
use Rattle.tracing_core_moments.specs.declared.at.At.{At}
use Rattle.tracing_core_fields.specs.declared.requests.refusal.RequestError.{RequestError}
use Rattle.tracing_core_fields.specs.declared.requests.subscriber.Subscriber.{Ghosts as SubscriberGhosts}
use Rattle.span_registry_layers_store.specs.SlotIndependence.{bare}
use Rattle.span_registry_layers_store.specs.Registries.{RegistryValue, kin_in, swept, with_entry, with_handle, without_entry}
use Rattle.span_registry_layers_store.specs.Registries.{without_handle}
use Rattle.span_registry_layers_store.specs.Spans.{is_open}
use Rattle.span_registry_layers_layers.specs.declared.filter.Filter.{Ghosts as FilterGhosts}
use Rattle.span_registry_layers_layers.specs.declared.layer.Layer.{Ghosts as LayerGhosts}
use Rattle.event_formatter_text.specs.declared.format_fields.FormatFields.{Ghosts}
use Rattle.event_formatter_text.specs.declared.settings.Settings.{Settings}
use Rattle.event_formatter.specs.formats.Contexts.{PlainContext}
use Rattle.span_tracing_outputs.specs.OutputNotices.{close_told, enter_told, exit_told, span_told}
use Rattle.span_tracing_outputs.specs.OutputMachines.{PlainLine, Recorded}
use Rattle.span_tracing_outputs.specs.OutputFolds.{call_lists}
use Rattle.span_tracing_outputs.specs.StackFollows.{IfTaken}
use Rattle.span_tracing_outputs.specs.TraceFollows.{CloseIf, StepGoes as OutputsStep, TraceFollows}
use Rattle.span_tracing_outputs.specs.TraceStacks.{TraceMoves, TraceStackValue}
use Rattle.span_tracing_outputs.specs.Turns.{Lines}
use Rattle.span_tracing_skeleton.specs.Acting.{cloned, entered, given_up, left}
use Rattle.span_tracing_skeleton.specs.Looking.{callsite_of, has_open}
use Rattle.span_tracing_skeleton.specs.Looking.{registry_at}
use Rattle.span_tracing_skeleton.specs.Machine.{is_closed}
use Rattle.span_tracing_skeleton.specs.Order.{call_refusal, refusal_of}
use Rattle.span_tracing_skeleton.specs.PlainData.{PlainStep, RecordRequest, on_span}
use Rattle.span_tracing_skeleton.specs.PlainData.{RecordStep, FollowsFromStep, EnterStep, ExitStep, CloneStep, CloseStep}
use Rattle.span_tracing_skeleton.specs.Refusing.{bare_refusal, count_refusal}
use Rattle.span_tracing_skeleton.specs.Skeleton.{Unasked}
use Rattle.span_tracing_skeleton.specs.declared.call.FollowsCall.{FollowsCall}
use Rattle.span_tracing_skeleton.specs.declared.call.Reply.{Reply}
use Rattle.span_tracing_skeleton.specs.declared.call.Reply.TheVariants.{Done, Closed}
use Rattle.span_tracing_skeleton.specs.declared.call.SpanCall.{SpanCall}
use Rattle.span_tracing_skeleton.specs.declared.call.SpanName.{SpanName}
use Rattle.span_tracing_steps.specs.Steps.{CloneGoes, CloseGoes, EnterGoes, ExitGoes, FollowsGoes}
use Rattle.span_tracing_steps.specs.Steps.{RecordGoes, ValuesGo}
use Rattle.span_tracing_steps.specs.StackRequests.{own_values, place_at}
use Rattle.span_tracing_laws.specs.runs.StepFollows.{Follows}
use Rattle.span_tracing_laws.specs.runs.StepFollows.{TraceIsReady, Traced, registry_of}
use Rattle.span_tracing_laws.specs.runs.StepFollows.{skeleton_of}
use Rattle.span_tracing_laws.specs.runs.StepNotices.{close_told_by, enter_told_by, exit_told_by, record_told_by}
use Rattle.span_tracing_laws.specs.runs.StepNotices.{values_told_by}
use Rattle.span_tracing_laws.proofs.runs.HubStacks.{held_there, registry_given}
use Rattle.span_tracing_laws.proofs.runs.HubStacks.{registry_there}
use Rattle.span_tracing_laws.proofs.runs.UnrefusedSteps.{call_held, call_open, clone_none, close_none, first_none, follows_held}
use Rattle.span_tracing_laws.proofs.runs.UnrefusedSteps.{handle_bare}
use Rattle.span_tracing_laws.proofs.runs.UnrefusedSteps.{open_bare, second_none}
use Rattle.span_tracing_laws.proofs.runs.StepOutcomes.{made, rested, skeleton_after, skeleton_stays, outputs_after, told_after}
use Rattle.span_tracing_laws.proofs.runs.RequestSteps.{called, stays}

module _ {N E F S : Type 0} (n : Ghosts N) (line_of : E → Settings → PlainContext → PlainEvent → Option (List ℕ)) (g : FilterGhosts F)
    (takes : S → At → PlainLine → S → Type 0) (h : LayerGhosts (Lines N E)) (sg : SubscriberGhosts (TraceStackValue N E F S))
    (moved : (x : TraceStackValue N E F S) (c : Call) (r : ReplyTo c) (y : TraceStackValue N E F S) → sg.moves x c r y →
    TraceMoves g h takes x c r y) (law : TraceFollows n line_of g takes h) where
  abbrev Stack : Type 0
  Stack = TraceStackValue N E F S

  abbrev Goes : Traced N E F S → PlainStep → Reply → Traced N E F S → Type 0
  Goes v step reply w = Follows n line_of g takes h v step reply w × TraceIsReady g h w

  -- values for a span
  pub values_go : (v : Traced N E F S) (r : RecordRequest) (name : SpanName) (reply : Reply) (w : Traced N E F S)
      (k : Option PlainMetadata) → r.span ≡ Some name → callsite_of (skeleton_of v) name ≡ k → TraceIsReady g h v →
      refusal_of (skeleton_of v) (RecordStep r) ≡ None → reply ≡ Done → ValuesGo sg name k v r w → Goes v (RecordStep r) reply w
  values_go v r name reply w None on is ready none done same =
      rested n line_of g takes h v (RecordStep r) reply w Unasked none refl refl done refl
      (ap (record_told_by N (skeleton_of v) r) on ∙ ap (values_told_by N (skeleton_of v) r name) is) same ready
  values_go v r name reply w (Some m) on is ready none done goes =
      let s = skeleton_of v in
      let here = place_at r.lane r.moment in
      let id = name.id.value in
      let (x, there) = held_there registry_of v name.stack (call_held s (on_span r) name on none) in
      let home = registry_there registry_of v name.stack x there in
      let kept = bare x.stack.registry in
      let call = called n line_of g takes h sg moved law name.stack x (calls.Recorded id
      (own_values m r.values) here) goes.0 v w ready there goes.1 in
      let opened = call_open s x.stack.registry (on_span r) name home on none in
      let answer : goes.0 ≡ Ok tt = call.1.0 ∙ ap (λ (o : Option RequestError). or_error o tt) opened in
      let lists = λ (y : RegistryValue). call_lists (span_told y here (Recorded (own_values m r.values)) id) in
      let outs : OutputsStep n line_of g takes here (lists kept) kept x call.0 =
      subst (λ (a : Result (Unit {0}) RequestError). IfTaken a x (OutputsStep n line_of g takes here (lists kept) kept x call.0) call.0)
      answer call.1.1 in (
        made n line_of g takes h v (RecordStep r) reply w Unasked outs.fates none refl refl done
            (skeleton_stays n line_of g takes h v w name.stack x call.0 there call.2 outs.skeleton)
            (told_after n line_of g takes h v w name.stack x call.0 (record_told_by N s r r.span)
            (record { stack = name.stack; at = here; lists = lists kept }) outs.fates
            (ap (record_told_by N s r) on ∙ ap (values_told_by N s r name) is ∙
            ap (λ (y : RegistryValue). Some (record { stack = name.stack; at = here; lists = lists y })) home) refl there call.2
            outs.outputs),
        call.3,
      )

  pub record_goes : (v : Traced N E F S) (r : RecordRequest) (span : Option SpanName) (reply : Reply) (w : Traced N E F S) → r.span ≡ span →
      TraceIsReady g h v → refusal_of (skeleton_of v) (RecordStep r) ≡ None → reply ≡ Done → RecordGoes sg registry_of span v r w →
      Goes v (RecordStep r) reply w
  record_goes v r None reply w on ready none done same = rested n line_of g takes h v
      (RecordStep r) reply w Unasked none refl refl done refl
      (ap (record_told_by N (skeleton_of v) r) on) same ready
  record_goes v r (Some name) reply w on ready none done goes = values_go v r name reply w (callsite_of (skeleton_of v) name) on refl
      ready none done goes

  -- a span follows another one
  pub follows_goes : (v : Traced N E F S) (ask : FollowsCall) (span follows : Option SpanName) (reply : Reply) (w : Traced N E F S) →
      ask.span ≡ span → TraceIsReady g h v → refusal_of (skeleton_of v) (FollowsFromStep ask) ≡ None → reply ≡ Done →
      FollowsGoes sg span follows v ask w → Goes v (FollowsFromStep ask) reply w
  follows_goes v ask None follows reply w on ready none done same = rested n line_of g takes h v
      (FollowsFromStep ask) reply w Unasked none refl refl done
      refl refl same ready
  follows_goes v ask (Some name) None reply w on ready none done same = rested n line_of g takes h v
      (FollowsFromStep ask) reply w Unasked none refl refl done
      refl refl same ready
  follows_goes v ask (Some name) (Some followed) reply w on ready none done goes =
      let (x, there) = held_there registry_of v name.stack (follows_held (skeleton_of v) ask name on none) in
      let call = called n line_of g takes h sg moved law name.stack x (FollowsRecorded name.id.value followed.id.value
      (place_at ask.lane ask.moment)) goes.0 v w ready
      there goes.1 in
      rested n line_of g takes h v (FollowsFromStep ask) reply w Unasked none refl refl done refl refl
      (stays n line_of g takes h sg moved law v w name.stack x call.0 there call.2 call.1.1) ready

  -- an entry
  pub enter_goes : (v : Traced N E F S) (ask : SpanCall) (span : Option SpanName) (reply : Reply) (w : Traced N E F S) → ask.span ≡ span →
      TraceIsReady g h v → refusal_of (skeleton_of v) (EnterStep ask) ≡ None → EnterGoes sg span v ask reply w →
      Goes v (EnterStep ask) reply w
  enter_goes v ask None reply w on ready none goes =
      rested n line_of g takes h v (EnterStep ask) reply w Unasked none refl refl goes.0 (ap (entered (skeleton_of v) ask.lane) on)
      (ap (enter_told_by N (skeleton_of v) ask) on) goes.1 ready
  enter_goes v ask (Some name) reply w on ready none (Ok done, goes, told) =
      let s = skeleton_of v in
      let here = place_at ask.lane ask.moment in
      let id = name.id.value in
      let (x, there) = held_there registry_of v name.stack (call_held s ask name on none) in
      let home = registry_there registry_of v name.stack x there in
      let call = called n line_of g takes h sg moved law name.stack x (Entered id here) (Ok done) v w ready there goes in
      let outs = call.1.1 in
      let lists = λ (y : RegistryValue). call_lists (enter_told y here id) in (
        made n line_of g takes h v (EnterStep ask) reply w Unasked outs.fates none refl refl told
            (skeleton_after n line_of g takes h v w name.stack call.0 (with_entry (registry_at s name.stack) ask.lane id) call.2
            (outs.skeleton ∙ ap (λ (y : RegistryValue). with_entry y ask.lane id) (sym home)) ∙ ap (entered s ask.lane) (sym on))
            (told_after n line_of g takes h v w name.stack x call.0 (enter_told_by N s ask ask.span)
            (record { stack = name.stack; at = here; lists = lists (bare x.stack.registry) }) outs.fates
            (ap (enter_told_by N s ask) on ∙
            ap (λ (y : RegistryValue). Some (record { stack = name.stack; at = here; lists = lists y })) home) refl there call.2
            outs.outputs),
        call.3,
      )
  enter_goes v ask (Some name) reply w on ready none (Err error, goes, told) =
      let (x, there) = held_there registry_of v name.stack (call_held (skeleton_of v) ask name on none) in
      let call = called n line_of g takes h sg moved law name.stack x (Entered name.id.value (place_at ask.lane ask.moment))
      (Err error) v w ready there goes in
      let same : w ≡ v = stays n line_of g takes h sg moved law v w name.stack x call.0 there call.2 call.1.1 in (
        inr (told, none, subst (λ (span : Option SpanName). IsSome span) (sym on) refl, same),
        subst (TraceIsReady g h) (sym same) ready,
      )

  -- an exit
  pub exit_goes : (v : Traced N E F S) (ask : SpanCall) (span : Option SpanName) (reply : Reply) (w : Traced N E F S) → ask.span ≡ span →
      TraceIsReady g h v → refusal_of (skeleton_of v) (ExitStep ask) ≡ None → reply ≡ Done → ExitGoes sg span v ask w →
      Goes v (ExitStep ask) reply w
  exit_goes v ask None reply w on ready none done same =
      rested n line_of g takes h v (ExitStep ask) reply w Unasked none refl refl done (ap (left (skeleton_of v) ask.lane) on)
      (ap (exit_told_by N (skeleton_of v) ask) on) same ready
  exit_goes v ask (Some name) reply w on ready none done goes =
      let s = skeleton_of v in
      let here = place_at ask.lane ask.moment in
      let id = name.id.value in
      let (x, there) = held_there registry_of v name.stack (call_held s ask name on none) in
      let home = registry_there registry_of v name.stack x there in
      let call = called n line_of g takes h sg moved law name.stack x (Exited id here) tt v w ready there goes in
      let outs = call.1 in
      let lists = λ (y : RegistryValue). call_lists (exit_told y here id) in (
        made n line_of g takes h v (ExitStep ask) reply w Unasked outs.fates none refl refl done
            (skeleton_after n line_of g takes h v w name.stack call.0 (swept (without_entry (registry_at s name.stack) ask.lane id)) call.2
            (outs.skeleton ∙ ap (λ (y : RegistryValue). swept (without_entry y ask.lane id)) (sym home)) ∙ ap (left s ask.lane) (sym on))
            (told_after n line_of g takes h v w name.stack x call.0 (exit_told_by N s ask ask.span)
            (record { stack = name.stack; at = here; lists = lists (bare x.stack.registry) }) outs.fates
            (ap (exit_told_by N s ask) on ∙
            ap (λ (y : RegistryValue). Some (record { stack = name.stack; at = here; lists = lists y })) home) refl there call.2
            outs.outputs),
        call.3,
      )

  -- a handle taken
  pub clone_goes : (v : Traced N E F S) (ask : SpanCall) (span : Option SpanName) (reply : Reply) (w : Traced N E F S) → ask.span ≡ span →
      TraceIsReady g h v → refusal_of (skeleton_of v) (CloneStep ask) ≡ None → reply ≡ Done → CloneGoes sg span v ask w →
      Goes v (CloneStep ask) reply w
  clone_goes v ask None reply w on ready none done same = rested n line_of g takes h v (CloneStep ask) reply w Unasked none refl refl done
      (ap (cloned (skeleton_of v)) on) refl same ready
  clone_goes v ask (Some name) reply w on ready none done goes =
      let s = skeleton_of v in
      let id = name.id.value in
      let asked = first_none (call_refusal s ask) (count_refusal s ask.span) none in
      let (x, there) = held_there registry_of v name.stack (call_held s ask name on asked) in
      let home = registry_there registry_of v name.stack x there in
      let call = called n line_of g takes h sg moved law name.stack x (Cloned id
      (place_at ask.lane ask.moment)) goes.0 v w ready there goes.1 in
      let opened = call_open s x.stack.registry ask name home on asked in
      let free = clone_none s x.stack.registry name home opened (ap (count_refusal s) (sym on) ∙
      second_none (call_refusal s ask) (count_refusal s ask.span) none) in
      let registry : call.0.stack.registry ≡ with_handle x.stack.registry id =
      ap (λ (p : Result ℕ RequestError × RegistryValue). p.1) call.1.0 ∙
      ap (λ (o : Option RequestError). refusals.or_same o x.stack.registry (with_handle x.stack.registry id)) free in (
        made n line_of g takes h v (CloneStep ask) reply w Unasked [] none refl refl done
            (skeleton_after n line_of g takes h v w name.stack call.0 (with_handle (registry_at s name.stack) id) call.2
            (ap bare registry ∙ handle_bare x.stack.registry id ∙ ap (λ (y : RegistryValue). with_handle y id) (sym home)) ∙
            ap (cloned s) (sym on))
            (outputs_after n line_of g takes h v w name.stack x call.0 None [] tt there call.2 call.1.2),
        call.3,
      )

  -- a handle given up
  pub close_goes : (v : Traced N E F S) (ask : SpanCall) (span : Option SpanName) (reply : Reply) (w : Traced N E F S) → ask.span ≡ span →
      TraceIsReady g h v → refusal_of (skeleton_of v) (CloseStep ask) ≡ None → CloseGoes sg span v ask reply w →
      Goes v (CloseStep ask) reply w
  close_goes v ask None reply w on ready none goes = rested n line_of g takes h v (CloseStep ask) reply w Unasked none refl refl
      (goes.0 ∙ ap (λ (span : Option SpanName). Closed (is_closed (skeleton_of v) span)) (sym on)) (ap (given_up (skeleton_of v)) on)
      (ap (close_told_by N (skeleton_of v) ask) on) goes.1 ready
  close_goes v ask (Some name) reply w on ready none goes =
      let s = skeleton_of v in
      let here = place_at ask.lane ask.moment in
      let id = name.id.value in
      let held_so = call_held s ask name on (first_none (call_refusal s ask) (bare_refusal s ask.span) none) in
      let (x, there) = held_there registry_of v name.stack held_so in
      let home = registry_there registry_of v name.stack x there in
      let call = called n line_of g takes h sg moved law name.stack x (CloseTried id here) goes.0 v w ready there goes.1 in
      let has = close_none s x.stack.registry name home (ap (bare_refusal s) (sym on) ∙
      second_none (call_refusal s ask) (bare_refusal s ask.span) none) in
      let closed = subst (λ (o : Option RequestError). CloseIf n line_of g takes o id here x goes.0 call.0) has call.1 in
      let outs = closed.1 in
      let later = swept (without_handle (registry_at s name.stack) id) in
      let registry : bare call.0.stack.registry ≡ later = outs.skeleton ∙
      ap (λ (y : RegistryValue). swept (without_handle y id)) (sym home) in
      let open_later : is_open kin_in later.spans id ≡ has_open (given_up s (Some name)) name =
      ap (λ (y : RegistryValue). is_open kin_in y.spans id) (sym (registry_given s name.stack later held_so)) in
      let lists = λ (y : RegistryValue). call_lists (close_told y here id) in (
        made n line_of g takes h v (CloseStep ask) reply w Unasked outs.fates none refl refl
            (goes.2 ∙ ap (λ (b : Bool). Closed b)
            (closed.0 ∙ ap not (sym (open_bare call.0.stack.registry.spans id) ∙
            ap (λ (y : RegistryValue). is_open kin_in y.spans id) registry ∙ open_later)) ∙
            ap (λ (span : Option SpanName). Closed (is_closed s span)) (sym on))
            (skeleton_after n line_of g takes h v w name.stack call.0 later call.2 registry ∙ ap (given_up s) (sym on))
            (told_after n line_of g takes h v w name.stack x call.0 (close_told_by N s ask ask.span)
            (record { stack = name.stack; at = here; lists = lists (bare x.stack.registry) }) outs.fates
            (ap (close_told_by N s ask) on ∙
            ap (λ (y : RegistryValue). Some (record { stack = name.stack; at = here; lists = lists y })) home) refl there call.2
            outs.outputs),
        call.3,
      )
