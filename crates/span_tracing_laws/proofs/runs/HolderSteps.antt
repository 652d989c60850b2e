-- Steps that change who holds stacks, or a setting.
use Rattle.std.proofs.Common.{◌≡◌, inl, inr, ℕ, List, [], length, Option, Some, None}
use Rattle.std.proofs.Common.{refl, sym, ap, ◌∙◌, subst}
use Rattle.std.specs.Prelude.{slice_get}
use Rattle.std.proofs.lemmas.List.{length-map}
use Rattle.tracing_core_fields.specs.requests.Calls.{Call, ReplyTo}
use Rattle.tracing_core_fields.specs.requests.PlainRequests.{PlainEvent}
use Rattle.tracing_core_moments.specs.declared.at.At.{At}
use Rattle.tracing_core_fields.specs.declared.requests.subscriber.Subscriber.{Ghosts as SubscriberGhosts}
use Rattle.span_registry_layers_layers.specs.declared.filter.Filter.{Ghosts as FilterGhosts}
use Rattle.span_registry_layers_layers.specs.declared.layer.Layer.{Ghosts as LayerGhosts}
use Rattle.event_formatter_text.specs.declared.format_fields.FormatFields.{Ghosts}
use Rattle.event_formatter_text.specs.declared.settings.Settings.{Settings}
use Rattle.event_formatter.specs.formats.Contexts.{PlainContext}
use Rattle.span_tracing_outputs.specs.OutputMachines.{PlainLine}
use Rattle.span_tracing_outputs.specs.OutputFolds.{Fates}
use Rattle.span_tracing_outputs.specs.OutputSettings.{stack_set}
use Rattle.span_tracing_outputs.specs.TraceFollows.{TraceFollows}
use Rattle.span_tracing_outputs.specs.TraceStacks.{TraceMoves, TraceStackValue}
use Rattle.span_tracing_outputs.specs.Turns.{Lines}
use Rattle.span_tracing_skeleton.specs.Acting as acting
use Rattle.span_tracing_skeleton.specs.Acting.{cloned, entered, given_up, left, parent_id, told_parent, with_made, with_registry}
use Rattle.span_tracing_skeleton.specs.Looking.{inner, is_held, output_at}
use Rattle.span_tracing_skeleton.specs.Machine.{or_refused, or_same}
use Rattle.span_tracing_skeleton.specs.Order.{refusal_of}
use Rattle.span_tracing_skeleton.specs.PlainData.{PlainStep, GlobalStep}
use Rattle.span_tracing_skeleton.specs.PlainData.{DefaultStep}
use Rattle.span_tracing_skeleton.specs.PlainData.{ResetStep, CloneHandleStep, ReleaseStep, SetStep}
use Rattle.span_tracing_skeleton.specs.Refusing.{output_refusal_by}
use Rattle.span_tracing_skeleton.specs.Skeleton.{Unasked}
use Rattle.span_tracing_skeleton.specs.declared.call.DefaultCall.{DefaultCall}
use Rattle.span_tracing_skeleton.specs.declared.call.Reply.{Reply}
use Rattle.span_tracing_skeleton.specs.declared.call.ResetCall.{ResetCall}
use Rattle.span_tracing_skeleton.specs.declared.call.Reply.TheVariants.{Done, Guard, Handle}
use Rattle.span_tracing_skeleton.specs.declared.refusal.Refusal.{Refusal}
use Rattle.span_tracing_skeleton.specs.declared.refusal.Refusal.TheVariants.{NoOutput, ReleasedStack}
use Rattle.span_tracing_skeleton.specs.declared.setting.OutputPlace.{OutputPlace}
use Rattle.span_tracing_skeleton.specs.declared.setting.SettingCall.{SettingCall}
use Rattle.span_tracing_steps.specs.States.{behind, stack_in}
use Rattle.span_tracing_steps.specs.Steps as steps
use Rattle.span_tracing_steps.specs.Steps.{CallGoes, CloneGoes, CloseGoes, EnterGoes, EventGoes, ExitGoes, FollowsGoes, OrStarved}
use Rattle.span_tracing_steps.specs.Steps.{QuestionGoes, RecordGoes, SpanGoes, StepGives, StepGoes, StepUnless, ValuesGo, put_away}
use Rattle.span_tracing_steps.specs.Steps.{becoming, set_in, span_reply, with_setting}
use Rattle.span_tracing_laws.specs.runs.StepFollows.{Follows}
use Rattle.span_tracing_laws.specs.runs.StepFollows.{OutputsFollow, TraceIsReady, Traced, registry_of}
use Rattle.span_tracing_laws.specs.runs.StepFollows.{skeleton_of}
use Rattle.span_tracing_laws.specs.runs.StepNotices.{Told}
use Rattle.span_tracing_laws.specs.runs.StepSettings.{OutputSetting, setting_by, setting_for, stack_with}
use Rattle.span_tracing_laws.specs.runs.StepNotices.{told_by, told_to}
use Rattle.span_tracing_laws.proofs.runs.HubStacks.{asked_same}
use Rattle.span_tracing_laws.proofs.runs.HubStacks.{behind_same, default_skeleton, global_skeleton, handle_skeleton}
use Rattle.span_tracing_laws.proofs.runs.HubStacks.{held_there}
use Rattle.span_tracing_laws.proofs.runs.HubStacks.{release_skeleton, reset_skeleton}
use Rattle.span_tracing_laws.proofs.runs.UnrefusedSteps.{open_by}
use Rattle.span_tracing_outputs.proofs.OutputSettings.{set_ready}
use Rattle.span_tracing_laws.proofs.runs.StepOutcomes.{unmoved, skeleton_stays, setting_after, became_ready, more_held, less_held}
use Rattle.span_tracing_laws.proofs.runs.StepOutcomes.{reset_ready}

module _ {N E F S : Type 0} (n : Ghosts N) (line_of : E → Settings → PlainContext → PlainEvent → Option (List ℕ)) (g : FilterGhosts F)
    (takes : S → At → PlainLine → S → Type 0) (h : LayerGhosts (Lines N E)) (sg : SubscriberGhosts (TraceStackValue N E F S))
    (moved : (x : TraceStackValue N E F S) (c : Call) (r : ReplyTo c) (y : TraceStackValue N E F S) → sg.moves x c r y →
    TraceMoves g h takes x c r y) (law : TraceFollows n line_of g takes h) where
  abbrev Stack : Type 0
  Stack = TraceStackValue N E F S

  abbrev Goes : Traced N E F S → PlainStep → Reply → Traced N E F S → Type 0
  Goes v step reply w = Follows n line_of g takes h v step reply w × TraceIsReady g h w

  abbrev Sets : Option OutputSetting → Option (Told N) → Fates → Traced N E F S → Traced N E F S → Type 0
  Sets c told fates v w = (number : ℕ) → OutputsFollow n line_of g takes (told_to N number told) fates
      (stack_with number c (stack_in v number)) (stack_in w number)

  -- the global default
  pub global_goes : (v : Traced N E F S) (handle : ℕ) (reply : Reply) (w : Traced N E F S) → TraceIsReady g h v →
      refusal_of (skeleton_of v) (GlobalStep handle) ≡ None → reply ≡ Done → w ≡ steps.with_global v (behind v handle) →
      Goes v (GlobalStep handle) reply w
  global_goes v handle reply w ready none done is =
      let o = behind v handle in
      let u = steps.with_global v o in
      let holds = more_held n line_of g takes h v u o refl refl refl refl ready in (
        unmoved n line_of g takes h v (GlobalStep handle) reply w Unasked none refl refl done
            (ap skeleton_of is ∙ global_skeleton registry_of v o ∙
            ap (acting.with_global (skeleton_of v)) (sym (behind_same registry_of v handle))) refl
            (λ number. ap (λ (t : Traced N E F S). stack_in t number) is ∙ holds.1 number),
        subst (TraceIsReady g h) (sym is) holds.0,
      )

  -- a lane's own default, with a guard
  pub default_goes : (v : Traced N E F S) (ask : DefaultCall) (reply : Reply) (w : Traced N E F S) → TraceIsReady g h v →
      refusal_of (skeleton_of v) (DefaultStep ask) ≡ None →
      OrStarved v (Guard (length v.guards)) (steps.with_default v ask.lane (steps.asked_for v ask.handle)) reply w →
      Goes v (DefaultStep ask) reply w
  default_goes v ask reply w ready none (inl (done, is)) =
      let o = steps.asked_for v ask.handle in
      let u = steps.with_default v ask.lane o in
      let holds = more_held n line_of g takes h v u o refl refl refl refl ready in (
        unmoved n line_of g takes h v (DefaultStep ask) reply w Unasked none refl refl (done ∙ ap (λ k. Guard k) (sym
            (length-map v.guards _)))
            (ap skeleton_of is ∙ default_skeleton registry_of v ask.lane o ∙
            ap (acting.with_default (skeleton_of v) ask.lane) (sym (asked_same registry_of v ask.handle))) refl
            (λ number. ap (λ (t : Traced N E F S). stack_in t number) is ∙ holds.1 number),
        subst (TraceIsReady g h) (sym is) holds.0,
      )
  default_goes v ask reply w ready none (inr (told, same)) =
      (inr (told, none, tt, same), subst (TraceIsReady g h) (sym same) ready)

  -- a guard that is spent
  pub reset_goes : (v : Traced N E F S) (ask : ResetCall) (reply : Reply) (w : Traced N E F S) → TraceIsReady g h v →
      refusal_of (skeleton_of v) (ResetStep ask) ≡ None → reply ≡ Done →
      w ≡ steps.restored v ask.lane ask.guard (inner (slice_get v.guards ask.guard)) → Goes v (ResetStep ask) reply w
  reset_goes v ask reply w ready none done is =
      let holds = reset_ready n line_of g takes h sg v ask.lane ask.guard (inner (slice_get v.guards ask.guard)) ready in (
        unmoved n line_of g takes h v (ResetStep ask) reply w Unasked none refl refl done
            (ap skeleton_of is ∙ reset_skeleton registry_of v ask.lane ask.guard) refl
            (λ number. ap (λ (t : Traced N E F S). stack_in t number) is ∙ holds.1 number),
        subst (TraceIsReady g h) (sym is) holds.0,
      )

  -- a further handle
  pub handle_goes : (v : Traced N E F S) (handle : ℕ) (reply : Reply) (w : Traced N E F S) → TraceIsReady g h v →
      refusal_of (skeleton_of v) (CloneHandleStep handle) ≡ None →
      OrStarved v (Handle (length v.handles)) (steps.with_handle v (behind v handle)) reply w → Goes v (CloneHandleStep handle) reply w
  handle_goes v handle reply w ready none (inl (done, is)) =
      let o = behind v handle in
      let u = steps.with_handle v o in
      let holds = more_held n line_of g takes h v u o refl refl refl refl ready in (
        unmoved n line_of g takes h v (CloneHandleStep handle) reply w Unasked none refl refl (done ∙ ap (λ k. Handle k) (sym
            (length-map v.handles _)))
            (ap skeleton_of is ∙ handle_skeleton registry_of v o ∙
            ap (acting.with_new_handle (skeleton_of v)) (sym (behind_same registry_of v handle))) refl
            (λ number. ap (λ (t : Traced N E F S). stack_in t number) is ∙ holds.1 number),
        subst (TraceIsReady g h) (sym is) holds.0,
      )
  handle_goes v handle reply w ready none (inr (told, same)) =
      (inr (told, none, tt, same), subst (TraceIsReady g h) (sym same) ready)

  -- a handle that is spent
  pub release_goes : (v : Traced N E F S) (handle : ℕ) (reply : Reply) (w : Traced N E F S) → TraceIsReady g h v →
      refusal_of (skeleton_of v) (ReleaseStep handle) ≡ None → reply ≡ Done → w ≡ steps.without_handle v handle (behind v handle) →
      Goes v (ReleaseStep handle) reply w
  release_goes v handle reply w ready none done is =
      let o = behind v handle in
      let u = steps.without_handle v handle o in
      let holds = less_held n line_of g takes h sg v u o refl (record { next = refl; callsites = refl; greatest = refl }) refl ready in (
        unmoved n line_of g takes h v (ReleaseStep handle) reply w Unasked none refl refl done
            (ap skeleton_of is ∙ release_skeleton registry_of v handle o ∙
            ap (acting.without_stack_handle (skeleton_of v) handle) (sym (behind_same registry_of v handle))) refl
            (λ number. ap (λ (t : Traced N E F S). stack_in t number) is ∙ holds.1 number),
        subst (TraceIsReady g h) (sym is) holds.0,
      )

  -- a setting
  pub set_goes : (v : Traced N E F S) (call : SettingCall) (reply : Reply) (w : Traced N E F S) (o : Option OutputPlace) →
      output_at (skeleton_of v) call.output ≡ o → TraceIsReady g h v → refusal_of (skeleton_of v) (SetStep call) ≡ None → reply ≡ Done →
      w ≡ with_setting stack_set v o call.setting → Goes v (SetStep call) reply w
  set_goes v call reply w None at ready none done is =
      absurd (let clash : Some NoOutput ≡ None = sym (ap (output_refusal_by (skeleton_of v)) at) ∙ none in cc)
  set_goes v call reply w (Some o) at ready none done is =
      let s = skeleton_of v in
      let (x, there) = held_there registry_of v o.stack (open_by (is_held s o.stack) ReleasedStack (sym (ap (output_refusal_by s) at)
      ∙ none)) in
      let y = stack_set x o.place call.setting in
      let became : w ≡ becoming o.stack y v = is ∙ ap (set_in stack_set v o call.setting) there in (
        inl (record {
          answers = Unasked;
          fates = [];
          asked = λ _. refl;
          replied = done ∙ ap (λ (r : Option Refusal). or_refused r Done) (sym none);
          skeleton = skeleton_stays n line_of g takes h v w o.stack x y there became refl ∙ ap (λ (r : Option Refusal). or_same r s s)
              (sym none);
          outputs = subst (λ (r : Option Refusal). Sets (or_same r None (setting_by s (SetStep call)))
              (or_same r None (told_by N s (SetStep call) Unasked)) [] v w) (sym none)
              (subst (λ (p : Option OutputPlace). Sets (setting_for p call.setting) None [] v w) (sym at)
              (setting_after n line_of g takes h v w o call.setting x there became));
        }),
        subst (TraceIsReady g h) (sym became)
            (became_ready n line_of g takes h v o.stack x y ready there (set_ready g x o.place call.setting
            (ready.stacks o.stack x there))),
      )
