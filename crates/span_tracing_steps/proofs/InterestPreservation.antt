-- What is kept of the interest in callsites stays right of each stack.
use Rattle.std.proofs.Common.{◌≡◌, ◌<◌, ◌⊎◌, inl, inr, ℕ, Bool, true, false, ◌==◌, ◌+◌, List, [], ◌∷◌, Option, Some, None, Result}
use Rattle.std.proofs.Common.{Ok, Err, refl, sym, ap, ◌∙◌, subst, arith}
use Rattle.std.specs.Option.{option_map}
use Rattle.std.specs.Prelude.{if◌then◌else◌, slice_get, slice_set}
use Rattle.std.proofs.lemmas.Bool.Decides.{nat_tests}
use Rattle.tracing_core_fields.specs.PlainMetadata.{PlainMetadata}
use Rattle.tracing_core_fields.specs.requests.Calls.{Call, ReplyTo, Asked, SpanMade, Recorded, FollowsRecorded, EventDispatched, Entered}
use Rattle.tracing_core_fields.specs.requests.Calls.{Exited, Cloned, CloseTried}
use Rattle.tracing_core_fields.specs.requests.Interests.{PlainInterest}
use Rattle.tracing_core_fields.specs.declared.requests.subscriber.Subscriber.{Ghosts}
use Rattle.tracing_core.specs.CachePreservation.{PreservesLivingCaches, StaysRight}
use Rattle.tracing_core.specs.Defaults.{globally, holding, locally}
use Rattle.tracing_core.specs.Handles.{given_back, subscriber_with}
use Rattle.tracing_core.specs.HubInvariant.{IsSound as IsSoundHub}
use Rattle.tracing_core.specs.Table.{Table, chosen, own_setting}
use Rattle.tracing_core.specs.TableRows.{KeptSubscriber}
use Rattle.tracing_core.specs.ValidCaches.{HasValidCache}
use Rattle.tracing_core.specs.declared.guard.DefaultGuard.{DefaultGuard}
use Rattle.tracing_core.proofs.CachePreservation.{Alike, add_keeps, added_kept, call_keeps, given_back_keeps, held_keeps, itself_living}
use Rattle.tracing_core.proofs.CachePreservation.{living_from, moved_keeps_by, register_keeps}
use Rattle.tracing_core.proofs.NumbersNeverReused.{below_next}
use Rattle.tracing_core.proofs.SubscriberNumbers.{by_bool}
use Rattle.span_registry_layers_store.specs.Registries.{RegistryValue}
use Rattle.span_tracing_skeleton.specs.Looking.{callsite_of, inner, known, named, output_in, reach}
use Rattle.span_tracing_skeleton.specs.Order.{refusal_of}
use Rattle.span_tracing_skeleton.specs.PlainData.{AnyStep, OfQueue, OfTrace, PlainStep, GlobalStep, EventStep, EnabledStep, SpanStep}
use Rattle.span_tracing_skeleton.specs.PlainData.{RecordStep, FollowsFromStep}
use Rattle.span_tracing_skeleton.specs.PlainData.{EnterStep, ExitStep, CloneStep, CloseStep, DefaultStep, ResetStep, CloneHandleStep}
use Rattle.span_tracing_skeleton.specs.PlainData.{ReleaseStep, SetStep, Request, RecordRequest}
use Rattle.span_tracing_skeleton.specs.declared.call.EnabledCall.{EnabledCall}
use Rattle.span_tracing_skeleton.specs.declared.call.FollowsCall.{FollowsCall}
use Rattle.span_tracing_skeleton.specs.declared.call.Reply.{Reply}
use Rattle.span_tracing_skeleton.specs.declared.call.SpanCall.{SpanCall}
use Rattle.span_tracing_skeleton.specs.declared.call.SpanName.{SpanName}
use Rattle.span_tracing_skeleton.specs.Consistency.{StaysConsistent}
use Rattle.span_tracing_skeleton.specs.declared.queue_call.QueueCall.{QueueCall}
use Rattle.span_tracing_skeleton.specs.declared.setting.OutputPlace.{OutputPlace}
use Rattle.span_tracing_skeleton.specs.declared.setting.Setting.{Setting}
use Rattle.span_tracing_skeleton.specs.declared.refusal.Refusal.{Refusal}
use Rattle.span_tracing_steps.specs.AnySteps.{AnyStepGives}
use Rattle.span_tracing_steps.specs.InterestPreservation.{CacheStaysValid}
use Rattle.span_tracing_steps.specs.Interests.{KeepsWord}
use Rattle.span_tracing_steps.specs.Setup.{AddGives, RegisterGives, RegistersAs}
use Rattle.span_tracing_steps.specs.SinkCalls.{DriveGives, PlaceCalled, StackCalled}
use Rattle.span_tracing_steps.specs.StackRequests.{own_values, place_at, request_of}
use Rattle.span_tracing_steps.specs.States.{StateValue, behind, skeleton_of}
use Rattle.span_tracing_steps.specs.Steps.{CallGoes, CloneGoes, CloseGoes, EnterGoes, EventGoes, ExitGoes, FollowsGoes, QuestionGoes}
use Rattle.span_tracing_steps.specs.Steps.{RecordGoes}
use Rattle.span_tracing_steps.specs.Steps.{SpanGoes, StepGives, StepGoes, StepUnless, ValuesGo, asked_for, restored, with_default}
use Rattle.span_tracing_steps.specs.Steps.{with_handle}
use Rattle.span_tracing_steps.specs.Steps.{becoming, set_in, with_setting, without_handle}
use Rattle.span_tracing_steps.specs.contracts.callsite.TraceCallsiteCallsite.TheImpl.{ghosts}
use Rattle.span_tracing_steps.specs.declared.callsite.TraceCallsite.{TraceCallsite}
use Rattle.span_tracing_steps.proofs.Registration.{hub_stays}

module _ {T : Type 0} (g : Ghosts T) where
  abbrev Hub : Type 0
  Hub = Table T TraceCallsite

  -- what a call leaves of a hub: no stack is new, and what is kept stays right of those who are held
  record Keeps (t u : Hub) : Type 0 where
    pub caches : PreservesLivingCaches g ghosts t u
    pub next : u.next ≡ t.next

  pub serial_is : (n : ℕ) (es : List (KeptSubscriber T)) (e : KeptSubscriber T) → subscriber_with n es ≡ Some e → e.serial ≡ n
  serial_is n [] e there = absurd (cc)
  serial_is n (x ∷ xs) e there =
      by_bool (x.serial == n)
      (λ here. let own : x.serial ≡ n = grind (arith, nat_tests) in
      let first : Some x ≡ Some e = ap (λ (b : Bool). if b then Some x else subscriber_with n xs) (sym here) ∙ there in
      let same : x ≡ e = cc in ap (λ (y : KeptSubscriber T). y.serial) (sym same) ∙ own)
      (λ away. serial_is n xs e (ap (λ (b : Bool). if b then Some x else subscriber_with n xs) (sym away) ∙ there))

  -- of who is held afterwards what is kept was right before, and is
  right_by : (t u : Hub) (n : ℕ) (f : KeptSubscriber T) (o : Option (KeptSubscriber T)) → IsSoundHub ghosts t →
      PreservesLivingCaches g ghosts t u →
      n < t.next → subscriber_with n u.subscribers ≡ Some f → subscriber_with n t.subscribers ≡ o →
      ((e : KeptSubscriber T) → subscriber_with n t.subscribers ≡ Some e → HasValidCache g ghosts t e) → HasValidCache g ghosts u f
  right_by t u n f None sound keeps below there was valid =
      absurd (let gone : subscriber_with n u.subscribers ≡ None = (keeps.later sound).gone n below was in
      let clash : Some f ≡ None = sym there ∙ gone in cc)
  right_by t u n f (Some e) sound keeps below there was valid =
      let own : e.serial ≡ n = serial_is n t.subscribers e was in
      either (keeps.right_of sound e (valid e was)) own
    where
      either : (subscriber_with e.serial u.subscribers ≡ None) ⊎ StaysRight g ghosts u e → e.serial ≡ n → HasValidCache g ghosts u f
      either (inl gone) own =
          absurd (let clash : Some f ≡ None = sym there ∙ ap (λ (k : ℕ). subscriber_with k u.subscribers) (sym own) ∙ gone in cc)
      either (inr stays) own =
          let x = stays.0 in
          let same : Some x ≡ Some f = sym stays.2.stands ∙ ap (λ (k : ℕ). subscriber_with k u.subscribers) (stays.1 ∙ own) ∙ there in
          let is : x ≡ f = cc in subst (HasValidCache g ghosts u) is stays.2

  kept : (v w : StateValue T) → KeepsWord g v → Keeps v.hub w.hub → KeepsWord g w
  kept v w word keeps = record {
    sound = keeps.caches.sound word.sound;
    valid = λ n f there.
        let sound = keeps.caches.sound word.sound in
        let below : n < v.hub.next = subst (λ (k : ℕ). n < k) keeps.next
        (below_next n 0 w.hub.next w.hub.subscribers f sound.numbers there) in
        right_by v.hub w.hub n f (subscriber_with n v.hub.subscribers) word.sound keeps.caches below there refl (word.valid n);
  }

  same_hub : (t : Hub) → Keeps t t
  same_hub t = record { caches = itself_living g ghosts t; next = refl }

  same_state : (v w : StateValue T) → w ≡ v → Keeps v.hub w.hub
  same_state v w is = subst (λ (u : StateValue T). Keeps v.hub u.hub) (sym is) (same_hub v.hub)

  called : (stack : ℕ) (v : StateValue T) (c : Call) (r : ReplyTo c) (w : StateValue T) → CallGoes g stack v c r w → Keeps v.hub w.hub
  called stack v c r w goes = record {
    caches = living_from g ghosts v.hub w.hub (call_keeps g ghosts c (Some stack) v.hub w.hub r goes.0);
    next = ap (λ (t : Hub). t.next) goes.0.1;
  }

  alike : (t u : Hub) → u.next ≡ t.next → u.callsites ≡ t.callsites → u.greatest ≡ t.greatest → Alike t u
  alike t u next callsites greatest = record { next = next; callsites = callsites; greatest = greatest }

  holds : (d : Option ℕ) (t u : Hub) → u.subscribers ≡ (holding t d).subscribers → Alike t u → Keeps t u
  holds d t u more same = record { caches = living_from g ghosts t u (held_keeps g ghosts d t u more same); next = same.next }

  lets_go : (d : Option ℕ) (t u : Hub) → u.subscribers ≡ (given_back d t.subscribers).1 → Alike t u → Keeps t u
  lets_go d t u less same = record { caches = given_back_keeps g ghosts d t u less same; next = same.next }

  event_keeps : (o : Option ℕ) (m : Option PlainMetadata) (v : StateValue T) (e : Request) (w : StateValue T) → EventGoes g o m v e w →
      Keeps v.hub w.hub
  event_keeps None m v e w same = same_state v w same
  event_keeps (Some stack) None v e w goes = absurd goes
  event_keeps (Some stack) (Some m) v e w goes = called stack v (EventDispatched (request_of m e) (place_at e.lane e.moment)) goes.0 w
      goes.1

  question_keeps : (o : Option ℕ) (m : Option PlainMetadata) (v : StateValue T) (call : EnabledCall) (reply : Reply) (w : StateValue T) →
      QuestionGoes g o m v call reply w → Keeps v.hub w.hub
  question_keeps None m v call reply w goes = same_state v w goes.1
  question_keeps (Some stack) None v call reply w goes = absurd goes
  question_keeps (Some stack) (Some m) v call reply w goes = called stack v (Asked m (place_at call.lane call.moment)) goes.0 w goes.1

  span_keeps : (o : Option ℕ) (m : Option PlainMetadata) (v : StateValue T) (n : Request) (reply : Reply) (w : StateValue T) →
      SpanGoes g o m v n reply w → Keeps v.hub w.hub
  span_keeps None m v n reply w goes = same_state v w goes.1
  span_keeps (Some stack) None v n reply w goes = absurd goes
  span_keeps (Some stack) (Some m) v n reply w goes = called stack v (SpanMade (request_of m n) (place_at n.lane n.moment)) goes.0 w goes.1

  values_keep : (name : SpanName) (m : Option PlainMetadata) (v : StateValue T) (r : RecordRequest) (w : StateValue T) →
      ValuesGo g name m v r w → Keeps v.hub w.hub
  values_keep name None v r w same = same_state v w same
  values_keep name (Some m) v r w goes = called name.stack v (Recorded name.id.value (own_values m r.values) (place_at r.lane r.moment))
      goes.0 w goes.1

  record_keeps : (registry_of : T → RegistryValue) (span : Option SpanName) (v : StateValue T) (r : RecordRequest) (w : StateValue T) →
      RecordGoes g registry_of span v r w → Keeps v.hub w.hub
  record_keeps registry_of None v r w same = same_state v w same
  record_keeps registry_of (Some name) v r w goes = values_keep name (callsite_of (skeleton_of registry_of v) name) v r w goes

  follows_keep : (span follows : Option SpanName) (v : StateValue T) (call : FollowsCall) (w : StateValue T) →
      FollowsGoes g span follows v call w → Keeps v.hub w.hub
  follows_keep None follows v call w same = same_state v w same
  follows_keep (Some name) None v call w same = same_state v w same
  follows_keep (Some name) (Some followed) v call w goes = called name.stack v
      (FollowsRecorded name.id.value followed.id.value (place_at call.lane call.moment)) goes.0 w goes.1

  enter_keeps : (span : Option SpanName) (v : StateValue T) (call : SpanCall) (reply : Reply) (w : StateValue T) →
      EnterGoes g span v call reply w → Keeps v.hub w.hub
  enter_keeps None v call reply w goes = same_state v w goes.1
  enter_keeps (Some name) v call reply w goes = called name.stack v (Entered name.id.value (place_at call.lane call.moment)) goes.0 w goes.1

  exit_keeps : (span : Option SpanName) (v : StateValue T) (call : SpanCall) (w : StateValue T) → ExitGoes g span v call w →
      Keeps v.hub w.hub
  exit_keeps None v call w same = same_state v w same
  exit_keeps (Some name) v call w goes = called name.stack v (Exited name.id.value (place_at call.lane call.moment)) tt w goes

  clone_keeps : (span : Option SpanName) (v : StateValue T) (call : SpanCall) (w : StateValue T) → CloneGoes g span v call w →
      Keeps v.hub w.hub
  clone_keeps None v call w same = same_state v w same
  clone_keeps (Some name) v call w goes = called name.stack v (Cloned name.id.value (place_at call.lane call.moment)) goes.0 w goes.1

  close_keeps : (span : Option SpanName) (v : StateValue T) (call : SpanCall) (reply : Reply) (w : StateValue T) →
      CloseGoes g span v call reply w → Keeps v.hub w.hub
  close_keeps None v call reply w goes = same_state v w goes.1
  close_keeps (Some name) v call reply w goes = called name.stack v (CloseTried name.id.value (place_at call.lane call.moment)) goes.0 w
      goes.1

  restored_keeps : (v : StateValue T) (lane number : ℕ) (o : Option DefaultGuard) → Keeps v.hub (restored v lane number o).hub
  restored_keeps v lane number None = same_hub v.hub
  restored_keeps v lane number (Some guard) =
      lets_go (chosen (own_setting (slice_get v.hub.lanes lane))) v.hub (restored v lane number (Some guard)).hub refl
      (alike v.hub (restored v lane number (Some guard)).hub refl refl refl)

  moved : (v w x : StateValue T) → x ≡ w → Keeps v.hub w.hub → Keeps v.hub x.hub
  moved v w x is keeps = subst (λ (u : StateValue T). Keeps v.hub u.hub) (sym is) keeps

  or_starved : (v u w : StateValue T) {A B : Type 0} → (A × (w ≡ u)) ⊎ (B × (w ≡ v)) → Keeps v.hub u.hub → Keeps v.hub w.hub
  or_starved v u w (inl made) keeps = moved v u w made.1 keeps
  or_starved v u w (inr none) keeps = same_state v w none.1

  module _ (set : T → ℕ → Setting → T) (word : (x : T) (place : ℕ) (setting : Setting) → StaysConsistent g x (set x place setting)) where
    set_keeps : (v : StateValue T) (at : OutputPlace) (setting : Setting) (o : Option (KeptSubscriber T)) →
        subscriber_with at.stack v.hub.subscribers ≡ o →
        Keeps v.hub (set_in set v at setting (option_map (λ (e : KeptSubscriber T). e.subscriber) o)).hub
    set_keeps v at setting None there = same_hub v.hub
    set_keeps v at setting (Some e) there =
        let after = set e.subscriber at.place setting in
        let u = (becoming at.stack after v).hub in
        let same = alike v.hub u refl refl refl in
        record {
          caches = living_from g ghosts v.hub u
              (moved_keeps_by g ghosts at.stack e after v.hub u there (word e.subscriber at.place setting) refl same);
          next = refl;
        }

    setting_keeps : (v : StateValue T) (o : Option OutputPlace) (setting : Setting) → Keeps v.hub (with_setting set v o setting).hub
    setting_keeps v None setting = same_hub v.hub
    setting_keeps v (Some at) setting = set_keeps v at setting (subscriber_with at.stack v.hub.subscribers) refl

  module _ (registry_of : T → RegistryValue) (set : T → ℕ → Setting → T)
      (word : (x : T) (place : ℕ) (setting : Setting) → StaysConsistent g x (set x place setting)) where
    goes_keeps : (v : StateValue T) (step : PlainStep) (reply : Reply) (w : StateValue T) → StepGoes g registry_of set v step reply w →
        Keeps v.hub w.hub
    goes_keeps v (GlobalStep handle) reply w goes =
        let d = behind v handle in
        moved v (record v { hub = globally v.hub d }) w goes.1
        (holds d v.hub (globally v.hub d) refl (alike v.hub (globally v.hub d) refl refl refl))
    goes_keeps v (EventStep e) reply w goes = event_keeps (reach (skeleton_of registry_of v) e.lane)
        (known (skeleton_of registry_of v) e.callsite false) v e w goes.1
    goes_keeps v (EnabledStep call) reply w goes = question_keeps (reach (skeleton_of registry_of v) call.lane)
        (named (skeleton_of registry_of v).callsites call.callsite.0) v call reply w goes
    goes_keeps v (SpanStep n) reply w goes = span_keeps (reach (skeleton_of registry_of v) n.lane)
        (known (skeleton_of registry_of v) n.callsite true) v n reply w goes
    goes_keeps v (RecordStep r) reply w goes = record_keeps registry_of r.span v r w goes.1
    goes_keeps v (FollowsFromStep call) reply w goes = follows_keep call.span call.follows v call w goes.1
    goes_keeps v (EnterStep call) reply w goes = enter_keeps call.span v call reply w goes
    goes_keeps v (ExitStep call) reply w goes = exit_keeps call.span v call w goes.1
    goes_keeps v (CloneStep call) reply w goes = clone_keeps call.span v call w goes.1
    goes_keeps v (CloseStep call) reply w goes = close_keeps call.span v call reply w goes
    goes_keeps v (DefaultStep call) reply w goes =
        let d = asked_for v call.handle in
        or_starved v (with_default v call.lane d) w goes
        (holds d v.hub (locally v.hub call.lane d) refl (alike v.hub (locally v.hub call.lane d) refl refl refl))
    goes_keeps v (ResetStep call) reply w goes =
        moved v (restored v call.lane call.guard (inner (slice_get v.guards call.guard))) w goes.1
        (restored_keeps v call.lane call.guard (inner (slice_get v.guards call.guard)))
    goes_keeps v (CloneHandleStep handle) reply w goes =
        let d = behind v handle in
        or_starved v (with_handle v d) w goes
        (holds d v.hub (holding v.hub d) refl (alike v.hub (holding v.hub d) refl refl refl))
    goes_keeps v (ReleaseStep handle) reply w goes =
        let d = behind v handle in
        let u : Hub = record v.hub { subscribers = (given_back d v.hub.subscribers).1 } in
        moved v (without_handle v handle d) w goes.1 (lets_go d v.hub u refl (alike v.hub u refl refl refl))
    goes_keeps v (SetStep call) reply w goes =
        let o = output_in v.outputs 0 call.output in
        moved v (with_setting set v o call.setting) w goes.1 (setting_keeps set word v o call.setting)

    unless_keeps : (o : Option Refusal) (v : StateValue T) (step : PlainStep) (reply : Reply) (w : StateValue T) →
        StepUnless g registry_of set o v step reply w → Keeps v.hub w.hub
    unless_keeps None v step reply w goes = goes_keeps v step reply w goes
    unless_keeps (Some refusal) v step reply w goes = same_state v w goes.1

    stepped : (v : StateValue T) (step : PlainStep) (reply : Reply) (w : StateValue T) → KeepsWord g v →
        StepGives g registry_of set v step reply w → KeepsWord g w
    stepped v step reply w word goes = kept v w word (unless_keeps (refusal_of (skeleton_of registry_of v) step) v step reply w goes)

  as_registered : (v : StateValue T) (callsite : TraceCallsite) (r : Result PlainInterest Refusal) (w : StateValue T) →
      RegistersAs g callsite v r w → Keeps v.hub w.hub
  as_registered v callsite (Ok k) w goes = record {
    caches = living_from g ghosts v.hub w.hub (register_keeps g ghosts v.hub w.hub callsite (Ok k) goes.0);
    next = (hub_stays g v.hub w.hub callsite (Ok k) goes.0).next;
  }
  as_registered v callsite (Err refusal) w (inl taken) = same_state v w taken.2
  as_registered v callsite (Err refusal) w (inr none) = same_state v w none.1

  register_word : (v : StateValue T) (m : PlainMetadata) (r : Result PlainInterest Refusal) (w : StateValue T) → KeepsWord g v →
      RegisterGives g v m r w → KeepsWord g w
  register_word v m r w word (inl (callsite, own, goes)) = kept v w word (as_registered v callsite r w goes)
  register_word v m r w word (inr none) = kept v w word (same_state v w none.1)

  module _ (outputs_in sinks_in : T → ℕ) where
    added_by : (v : StateValue T) (x : T) (handle : ℕ) (w : StateValue T) (goes : AddGives g outputs_in sinks_in v x (Ok handle) w) →
        KeepsWord g v →
        g.steady x → (n : ℕ) (f : KeptSubscriber T) → subscriber_with n w.hub.subscribers ≡ Some f → (b : Bool) → (n == v.hub.next) ≡ b →
        HasValidCache g ghosts w.hub f
    added_by v x handle w goes word steady n f there true own =
        let made = added_kept g ghosts v.hub w.hub x (Some v.hub.next) goes.1 word.sound steady in
        let same : n ≡ v.hub.next = grind (arith, nat_tests) in
        let number : made.0.serial ≡ v.hub.next = (let both : Some v.hub.next ≡ Some made.0.serial = made.1 in cc) in
        let is : Some made.0 ≡ Some f = sym made.2.stands ∙ ap (λ (k : ℕ). subscriber_with k w.hub.subscribers) (number ∙ sym same) ∙
        there in
        let one : made.0 ≡ f = cc in subst (HasValidCache g ghosts w.hub) one made.2
    added_by v x handle w goes word steady n f there false other =
        let keeps = living_from g ghosts v.hub w.hub (add_keeps g ghosts v.hub w.hub x (Ok (Some v.hub.next)) goes.1) in
        let all : n < w.hub.next = below_next n 0 w.hub.next w.hub.subscribers f (keeps.sound word.sound).numbers there in
        let next : w.hub.next ≡ v.hub.next + 1 = ap (λ (t : Hub). t.next) goes.1.1.2.rest in
        let below : n < v.hub.next = grind (arith, nat_tests) in
        right_by v.hub w.hub n f (subscriber_with n v.hub.subscribers) word.sound keeps below there refl (word.valid n)

    added : (v : StateValue T) (x : T) (handle : ℕ) (w : StateValue T) → KeepsWord g v → g.steady x →
        AddGives g outputs_in sinks_in v x (Ok handle) w → KeepsWord g w
    added v x handle w word steady goes = record {
      sound = (add_keeps g ghosts v.hub w.hub x (Ok (Some v.hub.next)) goes.1).sound word.sound;
      valid = λ n f there. added_by v x handle w goes word steady n f there (n == v.hub.next) refl;
    }

  -- a call on a sink's queue
  module _ (drives : T → ℕ → QueueCall → Reply → T → Type 0)
      (word : (x : T) (number : ℕ) (call : QueueCall) (reply : Reply) (y : T) → drives x number call reply y → StaysConsistent g x y) where
    becoming_keeps : (v : StateValue T) (stack : ℕ) (e : KeptSubscriber T) (y : T) → subscriber_with stack v.hub.subscribers ≡ Some e →
        StaysConsistent g e.subscriber y → Keeps v.hub (becoming stack y v).hub
    becoming_keeps v stack e y there stays =
        let u = (becoming stack y v).hub in
        record {
          caches = living_from g ghosts v.hub u (moved_keeps_by g ghosts stack e y v.hub u there stays refl (alike v.hub u refl refl refl));
          next = refl;
        }

    called_keeps : (v : StateValue T) (at : OutputPlace) (call : QueueCall) (o : Option (KeptSubscriber T)) (waits : Option T)
        (reply : Reply) (w : StateValue T) → subscriber_with at.stack v.hub.subscribers ≡ o →
        StackCalled drives v at call (option_map (λ (e : KeptSubscriber T). e.subscriber) o) waits reply w → Keeps v.hub w.hub
    called_keeps v at call None None reply w there goes = same_state v w goes.1
    called_keeps v at call None (Some x) reply w there goes =
        moved v (record v { retired = slice_set v.retired at.stack (Some goes.0) }) w goes.2 (same_hub v.hub)
    called_keeps v at call (Some e) waits reply w there goes =
        moved v (becoming at.stack goes.0 v) w goes.2
        (becoming_keeps v at.stack e goes.0 there (word e.subscriber at.place call reply goes.0 goes.1))

    place_keeps : (v : StateValue T) (o : Option OutputPlace) (call : QueueCall) (reply : Reply) (w : StateValue T) →
        PlaceCalled drives v o call reply w → Keeps v.hub w.hub
    place_keeps v None call reply w goes = same_state v w goes.1
    place_keeps v (Some at) call reply w goes =
        called_keeps v at call (subscriber_with at.stack v.hub.subscribers) (inner (slice_get v.retired at.stack)) reply w refl goes

    driven : (v : StateValue T) (sink : ℕ) (call : QueueCall) (reply : Reply) (w : StateValue T) → KeepsWord g v →
        DriveGives drives v sink call reply w → KeepsWord g w
    driven v sink call reply w word_kept goes = kept v w word_kept (place_keeps v (output_in v.sinks 0 sink) call reply w goes)

  -- a step of each kind
  module _ (registry_of : T → RegistryValue) (set : T → ℕ → Setting → T) (drives : T → ℕ → QueueCall → Reply → T → Type 0)
      (holds : T → Bool) (word : (x : T) (place : ℕ) (setting : Setting) → StaysConsistent g x (set x place setting))
      (drives_word : (x : T) (number : ℕ) (call : QueueCall) (reply : Reply) (y : T) → drives x number call reply y →
      StaysConsistent g x y) where
    any_stepped : (v : StateValue T) (step : AnyStep) (reply : Reply) (w : StateValue T) → KeepsWord g v →
        AnyStepGives g registry_of set drives holds v step reply w → KeepsWord g w
    any_stepped v (OfTrace step) reply w kept_word (inl (held, told, same)) = subst (KeepsWord g) (sym same) kept_word
    any_stepped v (OfTrace step) reply w kept_word (inr (free, goes)) = stepped registry_of set word v step reply w kept_word goes
    any_stepped v (OfQueue ask) reply w kept_word goes =
        driven drives drives_word v ask.sink ask.call reply w kept_word goes

  pub cache_stays_valid : (registry_of : T → RegistryValue) (outputs_in sinks_in : T → ℕ) (set : T → ℕ → Setting → T)
      (drives : T → ℕ → QueueCall → Reply → T → Type 0) (holds : T → Bool) →
      ((x : T) (place : ℕ) (setting : Setting) → StaysConsistent g x (set x place setting)) →
      ((x : T) (number : ℕ) (call : QueueCall) (reply : Reply) (y : T) → drives x number call reply y → StaysConsistent g x y) →
      CacheStaysValid g registry_of outputs_in sinks_in set drives holds
  cache_stays_valid registry_of outputs_in sinks_in set drives holds word drives_word = record {
    new = record { sound = record { numbers = omega arith; apart = tt; sites = tt }; valid = λ n f there. absurd (cc) };
    added = added outputs_in sinks_in;
    registered = register_word;
    stepped = any_stepped registry_of set drives holds word drives_word;
  }
