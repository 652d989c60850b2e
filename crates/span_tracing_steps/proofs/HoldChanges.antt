-- Who holds stacks: what the hub makes of a hold more or less, where nothing refuses it.
use Rattle.std.proofs.Common.{◌≡◌, ℕ, zero, suc, Bool, true, false, not, ◌==◌, nat_le, List, [], ◌∷◌, length, map, Option}
use Rattle.std.proofs.Common.{Some, None, Ok, Err, is_some, refl, sym, ap, ◌∙◌, arith}
use Rattle.std.specs.Prelude.{if◌then◌else◌, slice_get}
use Rattle.std.specs.Option.{option_map}
use Rattle.std.proofs.lemmas.Bool.Decides.{nat_tests}
use Rattle.std.proofs.lemmas.Bool.{not-false}
use Rattle.tracing_core_fields.specs.declared.requests.subscriber.Subscriber.{Ghosts}
use Rattle.tracing_core_fields.specs.requests.Lists.{Every}
use Rattle.tracing_core_fields.specs.requests.Refusals.{or_refused, or_same}
use Rattle.tracing_core.specs.Defaults as hub
use Rattle.tracing_core.specs.Defaults.{default_refusal, given_up, global_refusal, globally, guard_of, holding, locally, reset_gives}
use Rattle.tracing_core.specs.Defaults.{reset_gives_at}
use Rattle.tracing_core.specs.Defaults.{running}
use Rattle.tracing_core.specs.Handles.{hold_refusal, most, refusal_at, subscriber_with}
use Rattle.tracing_core.specs.Table.{Table}
use Rattle.tracing_core.specs.TableRows.{KeptSubscriber}
use Rattle.tracing_core.specs.declared.hub.parts.Lane.{Lane}
use Rattle.tracing_core.specs.declared.hub.parts.Lane.TheVariants.{Ended, Running}
use Rattle.tracing_core.specs.declared.hub.parts.LaneDefault.{LaneDefault}
use Rattle.tracing_core.specs.declared.hub.parts.LaneDefault.TheVariants as settings
use Rattle.tracing_core.specs.declared.refusal.HandleError.{HandleError}
use Rattle.tracing_core.specs.declared.refusal.HandleError.TheVariants.{TooMany}
use Rattle.tracing_core.specs.declared.refusal.SetDefaultError.{SetDefaultError}
use Rattle.tracing_core.specs.declared.refusal.SetDefaultError.TheVariants as own
use Rattle.tracing_core.specs.declared.refusal.SetGlobalDefaultError.TheVariants.{AlreadySet, Handle}
use Rattle.span_registry_layers_store.specs.Registries.{RegistryValue}
use Rattle.span_tracing_skeleton.specs.Looking.{inner, is_held, stack_behind, was_set}
use Rattle.span_tracing_skeleton.specs.Order.{further_refusal, refusal_of}
use Rattle.span_tracing_skeleton.specs.PlainData.{GlobalStep}
use Rattle.span_tracing_skeleton.specs.Refusing.{first, full_refusal, guard_refusal_by, handle_refusal, handle_refusal_by, lane_refusal}
use Rattle.span_tracing_skeleton.specs.Refusing.{when}
use Rattle.span_tracing_skeleton.specs.Refusing as refusing
use Rattle.span_tracing_skeleton.specs.declared.call.Reply.TheVariants as replies
use Rattle.span_tracing_skeleton.specs.declared.setting.Setting.{Setting}
use Rattle.span_tracing_skeleton.specs.declared.refusal.Refusal.{Refusal}
use Rattle.span_tracing_skeleton.specs.declared.refusal.Refusal.TheVariants.{GlobalSet, ReleasedStack, TooManyHandles, UnknownLane}
use Rattle.span_tracing_steps.specs.FullHandles.{full_by}
use Rattle.span_tracing_steps.specs.States.{StateValue, behind, held_stack, lane_default, plain_default, skeleton_of}
use Rattle.span_tracing_steps.specs.Steps.{StepGives}
use Rattle.span_tracing_steps.specs.TraceInvariant.{Runs}
use Rattle.span_tracing_steps.proofs.Lanes.{length_map}
use Rattle.span_tracing_steps.proofs.Stacks.{get_map, held_with}
use Rattle.span_tracing_steps.proofs.UnrefusedRequests.{given}

first_none : (a b : Option Refusal) → first a b ≡ None → a ≡ None
first_none None b none = refl
first_none (Some refusal) b none = absurd (cc)

second_none : (a b : Option Refusal) → first a b ≡ None → b ≡ None
second_none None b none = none
second_none (Some refusal) b none = absurd (cc)

when_none : (test : Bool) (refusal : Refusal) → when test refusal ≡ None → test ≡ false
when_none true refusal none = absurd (cc)
when_none false refusal none = refl

-- a lane that is given runs
pub record RunsAt (lanes : List Lane) (lane : ℕ) : Type 0 where
  pub setting : LaneDefault
  pub is : slice_get lanes lane ≡ Some (Running setting)

pub runs_at : (lanes : List Lane) (lane : ℕ) → Every Runs lanes → nat_le (length lanes) lane ≡ false → RunsAt lanes lane
runs_at [] lane w below = absurd (let all : nat_le 0 lane ≡ true = grind (arith, nat_tests) in cc)
runs_at (Ended ∷ lanes) zero w below = absurd w.0
runs_at (Running setting ∷ lanes) zero w below = record { setting = setting; is = refl }
runs_at (lane ∷ lanes) (suc n) w below =
    let less : nat_le (length lanes) n ≡ false = grind (arith, nat_tests) in
    let at = runs_at lanes n w.1 less in record { setting = at.setting; is = at.is }

both : {A : Type 0} (o : Option (Option A)) (x : A) → Some x ≡ inner o → o ≡ Some (Some x)
both None x is = absurd (cc)
both (Some None) x is = absurd (cc)
both (Some (Some y)) x is = let same : y ≡ x = cc in ap (λ z. Some (Some z)) same

module _ {T : Type 0} (registry_of : T → RegistryValue) (v : StateValue T) where
  -- a lane that isn't refused runs
  pub lane_runs : (lane : ℕ) → Every Runs v.hub.lanes → lane_refusal (skeleton_of registry_of v) lane ≡ None → RunsAt v.hub.lanes lane
  lane_runs lane run none =
      runs_at v.hub.lanes lane run
      (ap (λ (n : ℕ). nat_le n lane) (sym (length_map lane_default v.hub.lanes)) ∙
      when_none (nat_le (length (map lane_default v.hub.lanes)) lane) UnknownLane none)

  -- a handle that leads nowhere is refused
  spent : (o : Option (Option (Option ℕ))) → None ≡ inner o →
      handle_refusal_by (skeleton_of registry_of v) (option_map inner o) ≡ None → ⊥
  spent None is none = absurd (cc)
  spent (Some None) is none = absurd (cc)
  spent (Some (Some d)) is none = absurd (cc)

  pub no_handle : (handle : ℕ) → None ≡ inner (slice_get v.handles handle) → handle_refusal (skeleton_of registry_of v) handle ≡ None → ⊥
  no_handle handle is none = spent (slice_get v.handles handle) is
      (ap (handle_refusal_by (skeleton_of registry_of v)) (sym (get_map inner v.handles handle)) ∙ none)

  -- what a handle leads to, in the skeleton
  pub behind_is : (handle : ℕ) (d : Option ℕ) → Some d ≡ inner (slice_get v.handles handle) →
      stack_behind (skeleton_of registry_of v) handle ≡ d
  behind_is handle d is = ap inner (get_map inner v.handles handle ∙ ap (option_map inner) (both (slice_get v.handles handle) d is))

  free_of : (n : ℕ) (o : Option (KeptSubscriber T)) → o ≡ subscriber_with n v.hub.subscribers → is_some o ≡ true →
      full_refusal (option_map (held_stack registry_of) o) ≡ None → refusal_at o ≡ None
  free_of n None is there none = absurd (cc)
  free_of n (Some e) is there none =
      ap (λ (b : Bool). if b then Some TooMany else None) (when_none (e.handles == most) TooManyHandles none)

  some_map : {A B : Type 0} (f : A → B) (o : Option A) → is_some (option_map f o) ≡ is_some o
  some_map f None = refl
  some_map f (Some x) = refl

  -- one more hold of what a handle leads to, which nothing refuses
  led_free : (d : Option ℕ) → handle_refusal_by (skeleton_of registry_of v) (Some d) ≡ None →
      refusing.hold_refusal_by (skeleton_of registry_of v) d ≡ None → hold_refusal d v.hub.subscribers ≡ None
  led_free None known free = refl
  led_free (Some n) known free =
      free_of n (subscriber_with n v.hub.subscribers) refl
      (sym (some_map (held_stack registry_of) (subscriber_with n v.hub.subscribers)) ∙
      ap is_some (sym (held_with registry_of n v.hub.subscribers)) ∙
      not-false (is_held (skeleton_of registry_of v) n) (when_none (not (is_held (skeleton_of registry_of v) n)) ReleasedStack known))
      (ap full_refusal (sym (held_with registry_of n v.hub.subscribers)) ∙ free)

  pub further_free : (handle : ℕ) (d : Option ℕ) → Some d ≡ inner (slice_get v.handles handle) →
      further_refusal (skeleton_of registry_of v) handle ≡ None → hold_refusal d v.hub.subscribers ≡ None
  further_free handle d is none =
      let s = skeleton_of registry_of v in
      led_free d
      (ap (handle_refusal_by s) (sym (get_map inner v.handles handle ∙ ap (option_map inner) (both (slice_get v.handles handle) d is))) ∙
      first_none (handle_refusal s handle) (refusing.hold_refusal s handle) none)
      (ap (refusing.hold_refusal_by s) (sym (behind_is handle d is)) ∙
      second_none (handle_refusal s handle) (refusing.hold_refusal s handle) none)

  full_if : (b : Bool) → full_by (if b then Some TooMany else None) ≡ when b TooManyHandles
  full_if true = refl
  full_if false = refl

  full_is : (o : Option (KeptSubscriber T)) → full_by (refusal_at o) ≡ full_refusal (option_map (held_stack registry_of) o)
  full_is None = refl
  full_is (Some e) = full_if (e.handles == most)

  hold_is : (d : Option ℕ) → full_by (hold_refusal d v.hub.subscribers) ≡ refusing.hold_refusal_by (skeleton_of registry_of v) d
  hold_is None = refl
  hold_is (Some n) = full_is (subscriber_with n v.hub.subscribers) ∙ ap full_refusal (sym (held_with registry_of n v.hub.subscribers))

  -- why the stack of a handle isn't held once more
  pub hold_told : (handle : ℕ) (d : Option ℕ) → Some d ≡ inner (slice_get v.handles handle) →
      full_by (hold_refusal d v.hub.subscribers) ≡ refusing.hold_refusal (skeleton_of registry_of v) handle
  hold_told handle d is = hold_is d ∙ ap (refusing.hold_refusal_by (skeleton_of registry_of v)) (sym (behind_is handle d is))

  pub leads : (handle : ℕ) (d : Option ℕ) → Some d ≡ inner (slice_get v.handles handle) → behind v handle ≡ d
  leads handle d is = ap inner (sym is)

set_is : (d : LaneDefault) → was_set (plain_default d) ≡ hub.was_set d
set_is settings.Unset = refl
set_is settings.Nothing = refl
set_is (settings.To n) = refl

module _ {T : Type 0} (g : Ghosts T) (registry_of : T → RegistryValue) (set : T → ℕ → Setting → T) (v : StateValue T) where
  abbrev U : Type 0
  U = Table T Rattle.span_tracing_steps.specs.declared.callsite.TraceCallsite.TraceCallsite

  pub global_given : (handle : ℕ) (d : Option ℕ) (u : U) → Some d ≡ inner (slice_get v.handles handle) →
      refusal_of (skeleton_of registry_of v) (GlobalStep handle) ≡ None →
      u ≡ or_same (global_refusal v.hub d) v.hub (globally v.hub d) →
      StepGives g registry_of set v (GlobalStep handle) replies.Done (record v { hub = u })
  global_given handle d u is none state =
      let s = skeleton_of registry_of v in
      let later = second_none (handle_refusal s handle) (first (when (was_set s.default) GlobalSet) (refusing.hold_refusal s handle))
      none in
      let unset : hub.was_set v.hub.global ≡ false = sym (set_is v.hub.global) ∙
      when_none (was_set s.default) GlobalSet (first_none (when (was_set s.default) GlobalSet) (refusing.hold_refusal s handle) later) in
      let known = first_none (handle_refusal s handle) (first (when (was_set s.default) GlobalSet) (refusing.hold_refusal s handle)) none in
      let free = further_free registry_of v handle d is
      (ap (λ (o : Option Refusal). first o (refusing.hold_refusal s handle)) known ∙
      second_none (when (was_set s.default) GlobalSet) (refusing.hold_refusal s handle) later) in
      let made : u ≡ globally v.hub (behind v handle) = state ∙
      ap (λ (b : Bool). or_same (if b then Some AlreadySet else option_map Handle (hold_refusal d v.hub.subscribers)) v.hub
      (globally v.hub d))
      unset ∙ ap (λ (o : Option HandleError). or_same (option_map Handle o) v.hub (globally v.hub d)) free ∙
      ap (globally v.hub) (sym (leads registry_of v handle d is)) in
      given g registry_of set v (GlobalStep handle) replies.Done (record v { hub = u }) none
      (refl, ap (λ (t : U). record v { hub = t }) made)

  -- a default that nothing refuses
  free_default : (lane : ℕ) (d : Option ℕ) → RunsAt v.hub.lanes lane → hold_refusal d v.hub.subscribers ≡ None →
      default_refusal v.hub lane d ≡ None
  free_default lane d at free =
      ap (λ (o : Option Lane). hub.default_refusal_at v.hub d (running o)) at.is ∙ ap (option_map own.Handle) free

  pub default_never : (lane : ℕ) (d : Option ℕ) (error : SetDefaultError) → RunsAt v.hub.lanes lane →
      hold_refusal d v.hub.subscribers ≡ None → Err error ≡ or_refused (default_refusal v.hub lane d) (guard_of v.hub lane) → ⊥
  default_never lane d error at free answer =
      let ok : Err error ≡ Ok (guard_of v.hub lane) = answer ∙
      ap (λ (o : Option SetDefaultError). or_refused o (guard_of v.hub lane)) (free_default lane d at free) in absurd (cc)
