-- What setup calls leave of the skeleton: where a stack was lent and came back as another value, where one is added, and where a callsite
-- is.
use Rattle.std.proofs.Common.{◌≡◌, ◌<◌, inl, inr, ◌==◌, ◌+◌, ℕ, Bool, true, false, List, [], ◌∷◌, ◌++◌, length, Option, Some, None, map}
use Rattle.std.proofs.Common.{refl, sym, ap}
use Rattle.std.proofs.Common.{subst, ◌∙◌}
use Rattle.std.proofs.lemmas.List.{map-append}
use Rattle.std.specs.Cmp.{unsigned_Decides}
use Rattle.std.specs.Prelude.{if◌then◌else◌, is_some}
use Rattle.tracing_core_fields.specs.PlainMetadata.{PlainMetadata}
use Rattle.tracing_core_fields.specs.requests.Calls.{CallsiteRegistered, HintAsked}
use Rattle.tracing_core_fields.specs.requests.Interests.{PlainInterest}
use Rattle.tracing_core_fields.specs.declared.requests.subscriber.Subscriber.{Ghosts}
use Rattle.tracing_core.specs.CacheRefresh.{Formed, Rebuilt, Refreshed}
use Rattle.tracing_core_fields.specs.requests.Lists.{Every}
use Rattle.tracing_core.specs.Commands.{becomes, callsite_with, living, new_callsite}
use Rattle.tracing_core.specs.Handles.{changed, is_of, subscriber_with}
use Rattle.tracing_core.specs.HandleSubscribers.{given_as}
use Rattle.tracing_core.specs.HubInvariant.{IsSound}
use Rattle.tracing_core.specs.InterestsAndHints.{CallsiteAsked, Each, RowAsked}
use Rattle.tracing_core.specs.Table.{Table}
use Rattle.tracing_core.specs.TableRows.{KeptCallsite, KeptSubscriber}
use Rattle.tracing_core.specs.ValidCaches.{HasValidCache, IsTrueCallsite, asked_anew}
use Rattle.tracing_core.proofs.CachePreservation.{form_keeps, lent_keeps}
use Rattle.tracing_core.proofs.CacheRefresh.{formed_right}
use Rattle.tracing_core.proofs.NumbersNeverReused.{below_next}
use Rattle.tracing_core.proofs.SubscriberNumbers.{by_bool, changed_other, changed_own}
use Rattle.span_registry_layers_store.specs.Registries.{RegistryValue}
use Rattle.span_registry_layers_store.specs.SlotIndependence.{bare}
use Rattle.span_tracing_skeleton.specs.Looking.{inner, named}
use Rattle.span_tracing_skeleton.specs.Setup.{with_callsite, with_stack}
use Rattle.span_tracing_skeleton.specs.Skeleton.{Skeleton, HeldStack}
use Rattle.span_tracing_steps.specs.Callsites.{own_metadata}
use Rattle.span_tracing_steps.specs.FilterSwaps.{lent_in}
use Rattle.span_tracing_steps.specs.Interests.{KeepsWord}
use Rattle.span_tracing_steps.specs.States.{StateValue, callsites_of, held_in, held_stack, skeleton_of}
use Rattle.span_tracing_steps.specs.contracts.callsite.TraceCallsiteCallsite.TheImpl.{ghosts}
use Rattle.span_tracing_steps.specs.declared.callsite.TraceCallsite.{TraceCallsite}
use Rattle.span_tracing_steps.proofs.InterestPreservation.{serial_is}
use Rattle.span_tracing_laws.proofs.runs.AskedStacks.{Pairs, formed_pairs, joined_pairs}
use Rattle.span_tracing_laws.proofs.runs.HubStacks.{kept_at, kept_value, registry_stays, registry_there, skeleton_became, with_number}

module _ {T : Type 0} where
  -- the lent stack is this one, and the others are as they were
  pub lent_own : (n : ℕ) (y : T) (es : List (KeptSubscriber T)) (x : T) → with_number n es ≡ Some x →
      with_number n (changed n (given_as y) es) ≡ Some y
  lent_own n y es x there =
      let kept = kept_at (subscriber_with n es) x there in
      ap kept_value (changed_own n (given_as y) (λ d. refl) es kept.0 kept.1)

  pub lent_other : (n : ℕ) (y : T) (es : List (KeptSubscriber T)) (m : ℕ) → (m == n) ≡ false →
      with_number m (changed n (given_as y) es) ≡ with_number m es
  lent_other n y es m apart = ap kept_value (changed_other n (given_as y) (λ d. refl) m es apart)

  -- a stack is added, which counts as lent until it is asked, with its handle
  abbrev pub with_new : Table T TraceCallsite → T → Table T TraceCallsite
  with_new t z = record t { subscribers = t.subscribers ++ living t.next z ∷ []; next = t.next + 1 }

  abbrev added_to : StateValue T → ℕ → ℕ → StateValue T
  added_to v count sinks = record v {
    outputs = v.outputs ++ count ∷ [];
    sinks = v.sinks ++ sinks ∷ [];
    handles = v.handles ++ Some (Some v.hub.next) ∷ [];
    retired = v.retired ++ None ∷ [];
  }

-- a callsite is known to the skeleton where it is to the hub
some_if : (b : Bool) (m : PlainMetadata) (row : KeptCallsite TraceCallsite) (o : Option PlainMetadata)
    (p : Option (KeptCallsite TraceCallsite)) → is_some o ≡ is_some p →
    is_some (if b then Some m else o) ≡ is_some (if b then Some row else p)
some_if true m row o p same = refl
some_if false m row o p same = same

pub named_there : (rows : List (KeptCallsite TraceCallsite)) (n : ℕ) → Every (IsTrueCallsite ghosts) rows →
    is_some (named (callsites_of rows) n) ≡ is_some (callsite_with n rows)
named_there [] n known = refl
named_there (row ∷ rows) n known =
    let m = own_metadata row.callsite in
    ap (λ (k : ℕ). is_some (if k == n then Some m else named (callsites_of rows) n)) (sym known.0.2)
    ∙ some_if (row.identifier == n) m row (named (callsites_of rows) n) (callsite_with n rows) (named_there rows n known.1)

module _ {T : Type 0} (registry_of : T → RegistryValue) where
  abbrev hs : KeptSubscriber T → HeldStack
  hs = held_stack registry_of

  -- being lent is nothing that the skeleton tells
  lent_if : (b : Bool) (e : KeptSubscriber T) (y : T) (es fs ds : List (KeptSubscriber T)) → map hs fs ≡ map hs ds →
      map hs (if b then given_as y e ∷ es else e ∷ fs) ≡ map hs (if b then becomes y e ∷ es else e ∷ ds)
  lent_if true e y es fs ds later = refl
  lent_if false e y es fs ds later = ap (λ (ks : List HeldStack). hs e ∷ ks) later

  lent_map : (n : ℕ) (y : T) (es : List (KeptSubscriber T)) → map hs (changed n (given_as y) es) ≡ map hs (changed n (becomes y) es)
  lent_map n y [] = refl
  lent_map n y (e ∷ es) = lent_if (is_of n e) e y es (changed n (given_as y) es) (changed n (becomes y) es) (lent_map n y es)

  -- who keeps its spans stands in the skeleton as before
  pub lent_skeleton : (v : StateValue T) (stack : ℕ) (x y : T) → held_in v stack ≡ Some x → registry_of y ≡ registry_of x →
      map hs (changed stack (given_as y) v.hub.subscribers) ≡ map hs v.hub.subscribers
  lent_skeleton v stack x y there spans =
      lent_map stack y v.hub.subscribers
      ∙ ap (λ (s : Skeleton). s.stacks) (skeleton_became registry_of v stack y)
      ∙ ap (λ (s : Skeleton). s.stacks) (registry_stays (skeleton_of registry_of v) stack (bare (registry_of y))
      (registry_there registry_of v stack x there ∙ ap bare (sym spans)))

  -- stacks that keep their spans stand so, too
  abbrev KeepSpans : List (KeptSubscriber T) → List (KeptSubscriber T) → Type 0
  KeepSpans es fs = Pairs {T = T} (λ x. Unit {0}) (λ x y. registry_of y ≡ registry_of x) es fs

  pairs_map : (es fs : List (KeptSubscriber T)) → KeepSpans es fs → map hs fs ≡ map hs es
  pairs_map [] [] pairs = refl
  pairs_map [] (f ∷ fs) pairs = absurd pairs
  pairs_map (e ∷ es) [] pairs = absurd pairs
  pairs_map (e ∷ es) (f ∷ fs) pairs =
      ap (λ (r : RegistryValue). record { number = f.serial; holds = f.handles; registry = bare r } ∷ map hs fs) (pairs.0.2 tt)
      ∙ ap (λ (k : ℕ). record { number = k; holds = f.handles; registry = bare (registry_of e.subscriber) } ∷ map hs fs) pairs.0.0
      ∙ ap (λ (k : ℕ). record { number = e.serial; holds = k; registry = bare (registry_of e.subscriber) } ∷ map hs fs) pairs.0.1
      ∙ ap (λ (ks : List HeldStack). hs e ∷ ks) (pairs_map es fs pairs.1)

  module _ (g : Ghosts T)
      (asked : (x : T) (m : PlainMetadata) (k : PlainInterest) (y : T) → Unit {0} → g.moves x (CallsiteRegistered m) k y →
      registry_of y ≡ registry_of x)
      (hinted : (x y : T) (hint : Option ℕ) → Unit {0} → g.moves x HintAsked hint y → registry_of y ≡ registry_of x) where
    rows_map : (all : Bool) (before after : ℕ × List (KeptSubscriber T)) (rows laters : List (KeptCallsite TraceCallsite)) →
        Each (RowAsked g ghosts all) before rows laters after → callsites_of laters ≡ callsites_of rows
    rows_map all before after [] [] each = refl
    rows_map all before after [] (later ∷ laters) each = absurd each
    rows_map all before after (row ∷ rows) [] each = absurd each
    rows_map all before after (row ∷ rows) (later ∷ laters) each =
        ap (λ (m : PlainMetadata). m ∷ callsites_of laters) each.1.1.1
        ∙ ap (λ (ms : List PlainMetadata). own_metadata row.callsite ∷ ms) (rows_map all each.0 after rows laters each.2)

    -- so asking anew changes nothing that decides replies
    pub formed_skeleton : (all : Bool) (v w : StateValue T) (t : Table T TraceCallsite) → Formed g ghosts all t w.hub →
        w ≡ record v { hub = w.hub } → skeleton_of registry_of w ≡ skeleton_of registry_of (record v { hub = t })
    formed_skeleton all v w t formed left =
        let pairs : KeepSpans t.subscribers w.hub.subscribers =
        formed_pairs g ghosts (λ x. Unit {0}) (λ x y. registry_of y ≡ registry_of x) (λ x is. refl) (λ x y kept. tt)
        (λ x y z one two. two ∙ one) asked hinted all t w.hub formed in
        let before : Skeleton = skeleton_of registry_of (record v { hub = t }) in
        ap (skeleton_of registry_of) left
        ∙ ap (λ (u : Table T TraceCallsite). skeleton_of registry_of (record v { hub = u })) formed.rest
        ∙ ap (λ (ms : List PlainMetadata). record before { callsites = ms; stacks = map hs w.hub.subscribers })
        (rows_map all (0, t.subscribers) (formed.callsites.0, formed.asked) t.callsites w.hub.callsites formed.callsites.1)
        ∙ ap (λ (ks : List HeldStack). record before { stacks = ks }) (pairs_map t.subscribers w.hub.subscribers pairs)

    -- where a stack is lent
    pub asked_skeleton : (v w : StateValue T) (stack : ℕ) (x y : T) → held_in v stack ≡ Some x → registry_of y ≡ registry_of x →
        Refreshed g ghosts (lent_in v.hub stack y) w.hub → w ≡ record v { hub = w.hub } →
        skeleton_of registry_of w ≡ skeleton_of registry_of v
    asked_skeleton v w stack x y there spans formed left =
        formed_skeleton false v w (lent_in v.hub stack y) formed left
        ∙ ap (λ (ks : List HeldStack). record (skeleton_of registry_of v) { stacks = ks }) (lent_skeleton v stack x y there spans)

    -- where one is added
    pub added_skeleton : (v w : StateValue T) (x z : T) (count sinks : ℕ) → z ≡ x → Refreshed g ghosts (with_new v.hub z) w.hub →
        w ≡ record (added_to v count sinks) { hub = w.hub } →
        skeleton_of registry_of w ≡ with_stack (skeleton_of registry_of v) (bare (registry_of x)) count sinks
    added_skeleton v w x z count sinks same formed left =
        let next = v.hub.next in
        let after : T → Skeleton = λ y. with_stack (skeleton_of registry_of v) (bare (registry_of y)) count sinks in
        formed_skeleton false (added_to v count sinks) w (with_new v.hub z) formed left
        ∙ ap (λ (ks : List HeldStack). record (after z) { stacks = ks; handles = map inner (v.handles ++ Some (Some next) ∷ []) })
        (map-append hs v.hub.subscribers (living next z ∷ []))
        ∙ ap (λ (ns : List (Option ℕ)). record (after z) { handles = ns }) (map-append inner v.handles (Some (Some next) ∷ []))
        ∙ ap after same

    -- where a callsite is registered, of which all are asked
    pub registered_skeleton : (v w : StateValue T) (callsite : TraceCallsite) (m : PlainMetadata) (row : KeptCallsite TraceCallsite) →
        own_metadata callsite ≡ m →
        CallsiteAsked g ghosts true (length v.hub.callsites) v.hub.subscribers (new_callsite ghosts callsite) row w.hub.subscribers →
        w.hub ≡ record v.hub { subscribers = w.hub.subscribers; callsites = v.hub.callsites ++ row ∷ [] } →
        w ≡ record v { hub = w.hub } → skeleton_of registry_of w ≡ with_callsite (skeleton_of registry_of v) m
    registered_skeleton v w callsite m row own all kept left =
        let es = v.hub.subscribers in
        let pairs : KeepSpans es w.hub.subscribers =
        joined_pairs g ghosts (λ x. Unit {0}) (λ x y. registry_of y ≡ registry_of x) (λ x is. refl) (λ x y kept. tt)
        (λ x y z one two. two ∙ one) asked hinted true (ghosts.metadata_of callsite) (length v.hub.callsites) None all.0.0 es
        w.hub.subscribers all.0.1 in
        let before : Skeleton = skeleton_of registry_of v in
        let ms : List PlainMetadata = callsites_of v.hub.callsites in
        ap (skeleton_of registry_of) left
        ∙ ap (λ (u : Table T TraceCallsite). skeleton_of registry_of (record v { hub = u })) kept
        ∙ ap (λ (ks : List HeldStack). record before { callsites = callsites_of (v.hub.callsites ++ row ∷ []); stacks = ks })
        (pairs_map es w.hub.subscribers pairs)
        ∙ ap (λ (ns : List PlainMetadata). record before { callsites = ns })
        (map-append (λ (r : KeptCallsite TraceCallsite). own_metadata r.callsite) v.hub.callsites (row ∷ []))
        ∙ ap (λ (n : PlainMetadata). record before { callsites = ms ++ n ∷ [] }) (all.1 ∙ own)

-- what is kept of the interest in callsites stays right, where the value that came back is consistent
module _ {T : Type 0} (g : Ghosts T) where
  found_again : (u : Table T TraceCallsite) (n : ℕ) (d f : KeptSubscriber T) → d.serial ≡ n → HasValidCache g ghosts u d →
      subscriber_with n u.subscribers ≡ Some f → HasValidCache g ghosts u f
  found_again u n d f own valid there =
      let both : Some d ≡ Some f = sym valid.stands ∙ ap (λ (k : ℕ). subscriber_with k u.subscribers) own ∙ there in
      let same : d ≡ f = cc in subst (HasValidCache g ghosts u) same valid

  -- once all were asked, what is kept is right of each that is consistent
  pub asked_word : (v w : StateValue T) → IsSound ghosts v.hub → Rebuilt g ghosts v.hub w.hub →
      ((n : ℕ) (x : T) → held_in v n ≡ Some x → g.steady x) → KeepsWord g w
  asked_word v w sound formed steady = record {
    sound = (form_keeps g ghosts true v.hub w.hub formed).sound sound;
    valid = λ n f after. of_row n f (subscriber_with n v.hub.subscribers) after refl;
  } where
    of_row : (n : ℕ) (f : KeptSubscriber T) (o : Option (KeptSubscriber T)) → subscriber_with n w.hub.subscribers ≡ Some f →
        subscriber_with n v.hub.subscribers ≡ o → HasValidCache g ghosts w.hub f
    of_row n f None there none =
        let keeps = form_keeps g ghosts true v.hub w.hub formed in
        let next : w.hub.next ≡ v.hub.next = ap (λ (t : Table T TraceCallsite). t.next) formed.rest in
        let below : n < v.hub.next = subst (λ (k : ℕ). n < k) next
        (below_next n 0 w.hub.next w.hub.subscribers f (keeps.sound sound).numbers there) in
        let gone = (keeps.later sound).gone n below none in
        absurd (let clash : Some f ≡ None = sym there ∙ gone in cc)
    of_row n f (Some e) there is =
        let own : e.serial ≡ n = serial_is g n v.hub.subscribers e is in
        let stands : subscriber_with e.serial v.hub.subscribers ≡ Some e = ap (λ (k : ℕ). subscriber_with k v.hub.subscribers) own ∙ is in
        let a = formed_right g ghosts true v.hub w.hub formed e (inl refl) stands (steady n e.subscriber (ap kept_value is)) sound.sites in
        found_again w.hub n (asked_anew a.0 a.1 a.2 e) f own a.3 there

  module _ (v w : StateValue T) (stack : ℕ) (y : T) (word : KeepsWord g v) (formed : Refreshed g ghosts (lent_in v.hub stack y) w.hub) where
    abbrev lent : Table T TraceCallsite
    lent = lent_in v.hub stack y

    abbrev is_sound : IsSound ghosts lent
    is_sound = (lent_keeps g ghosts v.hub (Some stack) y).sound word.sound

    other_word : (n : ℕ) (f : KeptSubscriber T) (o : Option (KeptSubscriber T)) → (n == stack) ≡ false →
        subscriber_with n w.hub.subscribers ≡ Some f → subscriber_with n lent.subscribers ≡ o → HasValidCache g ghosts w.hub f
    other_word n f None apart there none =
        let keeps = form_keeps g ghosts false lent w.hub formed in
        let next : w.hub.next ≡ lent.next = ap (λ (t : Table T TraceCallsite). t.next) formed.rest in
        let below : n < lent.next = subst (λ (k : ℕ). n < k) next
        (below_next n 0 w.hub.next w.hub.subscribers f (keeps.sound is_sound).numbers there) in
        let gone = (keeps.later is_sound).gone n below none in
        absurd (let clash : Some f ≡ None = sym there ∙ gone in cc)
    other_word n f (Some d) apart there is =
        let was : subscriber_with n v.hub.subscribers ≡ Some d =
        sym (changed_other stack (given_as y) (λ x. refl) n v.hub.subscribers apart) ∙ is in
        let own : d.serial ≡ n = serial_is g n v.hub.subscribers d was in
        let valid = word.valid n d was in
        let kept = (lent_keeps g ghosts v.hub (Some stack) y).right_of word.sound d d valid
        (ap (λ (k : ℕ). subscriber_with k lent.subscribers) own ∙ is) valid.unlent in
        let stays = (form_keeps g ghosts false lent w.hub formed).right_of d kept in
        found_again w.hub n stays.0 f (stays.1 ∙ own) stays.2 there

    own_word : (e f : KeptSubscriber T) → subscriber_with stack v.hub.subscribers ≡ Some e → g.steady y →
        subscriber_with stack w.hub.subscribers ≡ Some f → HasValidCache g ghosts w.hub f
    own_word e f there steady after =
        let d = given_as y e in
        let own : e.serial ≡ stack = serial_is g stack v.hub.subscribers e there in
        let stands : subscriber_with d.serial lent.subscribers ≡ Some d = ap (λ (k : ℕ). subscriber_with k lent.subscribers) own
        ∙ changed_own stack (given_as y) (λ x. refl) v.hub.subscribers e there in
        let a = formed_right g ghosts false lent w.hub formed d (inr (inl refl)) stands steady word.sound.sites in
        found_again w.hub stack (asked_anew a.0 a.1 a.2 d) f own a.3 after

    pub swapped_word : (x : T) → held_in v stack ≡ Some x → g.steady y → KeepsWord g w
    swapped_word x there steady =
        let kept = kept_at (subscriber_with stack v.hub.subscribers) x there in
        record {
          sound = (form_keeps g ghosts false lent w.hub formed).sound is_sound;
          valid = λ n f after. by_bool (n == stack)
              (λ here.
              let is : n ≡ stack = (unsigned_Decides n stack).0 here in
              own_word kept.0 f kept.1 steady (subst (λ (k : ℕ). subscriber_with k w.hub.subscribers ≡ Some f) is after))
              (λ apart. other_word n f (subscriber_with n lent.subscribers) apart after refl);
        }
