-- The stacks of a hub by their numbers, as calls and holds change them, and as the skeleton has them.
use Rattle.std.proofs.Common.{◌≡◌, ◌<◌, ◌==◌, ℕ, zero, suc, Bool, true, false, nat_le, List, [], ◌∷◌, ◌++◌, length, map, Option, Some, None}
use Rattle.std.proofs.Common.{is_some, refl, sym, ap, ◌∙◌, subst, arith}
use Rattle.std.specs.Prelude.{if◌then◌else◌, slice_get, slice_set}
use Rattle.std.specs.Cmp.{unsigned_Decides}
use Rattle.std.specs.Option.{option_map}
use Rattle.std.proofs.lemmas.List.{length-set, map-append}
use Rattle.std.proofs.lemmas.Option.{slice_get-map}
use Rattle.tracing_core_fields.specs.requests.Calls.{Call, ReplyTo}
use Rattle.tracing_core_fields.specs.declared.requests.subscriber.Subscriber.{Ghosts}
use Rattle.tracing_core.specs.Commands.{becomes}
use Rattle.tracing_core.specs.Defaults.{setting_to}
use Rattle.tracing_core.specs.HandleCalls.{CallGivesAt}
use Rattle.tracing_core.specs.Handles.{changed, given_back, given_back_at, held, is_of, one_less, one_more, subscriber_with, without}
use Rattle.tracing_core.specs.HubInvariant.{Ascends, serials}
use Rattle.tracing_core.specs.Table.{own_setting}
use Rattle.tracing_core.specs.Table as table
use Rattle.tracing_core.specs.TableRows.{KeptSubscriber}
use Rattle.tracing_core.specs.declared.guard.DefaultGuard.{DefaultGuard}
use Rattle.tracing_core.specs.declared.hub.parts.Lane.{Lane}
use Rattle.tracing_core.specs.declared.hub.parts.LaneDefault.{LaneDefault}
use Rattle.tracing_core.specs.declared.hub.parts.LaneDefault.TheVariants.{Unset, Nothing, To}
use Rattle.tracing_core.proofs.NumbersNeverReused.{below_next}
use Rattle.tracing_core.proofs.SubscriberNumbers.{by_bool, changed_other, changed_own, if_either, serials_changed, without_other}
use Rattle.tracing_core.proofs.SubscriberNumbers.{without_own}
use Rattle.span_registry_layers_store.specs.SlotIndependence.{bare}
use Rattle.span_registry_layers_store.specs.Registries.{RegistryValue}
use Rattle.span_tracing_skeleton.specs.Acting as acting
use Rattle.span_tracing_skeleton.specs.Acting.{leading_to, let_go, let_go_at, with_registry}
use Rattle.span_tracing_skeleton.specs.Looking as looking
use Rattle.span_tracing_skeleton.specs.Looking.{default_of, guard_at, inner, is_held, own_of, registry_at, registry_in, stack_with}
use Rattle.span_tracing_skeleton.specs.Looking.{while_held}
use Rattle.span_tracing_skeleton.specs.Skeleton.{Skeleton, HeldStack, GuardValue, Default}
use Rattle.span_tracing_steps.specs.States.{StateValue, behind, held_in, held_stack, lane_default, or_retired, plain_default, plain_guard}
use Rattle.span_tracing_steps.specs.States.{skeleton_of, stack_in}
use Rattle.span_tracing_steps.specs.Steps as steps
use Rattle.span_tracing_steps.specs.Steps.{CallGoes, becoming, put_away}
use Rattle.span_tracing_outputs.proofs.ListPlaces.{set_other, set_own}

-- a list with another element at a place
pub map_set : {A B : Type 0} (f : A → B) (xs : List A) (i : ℕ) (x : A) → map f (slice_set xs i x) ≡ slice_set (map f xs) i (f x)
map_set f [] i x = refl
map_set f (y ∷ ys) zero x = refl
map_set f (y ∷ ys) (suc i) x = ap (λ zs. f y ∷ zs) (map_set f ys i x)

pub none_appended : {A : Type 0} (xs : List (Option A)) (i : ℕ) → inner (slice_get (xs ++ None ∷ []) i) ≡ inner (slice_get xs i)
none_appended [] zero = refl
none_appended [] (suc i) = refl
none_appended (x ∷ xs) zero = refl
none_appended (x ∷ xs) (suc i) = none_appended xs i

pub inner_twice : {A : Type 0} (o : Option (Option (Option A))) → inner (option_map inner o) ≡ inner (inner o)
inner_twice None = refl
inner_twice (Some x) = refl

module _ {T : Type 0} where
  abbrev pub kept_value : Option (KeptSubscriber T) → Option T
  kept_value o = option_map (λ (e : KeptSubscriber T). e.subscriber) o

  -- the value of the subscriber of the number, where it lives
  abbrev pub with_number : ℕ → List (KeptSubscriber T) → Option T
  with_number m es = kept_value (subscriber_with m es)

  pub kept_at : (o : Option (KeptSubscriber T)) (x : T) → kept_value o ≡ Some x → (e : KeptSubscriber T) × (o ≡ Some e) × (e.subscriber ≡ x)
  kept_at None x is = absurd (cc)
  kept_at (Some e) x is = let same : e.subscriber ≡ x = cc in (e, refl, same)

  value_if : (b c : Bool) (d e : KeptSubscriber T) (o p : Option (KeptSubscriber T)) → b ≡ c → d.subscriber ≡ e.subscriber →
      kept_value o ≡ kept_value p → kept_value (if b then Some d else o) ≡ kept_value (if c then Some e else p)
  value_if true true d e o p same value later = ap (λ (x : T). Some x) value
  value_if true false d e o p same value later = absurd (cc)
  value_if false true d e o p same value later = absurd (cc)
  value_if false false d e o p same value later = later

  -- a change of one that leaves its number and its value
  module _ (n : ℕ) (change : KeptSubscriber T → KeptSubscriber T) (number : (x : KeptSubscriber T) → (change x).serial ≡ x.serial)
      (value : (x : KeptSubscriber T) → (change x).subscriber ≡ x.subscriber) where
    pub counted_same : (m : ℕ) (es : List (KeptSubscriber T)) → with_number m (changed n change es) ≡ with_number m es
    counted_same m [] = refl
    counted_same m (e ∷ es) =
        if_either (λ (xs : List (KeptSubscriber T)). with_number m xs ≡ with_number m (e ∷ es)) (is_of n e) (change e ∷ es)
        (e ∷ changed n change es)
        (λ here. value_if (is_of m (change e)) (is_of m e) (change e) e (subscriber_with m es) (subscriber_with m es)
        (ap (λ k. k == m) (number e)) (value e) refl)
        (λ away. value_if (is_of m e) (is_of m e) e e (subscriber_with m (changed n change es)) (subscriber_with m es) refl refl
        (counted_same m es))

  pub held_same : (o : Option ℕ) (m : ℕ) (es : List (KeptSubscriber T)) → with_number m (held o es) ≡ with_number m es
  held_same None m es = refl
  held_same (Some n) m es = counted_same n one_more (λ x. refl) (λ x. refl) m es

  pub became_own : (n : ℕ) (y : T) (es : List (KeptSubscriber T)) (x : T) → with_number n es ≡ Some x →
      with_number n (changed n (becomes y) es) ≡ Some y
  became_own n y es x there =
      let kept = kept_at (subscriber_with n es) x there in
      ap kept_value (changed_own n (becomes y) (λ d. refl) es kept.0 kept.1)

  pub became_other : (n : ℕ) (y : T) (es : List (KeptSubscriber T)) (m : ℕ) → (m == n) ≡ false →
      with_number m (changed n (becomes y) es) ≡ with_number m es
  became_other n y es m apart = ap kept_value (changed_other n (becomes y) (λ d. refl) m es apart)

  -- who is left, and who waits, as a hold is given up
  module _ (n : ℕ) (es : List (KeptSubscriber T)) (end : ℕ) (retired : List (Option T)) (up : Ascends 0 (serials es) end)
      (given : length retired ≡ end) where
    abbrev Waits : Option T × List (KeptSubscriber T) → Type 0
    Waits p = (m : ℕ) → or_retired (with_number m p.1) (slice_get (put_away (Some n) p.0 retired) m) ≡
        or_retired (with_number m es) (slice_get retired m)

    abbrev Stands : Option T × List (KeptSubscriber T) → Type 0
    Stands p = (m : ℕ) (x : T) → with_number m p.1 ≡ Some x → with_number m es ≡ Some x

    abbrev Both : Option T × List (KeptSubscriber T) → Type 0
    Both p = Waits p × Stands p

    gone_own : (e : KeptSubscriber T) → subscriber_with n es ≡ Some e →
        or_retired (with_number n (without n es)) (slice_get (slice_set retired n (Some e.subscriber)) n) ≡
        or_retired (with_number n es) (slice_get retired n)
    gone_own e there =
        let below : n < end = below_next n 0 end es e up there in
        let gone : with_number n (without n es) ≡ None = ap kept_value (without_own n 0 end es up) in
        let waits : slice_get (slice_set retired n (Some e.subscriber)) n ≡ Some (Some e.subscriber) =
        set_own retired n (Some e.subscriber) (omega arith) in
        let was : with_number n es ≡ Some e.subscriber = ap kept_value there in
        ap (λ (o : Option T). or_retired o (slice_get (slice_set retired n (Some e.subscriber)) n)) gone ∙
        ap (λ (o : Option (Option T)). or_retired None o) waits ∙
        sym (ap (λ (o : Option T). or_retired o (slice_get retired n)) was)

    gone_other : (e : KeptSubscriber T) (m : ℕ) → (m == n) ≡ false →
        or_retired (with_number m (without n es)) (slice_get (slice_set retired n (Some e.subscriber)) m) ≡
        or_retired (with_number m es) (slice_get retired m)
    gone_other e m apart =
        ap (λ (o : Option (KeptSubscriber T)). or_retired (kept_value o)
        (slice_get (slice_set retired n (Some e.subscriber)) m)) (without_other m n es apart) ∙
        ap (λ (o : Option (Option T)). or_retired (with_number m es) o) (set_other retired n m (Some e.subscriber) apart)

    gone_waits : (e : KeptSubscriber T) → subscriber_with n es ≡ Some e → Waits (Some e.subscriber, without n es)
    gone_waits e there m =
        by_bool (m == n)
        (λ here.
        let number : m ≡ n = (unsigned_Decides m n).0 here in
        subst (λ k. or_retired (with_number k (without n es)) (slice_get (slice_set retired n (Some e.subscriber)) k) ≡
        or_retired (with_number k es) (slice_get retired k)) (sym number) (gone_own e there))
        (λ apart. gone_other e m apart)

    gone_stands : (e : KeptSubscriber T) → Stands (Some e.subscriber, without n es)
    gone_stands e m x left =
        by_bool (m == n)
        (λ here.
        let number : m ≡ n = (unsigned_Decides m n).0 here in
        let gone : with_number n (without n es) ≡ None = ap kept_value (without_own n 0 end es up) in
        let clash : None ≡ Some x = sym gone ∙ subst (λ k. with_number k (without n es) ≡ Some x) number left in
        absurd (cc))
        (λ apart. sym (ap kept_value (without_other m n es apart)) ∙ left)

    one_less_both : Both (None, changed n one_less es)
    one_less_both = (
      λ m. ap (λ (o : Option T). or_retired o (slice_get retired m)) (counted_same n one_less (λ x. refl) (λ x. refl) m es),
      λ m x left. sym (counted_same n one_less (λ x. refl) (λ x. refl) m es) ∙ left,
    )

    back_at : (o : Option (KeptSubscriber T)) → subscriber_with n es ≡ o → Both (given_back_at n es o)
    back_at None there = (λ m. refl, λ m x left. left)
    back_at (Some e) there =
        if_either Both (nat_le e.handles 1) (Some e.subscriber, without n es) (None, changed n one_less es)
        (λ last. (gone_waits e there, gone_stands e)) (λ more. one_less_both)

  pub back_both : (o : Option ℕ) (es : List (KeptSubscriber T)) (end : ℕ) (retired : List (Option T)) → Ascends 0 (serials es) end →
      length retired ≡ end →
      ((m : ℕ) → or_retired (with_number m (given_back o es).1) (slice_get (put_away o (given_back o es).0 retired) m) ≡
      or_retired (with_number m es) (slice_get retired m)) ×
      ((m : ℕ) (x : T) → with_number m (given_back o es).1 ≡ Some x → with_number m es ≡ Some x)
  back_both None es end retired up given = (λ m. refl, λ m x left. left)
  back_both (Some n) es end retired up given = back_at n es end retired up given (subscriber_with n es) refl

  pub put_count : (o : Option ℕ) (released : Option T) (retired : List (Option T)) → length (put_away o released retired) ≡ length retired
  put_count None released retired = refl
  put_count (Some n) None retired = refl
  put_count (Some n) (Some x) retired = length-set retired n (Some x)

  stack_if : (b : Bool) (n : ℕ) (e : KeptSubscriber T) (es rest : List (KeptSubscriber T)) (x : T) →
      kept_value (if b then Some e else subscriber_with n es) ≡ Some x →
      (with_number n es ≡ Some x → rest ≡ es) → (if b then becomes x e ∷ es else e ∷ rest) ≡ e ∷ es
  stack_if true n e es rest x is later =
      let same : e.subscriber ≡ x = cc in ap (λ (z : T). becomes z e ∷ es) (sym same)
  stack_if false n e es rest x is later = ap (λ (zs : List (KeptSubscriber T)). e ∷ zs) (later is)

  same_stacks : (n : ℕ) (es : List (KeptSubscriber T)) (x : T) → with_number n es ≡ Some x → changed n (becomes x) es ≡ es
  same_stacks n [] x there = refl
  same_stacks n (e ∷ es) x there = stack_if (is_of n e) n e es (changed n (becomes x) es) x there (same_stacks n es x)

  -- with the stack that it has
  pub becoming_same : (v : StateValue T) (stack : ℕ) (x : T) → held_in v stack ≡ Some x → becoming stack x v ≡ v
  becoming_same v stack x there =
      ap (λ (es : List (KeptSubscriber T)). record v { hub = record v.hub { subscribers = es } })
      (same_stacks stack v.hub.subscribers x there)

  pub became_in : (v : StateValue T) (stack : ℕ) (x y : T) → held_in v stack ≡ Some x → stack_in (becoming stack y v) stack ≡ Some y
  became_in v stack x y there =
      ap (λ (o : Option T). or_retired o (slice_get v.retired stack)) (became_own stack y v.hub.subscribers x there)

  pub became_elsewhere : (v : StateValue T) (stack : ℕ) (y : T) (number : ℕ) → (number == stack) ≡ false →
      stack_in (becoming stack y v) number ≡ stack_in v number
  became_elsewhere v stack y number apart =
      ap (λ (o : Option T). or_retired o (slice_get v.retired number)) (became_other stack y v.hub.subscribers number apart)

  pub held_serials : (o : Option ℕ) (es : List (KeptSubscriber T)) → serials (held o es) ≡ serials es
  held_serials None es = refl
  held_serials (Some n) es = serials_changed n one_more (λ x. refl) es

  module _ (g : Ghosts T) where
    moves_at : (c : Call) (r : ReplyTo c) (stack : ℕ) (es fs : List (KeptSubscriber T)) (o : Option (KeptSubscriber T)) (x : T) →
        kept_value o ≡ Some x → CallGivesAt g c (Some stack) es o r fs →
        (y : T) × g.moves x c r y × (fs ≡ changed stack (becomes y) es)
    moves_at c r stack es fs None x is given = absurd (cc)
    moves_at c r stack es fs (Some e) x is given =
        let same : e.subscriber ≡ x = cc in (given.0, subst (λ (z : T). g.moves z c r given.0) same given.1, given.2)

    -- a stack that takes a call moves, and nothing else changes
    pub moved_by : (stack : ℕ) (v w : StateValue T) (c : Call) (r : ReplyTo c) (x : T) → held_in v stack ≡ Some x →
        CallGoes g stack v c r w → (y : T) × g.moves x c r y × (w ≡ becoming stack y v)
    moved_by stack v w c r x there goes =
        let moves = moves_at c r stack v.hub.subscribers w.hub.subscribers (subscriber_with stack v.hub.subscribers) x there goes.0.0 in (
          moves.0,
          moves.1,
          goes.1 ∙ ap (λ t. record v { hub = t }) (goes.0.1 ∙ ap (λ (es : List (KeptSubscriber T)). record v.hub { subscribers = es })
              moves.2),
        )

-- a skeleton's stacks
same_if : (stack : ℕ) (b : Bool) (k : HeldStack) (ks rest : List HeldStack) (r : RegistryValue) →
    registry_in (if b then Some k else stack_with stack ks) ≡ r → (registry_in (stack_with stack ks) ≡ r → rest ≡ ks) →
    (if b then record k { registry = r } ∷ ks else k ∷ rest) ≡ k ∷ ks
same_if stack true k ks rest r is later = ap (λ (x : RegistryValue). (record k { registry = x }) ∷ ks) (sym is)
same_if stack false k ks rest r is later = ap (λ (zs : List HeldStack). k ∷ zs) (later is)

same_registry : (stack : ℕ) (ks : List HeldStack) (r : RegistryValue) → registry_in (stack_with stack ks) ≡ r →
    acting.changed stack (λ (k : HeldStack). record k { registry = r }) ks ≡ ks
same_registry stack [] r is = refl
same_registry stack (k ∷ ks) r is =
    same_if stack (k.number == stack) k ks (acting.changed stack (λ (j : HeldStack). record j { registry = r }) ks) r is
    (same_registry stack ks r)

-- with the registry that it has
pub registry_stays : (s : Skeleton) (stack : ℕ) (r : RegistryValue) → registry_at s stack ≡ r → with_registry s stack r ≡ s
registry_stays s stack r is = ap (λ (ks : List HeldStack). record s { stacks = ks }) (same_registry stack s.stacks r is)

given_if : (stack : ℕ) (b : Bool) (k : HeldStack) (ks rest : List HeldStack) (r : RegistryValue) → (k.number == stack) ≡ b →
    is_some (if b then Some k else stack_with stack ks) ≡ true →
    (is_some (stack_with stack ks) ≡ true → registry_in (stack_with stack rest) ≡ r) →
    registry_in (stack_with stack (if b then record k { registry = r } ∷ ks else k ∷ rest)) ≡ r
given_if stack true k ks rest r is there later = rw is refl
given_if stack false k ks rest r is there later = rw is (later there)

given_registry : (stack : ℕ) (ks : List HeldStack) (r : RegistryValue) → is_some (stack_with stack ks) ≡ true →
    registry_in (stack_with stack (acting.changed stack (λ (k : HeldStack). record k { registry = r }) ks)) ≡ r
given_registry stack [] r there = absurd (cc)
given_registry stack (k ∷ ks) r there =
    given_if stack (k.number == stack) k ks (acting.changed stack (λ (j : HeldStack). record j { registry = r }) ks) r refl there
    (given_registry stack ks r)

-- the registry that was given to a stack
pub registry_given : (s : Skeleton) (stack : ℕ) (r : RegistryValue) → is_held s stack ≡ true →
    registry_at (with_registry s stack r) stack ≡ r
registry_given s stack r there = given_registry stack s.stacks r there

held_if : (b : Bool) (k stack : ℕ) → (if b then Some k else None) ≡ Some stack → (b ≡ true) × (k ≡ stack)
held_if true k stack is = let same : k ≡ stack = cc in (refl, same)
held_if false k stack is = absurd (cc)

-- a stack that is reached is held
pub reach_held : (s : Skeleton) (o : Option ℕ) (stack : ℕ) → while_held s o ≡ Some stack → is_held s stack ≡ true
reach_held s None stack is = absurd (cc)
reach_held s (Some k) stack is = let found = held_if (is_held s k) k stack is in subst (λ j. is_held s j ≡ true) found.1 found.0

-- defaults and guards
chosen_same : (d : LaneDefault) → looking.chosen (plain_default d) ≡ table.chosen d
chosen_same Unset = refl
chosen_same Nothing = refl
chosen_same (To number) = refl

leading_same : (o : Option ℕ) → plain_default (setting_to o) ≡ leading_to o
leading_same None = refl
leading_same (Some stack) = refl

own_is : (o : Option Lane) → own_of (option_map lane_default o) ≡ plain_default (own_setting o)
own_is None = refl
own_is (Some lane) = refl

guard_is : (o : Option (Option DefaultGuard)) → inner (option_map plain_guard o) ≡ plain_guard (inner o)
guard_is None = refl
guard_is (Some guard) = refl

module _ {T : Type 0} (registry_of : T → RegistryValue) where
  abbrev hs : KeptSubscriber T → HeldStack
  hs e = held_stack registry_of e

  with_if : (b : Bool) (e : KeptSubscriber T) (s : Option HeldStack) (o : Option (KeptSubscriber T)) → s ≡ option_map hs o →
      (if b then Some (hs e) else s) ≡ option_map hs (if b then Some e else o)
  with_if true e s o later = refl
  with_if false e s o later = later

  stack_at : (m : ℕ) (es : List (KeptSubscriber T)) → stack_with m (map hs es) ≡ option_map hs (subscriber_with m es)
  stack_at m [] = refl
  stack_at m (e ∷ es) = with_if (is_of m e) e (stack_with m (map hs es)) (subscriber_with m es) (stack_at m es)

  registry_kept : (o : Option (KeptSubscriber T)) (x : T) → kept_value o ≡ Some x → registry_in (option_map hs o) ≡ bare (registry_of x)
  registry_kept None x is = absurd (cc)
  registry_kept (Some e) x is = let same : e.subscriber ≡ x = cc in ap (λ (z : T). bare (registry_of z)) same

  -- the registry of a stack that is held
  pub registry_there : (v : StateValue T) (stack : ℕ) (x : T) → held_in v stack ≡ Some x →
      registry_at (skeleton_of registry_of v) stack ≡ bare (registry_of x)
  registry_there v stack x there = ap registry_in (stack_at stack v.hub.subscribers) ∙
      registry_kept (subscriber_with stack v.hub.subscribers) x there

  held_by : (o : Option (KeptSubscriber T)) → is_some (option_map hs o) ≡ true → (x : T) × (kept_value o ≡ Some x)
  held_by None is = absurd (cc)
  held_by (Some e) is = (e.subscriber, refl)

  -- a stack that the skeleton holds is there
  pub held_there : (v : StateValue T) (stack : ℕ) → is_held (skeleton_of registry_of v) stack ≡ true → (x : T) × (held_in v stack ≡ Some x)
  held_there v stack is = held_by (subscriber_with stack v.hub.subscribers)
      (subst (λ (o : Option HeldStack). is_some o ≡ true) (stack_at stack v.hub.subscribers) is)

  module _ (m : ℕ) (f : KeptSubscriber T → KeptSubscriber T) (k : HeldStack → HeldStack)
      (same : (e : KeptSubscriber T) → hs (f e) ≡ k (hs e)) where
    changed_if : (b : Bool) (e : KeptSubscriber T) (es later : List (KeptSubscriber T)) (rest : List HeldStack) → map hs later ≡ rest →
        map hs (if b then f e ∷ es else e ∷ later) ≡ (if b then k (hs e) ∷ map hs es else hs e ∷ rest)
    changed_if true e es later rest is = ap (λ (z : HeldStack). z ∷ map hs es) (same e)
    changed_if false e es later rest is = ap (λ (zs : List HeldStack). hs e ∷ zs) is

    changed_map : (es : List (KeptSubscriber T)) → map hs (changed m f es) ≡ acting.changed m k (map hs es)
    changed_map [] = refl
    changed_map (e ∷ es) = changed_if (is_of m e) e es (changed m f es) (acting.changed m k (map hs es)) (changed_map es)

  without_if : (b : Bool) (e : KeptSubscriber T) (es later : List (KeptSubscriber T)) (rest : List HeldStack) → map hs later ≡ rest →
      map hs (if b then es else e ∷ later) ≡ (if b then map hs es else hs e ∷ rest)
  without_if true e es later rest is = refl
  without_if false e es later rest is = ap (λ (zs : List HeldStack). hs e ∷ zs) is

  without_map : (m : ℕ) (es : List (KeptSubscriber T)) → map hs (without m es) ≡ acting.without m (map hs es)
  without_map m [] = refl
  without_map m (e ∷ es) = without_if (is_of m e) e es (without m es) (acting.without m (map hs es)) (without_map m es)

  held_map : (o : Option ℕ) (es : List (KeptSubscriber T)) → map hs (held o es) ≡ acting.held o (map hs es)
  held_map None es = refl
  held_map (Some n) es = changed_map n one_more acting.one_more (λ e. refl) es

  let_go_by : (b : Bool) (n : ℕ) (e : KeptSubscriber T) (es : List (KeptSubscriber T)) →
      map hs (if◌then◌else◌ {A = Option T × List (KeptSubscriber T)} b (Some e.subscriber, without n es) (None, changed n one_less es)).1 ≡
      (if b then acting.without n (map hs es) else acting.changed n acting.one_less (map hs es))
  let_go_by true n e es = without_map n es
  let_go_by false n e es = changed_map n one_less acting.one_less (λ d. refl) es

  let_go_in : (n : ℕ) (es : List (KeptSubscriber T)) (o : Option (KeptSubscriber T)) →
      map hs (given_back_at n es o).1 ≡ let_go_at n (map hs es) (option_map hs o)
  let_go_in n es None = refl
  let_go_in n es (Some e) = let_go_by (nat_le e.handles 1) n e es

  let_go_map : (o : Option ℕ) (es : List (KeptSubscriber T)) → map hs (given_back o es).1 ≡ let_go o (map hs es)
  let_go_map None es = refl
  let_go_map (Some n) es = let_go_in n es (subscriber_with n es) ∙ ap (let_go_at n (map hs es)) (sym (stack_at n es))

  -- a stack that took a call
  pub skeleton_became : (v : StateValue T) (stack : ℕ) (y : T) →
      skeleton_of registry_of (becoming stack y v) ≡ with_registry (skeleton_of registry_of v) stack (bare (registry_of y))
  skeleton_became v stack y =
      ap (λ (ks : List HeldStack). record (skeleton_of registry_of v) { stacks = ks })
      (changed_map stack (becomes y) (λ (k : HeldStack). record k { registry = bare (registry_of y) }) (λ e. refl) v.hub.subscribers)

  -- handles and defaults, as the skeleton has them
  pub behind_same : (v : StateValue T) (handle : ℕ) → looking.stack_behind (skeleton_of registry_of v) handle ≡ behind v handle
  behind_same v handle = ap inner (slice_get-map inner v.handles handle) ∙ inner_twice (slice_get v.handles handle)

  pub asked_same : (v : StateValue T) (o : Option ℕ) → acting.asked_for (skeleton_of registry_of v) o ≡ steps.asked_for v o
  asked_same v None = refl
  asked_same v (Some handle) = behind_same v handle

  default_same : (v : StateValue T) (lane : ℕ) →
      default_of (skeleton_of registry_of v) lane ≡ plain_default (own_setting (slice_get v.hub.lanes lane))
  default_same v lane = ap own_of (slice_get-map lane_default v.hub.lanes lane) ∙ own_is (slice_get v.hub.lanes lane)

  guard_same : (v : StateValue T) (guard : ℕ) → guard_at (skeleton_of registry_of v) guard ≡ plain_guard (inner (slice_get v.guards guard))
  guard_same v guard = ap inner (slice_get-map plain_guard v.guards guard) ∙ guard_is (slice_get v.guards guard)

  -- steps that change who holds stacks
  pub global_skeleton : (v : StateValue T) (o : Option ℕ) →
      skeleton_of registry_of (steps.with_global v o) ≡ acting.with_global (skeleton_of registry_of v) o
  global_skeleton v o =
      let s = skeleton_of registry_of v in
      ap (λ (ks : List HeldStack). record s { stacks = ks; default = plain_default (setting_to o) }) (held_map o v.hub.subscribers) ∙
      ap (λ (d : Default). record s { stacks = acting.held o s.stacks; default = d }) (leading_same o)

  pub handle_skeleton : (v : StateValue T) (o : Option ℕ) →
      skeleton_of registry_of (steps.with_handle v o) ≡ acting.with_new_handle (skeleton_of registry_of v) o
  handle_skeleton v o =
      let s = skeleton_of registry_of v in
      ap (λ (ks : List HeldStack). record s { stacks = ks; handles = map inner (v.handles ++ Some o ∷ []) })
      (held_map o v.hub.subscribers) ∙
      ap (λ (os : List (Option ℕ)). record s { stacks = acting.held o s.stacks; handles = os })
      (map-append inner v.handles (Some o ∷ []))

  pub release_skeleton : (v : StateValue T) (handle : ℕ) (o : Option ℕ) →
      skeleton_of registry_of (steps.without_handle v handle o) ≡ acting.without_stack_handle (skeleton_of registry_of v) handle o
  release_skeleton v handle o =
      let s = skeleton_of registry_of v in
      ap (λ (ks : List HeldStack). record s { stacks = ks; handles = map inner (slice_set v.handles handle None) })
      (let_go_map o v.hub.subscribers) ∙
      ap (λ (os : List (Option ℕ)). record s { stacks = let_go o s.stacks; handles = os }) (map_set inner v.handles handle None)

  pub default_skeleton : (v : StateValue T) (lane : ℕ) (o : Option ℕ) →
      skeleton_of registry_of (steps.with_default v lane o) ≡ acting.with_default (skeleton_of registry_of v) lane o
  default_skeleton v lane o =
      let s = skeleton_of registry_of v in
      let w = steps.with_default v lane o in
      let t = skeleton_of registry_of w in
      let guard : GuardValue = record { lane = lane; restores = default_of s lane } in
      let lanes : t.lanes ≡ slice_set s.lanes lane (leading_to o) =
      map_set lane_default v.hub.lanes lane _ ∙ ap (slice_set s.lanes lane) (leading_same o) in
      let guards : t.guards ≡ s.guards ++ Some guard ∷ [] =
      map-append plain_guard v.guards _ ∙
      ap (λ (d : Default). s.guards ++ Some (record { lane = lane; restores = d }) ∷ []) (sym (default_same v lane)) in
      ap (λ (ks : List HeldStack). record s { stacks = ks; lanes = t.lanes; guards = t.guards }) (held_map o v.hub.subscribers) ∙
      ap (λ (ds : List Default). record s { stacks = acting.held o s.stacks; lanes = ds; guards = t.guards }) lanes ∙
      ap (λ (gs : List (Option GuardValue)). record s {
        stacks = acting.held o s.stacks;
        lanes = slice_set s.lanes lane (leading_to o);
        guards = gs;
      }) guards

  restored_given : (v : StateValue T) (lane number : ℕ) (guard : DefaultGuard) →
      skeleton_of registry_of (steps.restored v lane number (Some guard)) ≡
      acting.restored (skeleton_of registry_of v) lane number (plain_guard (Some guard))
  restored_given v lane number guard =
      let s = skeleton_of registry_of v in
      let w = steps.restored v lane number (Some guard) in
      let t = skeleton_of registry_of w in
      let present = own_setting (slice_get v.hub.lanes lane) in
      let own : table.chosen present ≡ looking.chosen (default_of s lane) =
      sym (ap looking.chosen (default_same v lane) ∙ chosen_same present) in
      let lanes : t.lanes ≡ slice_set s.lanes lane (plain_default guard.before) = map_set lane_default v.hub.lanes lane _ in
      let guards : t.guards ≡ slice_set s.guards number None = map_set plain_guard v.guards number None in
      ap (λ (ks : List HeldStack). record s { stacks = ks; lanes = t.lanes; guards = t.guards })
      (let_go_map (table.chosen present) v.hub.subscribers ∙ ap (λ (o : Option ℕ). let_go o s.stacks) own) ∙
      ap (λ (ds : List Default). record s { stacks = let_go (looking.chosen (default_of s lane)) s.stacks; lanes = ds; guards = t.guards })
      lanes ∙
      ap (λ (gs : List (Option GuardValue)). record s {
        stacks = let_go (looking.chosen (default_of s lane)) s.stacks;
        lanes = slice_set s.lanes lane (plain_default guard.before);
        guards = gs;
      }) guards

  restored_by : (v : StateValue T) (lane number : ℕ) (o : Option DefaultGuard) →
      skeleton_of registry_of (steps.restored v lane number o) ≡ acting.restored (skeleton_of registry_of v) lane number (plain_guard o)
  restored_by v lane number None = refl
  restored_by v lane number (Some guard) = restored_given v lane number guard

  pub reset_skeleton : (v : StateValue T) (lane number : ℕ) →
      skeleton_of registry_of (steps.restored v lane number (inner (slice_get v.guards number))) ≡
      acting.restored (skeleton_of registry_of v) lane number (guard_at (skeleton_of registry_of v) number)
  reset_skeleton v lane number =
      restored_by v lane number (inner (slice_get v.guards number)) ∙
      ap (acting.restored (skeleton_of registry_of v) lane number) (sym (guard_same v number))
