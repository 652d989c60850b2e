-- The places of stacks in a trace: each is held, or was released and waits.
use Rattle.std.proofs.Common.{◌≡◌, ◌∙◌, ◌==◌, Bool, true, false, ℕ, List, [], ◌∷◌, Option, Some, None, arith, refl, sym, ap}
use Rattle.std.specs.Prelude.{if◌then◌else◌, slice_get, slice_set}
use Rattle.tracing_core.specs.Commands.{becomes}
use Rattle.tracing_core.specs.Handles.{changed, is_of}
use Rattle.tracing_core.specs.TableRows.{KeptSubscriber}
use Rattle.span_tracing_outputs.proofs.ListPlaces.{by_bool, set_other, set_own, stands_within}
use Rattle.span_tracing_skeleton.specs.Looking.{inner}
use Rattle.span_tracing_steps.specs.States.{StateValue, held_in, or_retired, stack_in}
use Rattle.span_tracing_steps.specs.Steps.{becoming}
use Rattle.span_tracing_laws.specs.queue_steps.SinkPlaces.{put_stack, put_where}
use Rattle.span_tracing_laws.proofs.queue_steps.Places.{Apart, Place, set_again, set_turn, turned}
use Rattle.span_tracing_laws.proofs.runs.HubStacks.{became_elsewhere, became_in, became_other, became_own}

both_numbers : (k n m : ℕ) → (k == n) ≡ true → (m == n) ≡ false → (k == m) ≡ false
both_numbers k n m is apart = grind arith

module _ {T : Type 0} where
  module _ (n : ℕ) (change : KeptSubscriber T → KeptSubscriber T) (e : KeptSubscriber T) (es : List (KeptSubscriber T)) where
    changed_head : is_of n e ≡ true → changed n change (e ∷ es) ≡ change e ∷ es
    changed_head is = ap (λ (b : Bool). if b then change e ∷ es else e ∷ changed n change es) is

    changed_tail : is_of n e ≡ false → changed n change (e ∷ es) ≡ e ∷ changed n change es
    changed_tail is = ap (λ (b : Bool). if b then change e ∷ es else e ∷ changed n change es) is

  -- a stack that changes twice
  changed_again : (n : ℕ) (y z : T) (es : List (KeptSubscriber T)) →
      changed n (becomes z) (changed n (becomes y) es) ≡ changed n (becomes z) es
  changed_again n y z [] = refl
  changed_again n y z (e ∷ es) =
      by_bool (is_of n e)
      (λ here. ap (changed n (becomes z)) (changed_head n (becomes y) e es here) ∙ changed_head n (becomes z) (becomes y e) es here ∙
      sym (changed_head n (becomes z) e es here))
      (λ away. ap (changed n (becomes z)) (changed_tail n (becomes y) e es away) ∙
      changed_tail n (becomes z) e (changed n (becomes y) es) away ∙ ap (λ ds. e ∷ ds) (changed_again n y z es) ∙
      sym (changed_tail n (becomes z) e es away))

  -- two stacks that change
  changed_turn : (n m : ℕ) (y z : T) (es : List (KeptSubscriber T)) → (m == n) ≡ false →
      changed m (becomes z) (changed n (becomes y) es) ≡ changed n (becomes y) (changed m (becomes z) es)
  changed_turn n m y z [] apart = refl
  changed_turn n m y z (e ∷ es) apart =
      by_bool (is_of n e)
      (λ here.
      let away : is_of m e ≡ false = both_numbers e.serial n m here apart in
      ap (changed m (becomes z)) (changed_head n (becomes y) e es here) ∙ changed_tail m (becomes z) (becomes y e) es away ∙
      sym (ap (changed n (becomes y)) (changed_tail m (becomes z) e es away) ∙
      changed_head n (becomes y) e (changed m (becomes z) es) here))
      (λ away. ap (changed m (becomes z)) (changed_tail n (becomes y) e es away) ∙ by_bool (is_of m e)
      (λ here. changed_head m (becomes z) e (changed n (becomes y) es) here ∙
      sym (ap (changed n (becomes y)) (changed_head m (becomes z) e es here) ∙ changed_tail n (becomes y) (becomes z e) es away))
      (λ far. changed_tail m (becomes z) e (changed n (becomes y) es) far ∙ ap (λ ds. e ∷ ds) (changed_turn n m y z es apart) ∙
      sym (ap (changed n (becomes y)) (changed_tail m (becomes z) e es far) ∙
      changed_tail n (becomes y) e (changed m (becomes z) es) away)))

  put_is : (v : StateValue T) (k : ℕ) (y : T) (o : Option T) → held_in v k ≡ o → put_stack v k y ≡ put_where o v k y
  put_is v k y o is = ap (λ (p : Option T). put_where p v k y) is

  held_waits : (v : StateValue T) (k : ℕ) (y : T) (j : ℕ) → held_in (put_where None v k y) j ≡ held_in v j
  held_waits v k y j = refl

  some_waits : (retired : List (Option T)) (k : ℕ) (x : T) → inner (slice_get retired k) ≡ Some x →
      (o : Option T) × (slice_get retired k ≡ Some o)
  some_waits retired k x is = at (slice_get retired k) refl is where
    at : (o : Option (Option T)) → slice_get retired k ≡ o → inner o ≡ Some x → (p : Option T) × (slice_get retired k ≡ Some p)
    at None there none = absurd (cc)
    at (Some p) there some = (p, there)

  own_if : (v : StateValue T) (k : ℕ) (x y : T) (o : Option T) → held_in v k ≡ o → or_retired o (slice_get v.retired k) ≡ Some x →
      stack_in (put_where o v k y) k ≡ Some y
  own_if v k x y None gone waits =
      let there = some_waits v.retired k x waits in
      ap (λ (o : Option T). or_retired o (slice_get (slice_set v.retired k (Some y)) k)) gone ∙
      ap (λ (o : Option (Option T)). inner o) (set_own v.retired k (Some y) (stands_within v.retired k there.0 there.1))
  own_if v k x y (Some e) there waits = became_in v k e y there

  pub stack_own : (v : StateValue T) (k : ℕ) (x y : T) → stack_in v k ≡ Some x → stack_in (put_stack v k y) k ≡ Some y
  stack_own v k x y is = own_if v k x y (held_in v k) refl is

  pub again_if : (v : StateValue T) (k : ℕ) (y z : T) (o : Option T) → held_in v k ≡ o →
      put_stack (put_where o v k y) k z ≡ put_stack v k z
  again_if v k y z None gone =
      put_is (put_where None v k y) k z None gone ∙
      ap (λ (xs : List (Option T)). record v { retired = xs }) (set_again v.retired k (Some y) (Some z)) ∙ sym (put_is v k z None gone)
  again_if v k y z (Some e) there =
      put_is (becoming k y v) k z (Some y) (became_own k y v.hub.subscribers e there) ∙
      ap (λ (es : List (KeptSubscriber T)). record v { hub = record v.hub { subscribers = es } })
      (changed_again k y z v.hub.subscribers) ∙
      sym (put_is v k z (Some e) there)

  -- the place of the stack with a number
  abbrev pub stack_place : ℕ → Place (StateValue T) T
  stack_place k = record {
    get = λ v. stack_in v k;
    put = λ v y. put_stack v k y;
    own = λ v x y is. stack_own v k x y is;
    again = λ v x y z is. again_if v k y z (held_in v k) refl;
  }

  pub stays_if : (v : StateValue T) (k j : ℕ) (y : T) (o : Option T) → (j == k) ≡ false →
      stack_in (put_where o v k y) j ≡ stack_in v j
  stays_if v k j y None apart =
      ap (λ (o : Option (Option T)). or_retired (held_in v j) o) (set_other v.retired k j (Some y) apart)
  stays_if v k j y (Some e) apart = became_elsewhere v k y j apart

  held_stays : (v : StateValue T) (k j : ℕ) (y : T) (o : Option T) → (j == k) ≡ false → held_in (put_where o v k y) j ≡ held_in v j
  held_stays v k j y None apart = refl
  held_stays v k j y (Some e) apart = became_other k y v.hub.subscribers j apart

  turn_if : (v : StateValue T) (k j : ℕ) (y z : T) (o p : Option T) → (j == k) ≡ false →
      put_where p (put_where o v k y) j z ≡ put_where o (put_where p v j z) k y
  turn_if v k j y z None None apart =
      ap (λ (xs : List (Option T)). record v { retired = xs }) (set_turn v.retired k j (Some y) (Some z) apart)
  turn_if v k j y z None (Some e) apart = refl
  turn_if v k j y z (Some e) None apart = refl
  turn_if v k j y z (Some e) (Some d) apart =
      ap (λ (es : List (KeptSubscriber T)). record v { hub = record v.hub { subscribers = es } })
      (changed_turn k j y z v.hub.subscribers apart)

  stacks_turn : (v : StateValue T) (k j : ℕ) (y z : T) → (j == k) ≡ false →
      put_stack (put_stack v k y) j z ≡ put_stack (put_stack v j z) k y
  stacks_turn v k j y z apart =
      put_is (put_stack v k y) j z (held_in v j) (held_stays v k j y (held_in v k) apart) ∙
      turn_if v k j y z (held_in v k) (held_in v j) apart ∙
      sym (put_is (put_stack v j z) k y (held_in v k) (held_stays v j k z (held_in v j) (turned k j apart)))

  pub stacks_apart : (k j : ℕ) → (j == k) ≡ false → Apart (stack_place k) (stack_place j)
  stacks_apart k j apart = record {
    second_stays = λ v x y is. stays_if v k j y (held_in v k) apart;
    first_stays = λ v x y is. stays_if v j k y (held_in v j) (turned k j apart);
    turn = λ v x y z t is too. stacks_turn v k j y t apart;
  }
