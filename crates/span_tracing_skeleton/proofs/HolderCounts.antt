-- Each step keeps that stacks are held by as many as they count.
use Rattle.std.proofs.Common.{◌≡◌, ℕ, zero, suc, ◌+◌, ◌<◌, ◌≤◌, nat_le, List, [], ◌∷◌, length, set, sum_by, slice_get}
use Rattle.std.proofs.Common.{Bool, true, false, Option, Some, None, is_some, refl, sym, ap, ◌∙◌, arith}
use Rattle.std.proofs.lemmas.Bool.{eq-eqb, false≢true, leb-false, lt-ltb}
use Rattle.std.proofs.lemmas.List.Sums.{get_or-le-sum_by, sum_by-set, sum_by_push}
use Rattle.std.proofs.lemmas.Option.{get_or_from_slice_get, none-some, slice_get_within}
use Rattle.tracing_core_fields.specs.PlainMetadata.{PlainMetadata}
use Rattle.span_registry_layers_store.specs.Registries.{RegistryValue}
use Rattle.span_tracing_skeleton.proofs.HeldStacks.{held_by_some, held_more, let_go_less, more_holds, next_absent, number_below}
use Rattle.span_tracing_skeleton.proofs.HeldStacks.{numbered_changed, numbered_held, numbered_let_go, numbered_more, same_holds, some_of}
use Rattle.span_tracing_skeleton.specs.Acting.{asked_for, cloned, entered, given_up, held, leading_to, left, let_go, made_by, restored}
use Rattle.span_tracing_skeleton.specs.Acting.{with_default, with_global, with_made, with_new_handle, with_registry, without_stack_handle}
use Rattle.span_tracing_skeleton.specs.Counting.{IsCounted, StaysCounted, holders, holds_at, holds_of, kept_by, one_if}
use Rattle.span_tracing_skeleton.specs.Looking.{chosen, default_of, guard_at, inner, is_held, knows_stack, known, leads_to, or_global}
use Rattle.span_tracing_skeleton.specs.Looking.{own_of, reach, stack_behind, stack_with, was_set, while_held}
use Rattle.span_tracing_skeleton.specs.Machine.{acted, or_same}
use Rattle.span_tracing_skeleton.specs.Order.{chosen_refusal, refusal_of}
use Rattle.span_tracing_skeleton.specs.PlainData.{PlainStep, GlobalStep, EventStep, EnabledStep, SpanStep, RecordStep, FollowsFromStep}
use Rattle.span_tracing_skeleton.specs.PlainData.{EnterStep, ExitStep, CloneStep, CloseStep, DefaultStep, ResetStep, CloneHandleStep, SetStep}
use Rattle.span_tracing_skeleton.specs.PlainData.{ReleaseStep, Request}
use Rattle.span_tracing_skeleton.specs.Refusing.{first, guard_refusal, handle_refusal, handle_refusal_by, hold_refusal, lane_refusal, when}
use Rattle.span_tracing_skeleton.specs.Setup.{with_lane, with_stack}
use Rattle.span_tracing_skeleton.specs.Skeleton.{Skeleton, HeldStack, GuardValue, Default, Unset, Nowhere, Own, Answers, Unasked, Wanted}
use Rattle.span_tracing_skeleton.specs.Skeleton.{Dropped, Passed, Heard}
use Rattle.span_tracing_skeleton.specs.declared.call.SpanName.{SpanName}
use Rattle.span_tracing_skeleton.specs.declared.refusal.Refusal.{Refusal}
use Rattle.span_tracing_skeleton.specs.declared.refusal.Refusal.TheVariants.{GlobalSet, UnknownLane}

-- sums over lists of which one element is written over, and what an element adds to one
set_sum : {X : Type 0} (f : X → ℕ) (xs : List X) (i : ℕ) (y x : X) → slice_get xs i ≡ Some x →
    sum_by f (set xs i y) + f x ≡ sum_by f xs + f y
set_sum f xs i y x here =
    let same = ap f (get_or_from_slice_get xs i x x here) in
    let sums = sum_by-set f xs i y x (slice_get_within xs i x here) in
    omega (arith, same, sums)

at_least : {X : Type 0} (f : X → ℕ) (xs : List X) (i : ℕ) (x : X) → slice_get xs i ≡ Some x → f x ≤ sum_by f xs
at_least f xs i x here =
    let same = ap f (get_or_from_slice_get xs i x x here) in
    let below = get_or-le-sum_by f xs i x (slice_get_within xs i x here) in
    omega (arith, same, below)

inner_some : {A : Type 0} (o : Option (Option A)) (x : A) → inner o ≡ Some x → o ≡ Some (Some x)
inner_some None x is = absurd (none-some x is)
inner_some (Some o) x is = rw is refl

own_there : (lanes : List Default) (lane : ℕ) → lane < length lanes → slice_get lanes lane ≡ Some (own_of (slice_get lanes lane))
own_there [] lane within = absurd (omega (arith, within))
own_there (own ∷ owns) zero within = refl
own_there (own ∷ owns) (suc lane) within = own_there owns lane (omega (arith, within))

-- what an option, a default and a guard add to the holders of a stack
abbrev led : ℕ → Option ℕ → ℕ
led n o = one_if (leads_to o n)

abbrev led_by : ℕ → Default → ℕ
led_by n own = led n (chosen own)

abbrev led_back : ℕ → Option GuardValue → ℕ
led_back n guard = led n (kept_by guard)

led_itself : (stack : ℕ) → led stack (Some stack) ≡ 1
led_itself stack = ap one_if (eq-eqb stack stack refl)

led_to : (n : ℕ) (o : Option ℕ) → led n (chosen (leading_to o)) ≡ led n o
led_to n None = refl
led_to n (Some stack) = refl

unset_leads : (n : ℕ) (own : Default) → was_set own ≡ false → led_by n own ≡ 0
unset_leads n Unset unset = refl
unset_leads n Nowhere unset = refl
unset_leads n (Own stack) unset = absurd (false≢true (sym unset))

-- who is counted is held
some_from : (o : Option HeldStack) → 0 < holds_of o → is_some o ≡ true
some_from None positive = absurd (omega (arith, positive))
some_from (Some k) positive = refl

held_where : (s : Skeleton) (stack : ℕ) → IsCounted s → 0 < holders s stack → is_held s stack ≡ true
held_where s stack counted positive =
    let same = counted.counts stack in some_from (stack_with stack s.stacks) (omega (arith, same, positive))

holders_where : (s : Skeleton) (stack : ℕ) → IsCounted s → is_held s stack ≡ true → 0 < holders s stack
holders_where s stack counted some = some_of (stack_with stack s.stacks) some (λ k here.
    let positive = held_by_some s.given stack s.stacks k counted.numbers here in
    let holds = ap holds_of here in
    let same = counted.counts stack in
    omega (arith, positive, holds, same))

behind_held : (s : Skeleton) (handle stack : ℕ) → IsCounted s → stack_behind s handle ≡ Some stack → is_held s stack ≡ true
behind_held s handle stack counted behind =
    let least = at_least (led stack) s.handles handle (Some stack) (inner_some (slice_get s.handles handle) stack behind) in
    let one = led_itself stack in
    held_where s stack counted (omega (arith, least, one))

-- one who holds a stack more
more_held : (s t : Skeleton) (o : Option ℕ) → IsCounted s → t.given ≡ s.given → t.stacks ≡ held o s.stacks →
    ((stack : ℕ) → o ≡ Some stack → is_held s stack ≡ true) → ((n : ℕ) → holders t n ≡ holders s n + led n o) → IsCounted t
more_held s t o counted given stacks there holds = record {
  counts = λ n.
      let now = ap (holds_at n) stacks in
      let more = held_more n o s.stacks there in
      let before = counted.counts n in
      let after = holds n in
      omega (arith, now, more, before, after);
  numbers = rw (given, stacks) (numbered_held s.given o s.stacks counted.numbers);
}

-- one less
less_held : (s t : Skeleton) (o : Option ℕ) → IsCounted s → t.given ≡ s.given → t.stacks ≡ let_go o s.stacks →
    ((n : ℕ) → holders t n + led n o ≡ holders s n) → IsCounted t
less_held s t o counted given stacks holds = record {
  counts = λ n.
      let now = ap (holds_at n) stacks in
      let less = let_go_less s.given n o s.stacks counted.numbers there in
      let before = counted.counts n in
      let after = holds n in
      omega (arith, now, less, before, after);
  numbers = rw (given, stacks) (numbered_let_go s.given o s.stacks counted.numbers);
} where
  there : (stack : ℕ) → o ≡ Some stack → is_held s stack ≡ true
  there stack is =
      let one = ap (led stack) is ∙ led_itself stack in
      let after = holds stack in
      held_where s stack counted (omega (arith, one, after))

registry_counted : (s : Skeleton) (stack : ℕ) (registry : RegistryValue) → IsCounted s → IsCounted (with_registry s stack registry)
registry_counted s stack registry counted = record {
  counts = λ n. same_holds n stack (λ k. record k { registry = registry }) (λ k. refl) (λ k. refl) s.stacks ∙ counted.counts n;
  numbers = numbered_changed s.given stack (λ k. record k { registry = registry }) (λ k. refl) s.stacks
      (λ k here. held_by_some s.given stack s.stacks k counted.numbers here) counted.numbers;
}

-- what refuses nothing
first_none : (a b : Option Refusal) → first a b ≡ None → (a ≡ None) × (b ≡ None)
first_none None b none = (refl, none)
first_none (Some refusal) b none = absurd (none-some refusal (sym none))

when_none : (test : Bool) (refusal : Refusal) → when test refusal ≡ None → test ≡ false
when_none true refusal none = absurd (none-some refusal (sym none))
when_none false refusal none = refl

lane_within : (s : Skeleton) (lane : ℕ) → lane_refusal s lane ≡ None → lane < length s.lanes
lane_within s lane none = leb-false (length s.lanes) lane (when_none (nat_le (length s.lanes) lane) UnknownLane none)

-- each step that isn't refused
global_counted : (s : Skeleton) (handle : ℕ) → IsCounted s → was_set s.default ≡ false → IsCounted (with_global s (stack_behind s handle))
global_counted s handle counted unset =
    more_held s (with_global s (stack_behind s handle)) (stack_behind s handle) counted refl refl
    (λ stack behind. behind_held s handle stack counted behind)
    (λ n.
    let before = unset_leads n s.default unset in
    let now = led_to n (stack_behind s handle) in
    omega (arith, before, now))

asked_held : (s : Skeleton) (handle : Option ℕ) (stack : ℕ) → IsCounted s → asked_for s handle ≡ Some stack → is_held s stack ≡ true
asked_held s None stack counted behind = absurd (none-some stack behind)
asked_held s (Some handle) stack counted behind = behind_held s handle stack counted behind

default_counted : (s : Skeleton) (lane : ℕ) (handle : Option ℕ) → IsCounted s → lane < length s.lanes →
    IsCounted (with_default s lane (asked_for s handle))
default_counted s lane handle counted within =
    more_held s (with_default s lane (asked_for s handle)) (asked_for s handle) counted refl refl
    (λ stack behind. asked_held s handle stack counted behind)
    (λ n.
    let own = own_there s.lanes lane within in
    let lanes = set_sum (led_by n) s.lanes lane (leading_to (asked_for s handle)) (default_of s lane) own in
    let guards = sum_by_push (led_back n) s.guards (Some (record { lane = lane; restores = default_of s lane })) in
    let now = led_to n (asked_for s handle) in
    omega (arith, lanes, guards, now))

restored_counted : (s : Skeleton) (lane guard : ℕ) (o : Option GuardValue) → guard_at s guard ≡ o → IsCounted s → lane < length s.lanes →
    IsCounted (restored s lane guard o)
restored_counted s lane guard None is counted within = counted
restored_counted s lane guard (Some g) is counted within =
    less_held s (restored s lane guard (Some g)) (chosen (default_of s lane)) counted refl refl
    (λ n.
    let own = own_there s.lanes lane within in
    let lanes = set_sum (led_by n) s.lanes lane g.restores (default_of s lane) own in
    let guards = set_sum (led_back n) s.guards guard None (Some g) (inner_some (slice_get s.guards guard) g is) in
    omega (arith, lanes, guards))

handle_counted : (s : Skeleton) (handle : ℕ) → IsCounted s → IsCounted (with_new_handle s (stack_behind s handle))
handle_counted s handle counted =
    more_held s (with_new_handle s (stack_behind s handle)) (stack_behind s handle) counted refl refl
    (λ stack behind. behind_held s handle stack counted behind)
    (λ n. let handles = sum_by_push (led n) s.handles (stack_behind s handle) in omega (arith, handles))

released_counted : (s : Skeleton) (handle : ℕ) (o : Option (Option ℕ)) → slice_get s.handles handle ≡ o → handle_refusal_by s o ≡ None →
    IsCounted s → IsCounted (without_stack_handle s handle (inner o))
released_counted s handle None is none counted = absurd (none-some _ (sym none))
released_counted s handle (Some None) is none counted = absurd (none-some _ (sym none))
released_counted s handle (Some (Some stack)) is none counted =
    less_held s (without_stack_handle s handle (Some stack)) (Some stack) counted refl refl
    (λ n. let handles = set_sum (led n) s.handles handle None (Some stack) is in omega (arith, handles))

made_counted : (s : Skeleton) (reached : Option ℕ) (n : Request) (callsite : Option PlainMetadata) (passed : List Bool) → IsCounted s →
    IsCounted (with_made s reached n callsite passed)
made_counted s None n callsite passed counted = counted
made_counted s (Some stack) n None passed counted = counted
made_counted s (Some stack) n (Some m) passed counted = registry_counted s stack _ counted

span_counted : (s : Skeleton) (n : Request) (a : Answers) → IsCounted s → IsCounted (made_by s n a)
span_counted s n Unasked counted = counted
span_counted s n (Wanted b) counted = counted
span_counted s n Dropped counted = counted
span_counted s n (Passed passed) counted = made_counted s (reach s n.lane) n (known s n.callsite true) passed counted
span_counted s n (Heard passed told) counted = counted

entered_counted : (s : Skeleton) (lane : ℕ) (span : Option SpanName) → IsCounted s → IsCounted (entered s lane span)
entered_counted s lane None counted = counted
entered_counted s lane (Some name) counted = registry_counted s name.stack _ counted

left_counted : (s : Skeleton) (lane : ℕ) (span : Option SpanName) → IsCounted s → IsCounted (left s lane span)
left_counted s lane None counted = counted
left_counted s lane (Some name) counted = registry_counted s name.stack _ counted

cloned_counted : (s : Skeleton) (span : Option SpanName) → IsCounted s → IsCounted (cloned s span)
cloned_counted s None counted = counted
cloned_counted s (Some name) counted = registry_counted s name.stack _ counted

given_up_counted : (s : Skeleton) (span : Option SpanName) → IsCounted s → IsCounted (given_up s span)
given_up_counted s None counted = counted
given_up_counted s (Some name) counted = registry_counted s name.stack _ counted

-- a refused step leaves the skeleton
unless_refused : (r : Option Refusal) (s t : Skeleton) → IsCounted s → (r ≡ None → IsCounted t) → IsCounted (or_same r s t)
unless_refused None s t counted kept = kept refl
unless_refused (Some refusal) s t counted kept = counted

step_counted : (s : Skeleton) (step : PlainStep) (a : Answers) → refusal_of s step ≡ None → IsCounted s → IsCounted (acted s step a)
step_counted s (GlobalStep handle) a none counted =
    let later = first_none (handle_refusal s handle) (first (when (was_set s.default) GlobalSet) (hold_refusal s handle)) none in
    let unset = first_none (when (was_set s.default) GlobalSet) (hold_refusal s handle) later.1 in
    global_counted s handle counted (when_none (was_set s.default) GlobalSet unset.0)
step_counted s (EventStep e) a none counted = counted
step_counted s (EnabledStep call) a none counted = counted
step_counted s (SpanStep n) a none counted = span_counted s n a counted
step_counted s (RecordStep r) a none counted = counted
step_counted s (FollowsFromStep call) a none counted = counted
step_counted s (EnterStep call) a none counted = entered_counted s call.lane call.span counted
step_counted s (ExitStep call) a none counted = left_counted s call.lane call.span counted
step_counted s (CloneStep call) a none counted = cloned_counted s call.span counted
step_counted s (CloseStep call) a none counted = given_up_counted s call.span counted
step_counted s (DefaultStep call) a none counted =
    let lane = first_none (lane_refusal s call.lane) (chosen_refusal s call.handle) none in
    default_counted s call.lane call.handle counted (lane_within s call.lane lane.0)
step_counted s (ResetStep call) a none counted =
    let lane = first_none (lane_refusal s call.lane) (guard_refusal s call.lane call.guard) none in
    restored_counted s call.lane call.guard (guard_at s call.guard) refl counted (lane_within s call.lane lane.0)
step_counted s (CloneHandleStep handle) a none counted = handle_counted s handle counted
step_counted s (ReleaseStep handle) a none counted =
    released_counted s handle (slice_get s.handles handle) refl none counted
step_counted s (SetStep call) a none counted = counted

-- a lane and a stack that are added
lane_counted : (s : Skeleton) → IsCounted s → IsCounted (with_lane s)
lane_counted s counted = record {
  counts = λ n.
      let before = counted.counts n in
      let lanes = sum_by_push (led_by n) s.lanes Unset in
      omega (arith, before, lanes);
  numbers = counted.numbers;
}

stack_counted : (s : Skeleton) (registry : RegistryValue) (count sinks : ℕ) → IsCounted s →
    IsCounted (with_stack s registry count sinks)
stack_counted s registry count sinks counted =
    let added : HeldStack = record { number = s.given; holds = 1; registry = registry } in
    record {
      counts = λ n.
          let before = counted.counts n in
          let more = more_holds n s.stacks added (next_absent s.given s.stacks counted.numbers) refl in
          let handles = sum_by_push (led n) s.handles (Some s.given) in
          omega (arith, before, more, handles);
      numbers = numbered_more s.given s.stacks added refl (omega arith) counted.numbers;
    }

-- who is led to is held
own_held : (s : Skeleton) (lane stack : ℕ) → IsCounted s → chosen (default_of s lane) ≡ Some stack → is_held s stack ≡ true
own_held s lane stack counted own = own_held_in (slice_get s.lanes lane) refl own where
  own_held_in : (o : Option Default) → slice_get s.lanes lane ≡ o → chosen (own_of o) ≡ Some stack → is_held s stack ≡ true
  own_held_in None is leads = absurd (none-some stack leads)
  own_held_in (Some d) is leads =
      let least = at_least (led_by stack) s.lanes lane d is in
      let one = ap (led stack) leads ∙ led_itself stack in
      held_where s stack counted (omega (arith, least, one))

global_held : (s : Skeleton) (stack : ℕ) → IsCounted s → chosen s.default ≡ Some stack → is_held s stack ≡ true
global_held s stack counted leads =
    let one = ap (led stack) leads ∙ led_itself stack in
    held_where s stack counted (omega (arith, one))

guard_held : (s : Skeleton) (guard stack : ℕ) → IsCounted s → kept_by (guard_at s guard) ≡ Some stack → is_held s stack ≡ true
guard_held s guard stack counted keeps = guard_held_in (guard_at s guard) refl keeps where
  guard_held_in : (o : Option GuardValue) → guard_at s guard ≡ o → kept_by o ≡ Some stack → is_held s stack ≡ true
  guard_held_in None is leads = absurd (none-some stack leads)
  guard_held_in (Some g) is leads =
      let least = at_least (led_back stack) s.guards guard (Some g) (inner_some (slice_get s.guards guard) g is) in
      let one = ap (led stack) leads ∙ led_itself stack in
      held_where s stack counted (omega (arith, least, one))

while_all_held : (s : Skeleton) (o : Option ℕ) → ((stack : ℕ) → o ≡ Some stack → is_held s stack ≡ true) → while_held s o ≡ o
while_all_held s None there = refl
while_all_held s (Some stack) there = rw (there stack refl) refl

led_held : (s : Skeleton) (lane : ℕ) → IsCounted s → (own : Default) → default_of s lane ≡ own → (stack : ℕ) →
    chosen (or_global own s.default) ≡ Some stack → is_held s stack ≡ true
led_held s lane counted Unset is stack leads = global_held s stack counted leads
led_held s lane counted Nowhere is stack leads = absurd (none-some stack leads)
led_held s lane counted (Own other) is stack leads = own_held s lane stack counted (ap chosen is ∙ leads)

reached_held : (s : Skeleton) (lane : ℕ) → IsCounted s → reach s lane ≡ chosen (or_global (default_of s lane) s.default)
reached_held s lane counted =
    while_all_held s (chosen (or_global (default_of s lane) s.default))
    (λ stack leads. led_held s lane counted (default_of s lane) refl stack leads)

held_known : (s : Skeleton) (stack : ℕ) → IsCounted s → is_held s stack ≡ true → knows_stack s stack ≡ true
held_known s stack counted some = some_of (stack_with stack s.stacks) some (λ k here.
    lt-ltb stack s.given (number_below s.given stack s.stacks k counted.numbers here))

pub stays_counted : StaysCounted
stays_counted = record {
  new = record { counts = λ n. refl; numbers = tt };
  callsite_added = λ s m counted. record { counts = counted.counts; numbers = counted.numbers };
  lane_added = lane_counted;
  stack_added = stack_counted;
  stepped = λ s step a counted.
      unless_refused (refusal_of s step) s (acted s step a) counted (λ none. step_counted s step a none counted);
  held = λ s stack counted. (holders_where s stack counted, held_where s stack counted);
  given = held_known;
  reached = reached_held;
  behind = behind_held;
  kept = guard_held;
}
