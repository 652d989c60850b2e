-- What a step tells an output, and leaves of the spans as the output knows them, is settled by what is asked of its stack.
use Rattle.std.proofs.Common.{◌≡◌, ◌∙◌, ◌==◌, inl, inr, ℕ, zero, suc, Bool, true, false, if◌then◌else◌, List, [], ◌∷◌, ◌++◌, nat_le}
use Rattle.std.proofs.Common.{Option}
use Rattle.std.proofs.Common.{Some, None, IfSome, is_some, slice_get, refl, sym, ap, subst}
use Rattle.std.proofs.lemmas.Bool.{cases_eq, eq-eqb, ne_eqb}
use Rattle.std.proofs.lemmas.List.{append-nil, map-append}
use Rattle.tracing_core_fields.specs.PlainMetadata.{PlainMetadata}
use Rattle.tracing_core_fields.specs.requests.PlainRequests.{PlainAttributes, PlainEvent}
use Rattle.tracing_core_moments.specs.declared.at.At.{At}
use Rattle.span_registry_layers_store.specs.Registries.{PlainSpan, RegistryValue, under, with_entry, with_span}
use Rattle.span_registry_layers_store.specs.Verdicts.{passes_at}
use Rattle.span_tracing_outputs.specs.OutputFolds.{Numbered, call_lists, event_lists}
use Rattle.span_tracing_outputs.specs.OutputMachines.{Entered, Heard, Made, Recorded}
use Rattle.span_tracing_outputs.specs.OutputNotices.{Notice, close_told, enter_told, event_told, exit_told, heards, span_told}
use Rattle.span_tracing_skeleton.proofs.HeldStacks.{LeavesNumbers, changed_none, changed_other, changed_same, without_other, without_same}
use Rattle.span_tracing_skeleton.specs.Acting.{changed, held, let_go, let_go_at, one_less, one_more, parent_id, with_registry, without}
use Rattle.span_tracing_skeleton.specs.Counting.{AreNumbered}
use Rattle.span_tracing_skeleton.specs.Looking.{callsite_of, chosen, default_of, is_held, known, or_global, reach, registry_at, registry_in}
use Rattle.span_tracing_skeleton.specs.Looking.{stack_with}
use Rattle.span_tracing_skeleton.specs.Order.{call_refusal, refusal_of}
use Rattle.span_tracing_skeleton.specs.Refusing.{bare_refusal}
use Rattle.span_tracing_skeleton.specs.PlainData.{PlainStep, Request, RecordRequest, EventStep, SpanStep, on_span}
use Rattle.span_tracing_skeleton.specs.PlainData.{RecordStep, EnterStep, ExitStep, CloneStep, CloseStep}
use Rattle.span_tracing_skeleton.specs.Skeleton.{Answers, HeldStack, Passed, Skeleton}
use Rattle.span_tracing_skeleton.specs.Skeleton.{Heard as Answered}
use Rattle.span_tracing_skeleton.specs.declared.call.SpanCall.{SpanCall}
use Rattle.span_tracing_skeleton.specs.declared.call.SpanName.{SpanName}
use Rattle.span_tracing_steps.specs.StackRequests.{own_values, place_at, request_of}
use Rattle.span_tracing_laws.specs.isolation.OutputTurns.{filter_numbers}
use Rattle.span_tracing_laws.specs.isolation.OutputTurns.{OutputTurn, hears_by, hears_some}
use Rattle.span_tracing_laws.specs.isolation.OwnRequests.{CloseMade, EntryMade, EventMade, ExitMade, HandleMade, OwnRequest, SpanMade}
use Rattle.span_tracing_laws.specs.isolation.OwnRequests.{ValuesMade}
use Rattle.span_tracing_laws.specs.isolation.OwnRequests.{asked_by, asks_if, call_asks, event_asks, is_told, own_after, own_hears, own_made}
use Rattle.span_tracing_laws.specs.isolation.OwnRequests.{own_registry, own_span, record_asks, span_asks, values_ask}
use Rattle.span_tracing_laws.specs.runs.StepNotices.{close_told_by, enter_told_by, event_told_by, exit_told_by, record_told_by}
use Rattle.span_tracing_laws.specs.runs.StepNotices.{span_told_by}
use Rattle.span_tracing_laws.specs.runs.StepNotices.{told_by, told_to, values_told_by}
use Rattle.span_tracing_laws.specs.starved.StarvedCounts.{list_at}
use Rattle.span_tracing_laws.proofs.isolation.OwnViews.{hears_close, hears_event, hears_exit, hears_span}
use Rattle.span_tracing_laws.proofs.runs.HubStacks.{reach_held}
use Rattle.span_tracing_laws.proofs.runs.UnrefusedSteps.{call_held, first_none}
use Rattle.span_tracing_laws.proofs.starved.WholeRuns.{none_at}

-- what requests leave, one after another, and what is heard of them
abbrev pub after_asks : RegistryValue → List OwnRequest → RegistryValue
after_asks x [] = x
after_asks x (r ∷ rs) = after_asks (own_after x r) rs

abbrev pub hears_asks : RegistryValue → List OwnRequest → List OutputTurn
hears_asks x [] = []
hears_asks x (r ∷ rs) = own_hears x r ++ hears_asks (own_after x r) rs

-- the notices of the output at a place, by its number
list_call : {N : Type 0} (ns : ℕ → List Notice) (outs : List (Numbered N)) (place number : ℕ) →
    slice_get (filter_numbers outs) place ≡ Some number → list_at (call_lists ns outs) place ≡ ns number
list_call ns [] place number is = absurd (cc)
list_call ns (o ∷ outs) zero number is = let same : o.number ≡ number = cc in ap ns same
list_call ns (o ∷ outs) (suc place) number is = list_call ns outs place number is

list_event : {N : Type 0} (x : RegistryValue) (at : At) (e : PlainEvent) (told : List Bool) (outs : List (Numbered N)) (place number : ℕ) →
    slice_get (filter_numbers outs) place ≡ Some number →
    list_at (event_lists x at e told outs) place ≡ event_told x at e (is_told (slice_get told place)) number
list_event x at e [] outs place number is = none_at place
list_event x at e (t ∷ told) [] place number is = absurd (cc)
list_event x at e (t ∷ told) (o ∷ outs) zero number is = let same : o.number ≡ number = cc in ap (event_told x at e t) same
list_event x at e (t ∷ told) (o ∷ outs) (suc place) number is = list_event x at e told outs place number is

module _ (stack number : ℕ) where
  abbrev pub own : RegistryValue → RegistryValue
  own x = own_registry number x

  -- where somebody holds the stack, these are its spans as the output knows them
  abbrev pub KnownIn : List HeldStack → RegistryValue → Type 0
  KnownIn ks x = IfSome (stack_with stack ks) (λ (k : HeldStack). own k.registry ≡ x)

  abbrev pub Known : Skeleton → RegistryValue → Type 0
  Known s x = KnownIn s.stacks x

  pub known_first : (s : Skeleton) → Known s (own (registry_at s stack))
  known_first s = by_stack (stack_with stack s.stacks)
    where
      by_stack : (o : Option HeldStack) → IfSome o (λ (k : HeldStack). own k.registry ≡ own (registry_in o))
      by_stack None = tt
      by_stack (Some k) = refl

  pub known_at : (s : Skeleton) (x : RegistryValue) → Known s x → is_held s stack ≡ true → own (registry_at s stack) ≡ x
  known_at s x is there = by_stack (stack_with stack s.stacks) is there
    where
      by_stack : (o : Option HeldStack) → IfSome o (λ (k : HeldStack). own k.registry ≡ x) → is_some o ≡ true → own (registry_in o) ≡ x
      by_stack None is there = absurd (cc)
      by_stack (Some k) is there = is

  -- who holds stacks plays no part
  changed_known : (at : ℕ) (f : HeldStack → HeldStack) → LeavesNumbers f → ((k : HeldStack) → (f k).registry ≡ k.registry) →
      (ks : List HeldStack) (x : RegistryValue) → KnownIn ks x → KnownIn (changed at f ks) x
  changed_known at f leaves same ks x is = elim (cases_eq stack at) [
    | inl here ↦ by_stack (stack_with stack ks) refl here
    | inr apart ↦ subst (λ (o : Option HeldStack). IfSome o (λ (k : HeldStack). own k.registry ≡ x))
        (sym (changed_other at stack f leaves apart ks)) is
  ]
    where
      by_stack : (o : Option HeldStack) → stack_with stack ks ≡ o → stack ≡ at → KnownIn (changed at f ks) x
      by_stack None none here =
          subst (λ (js : List HeldStack). KnownIn js x)
          (sym (changed_none at f ks (ap (λ (n : ℕ). stack_with n ks) (sym here) ∙ none))) is
      by_stack (Some k) there here =
          subst (λ (n : ℕ). KnownIn (changed n f ks) x) here
          (subst (λ (o : Option HeldStack). IfSome o (λ (j : HeldStack). own j.registry ≡ x)) (sym (changed_same stack f leaves ks k there))
          (ap own (same k) ∙ subst (λ (o : Option HeldStack). IfSome o (λ (j : HeldStack). own j.registry ≡ x)) there is))

  without_known : (given at : ℕ) (ks : List HeldStack) (x : RegistryValue) → AreNumbered given ks → KnownIn ks x → KnownIn (without at ks) x
  without_known given at ks x numbers is = elim (cases_eq stack at) [
    | inl here ↦
        subst (λ (n : ℕ). KnownIn (without n ks) x) here
        (subst (λ (o : Option HeldStack). IfSome o (λ (j : HeldStack). own j.registry ≡ x)) (sym (without_same given stack ks numbers)) tt)
    | inr apart ↦
        subst (λ (o : Option HeldStack). IfSome o (λ (j : HeldStack). own j.registry ≡ x)) (sym (without_other at stack apart ks)) is
  ]

  pub held_known : (o : Option ℕ) (ks : List HeldStack) (x : RegistryValue) → KnownIn ks x → KnownIn (held o ks) x
  held_known None ks x is = is
  held_known (Some at) ks x is = changed_known at one_more (λ k. refl) (λ k. refl) ks x is

  pub let_go_known : (given : ℕ) (o : Option ℕ) (ks : List HeldStack) (x : RegistryValue) → AreNumbered given ks → KnownIn ks x →
      KnownIn (let_go o ks) x
  let_go_known given None ks x numbers is = is
  let_go_known given (Some at) ks x numbers is = by_stack (stack_with at ks)
    where
      by_last : (b : Bool) → KnownIn (if b then without at ks else changed at one_less ks) x
      by_last true = without_known given at ks x numbers is
      by_last false = changed_known at one_less (λ k. refl) (λ k. refl) ks x is

      by_stack : (o : Option HeldStack) → KnownIn (let_go_at at ks o) x
      by_stack None = is
      by_stack (Some k) = by_last (nat_le k.holds 1)

  -- a stack with other spans: those that this makes of them, if it is the output's stack
  pub given_known : (s : Skeleton) (at : ℕ) (op : RegistryValue → RegistryValue) (r : OwnRequest) (x : RegistryValue) →
      ((y : RegistryValue) → own (op y) ≡ own_after (own y) r) → Known s x →
      Known (with_registry s at (op (registry_at s at))) (after_asks x (asks_if (at == stack) r))
  given_known s at op r x same is = elim (cases_eq at stack) [
    | inl here ↦ rw (eq-eqb at stack here) (by_stack (stack_with stack s.stacks) refl here)
    | inr apart ↦ rw (ne_eqb at stack apart)
        (subst (λ (o : Option HeldStack). IfSome o (λ (k : HeldStack). own k.registry ≡ x))
        (sym (changed_other at stack set (λ k. refl) (λ e. apart (sym e)) s.stacks)) is)
  ]
    where
      set : HeldStack → HeldStack
      set k = record k { registry = op (registry_at s at) }

      by_stack : (o : Option HeldStack) → stack_with stack s.stacks ≡ o → at ≡ stack →
          KnownIn (changed at (λ (k : HeldStack). record k { registry = op (registry_at s at) }) s.stacks) (own_after x r)
      by_stack None none here =
          subst (λ (js : List HeldStack). KnownIn js (own_after x r))
          (sym (changed_none at _ s.stacks (ap (λ (n : ℕ). stack_with n s.stacks) here ∙ none)))
          (subst (λ (o : Option HeldStack). IfSome o (λ (k : HeldStack). own k.registry ≡ own_after x r)) (sym none) tt)
      by_stack (Some k) there here =
          let its : own k.registry ≡ x = subst (λ (o : Option HeldStack). IfSome o (λ (j : HeldStack). own j.registry ≡ x)) there is in
          subst (λ (n : ℕ). KnownIn (changed n (λ (j : HeldStack). record j { registry = op (registry_at s n) }) s.stacks) (own_after x r))
          (sym here)
          (subst (λ (o : Option HeldStack). IfSome o (λ (j : HeldStack). own j.registry ≡ own_after x r))
          (sym (changed_same stack (λ (j : HeldStack). record j { registry = op (registry_at s stack) }) (λ j. refl) s.stacks k there))
          (same (registry_at s stack) ∙ ap (λ (y : RegistryValue). own_after y r)
          (ap (λ (o : Option HeldStack). own (registry_in o)) there ∙ its)))

  pub made_own : (y : RegistryValue) (at : At) (a : PlainAttributes) (passed : List Bool) →
      own_made (own y) at a (passes_at passed number) ≡ own (with_span y a.metadata (under y at.lane a.parent) passed)
  made_own y at a passed =
      ap (λ (ss : List PlainSpan). record (own (with_span y a.metadata (under y at.lane a.parent) passed)) { spans = ss })
      (sym (map-append (own_span number) y.spans _))

  module _ (N : Type 0) (place : ℕ) (s : Skeleton) (x : RegistryValue) (is : Known s x) where
    module _ (outs : List (Numbered N)) (numbered : slice_get (filter_numbers outs) place ≡ Some number) where
      abbrev Told : ℕ → At → (List (Numbered N) → List (List Notice)) → List OwnRequest → Type 0
      Told at moment lists rs = hears_by (told_to N stack (Some (record { stack = at; at = moment; lists = lists }))) outs place ≡
          hears_asks x rs

      told_one : (at : ℕ) (moment : At) (lists : List (Numbered N) → List (List Notice)) (r : OwnRequest) → is_held s at ≡ true →
          ((y : RegistryValue) → at ≡ stack → y ≡ registry_at s at →
          hears_some moment (heards (list_at (lists outs) place)) ≡ own_hears (own y) r) →
          Told at moment lists (asks_if (at == stack) r)
      told_one at moment lists r there hears = elim (cases_eq at stack) [
        | inl here ↦ rw (eq-eqb at stack here)
            (hears (registry_at s at) here refl
            ∙ ap (λ (y : RegistryValue). own_hears y r)
            (ap (λ (n : ℕ). own (registry_at s n)) here ∙ known_at s x is (subst (λ (n : ℕ). is_held s n ≡ true) here there))
            ∙ sym (append-nil (own_hears x r)))
        | inr apart ↦ rw (ne_eqb at stack apart) refl
      ]

      event_hears : (e : Request) (o : Option ℕ) → ((at : ℕ) → o ≡ Some at → is_held s at ≡ true) → (m : Option PlainMetadata)
          (a : Answers) →
          hears_by (told_to N stack (event_told_by N s e o m a)) outs place ≡ hears_asks x (event_asks stack place number e o m a)
      event_hears e (Some at) there (Some m) (Answered passed told) = elim (cases_eq at stack) [
        | inl here ↦ rw (eq-eqb at stack here)
            (ap (λ (ns : List Notice). hears_some moment (heards ns))
            (list_event (registry_at s at) moment (request_of m e) told outs place number numbered)
            ∙ by_told (is_told (slice_get told place)) here)
        | inr apart ↦ rw (ne_eqb at stack apart) refl
      ]
        where
          moment : At
          moment = place_at e.lane e.moment

          by_told : (b : Bool) → at ≡ stack →
              hears_some moment (heards (event_told (registry_at s at) moment (request_of m e) b number)) ≡
              hears_asks x (asks_if b (EventMade moment (request_of m e)))
          by_told true here =
              ap (λ (h : Heard). hears_some moment (h ∷ [])) (sym (hears_event number (registry_at s at) moment (request_of m e)))
              ∙ ap (λ (y : RegistryValue). own_hears y (EventMade moment (request_of m e)))
              (ap (λ (n : ℕ). own (registry_at s n)) here
              ∙ known_at s x is (subst (λ (n : ℕ). is_held s n ≡ true) here (there at refl)))
              ∙ sym (append-nil (own_hears x (EventMade moment (request_of m e))))
          by_told false here = refl
      event_hears e o there m a = refl

      span_hears : (e : Request) (o : Option ℕ) → ((at : ℕ) → o ≡ Some at → is_held s at ≡ true) → (m : Option PlainMetadata)
          (a : Answers) →
          hears_by (told_to N stack (span_told_by N s e o m a)) outs place ≡ hears_asks x (span_asks stack place number e o m a)
      span_hears e (Some at) there (Some m) (Passed passed) =
          told_one at moment _ (SpanMade moment (request_of m e) (passes_at passed number)) (there at refl)
          (λ y here known.
          ap (λ (ns : List Notice). hears_some moment (heards ns))
          (list_call (λ k. span_told (made (registry_at s at)) moment (Made (request_of m e)) (registry_at s at).next_id k) outs place
          number numbered)
          ∙ ap (λ (z : RegistryValue). hears_some moment (heards (span_told (made z) moment (Made (request_of m e)) z.next_id number)))
          (sym known)
          ∙ ap (hears_some moment) (sym (hears_span number (made y) moment (Made (request_of m e)) y.next_id))
          ∙ ap (λ (z : RegistryValue). hears_some moment (heards (span_told z moment (Made (request_of m e)) y.next_id 0)))
          (sym (made_own y moment (request_of m e) passed)))
        where
          moment : At
          moment = place_at e.lane e.moment

          made : RegistryValue → RegistryValue
          made z = with_span z m (parent_id z e.lane e.parent) passed
      span_hears e o there m a = refl

      -- a call on a span
      call_hears : (name : SpanName) (moment : At) (ns : RegistryValue → ℕ → List Notice) (r : OwnRequest) →
          is_held s name.stack ≡ true → ((y : RegistryValue) → hears_some moment (heards (ns y number)) ≡ own_hears (own y) r) →
          Told name.stack moment (call_lists (ns (registry_at s name.stack))) (asks_if (name.stack == stack) r)
      call_hears name moment ns r there same =
          told_one name.stack moment (call_lists (ns (registry_at s name.stack))) r there
          (λ y here known.
          ap (λ (xs : List Notice). hears_some moment (heards xs)) (list_call (ns (registry_at s name.stack)) outs place number numbered)
          ∙ ap (λ (z : RegistryValue). hears_some moment (heards (ns z number))) (sym known)
          ∙ same y)

      values_hear : (r : RecordRequest) (name : SpanName) → is_held s name.stack ≡ true → (m : Option PlainMetadata) →
          hears_by (told_to N stack (values_told_by N s r name m)) outs place ≡ hears_asks x (values_ask stack place number r name m)
      values_hear r name there None = refl
      values_hear r name there (Some m) =
          let moment = place_at r.lane r.moment in
          let values = own_values m r.values in
          call_hears name moment (λ y k. span_told y moment (Recorded values) name.id.value k)
          (ValuesMade moment name.id.value values) there
          (λ y. ap (hears_some moment) (sym (hears_span number y moment (Recorded values) name.id.value)))

      record_hears : (r : RecordRequest) → call_refusal s (on_span r) ≡ None → (o : Option SpanName) → r.span ≡ o →
          hears_by (told_to N stack (record_told_by N s r o)) outs place ≡ hears_asks x (record_asks stack place number s r o)
      record_hears r passes None named = refl
      record_hears r passes (Some name) named =
          values_hear r name (call_held s (on_span r) name named passes) (callsite_of s name)

      enter_hears : (call : SpanCall) → call_refusal s call ≡ None → (o : Option SpanName) → call.span ≡ o →
          hears_by (told_to N stack (enter_told_by N s call o)) outs place ≡
          hears_asks x (call_asks stack place number o (EntryMade (place_at call.lane call.moment)))
      enter_hears call passes None named = refl
      enter_hears call passes (Some name) named =
          let moment = place_at call.lane call.moment in
          call_hears name moment (λ y k. enter_told y moment name.id.value k) (EntryMade moment name.id.value)
          (call_held s call name named passes)
          (λ y. ap (hears_some moment) (sym (hears_span number (with_entry y moment.lane name.id.value) moment Entered name.id.value)))

      exit_hears : (call : SpanCall) → call_refusal s call ≡ None → (o : Option SpanName) → call.span ≡ o →
          hears_by (told_to N stack (exit_told_by N s call o)) outs place ≡
          hears_asks x (call_asks stack place number o (ExitMade (place_at call.lane call.moment)))
      exit_hears call passes None named = refl
      exit_hears call passes (Some name) named =
          let moment = place_at call.lane call.moment in
          call_hears name moment (λ y k. exit_told y moment name.id.value k) (ExitMade moment name.id.value)
          (call_held s call name named passes) (λ y. ap (hears_some moment) (sym (hears_exit number y moment name.id.value)))

      close_hears : (call : SpanCall) → call_refusal s call ≡ None → (o : Option SpanName) → call.span ≡ o →
          hears_by (told_to N stack (close_told_by N s call o)) outs place ≡
          hears_asks x (call_asks stack place number o (CloseMade (place_at call.lane call.moment)))
      close_hears call passes None named = refl
      close_hears call passes (Some name) named =
          let moment = place_at call.lane call.moment in
          call_hears name moment (λ y k. close_told y moment name.id.value k) (CloseMade moment name.id.value)
          (call_held s call name named passes) (λ y. ap (hears_some moment) (sym (hears_close number y moment name.id.value)))

      handle_hears : (o : Option SpanName) → [] ≡ hears_asks x (call_asks stack place number o HandleMade)
      handle_hears None = refl
      handle_hears (Some name) = by_if (name.stack == stack)
        where
          by_if : (b : Bool) → [] ≡ hears_asks x (asks_if b (HandleMade name.id.value))
          by_if true = refl
          by_if false = refl

      pub told_hears : (step : PlainStep) (a : Answers) → refusal_of s step ≡ None →
          hears_by (told_to N stack (told_by N s step a)) outs place ≡ hears_asks x (asked_by stack place number s step a)
      told_hears (EventStep e) a passes =
          event_hears e (reach s e.lane) (λ at is_it. reach_held s (chosen (or_global (default_of s e.lane) s.default)) at is_it)
          (known s e.callsite false) a
      told_hears (SpanStep e) a passes =
          span_hears e (reach s e.lane) (λ at is_it. reach_held s (chosen (or_global (default_of s e.lane) s.default)) at is_it)
          (known s e.callsite true) a
      told_hears (RecordStep r) a passes = record_hears r passes r.span refl
      told_hears (EnterStep call) a passes = enter_hears call passes call.span refl
      told_hears (ExitStep call) a passes = exit_hears call passes call.span refl
      told_hears (CloneStep call) a passes = handle_hears call.span
      told_hears (CloseStep call) a passes =
          close_hears call (first_none (call_refusal s call) (bare_refusal s call.span) passes) call.span refl
      told_hears step a passes = refl
