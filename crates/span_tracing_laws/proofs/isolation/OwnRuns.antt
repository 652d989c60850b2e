-- What comes to an output in a run is settled by what is asked of its stack.
use Rattle.std.proofs.Common.{◌≡◌, ◌∙◌, ◌==◌, ℕ, Bool, true, false, if◌then◌else◌, List, [], ◌∷◌, ◌++◌, map, Option, Some, None, slice_get}
use Rattle.std.proofs.Common.{refl, sym, ap, subst}
use Rattle.std.proofs.lemmas.List.{append_assoc}
use Rattle.tracing_core_fields.specs.PlainMetadata.{PlainMetadata}
use Rattle.tracing_core_fields.specs.requests.PlainRequests.{PlainAttributes}
use Rattle.tracing_core_moments.specs.declared.at.At.{At}
use Rattle.span_registry_layers_store.specs.Registries.{RegistryValue, swept, under, with_entry, with_handle, with_span, without_entry}
use Rattle.span_registry_layers_store.specs.Registries.{without_handle}
use Rattle.span_registry_layers_store.specs.Verdicts.{passes_at}
use Rattle.event_formatter_text.specs.declared.format_fields.FormatFields.{Ghosts}
use Rattle.span_tracing_outputs.specs.OutputFolds.{Numbered}
use Rattle.span_tracing_outputs.specs.sinks.Routed.{Routed}
use Rattle.span_tracing_skeleton.specs.Acting.{asked_for, cloned, entered, given_up, left, made_by, restored, told_parent}
use Rattle.span_tracing_skeleton.specs.Acting.{with_made}
use Rattle.span_tracing_skeleton.specs.Counting.{AreNumbered, IsCounted, StaysCounted}
use Rattle.span_tracing_skeleton.specs.Looking.{callsite_of, chosen, default_of, guard_at, known, output_in, reach, stack_behind}
use Rattle.span_tracing_skeleton.specs.Machine.{acted, after, or_same}
use Rattle.span_tracing_skeleton.specs.Order.{refusal_of}
use Rattle.span_tracing_skeleton.specs.PlainData.{PlainStep, Request, RecordRequest, GlobalStep, EventStep, EnabledStep, SpanStep}
use Rattle.span_tracing_skeleton.specs.PlainData.{RecordStep, FollowsFromStep, EnterStep, ExitStep, CloneStep, CloseStep, DefaultStep}
use Rattle.span_tracing_skeleton.specs.PlainData.{ResetStep, CloneHandleStep, ReleaseStep, SetStep}
use Rattle.span_tracing_skeleton.specs.Skeleton.{Answers, GuardValue, Passed, Skeleton}
use Rattle.span_tracing_skeleton.specs.Skeleton.{Heard as Answered}
use Rattle.span_tracing_skeleton.specs.declared.call.SpanName.{SpanName}
use Rattle.span_tracing_skeleton.specs.declared.refusal.Refusal.{Refusal}
use Rattle.span_tracing_steps.specs.StackRequests.{own_values, place_at, request_of}
use Rattle.span_tracing_laws.specs.isolation.OutputTurns.{filter_numbers}
use Rattle.span_tracing_laws.specs.isolation.OutputTurns.{OutputTurn, calls_by, changes_by, hears_by, run_brings}
use Rattle.span_tracing_laws.specs.isolation.OwnRequests.{Asks, CloseMade, Comes, EntryMade, EventMade, ExitMade, HandleMade, OwnRequest}
use Rattle.span_tracing_laws.specs.isolation.OwnRequests.{OwnTurn}
use Rattle.span_tracing_laws.specs.isolation.OwnRequests.{SaysBy, SaysOne, SpanMade, ValuesMade, seen, unanswered}
use Rattle.span_tracing_laws.specs.isolation.OwnRequests.{asked_by, asked_of, asks_if, call_asks, event_asks, is_told}
use Rattle.span_tracing_laws.specs.isolation.OwnRequests.{own_after, own_brings, own_hears, record_asks, run_asks, span_asks}
use Rattle.span_tracing_laws.specs.isolation.OwnRequests.{values_ask}
use Rattle.span_tracing_laws.specs.runs.Runs.{Drove, Plain, Starved, StepWithMask, Waited, Went, plain_after}
use Rattle.span_tracing_laws.specs.runs.StepNotices.{told_by, told_of, told_to}
use Rattle.span_tracing_laws.specs.runs.StepSettings.{outs_with, setting_of}
use Rattle.span_tracing_laws.proofs.isolation.OutputNumbers.{numbers_left, numbers_with}
use Rattle.span_tracing_laws.proofs.isolation.OwnSteps.{Known, after_asks, given_known, hears_asks, held_known, let_go_known, made_own, own}
use Rattle.span_tracing_laws.proofs.isolation.OwnSteps.{told_hears}
use Rattle.span_tracing_laws.proofs.isolation.OwnViews.{given_own, handle_own, swept_own}

module _ (stack number : ℕ) where
  module _ (place : ℕ) (s : Skeleton) (x : RegistryValue) (is : Known stack number s x) where
    abbrev Leaves : Skeleton → List OwnRequest → Type 0
    Leaves t rs = Known stack number t (after_asks x rs)

    event_leaves : (e : Request) (o : Option ℕ) (m : Option PlainMetadata) (a : Answers) → Leaves s (event_asks stack place number e o m a)
    event_leaves e (Some at) (Some m) (Answered passed told) = by_stack (at == stack)
      where
        by_told : (b : Bool) → Leaves s (asks_if b (EventMade (place_at e.lane e.moment) (request_of m e)))
        by_told true = is
        by_told false = is

        by_stack : (b : Bool) → Leaves s
            (if b then asks_if (is_told (slice_get told place)) (EventMade (place_at e.lane e.moment) (request_of m e)) else [])
        by_stack true = by_told (is_told (slice_get told place))
        by_stack false = is
    event_leaves e o m a = is

    span_leaves : (e : Request) (o : Option ℕ) (m : Option PlainMetadata) (a : Answers) → reach s e.lane ≡ o →
        known s e.callsite true ≡ m → Leaves (made_by s e a) (span_asks stack place number e o m a)
    span_leaves e (Some at) (Some m) (Passed passed) at_is m_is =
        subst (λ (o : Option ℕ). Leaves (with_made s o e (known s e.callsite true) passed) asks) (sym at_is)
        (subst (λ (c : Option PlainMetadata). Leaves (with_made s (Some at) e c passed) asks) (sym m_is)
        (given_known stack number s at (λ y. with_span y m (under y e.lane (told_parent e.parent)) passed)
        (SpanMade (place_at e.lane e.moment) (request_of m e) (passes_at passed number)) x
        (λ y. sym (made_own stack number y (place_at e.lane e.moment) (request_of m e) passed)) is))
      where
        asks : List OwnRequest
        asks = asks_if (at == stack) (SpanMade (place_at e.lane e.moment) (request_of m e) (passes_at passed number))
    span_leaves e None m (Passed passed) at_is m_is =
        subst (λ (o : Option ℕ). Known stack number (with_made s o e (known s e.callsite true) passed) x) (sym at_is) is
    span_leaves e (Some at) None (Passed passed) at_is m_is =
        subst (λ (o : Option ℕ). Known stack number (with_made s o e (known s e.callsite true) passed) x) (sym at_is)
        (subst (λ (c : Option PlainMetadata). Known stack number (with_made s (Some at) e c passed) x) (sym m_is) is)
    span_leaves e o m a at_is m_is = is

    values_leave : (r : RecordRequest) (name : SpanName) (m : Option PlainMetadata) → Leaves s (values_ask stack place number r name m)
    values_leave r name None = is
    values_leave r name (Some m) = by_stack (name.stack == stack)
      where
        by_stack : (b : Bool) → Leaves s (asks_if b (ValuesMade (place_at r.lane r.moment) name.id.value (own_values m r.values)))
        by_stack true = is
        by_stack false = is

    record_leaves : (r : RecordRequest) (o : Option SpanName) → Leaves s (record_asks stack place number s r o)
    record_leaves r None = is
    record_leaves r (Some name) = values_leave r name (callsite_of s name)

    reset_leaves : (lane guard : ℕ) (o : Option GuardValue) → AreNumbered s.given s.stacks → Leaves (restored s lane guard o) []
    reset_leaves lane guard None numbers = is
    reset_leaves lane guard (Some g) numbers = let_go_known stack number s.given (chosen (default_of s lane)) s.stacks x numbers is

    -- calls on spans
    enter_leaves : (lane : ℕ) (o : Option SpanName) (r : ℕ → OwnRequest) →
        ((y : RegistryValue) (id : ℕ) → own stack number (with_entry y lane id) ≡ own_after (own stack number y) (r id)) →
        Leaves (entered s lane o) (call_asks stack place number o r)
    enter_leaves lane None r same = is
    enter_leaves lane (Some name) r same =
        given_known stack number s name.stack (λ y. with_entry y lane name.id.value) (r name.id.value) x (λ y. same y name.id.value) is

    exit_leaves : (lane : ℕ) (o : Option SpanName) (r : ℕ → OwnRequest) →
        ((y : RegistryValue) (id : ℕ) → own stack number (swept (without_entry y lane id)) ≡ own_after (own stack number y) (r id)) →
        Leaves (left s lane o) (call_asks stack place number o r)
    exit_leaves lane None r same = is
    exit_leaves lane (Some name) r same =
        given_known stack number s name.stack (λ y. swept (without_entry y lane name.id.value)) (r name.id.value) x
        (λ y. same y name.id.value) is

    handle_leaves : (o : Option SpanName) → Leaves (cloned s o) (call_asks stack place number o HandleMade)
    handle_leaves None = is
    handle_leaves (Some name) =
        given_known stack number s name.stack (λ y. with_handle y name.id.value) (HandleMade name.id.value) x
        (λ y. sym (handle_own number y name.id.value)) is

    close_leaves : (o : Option SpanName) (r : ℕ → OwnRequest) →
        ((y : RegistryValue) (id : ℕ) → own stack number (swept (without_handle y id)) ≡ own_after (own stack number y) (r id)) →
        Leaves (given_up s o) (call_asks stack place number o r)
    close_leaves None r same = is
    close_leaves (Some name) r same =
        given_known stack number s name.stack (λ y. swept (without_handle y name.id.value)) (r name.id.value) x
        (λ y. same y name.id.value) is

    step_leaves : (step : PlainStep) (a : Answers) → AreNumbered s.given s.stacks →
        Leaves (acted s step a) (asked_by stack place number s step a)
    step_leaves (GlobalStep handle) a numbers = held_known stack number (stack_behind s handle) s.stacks x is
    step_leaves (EventStep e) a numbers = event_leaves e (reach s e.lane) (known s e.callsite false) a
    step_leaves (EnabledStep call) a numbers = is
    step_leaves (SpanStep e) a numbers = span_leaves e (reach s e.lane) (known s e.callsite true) a refl refl
    step_leaves (RecordStep r) a numbers = record_leaves r r.span
    step_leaves (FollowsFromStep call) a numbers = is
    step_leaves (EnterStep call) a numbers =
        enter_leaves call.lane call.span (EntryMade (place_at call.lane call.moment)) (λ y id. refl)
    step_leaves (ExitStep call) a numbers =
        exit_leaves call.lane call.span (ExitMade (place_at call.lane call.moment))
        (λ y id. sym (swept_own number (without_entry y call.lane id)))
    step_leaves (CloneStep call) a numbers = handle_leaves call.span
    step_leaves (CloseStep call) a numbers =
        close_leaves call.span (CloseMade (place_at call.lane call.moment))
        (λ y id. sym (ap swept (given_own number y id) ∙ swept_own number (without_handle y id)))
    step_leaves (DefaultStep call) a numbers = held_known stack number (asked_for s call.handle) s.stacks x is
    step_leaves (ResetStep call) a numbers = reset_leaves call.lane call.guard (guard_at s call.guard) numbers
    step_leaves (CloneHandleStep handle) a numbers = held_known stack number (stack_behind s handle) s.stacks x is
    step_leaves (ReleaseStep handle) a numbers = let_go_known stack number s.given (stack_behind s handle) s.stacks x numbers is
    step_leaves (SetStep call) a numbers = is

-- requests and what else comes, on the way to the output
asks_then : (x : RegistryValue) (rs : List OwnRequest) (ts : List OwnTurn) →
    own_brings x (map Asks rs ++ ts) ≡ hears_asks x rs ++ own_brings (after_asks x rs) ts
asks_then x [] ts = refl
asks_then x (r ∷ rs) ts =
    ap (λ (xs : List OutputTurn). own_hears x r ++ xs) (asks_then (own_after x r) rs ts)
    ∙ sym (append_assoc (own_hears x r) (hears_asks (own_after x r) rs) (own_brings (after_asks (own_after x r) rs) ts))

comes_then : (x : RegistryValue) (cs : List OutputTurn) (ts : List OwnTurn) →
    own_brings x (map Comes cs ++ ts) ≡ cs ++ own_brings x ts
comes_then x [] ts = refl
comes_then x (c ∷ cs) ts = ap (λ (xs : List OutputTurn). c ∷ xs) (comes_then x cs ts)

-- a turn, and a list of turns, by what the filter says of spans
turn_same : (says : List OwnTurn → At → PlainAttributes → Bool) (before : List OwnTurn) (t u : OwnTurn) → unanswered t ≡ unanswered u →
    SaysOne says before t → SaysOne says before u → seen t ≡ seen u
turn_same says before (Asks (SpanMade at a passed)) (Asks (SpanMade at_too b also)) same said too =
    let one : at ≡ at_too = cc in
    let two : a ≡ b = cc in
    let three : passed ≡ also = said ∙ ap (λ (x : At). says before x a) one ∙ ap (says before at_too) two ∙ sym too in
    ap (λ (x : At). Asks (SpanMade x a passed)) one ∙ ap (λ (x : PlainAttributes). Asks (SpanMade at_too x passed)) two
    ∙ ap (λ (x : Bool). Asks (SpanMade at_too b x)) three
turn_same says before (Asks (SpanMade at a passed)) u same said too = absurd (cc)
turn_same says before t (Asks (SpanMade at a passed)) same said too = absurd (cc)
turn_same says before t u same said too = same

pub asked_same : (says : List OwnTurn → At → PlainAttributes → Bool) (before ts us : List OwnTurn) → map unanswered ts ≡ map unanswered us →
    SaysBy says before ts → SaysBy says before us → map seen ts ≡ map seen us
asked_same says before [] [] same said too = refl
asked_same says before [] (u ∷ us) same said too = absurd (cc)
asked_same says before (t ∷ ts) [] same said too = absurd (cc)
asked_same says before (t ∷ ts) (u ∷ us) same said too =
    let first : seen t ≡ seen u = turn_same says before t u (cc) said.0 too.0 in
    let rest : map unanswered ts ≡ map unanswered us = cc in
    let later = asked_same says (before ++ seen u ∷ []) ts us rest
    (subst (λ (x : OwnTurn). SaysBy says (before ++ x ∷ []) ts) first said.1) too.1 in
    ap (λ (x : OwnTurn). x ∷ map seen ts) first ∙ ap (λ (xs : List OwnTurn). seen u ∷ xs) later

module _ {N S : Type 0} (n : Ghosts N) (sinks : List (Routed S)) (stack place number : ℕ) (counted : StaysCounted) where
  abbrev Numbers : List (Numbered N) → Type 0
  Numbers outs = slice_get (filter_numbers outs) place ≡ Some number

  -- what a step tells the output, and leaves
  record StepIs (s : Skeleton) (step : PlainStep) (a : Answers) (outs : List (Numbered N)) (x : RegistryValue) : Type 0 where
    pub hears : hears_by (told_to N stack (told_of N s step a)) outs place ≡ hears_asks x (asked_of stack place number s step a)
    pub leaves : Known stack number (after s step a) (after_asks x (asked_of stack place number s step a))

  step_is : (s : Skeleton) (step : PlainStep) (a : Answers) (outs : List (Numbered N)) (x : RegistryValue) → IsCounted s →
      Known stack number s x → Numbers outs → StepIs s step a outs x
  step_is s step a outs x count is numbered = by_refusal (refusal_of s step) refl
    where
      by_refusal : (o : Option Refusal) → refusal_of s step ≡ o → StepIs s step a outs x
      by_refusal None passes = record {
        hears = ap (λ (o : Option Refusal). hears_by (told_to N stack (or_same o None (told_by N s step a))) outs place) passes
            ∙ told_hears stack number N place s x is outs numbered step a passes
            ∙ ap (λ (o : Option Refusal). hears_asks x (or_same o [] (asked_by stack place number s step a))) (sym passes);
        leaves = subst (λ (o : Option Refusal). Known stack number (or_same o s (acted s step a))
            (after_asks x (or_same o [] (asked_by stack place number s step a)))) (sym passes)
            (step_leaves stack number place s x is step a count.numbers);
      }
      by_refusal (Some refusal) refused = record {
        hears = ap (λ (o : Option Refusal). hears_by (told_to N stack (or_same o None (told_by N s step a))) outs place) refused
            ∙ ap (λ (o : Option Refusal). hears_asks x (or_same o [] (asked_by stack place number s step a))) (sym refused);
        leaves = subst (λ (o : Option Refusal). Known stack number (or_same o s (acted s step a))
            (after_asks x (or_same o [] (asked_by stack place number s step a)))) (sym refused) is;
      }

  pub run_is : (p : Plain N) (ts : List StepWithMask) (x : RegistryValue) → IsCounted p.skeleton → Known stack number p.skeleton x →
      Numbers (p.outs stack) → run_brings n sinks p ts stack place ≡ own_brings x (run_asks n sinks p ts stack place number)
  run_is p [] x count is numbered = refl
  run_is p (Went step a fates ∷ ts) x count is numbered =
      let t = Went step a fates in
      let next = plain_after n p t in
      let set = setting_of p.skeleton step in
      let outs = outs_with stack set (p.outs stack) in
      let told = told_to N stack (told_of N p.skeleton step a) in
      let changes = changes_by stack place set in
      let asks = asked_of stack place number p.skeleton step a in
      let rest = run_asks n sinks next ts stack place number in
      let same_numbers = numbers_with n stack set (p.outs stack) in
      let one = step_is p.skeleton step a outs x count is (ap (λ (ns : List ℕ). slice_get ns place) same_numbers ∙ numbered) in
      let later = run_is next ts (after_asks x asks) (counted.stepped p.skeleton step a count) one.leaves
      (ap (λ (ns : List ℕ). slice_get ns place) (numbers_left n told fates outs ∙ same_numbers) ∙ numbered) in
      append_assoc changes (hears_by told outs place) (run_brings n sinks next ts stack place)
      ∙ ap (λ (xs : List OutputTurn). changes ++ (xs ++ run_brings n sinks next ts stack place)) one.hears
      ∙ ap (λ (xs : List OutputTurn). changes ++ (hears_asks x asks ++ xs)) later
      ∙ ap (λ (xs : List OutputTurn). changes ++ xs) (sym (asks_then x asks rest))
      ∙ sym (comes_then x changes (map Asks asks ++ rest))
      ∙ ap (own_brings x) (sym (append_assoc (map Comes changes) (map Asks asks) rest))
  run_is p (Drove ask answer ∷ ts) x count is numbered =
      let calls = calls_by sinks stack place (output_in p.skeleton.sinks 0 ask.sink) ask.call answer in
      ap (λ (xs : List OutputTurn). calls ++ xs) (run_is p ts x count is numbered)
      ∙ sym (comes_then x calls (run_asks n sinks p ts stack place number))
  run_is p (Starved step ∷ ts) x count is numbered = run_is p ts x count is numbered
  run_is p (Waited step ∷ ts) x count is numbered = run_is p ts x count is numbered
