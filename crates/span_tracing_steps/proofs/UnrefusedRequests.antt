-- What a request at a callsite comes to, where nothing stands in its way.
use Rattle.std.proofs.Common.{◌≡◌, inl, inr, ℕ, Bool, true, false, List, Option, Some, None, Result, Ok, is_some, refl, sym, ap, ◌∙◌}
use Rattle.std.proofs.Common.{subst}
use Rattle.std.specs.Prelude.{◌==◌, [], ◌∷◌, if◌then◌else◌, slice_get}
use Rattle.std.specs.Option.{option_map}
use Rattle.tracing_core_fields.specs.PlainMetadata.{PlainMetadata}
use Rattle.tracing_core_fields.specs.requests.Calls.{EventDispatched}
use Rattle.tracing_core_fields.specs.declared.requests.refusal.RequestError.{RequestError}
use Rattle.tracing_core_fields.specs.declared.requests.subscriber.Subscriber.{Ghosts}
use Rattle.tracing_core_moments.specs.declared.at.At.{At}
use Rattle.tracing_core.specs.Commands.{becomes}
use Rattle.tracing_core.specs.HandleCalls.{CallGivesAt}
use Rattle.tracing_core.specs.Handles.{changed, subscriber_with}
use Rattle.tracing_core.specs.IndexedRequests.{AskAtGives, EventAtGives, RecordAtGives, SpanAtGives, plain_parent}
use Rattle.tracing_core.specs.Table.{Table}
use Rattle.tracing_core.specs.TableRows.{KeptSubscriber}
use Rattle.tracing_core.specs.declared.hub.index.CallsiteIndex.{CallsiteIndex}
use Rattle.tracing_core.specs.declared.hub.indexed.RequestParent.{RequestParent}
use Rattle.span_registry_layers_store.specs.Registries.{RegistryValue}
use Rattle.span_tracing_skeleton.specs.Acting.{told_parent}
use Rattle.span_tracing_skeleton.specs.Looking.{callsite_of, known, named, reach}
use Rattle.span_tracing_skeleton.specs.Order.{refusal_of, request_refusal}
use Rattle.span_tracing_skeleton.specs.Refusing.{first, ids_refusal}
use Rattle.span_tracing_skeleton.specs.PlainData.{PlainStep, EnabledStep, EventStep, RecordStep, SpanStep}
use Rattle.span_tracing_skeleton.specs.declared.call.EnabledCall.{EnabledCall}
use Rattle.span_tracing_skeleton.specs.declared.call.Parent.{Parent}
use Rattle.span_tracing_skeleton.specs.declared.setting.Setting.{Setting}
use Rattle.span_tracing_skeleton.specs.declared.call.Reply.{Reply}
use Rattle.span_tracing_skeleton.specs.declared.call.Reply.TheVariants.{Done, Enabled}
use Rattle.span_tracing_skeleton.specs.declared.call.SpanName.{SpanName}
use Rattle.span_tracing_skeleton.specs.declared.refusal.Refusal.{Refusal}
use Rattle.span_tracing_steps.specs.Actions.{plain_record, plain_request}
use Rattle.span_tracing_steps.specs.RequestTarget.{FoundFor, GoesTo, StaysAt}
use Rattle.span_tracing_steps.specs.States.{StateValue, at_index, held_in, skeleton_of}
use Rattle.span_tracing_steps.specs.Steps.{EventGoes, QuestionGoes, RecordGoes, SpanGoes, StepGives, StepGoes, StepUnless, span_reply}
use Rattle.span_tracing_steps.specs.StackRequests.{place_at, request_of}
use Rattle.span_tracing_steps.specs.contracts.callsite.TraceCallsiteCallsite.TheImpl.{ghosts}
use Rattle.span_tracing_steps.specs.declared.action.RecordRequest.{RecordRequest}
use Rattle.span_tracing_steps.specs.declared.action.Request.{Request}
use Rattle.span_tracing_steps.specs.declared.callsite.TraceCallsite.{TraceCallsite}
use Rattle.span_tracing_steps.proofs.IndexedRequests.{event_at_row, question_at_row, row_at, span_at_row, values_at_row}

-- where neither refuses
both_none : (a b : Option Refusal) → a ≡ None → b ≡ None → first a b ≡ None
both_none a b one two = rw one two

-- a subscriber that becomes what it is
same_if : {T : Type 0} (b : Bool) (x : T) (e : KeptSubscriber T) (es fs : List (KeptSubscriber T)) (y : Option (KeptSubscriber T)) →
    option_map (λ (k : KeptSubscriber T). k.subscriber) (if b then Some e else y) ≡ Some x →
    (option_map (λ (k : KeptSubscriber T). k.subscriber) y ≡ Some x → fs ≡ es) →
    (if b then becomes x e ∷ es else e ∷ fs) ≡ e ∷ es
same_if true x e es fs y is later = let same : e.subscriber ≡ x = cc in ap (λ z. becomes z e ∷ es) (sym same)
same_if false x e es fs y is later = ap (λ rest. e ∷ rest) (later is)

pub changed_same : {T : Type 0} (number : ℕ) (x : T) (es : List (KeptSubscriber T)) →
    option_map (λ (k : KeptSubscriber T). k.subscriber) (subscriber_with number es) ≡ Some x → changed number (becomes x) es ≡ es
changed_same number x [] is = refl
changed_same number x (e ∷ es) is = same_if (e.serial == number) x e es (changed number (becomes x) es) (subscriber_with number es) is
    (changed_same number x es)

module _ {T : Type 0} (g : Ghosts T) (registry_of : T → RegistryValue) (set : T → ℕ → Setting → T) (v : StateValue T) where
  -- an event that leaves its stack as it is
  took : (number : ℕ) (x : T) (m : PlainMetadata) (r : Request) (o : Option (KeptSubscriber T)) →
      o ≡ subscriber_with number v.hub.subscribers →
      option_map (λ (k : KeptSubscriber T). k.subscriber) o ≡ Some x → StaysAt g r.parent (Some m) x →
      CallGivesAt g (EventDispatched (request_of m (plain_request r)) (place_at r.lane r.moment)) (Some number) v.hub.subscribers o (Ok tt)
      v.hub.subscribers
  took number x m r None is there at = absurd (cc)
  took number x m r (Some e) is there at =
      let same : e.subscriber ≡ x = cc in (
        x,
        subst (λ (y : T). g.moves y (EventDispatched (request_of m (plain_request r)) (place_at r.lane r.moment)) (Ok tt) x) (sym same)
            (at.1 (request_of m (plain_request r)) (place_at r.lane r.moment) refl at.0),
        sym (changed_same number x v.hub.subscribers
            (ap (option_map (λ (k : KeptSubscriber T). k.subscriber)) (sym is) ∙ there)),
      )

  stays : (number : ℕ) (x : T) (m : Option PlainMetadata) (r : Request) → held_in v number ≡ Some x → is_some m ≡ true →
      StaysAt g r.parent m x → EventGoes g (Some number) m v (plain_request r) v
  stays number x None r is there at = absurd at
  stays number x (Some m) r is there at =
      (Ok tt, ((took number x m r (subscriber_with number v.hub.subscribers) refl is at, refl), refl))

  -- a step that reading doesn't refuse
  pub given : (step : PlainStep) (reply : Reply) (w : StateValue T) → refusal_of (skeleton_of registry_of v) step ≡ None →
      StepGoes g registry_of set v step reply w → StepGives g registry_of set v step reply w
  given step reply w none goes = subst (λ (o : Option Refusal). StepUnless g registry_of set o v step reply w) (sym none) goes

  -- an event that no stack has to be told of
  untold : (r : Request) (index : CallsiteIndex) (reached : Option ℕ) → reach (skeleton_of registry_of v) r.lane ≡ reached →
      FoundFor registry_of v r.lane r.moment r.callsite false r.parent (Ok index) →
      EventGoes g reached (known (skeleton_of registry_of v) r.callsite false) v (plain_request r) v →
      StepGives g registry_of set v (EventStep (plain_request r)) Done v
  untold r index reached is by goes =
      given (EventStep (plain_request r)) Done v by.2 (
        refl,
        subst (λ (o : Option ℕ). EventGoes g o (known (skeleton_of registry_of v) r.callsite false) v (plain_request r) v) (sym is)
            goes,
      )

  pub event_ignored : (r : Request) (index : CallsiteIndex) (o : Option ℕ) → o ≡ None → FoundFor registry_of v r.lane r.moment r.callsite
      false r.parent (Ok index) → GoesTo g registry_of v r.lane index r.parent o →
      StepGives g registry_of set v (EventStep (plain_request r)) Done v
  event_ignored r index (Some stack) none by goes = absurd (cc)
  event_ignored r index None none by (inl nowhere) = untold r index None nowhere by refl
  event_ignored r index None none by (inr (stack, x, reached, held, at)) =
      untold r index (Some stack) reached by
      (stays stack x (known (skeleton_of registry_of v) r.callsite false) r held by.1
      (subst (λ (m : Option PlainMetadata). StaysAt g r.parent m x) by.0 at))

  pub goes_there : (lane : ℕ) (index : CallsiteIndex) (parent : Parent) (o : Option ℕ)
      (stack : ℕ) → o ≡ Some stack → GoesTo g registry_of v lane index parent o → reach (skeleton_of registry_of v) lane ≡ Some stack
  goes_there lane index parent None stack is goes = absurd (cc)
  goes_there lane index parent (Some other) stack is goes = let same : other ≡ stack = cc in goes ∙ ap (λ (n : ℕ). Some n) same

  module _ (u : Table T TraceCallsite) (dispatch : Option ℕ) (stack : ℕ) (led : dispatch ≡ Some stack) where
    abbrev later : StateValue T
    later = record v { hub = u }

    pub event_given : (r : Request) (index : CallsiteIndex) (parent : RequestParent) (at : At)
        (result : Option (Result (Unit {0}) RequestError)) → plain_parent parent ≡ told_parent r.parent → at ≡ place_at r.lane r.moment →
        FoundFor registry_of v r.lane r.moment r.callsite false r.parent (Ok index) →
        reach (skeleton_of registry_of v) r.lane ≡ Some stack →
        EventAtGives g ghosts (slice_get v.hub.callsites index.0) r.values parent at dispatch v.hub result u →
        StepGives g registry_of set v (EventStep (plain_request r)) Done later
    event_given r index parent at result pe now by reached w =
        let m = known (skeleton_of registry_of v) r.callsite false in
        let goes = event_at_row g v u stack (slice_get v.hub.callsites index.0) m r parent result pe
        (row_at v.hub.callsites index.0 ∙ by.0) by.1
        (subst (λ (d : Option ℕ). EventAtGives g ghosts (slice_get v.hub.callsites index.0) r.values parent (place_at r.lane r.moment) d
        v.hub result u) led
        (subst (λ (k : At). EventAtGives g ghosts (slice_get v.hub.callsites index.0) r.values parent k dispatch v.hub result u) now w)) in
        given (EventStep (plain_request r)) Done later by.2
        (refl, subst (λ (o : Option ℕ). EventGoes g o m v (plain_request r) later) (sym reached) goes)

    pub span_given : (r : Request) (found : Result CallsiteIndex Refusal) (index : CallsiteIndex) (parent : RequestParent) (at : At)
        (result : Option (Result (Option ℕ) RequestError)) (made : Result (Option ℕ) RequestError) (reply : Reply) →
        plain_parent parent ≡ told_parent r.parent → at ≡ place_at r.lane r.moment → found ≡ Ok index →
        FoundFor registry_of v r.lane r.moment r.callsite true r.parent found →
        ids_refusal (skeleton_of registry_of v) r.lane ≡ None → reach (skeleton_of registry_of v) r.lane ≡ Some stack →
        result ≡ Some made → reply ≡ span_reply stack made →
        SpanAtGives g ghosts (slice_get v.hub.callsites index.0) r.values parent at dispatch v.hub result u →
        StepGives g registry_of set v (SpanStep (plain_request r)) reply later
    span_given r found index parent at result made reply pe now is over ids reached answered told w =
        let s = skeleton_of registry_of v in
        let m = known s r.callsite true in
        let by : FoundFor registry_of v r.lane r.moment r.callsite true r.parent (Ok index) =
        subst (FoundFor registry_of v r.lane r.moment r.callsite true r.parent) is over in
        let goes = span_at_row g v u stack (slice_get v.hub.callsites index.0) m r parent result made reply pe
        (row_at v.hub.callsites index.0 ∙ by.0) by.1 answered told
        (subst (λ (d : Option ℕ). SpanAtGives g ghosts (slice_get v.hub.callsites index.0) r.values parent (place_at r.lane r.moment) d
        v.hub result u) led
        (subst (λ (k : At). SpanAtGives g ghosts (slice_get v.hub.callsites index.0) r.values parent k dispatch v.hub result u) now w)) in
        given (SpanStep (plain_request r)) reply later
        (both_none (request_refusal s r.lane r.moment r.callsite true r.parent) (ids_refusal s r.lane) by.2 ids)
        (subst (λ (o : Option ℕ). SpanGoes g o m v (plain_request r) reply later) (sym reached) goes)

    pub question_given : (call : EnabledCall) (found : Option CallsiteIndex) (index : CallsiteIndex) (at : At) (result : Option Bool)
        (wanted : Bool) → found ≡ Some index → at ≡ place_at call.lane call.moment →
        at_index (skeleton_of registry_of v).callsites found ≡ named (skeleton_of registry_of v).callsites call.callsite.0 →
        is_some found ≡ is_some (named (skeleton_of registry_of v).callsites call.callsite.0) →
        refusal_of (skeleton_of registry_of v) (EnabledStep call) ≡ None → reach (skeleton_of registry_of v) call.lane ≡ Some stack →
        result ≡ Some wanted → AskAtGives g ghosts (slice_get v.hub.callsites index.0) at dispatch v.hub result u →
        StepGives g registry_of set v (EnabledStep call) (Enabled wanted) later
    question_given call found index at result wanted is now names there none reached answered w =
        let m = named (skeleton_of registry_of v).callsites call.callsite.0 in
        let goes = question_at_row g v u stack (slice_get v.hub.callsites index.0) m call result wanted
        (row_at v.hub.callsites index.0 ∙ ap (at_index (skeleton_of registry_of v).callsites) (sym is) ∙ names) (sym there ∙ ap is_some is)
        answered
        (subst (λ (d : Option ℕ). AskAtGives g ghosts (slice_get v.hub.callsites index.0) (place_at call.lane call.moment) d v.hub result u)
        led (subst (λ (k : At). AskAtGives g ghosts (slice_get v.hub.callsites index.0) k dispatch v.hub result u) now w)) in
        given (EnabledStep call) (Enabled wanted) later none
        (subst (λ (o : Option ℕ). QuestionGoes g o m v call (Enabled wanted) later) (sym reached) goes)

    -- values for an open span
    pub values_given : (r : RecordRequest) (name : SpanName) (id : ℕ) (found : Option CallsiteIndex) (index : CallsiteIndex) (at : At)
        (result : Option (Result (Unit {0}) RequestError)) → name.stack ≡ stack → id ≡ name.id.value → at ≡ place_at r.lane r.moment →
        r.span ≡ Some name → found ≡ Some index →
        at_index (skeleton_of registry_of v).callsites found ≡ callsite_of (skeleton_of registry_of v) name →
        is_some found ≡ is_some (callsite_of (skeleton_of registry_of v) name) →
        refusal_of (skeleton_of registry_of v) (RecordStep (plain_record r)) ≡ None →
        RecordAtGives g ghosts (slice_get v.hub.callsites index.0) id r.values at dispatch v.hub result u →
        StepGives g registry_of set v (RecordStep (plain_record r)) Done later
    values_given r name id found index at result own number now on is names there none w =
        let m = callsite_of (skeleton_of registry_of v) name in
        let row = slice_get v.hub.callsites index.0 in
        let goes = values_at_row g v u stack row m name r result own
        (row_at v.hub.callsites index.0 ∙ ap (at_index (skeleton_of registry_of v).callsites) (sym is) ∙ names) (sym there ∙ ap is_some is)
        (subst (λ (d : Option ℕ). RecordAtGives g ghosts row name.id.value r.values (place_at r.lane r.moment) d v.hub result u) led
        (subst (λ (n : ℕ). RecordAtGives g ghosts row n r.values (place_at r.lane r.moment) dispatch v.hub result u) number
        (subst (λ (k : At). RecordAtGives g ghosts row id r.values k dispatch v.hub result u) now w))) in
        given (RecordStep (plain_record r)) Done later none (
          refl,
          subst (λ (o : Option SpanName). RecordGoes g registry_of o v (plain_record r) later) (sym on) goes,
        )
