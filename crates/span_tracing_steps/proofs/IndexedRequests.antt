-- Requests that the hub hands to a stack at a callsite that was found.
use Rattle.std.proofs.Common.{◌≡◌, ℕ, zero, suc, Bool, true, List, [], ◌∷◌, length, Option, Some, None, Result, is_some, refl, sym}
use Rattle.std.proofs.Common.{ap, ◌∙◌, subst}
use Rattle.std.specs.Prelude.{slice_get}
use Rattle.std.specs.Option.{option_map}
use Rattle.tracing_core_fields.specs.IndexedEntries.{plain_entries}
use Rattle.tracing_core_fields.specs.PlainMetadata.{PlainMetadata}
use Rattle.tracing_core_fields.specs.PlainValue.{PlainValue}
use Rattle.tracing_core_fields.specs.declared.indexed_values.IndexedValues.{IndexedValues}
use Rattle.tracing_core_fields.specs.requests.Calls.{Asked, EventDispatched, Recorded, SpanMade}
use Rattle.tracing_core_fields.specs.requests.PlainRequests.{PlainRequest, PlainValues}
use Rattle.tracing_core_fields.specs.declared.requests.refusal.RequestError.{RequestError}
use Rattle.tracing_core_fields.specs.declared.requests.arguments.parent.Parent.{Parent}
use Rattle.tracing_core_fields.specs.declared.requests.subscriber.Subscriber.{Ghosts}
use Rattle.tracing_core_moments.specs.declared.at.At.{At}
use Rattle.tracing_core.specs.Commands.{AskGives, AskGivesAt}
use Rattle.tracing_core.specs.HandleCalls.{CallGives, CallGivesAt, HubGives}
use Rattle.tracing_core.specs.Handles.{subscriber_with}
use Rattle.tracing_core.specs.IndexedRequests.{AskAtGives, EventAtGives, RecordAtGives, SpanAtGives, plain_parent, request_at, values_at}
use Rattle.tracing_core.specs.TableRows.{KeptCallsite, KeptSubscriber}
use Rattle.tracing_core.specs.Table.{Table}
use Rattle.tracing_core.specs.declared.hub.indexed.RequestParent.{RequestParent}
use Rattle.span_tracing_skeleton.specs.Acting.{told_parent}
use Rattle.span_tracing_skeleton.specs.declared.call.EnabledCall.{EnabledCall}
use Rattle.span_tracing_skeleton.specs.declared.call.Reply.{Reply}
use Rattle.span_tracing_skeleton.specs.declared.call.Reply.TheVariants.{Enabled}
use Rattle.span_tracing_skeleton.specs.declared.call.SpanName.{SpanName}
use Rattle.span_tracing_steps.specs.Actions.{plain_record, plain_request}
use Rattle.span_tracing_steps.specs.Callsites.{own_metadata}
use Rattle.span_tracing_steps.specs.States.{StateValue, callsites_of}
use Rattle.span_tracing_steps.specs.Steps.{EventGoes, QuestionGoes, SpanGoes, ValuesGo, span_reply}
use Rattle.span_tracing_steps.specs.StackRequests.{own_values, place_at, request_of}
use Rattle.span_tracing_steps.specs.contracts.callsite.TraceCallsiteCallsite.TheImpl.{ghosts}
use Rattle.span_tracing_steps.specs.declared.action.RecordRequest.{RecordRequest}
use Rattle.span_tracing_steps.specs.declared.action.Request.{Request}
use Rattle.span_tracing_steps.specs.declared.callsite.TraceCallsite.{TraceCallsite}
use Rattle.tracing_core_fields.proofs.IndexedLemmas.{indexed_are_plain}

-- the values of a set by places are those of the plain request
values_same : (m : PlainMetadata) (values : IndexedValues) → values_at m values ≡ own_values m (plain_entries values)
values_same m values = ap (λ (es : List (ℕ × PlainValue)). record { callsite = m.callsite; names = m.field_names; entries = es })
    (indexed_are_plain (length m.field_names) values)

request_same : (m : PlainMetadata) (r : Request) (parent : RequestParent) → plain_parent parent ≡ told_parent r.parent →
    request_at m r.values parent ≡ request_of m (plain_request r)
request_same m r parent e =
    ap (λ (v : PlainValues). record { metadata = m; values = v; parent = plain_parent parent }) (values_same m r.values)
    ∙ ap (λ (q : Parent). record { metadata = m; values = own_values m (plain_entries r.values); parent = q }) e

-- the callsite at an index
pub row_at : (rows : List (KeptCallsite TraceCallsite)) (n : ℕ) →
    option_map (λ (row : KeptCallsite TraceCallsite). own_metadata row.callsite) (slice_get rows n) ≡ slice_get (callsites_of rows) n
row_at [] n = refl
row_at (row ∷ rows) zero = refl
row_at (row ∷ rows) (suc n) = row_at rows n

module _ {T : Type 0} (g : Ghosts T) where
  -- a question is a call
  ask_at_is : (m : PlainMetadata) (at : At) (serial : ℕ) (es fs : List (KeptSubscriber T)) (o : Option (KeptSubscriber T)) (b : Bool) →
      AskGivesAt g m at serial es o b fs → CallGivesAt g (Asked m at) (Some serial) es o b fs
  ask_at_is m at serial es fs None b w = w
  ask_at_is m at serial es fs (Some e) b w = (w.0, w.2, w.3)

  ask_is : (m : PlainMetadata) (at : At) (serial : ℕ) (es fs : List (KeptSubscriber T)) (b : Bool) →
      AskGives g m at (Some serial) es b fs → CallGives g (Asked m at) (Some serial) es b fs
  ask_is m at serial es fs b w = ask_at_is m at serial es fs (subscriber_with serial es) b w

  module _ (v : StateValue T) (u : Table T TraceCallsite) (stack : ℕ) where
    abbrev later : StateValue T
    later = record v { hub = u }

    -- an event at a row
    pub event_at_row : (o : Option (KeptCallsite TraceCallsite)) (m : Option PlainMetadata) (r : Request) (parent : RequestParent)
        (result : Option (Result (Unit {0}) RequestError)) → plain_parent parent ≡ told_parent r.parent →
        option_map (λ (row : KeptCallsite TraceCallsite). own_metadata row.callsite) o ≡ m → is_some m ≡ true →
        EventAtGives g ghosts o r.values parent (place_at r.lane r.moment) (Some stack) v.hub result u →
        EventGoes g (Some stack) m v (plain_request r) later
    event_at_row None None r parent result pe e there w = absurd (cc)
    event_at_row None (Some m) r parent result pe e there w = absurd (cc)
    event_at_row (Some row) None r parent result pe e there w = absurd (cc)
    event_at_row (Some row) (Some m) r parent result pe e there w =
        let same : own_metadata row.callsite ≡ m = cc in (
          w.0,
          (
            subst (λ (q : PlainRequest). HubGives g (EventDispatched q (place_at r.lane r.moment)) (Some stack) v.hub w.0 u)
                (ap (λ (n : PlainMetadata). request_at n r.values parent) same ∙ request_same m r parent pe) w.2,
            refl,
          ),
        )

    -- a new span at a row
    pub span_at_row : (o : Option (KeptCallsite TraceCallsite)) (m : Option PlainMetadata) (r : Request) (parent : RequestParent)
        (result : Option (Result (Option ℕ) RequestError)) (made : Result (Option ℕ) RequestError) (reply : Reply) →
        plain_parent parent ≡ told_parent r.parent → option_map (λ (row : KeptCallsite TraceCallsite). own_metadata row.callsite) o ≡ m →
        is_some m ≡ true → result ≡ Some made → reply ≡ span_reply stack made →
        SpanAtGives g ghosts o r.values parent (place_at r.lane r.moment) (Some stack) v.hub result u →
        SpanGoes g (Some stack) m v (plain_request r) reply later
    span_at_row None None r parent result made reply pe e there is told w = absurd (cc)
    span_at_row None (Some m) r parent result made reply pe e there is told w = absurd (cc)
    span_at_row (Some row) None r parent result made reply pe e there is told w = absurd (cc)
    span_at_row (Some row) (Some m) r parent result made reply pe e there is told w =
        let same : own_metadata row.callsite ≡ m = cc in
        let answer : made ≡ w.0 = (let both : Some made ≡ Some w.0 = sym is ∙ w.1 in cc) in (
          w.0,
          (
            subst (λ (q : PlainRequest). HubGives g (SpanMade q (place_at r.lane r.moment)) (Some stack) v.hub w.0 u)
                (ap (λ (n : PlainMetadata). request_at n r.values parent) same ∙ request_same m r parent pe) w.2,
            refl,
          ),
          told ∙ ap (span_reply stack) answer,
        )

    -- values for a span of a row
    pub values_at_row : (o : Option (KeptCallsite TraceCallsite)) (m : Option PlainMetadata) (name : SpanName) (r : RecordRequest)
        (result : Option (Result (Unit {0}) RequestError)) → name.stack ≡ stack →
        option_map (λ (row : KeptCallsite TraceCallsite). own_metadata row.callsite) o ≡ m → is_some m ≡ true →
        RecordAtGives g ghosts o name.id.value r.values (place_at r.lane r.moment) (Some stack) v.hub result u →
        ValuesGo g name m v (plain_record r) later
    values_at_row None None name r result own e there w = absurd (cc)
    values_at_row None (Some m) name r result own e there w = absurd (cc)
    values_at_row (Some row) None name r result own e there w = absurd (cc)
    values_at_row (Some row) (Some m) name r result own e there w =
        let same : own_metadata row.callsite ≡ m = cc in (
          w.0,
          (
            subst (λ (n : ℕ). HubGives g (Recorded name.id.value (own_values m (plain_record r).values) (place_at r.lane r.moment)) (Some n)
                v.hub w.0 u) (sym own)
                (subst (λ (vs : PlainValues). HubGives g (Recorded name.id.value vs (place_at r.lane r.moment)) (Some stack) v.hub w.0 u)
                (ap (λ (n : PlainMetadata). values_at n r.values) same ∙ values_same m r.values) w.2),
            refl,
          ),
        )

    -- a question about a row
    pub question_at_row : (o : Option (KeptCallsite TraceCallsite)) (m : Option PlainMetadata) (call : EnabledCall) (result : Option Bool)
        (wanted : Bool) → option_map (λ (row : KeptCallsite TraceCallsite). own_metadata row.callsite) o ≡ m → is_some m ≡ true →
        result ≡ Some wanted →
        AskAtGives g ghosts o (place_at call.lane call.moment) (Some stack) v.hub result u →
        QuestionGoes g (Some stack) m v call (Enabled wanted) later
    question_at_row None None call result wanted e there is w = absurd (cc)
    question_at_row None (Some m) call result wanted e there is w = absurd (cc)
    question_at_row (Some row) None call result wanted e there is w = absurd (cc)
    question_at_row (Some row) (Some m) call result wanted e there is w =
        let same : own_metadata row.callsite ≡ m = cc in
        let at = place_at call.lane call.moment in
        let answer : w.0 ≡ wanted = (let both : Some w.0 ≡ Some wanted = sym w.1 ∙ is in cc) in (
          w.0,
          (
            (
              subst (λ (n : PlainMetadata). CallGives g (Asked n at) (Some stack) v.hub.subscribers w.0 u.subscribers) same
                  (ask_is (own_metadata row.callsite) at stack v.hub.subscribers u.subscribers w.0 w.2),
              w.3,
            ),
            refl,
          ),
          ap (λ (b : Bool). Enabled b) (sym answer),
        )
