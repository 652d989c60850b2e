-- At a callsite in which nobody is interested no filter passes anything.
use Rattle.std.proofs.Common.{◌≡◌, ℕ, zero, suc, Bool, true, false, List, [], ◌∷◌, Option, Some, None, slice_get, refl, sym, ◌∙◌}
use Rattle.std.proofs.Common.{subst, inl, inr}
use Rattle.tracing_core_fields.specs.PlainMetadata.{PlainMetadata}
use Rattle.tracing_core.specs.declared.hub.index.CallsiteIndex.{CallsiteIndex}
use Rattle.tracing_core_fields.specs.requests.Interests.{Covers, PlainInterest, common, joined, settled}
use Rattle.tracing_core.specs.Handles.{subscriber_with}
use Rattle.tracing_core.specs.TableRows.{KeptCallsite}
use Rattle.tracing_core.specs.ValidCaches.{CallsiteRight}
use Rattle.tracing_core_fields.specs.requests.Lists.{Every}
use Rattle.tracing_core_fields.specs.requests.PlainRequests.{PlainEvent}
use Rattle.tracing_core_moments.specs.declared.at.At.{At}
use Rattle.tracing_core_fields.specs.declared.requests.interest.InterestInner.TheVariants.{Never, Sometimes, Always}
use Rattle.tracing_core_fields.specs.declared.requests.subscriber.Subscriber.{Ghosts as SubscriberGhosts}
use Rattle.span_registry_layers_store.specs.Registries.{RegistryValue}
use Rattle.span_registry_layers_layers.specs.Combined.{Then}
use Rattle.span_registry_layers_layers.specs.declared.filter.Filter.{Ghosts as FilterGhosts}
use Rattle.span_registry_layers_layers.specs.declared.layer.Layer.{Ghosts as LayerGhosts}
use Rattle.span_registry_layers.specs.CommonAnswers.{CommonInterest, InterestFrom}
use Rattle.span_registry_layers.specs.CacheValidity.{CacheIsValid}
use Rattle.span_registry_layers.specs.Caches.{Refuses}
use Rattle.span_registry_layers.specs.OutputSlots.{Afresh, filters_of, view_of}
use Rattle.span_tracing_outputs.specs.TraceFollows.{EachAnswers, EachAsked, some_passes}
use Rattle.span_tracing_outputs.specs.TraceStacks.{TraceStackValue}
use Rattle.span_tracing_outputs.specs.Turns.{Lined, Lines}
use Rattle.span_tracing_skeleton.specs.Looking.{known, reach}
use Rattle.span_tracing_skeleton.specs.PlainData.{Request}
use Rattle.span_tracing_skeleton.specs.Skeleton.{Answers, Unasked, Wanted, Dropped, Passed, Heard}
use Rattle.span_tracing_steps.specs.Callsites.{own_metadata}
use Rattle.span_tracing_steps.specs.Interests.{is_interest_never, is_never}
use Rattle.span_tracing_steps.specs.States.{callsites_of, held_in}
use Rattle.span_tracing_steps.specs.contracts.callsite.TraceCallsiteCallsite.TheImpl.{ghosts}
use Rattle.span_tracing_steps.specs.declared.callsite.TraceCallsite.{TraceCallsite}
use Rattle.span_tracing_steps.specs.StackRequests.{place_at, request_of}
use Rattle.span_tracing_laws.specs.runs.StepFollows.{AnswersEvent, AnswersSpan, AskedWhere, Traced, skeleton_of}
use Rattle.span_tracing_laws.specs.runs.SkippedCallsites.{IsOff, MakesNone, SkipsNothing, TellsNobody}
use Rattle.span_tracing_laws.proofs.runs.HubStacks.{kept_at}

-- nobody was interested before
abbrev Calm : Option PlainInterest → Type 0
Calm None = Unit {0}
Calm (Some k) = k ≡ Never

both_never : (j k : PlainInterest) → common j k ≡ Never → (j ≡ Never) × (k ≡ Never)
both_never Never Never e = (refl, refl)
both_never Never Sometimes e = absurd (cc)
both_never Never Always e = absurd (cc)
both_never Sometimes k e = absurd (cc)
both_never Always Never e = absurd (cc)
both_never Always Sometimes e = absurd (cc)
both_never Always Always e = absurd (cc)

joined_calm : (before : Option PlainInterest) (own : PlainInterest) → Calm (joined before own) → Calm before × (own ≡ Never)
joined_calm None own e = (tt, e)
joined_calm (Some j) own e = both_never j own e

settled_calm : (before : Option PlainInterest) → Never ≡ settled before → Calm before
settled_calm None e = tt
settled_calm (Some k) e = sym e

-- what is refused is not told
untold : (Q : Bool → Type 0) (p t : Bool) → p ≡ false → Then Q p t → t ≡ false
untold Q true t is then = absurd (cc)
untold Q false t is then = then

module _ {F : Type 0} (g : FilterGhosts F) where
  never_from : (m : PlainMetadata) (fs : List F) (before : Option PlainInterest) → Every (λ f. g.honest f) fs →
      InterestFrom g m before fs Never → Calm before × Every (Refuses g m) fs
  never_from m [] before honest says = (settled_calm before says, tt)
  never_from m (f ∷ fs) before honest (own, said, rest) =
      let later = never_from m fs (joined before own) honest.1 rest in
      let calm = joined_calm before own later.0 in
      (calm.0, (λ v b answers. (g.fair f honest.0).interest m v b Never answers (subst (g.says f m) calm.1 said), later.1))

  module _ {N E : Type 0} where
    refused_one : (m : PlainMetadata) (x : RegistryValue) (at : At) (row : Lined N E F) (b : Bool) → Refuses g m row.output.filter →
        Afresh g row.output.filter m (view_of at x row) b → b ≡ false
    refused_one m x at row b refuses (inl answers) = refuses (view_of at x row) b answers
    refused_one m x at row b refuses (inr none) = none.0

    events_refused : (e : PlainEvent) (at : At) (x : RegistryValue) (rows : List (Lined N E F)) (passed told : List Bool) →
        Every (Refuses g e.metadata) (filters_of rows) → EachAsked g e at x rows passed told → Every (λ (p : Bool). p ≡ false) passed ×
        Every (λ (t : Bool). t ≡ false) told
    events_refused e at x [] [] [] refuses asked = (tt, tt)
    events_refused e at x [] [] (t ∷ ts) refuses asked = absurd asked
    events_refused e at x [] (p ∷ ps) ts refuses asked = absurd asked
    events_refused e at x (row ∷ rows) [] ts refuses asked = absurd asked
    events_refused e at x (row ∷ rows) (p ∷ ps) [] refuses asked = absurd asked
    events_refused e at x (row ∷ rows) (p ∷ ps) (t ∷ ts) refuses (first, then, rest) =
        let no = refused_one e.metadata x at row p refuses.0 first in
        let later = events_refused e at x rows ps ts refuses.1 rest in
        ((no, later.0), (untold (g.event_answers row.output.filter e (view_of at x row)) p t no then, later.1))

    none_passes : (m : PlainMetadata) (at : At) (x : RegistryValue) (rows : List (Lined N E F)) (answers : List Bool) →
        Every (Refuses g m) (filters_of rows) → EachAnswers g.answers m at x rows answers → some_passes answers ≡ false
    none_passes m at x [] [] refuses each = refl
    none_passes m at x [] (p ∷ ps) refuses each = absurd each
    none_passes m at x (row ∷ rows) [] refuses each = absurd each
    none_passes m at x (row ∷ rows) (p ∷ ps) refuses each =
        let no : p ≡ false = refuses.0 (view_of at x row) p each.0 in
        let later : some_passes ps ≡ false = none_passes m at x rows ps refuses.1 each.1 in
        rw (no, later) refl

-- what is kept of a callsite by its index
never_is : (k : PlainInterest) → is_interest_never k ≡ true → k ≡ Never
never_is Never e = refl
never_is Sometimes e = absurd (cc)
never_is Always e = absurd (cc)

covered_never : (k own : PlainInterest) → is_interest_never k ≡ true → Covers k own → own ≡ Never
covered_never Never own e covers = covers
covered_never Sometimes own e covers = absurd (cc)
covered_never Always own e covers = absurd (cc)

module _ {T : Type 0} (sg : SubscriberGhosts T) (x : T) where
  -- what a subscriber says of the callsite at an index of which it is kept that nobody is interested in it
  said_never : (rows : List (KeptCallsite TraceCallsite)) (place : ℕ) (m : PlainMetadata) → Every (CallsiteRight sg ghosts x) rows →
      slice_get (callsites_of rows) place ≡ Some m → is_never (slice_get rows place) ≡ true → sg.says x m Never
  said_never [] place m right stands off = absurd (let none : None ≡ Some m = stands in cc)
  said_never (row ∷ rows) zero m right stands off =
      let same : own_metadata row.callsite ≡ m = cc in
      let said = right.0 in
      subst (λ (k : PlainMetadata). sg.says x k Never) same
      (subst (sg.says x (own_metadata row.callsite)) (covered_never row.interest said.0 off said.2) said.1)
  said_never (row ∷ rows) (suc place) m right stands off = said_never rows place m right.1 stands off

module _ {N E F S : Type 0} (g : FilterGhosts F) (h : LayerGhosts (Lines N E)) (sg : SubscriberGhosts (TraceStackValue N E F S))
    (says : (x : TraceStackValue N E F S) (m : PlainMetadata) (k : PlainInterest) → sg.says x m k →
    CommonInterest g m (filters_of x.stack.rows) k)
    (valid : (x : TraceStackValue N E F S) → sg.steady x → CacheIsValid g x.stack) where
  all_refuse : (v : Traced N E F S) (stack : ℕ) (x : TraceStackValue N E F S) (index : CallsiteIndex) (m : PlainMetadata) →
      IsOff g h sg v index m → held_in v stack ≡ Some x → Every (Refuses g m) (filters_of x.stack.rows)
  all_refuse v stack x index m off there =
      let kept = kept_at (subscriber_with stack v.hub.subscribers) x there in
      let cache = off.word.valid stack kept.0 kept.1 in
      let steady : sg.steady x = subst sg.steady kept.2 cache.steady in
      let right : Every (CallsiteRight sg ghosts x) v.hub.callsites =
      subst (λ (y : TraceStackValue N E F S). Every (CallsiteRight sg ghosts y) v.hub.callsites) kept.2 cache.right in
      (never_from g m (filters_of x.stack.rows) None (valid x steady).honest
      (says x m Never (said_never sg x v.hub.callsites index.0 m right off.stands off.off))).1

  event_in : (o : Option (TraceStackValue N E F S)) (v : Traced N E F S) (stack : ℕ) (index : CallsiteIndex) (m : PlainMetadata)
      (e : PlainEvent) (at : At) (a : Answers) → held_in v stack ≡ o → IsOff g h sg v index m → e.metadata ≡ m →
      AnswersEvent g h o e at a → TellsNobody a
  event_in None v stack index m e at a there off of answered = absurd answered
  event_in (Some x) v stack index m e at Unasked there off of answered = tt
  event_in (Some x) v stack index m e at (Wanted b) there off of answered = absurd answered
  event_in (Some x) v stack index m e at Dropped there off of answered = absurd answered
  event_in (Some x) v stack index m e at (Passed passed) there off of answered = absurd answered
  event_in (Some x) v stack index m e at (Heard passed told) there off of answered =
      events_refused g e at x.stack.registry x.stack.rows passed told
      (subst (λ (y : PlainMetadata). Every (Refuses g y) (filters_of x.stack.rows)) (sym of) (all_refuse v stack x index m off there))
      answered

  span_in : (o : Option (TraceStackValue N E F S)) (v : Traced N E F S) (stack : ℕ) (index : CallsiteIndex) (m : PlainMetadata)
      (at : At) (a : Answers) → held_in v stack ≡ o → IsOff g h sg v index m → AnswersSpan g h o m at a → MakesNone a
  span_in None v stack index m at a there off answered = absurd answered
  span_in (Some x) v stack index m at Unasked there off answered = tt
  span_in (Some x) v stack index m at (Wanted b) there off answered = absurd answered
  span_in (Some x) v stack index m at Dropped there off answered = tt
  span_in (Some x) v stack index m at (Passed passed) there off answered =
      let none = none_passes g m at x.stack.registry x.stack.rows answered.0 (all_refuse v stack x index m off there) answered.1 in
      absurd (let clash : true ≡ false = sym answered.2 ∙ none in cc)
  span_in (Some x) v stack index m at (Heard passed told) there off answered = absurd answered

  event_where : (o : Option ℕ) (k : Option PlainMetadata) (v : Traced N E F S) (index : CallsiteIndex) (m : PlainMetadata) (e : Request)
      (a : Answers) → IsOff g h sg v index m → k ≡ Some m →
      AskedWhere o k (λ stack n c. AnswersEvent g h (held_in v stack) (request_of n e) (place_at e.lane e.moment) c) a → TellsNobody a
  event_where None k v index m e a off is asked = subst TellsNobody (sym asked) tt
  event_where (Some stack) None v index m e a off is asked = subst TellsNobody (sym asked) tt
  event_where (Some stack) (Some n) v index m e a off is asked =
      let same : n ≡ m = cc in
      event_in (held_in v stack) v stack index m (request_of n e) (place_at e.lane e.moment) a refl off same asked

  span_where : (o : Option ℕ) (k : Option PlainMetadata) (v : Traced N E F S) (index : CallsiteIndex) (m : PlainMetadata) (s : Request)
      (a : Answers) → IsOff g h sg v index m → k ≡ Some m →
      AskedWhere o k (λ stack n c. AnswersSpan g h (held_in v stack) n (place_at s.lane s.moment) c) a → MakesNone a
  span_where None k v index m s a off is asked = subst MakesNone (sym asked) tt
  span_where (Some stack) None v index m s a off is asked = subst MakesNone (sym asked) tt
  span_where (Some stack) (Some n) v index m s a off is asked =
      let same : n ≡ m = cc in
      span_in (held_in v stack) v stack index m (place_at s.lane s.moment) a refl off
      (subst (λ (k : PlainMetadata). AnswersSpan g h (held_in v stack) k (place_at s.lane s.moment) a) same asked)

  pub skips_nothing : SkipsNothing g h sg
  skips_nothing = record {
    event = λ v index m e a off is answered. event_where (reach (skeleton_of v) e.lane) (known (skeleton_of v) e.callsite false) v index m e
        a off is answered;
    span = λ v index m s a off is answered. span_where (reach (skeleton_of v) s.lane) (known (skeleton_of v) s.callsite true) v index m s a
        off is answered;
  }
