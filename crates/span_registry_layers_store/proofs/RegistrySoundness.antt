-- Each call keeps a registry sound.
use Rattle.std.proofs.Common.{◌≡◌, inl, inr, ℕ, ◌<◌, List, [], ◌∷◌, ◌++◌, Bool, true, false, not, nat_lt, Option, Some, None, Result, Ok}
use Rattle.std.proofs.Common.{Err, refl, sym, ap, ◌∙◌, arith}
use Rattle.std.proofs.lemmas.Bool.{not-false}
use Rattle.std.proofs.lemmas.Bool.Decides.{nat_tests}
use Rattle.tracing_core_fields.specs.requests.Refusals.{or_same}
use Rattle.tracing_core_fields.specs.declared.requests.arguments.parent.Parent.{Parent}
use Rattle.tracing_core_fields.specs.declared.requests.arguments.parent.Parent.TheVariants.{Root, Current, Explicit}
use Rattle.tracing_core_fields.specs.PlainMetadata.{PlainMetadata}
use Rattle.tracing_core_fields.specs.requests.PlainRequests.{explicit_parent}
use Rattle.tracing_core_fields.specs.declared.requests.refusal.RequestError.{RequestError}
use Rattle.tracing_core_fields.specs.declared.requests.refusal.RequestError.TheVariants.{UnknownSpan, UnknownParent, IdsSpent}
use Rattle.span_registry_layers_store.specs.RegistryCalls.{FilterGives, GivesUnless, SpanGives, clone_refusal, close_refusal, first, most}
use Rattle.span_registry_layers_store.specs.RegistryCalls.{open_refusal, span_refusal, when}
use Rattle.span_registry_layers_store.specs.SlotCalls.{ChangesSlots, with_places}
use Rattle.span_registry_layers_store.specs.Lanes.{lane_at, pushed, removed}
use Rattle.span_registry_layers_store.specs.Laws.{IsSound, StartsSound, StaysSound}
use Rattle.span_registry_layers_store.specs.Registries.{PlainSpan, RegistryValue, kin_in, knows, one_less, one_more, swept, under}
use Rattle.span_registry_layers_store.specs.Registries.{with_entry, with_handle, with_span, without_entry, without_handle}
use Rattle.span_registry_layers_store.specs.Slots.{PlainPlace}
use Rattle.span_registry_layers_store.specs.Spans.{changed, found, is_entered, is_open, open_of, without_last}
use Rattle.span_registry_layers_store.specs.declared.filter_map.FilterId.{FilterId}
use Rattle.span_registry_layers_store.specs.declared.filter_map.TooManyFilters.{TooManyFilters}
use Rattle.span_registry_layers_store.proofs.ChangedSpan.{PreservesKinship, changed_all_stay, changed_below, changed_open, changed_ordered}
use Rattle.span_registry_layers_store.proofs.EnteredIds.{changed_entered, current_entered, entered_all, entered_from, lane_entered}
use Rattle.span_registry_layers_store.proofs.EnteredIds.{member_without}
use Rattle.span_registry_layers_store.proofs.OpenSpans.{entered_stays}
use Rattle.span_registry_layers_store.proofs.LanePushes.{pushed_from, pushed_more}
use Rattle.span_registry_layers_store.proofs.Sweeps.{all_stay_entered, all_stay_more, below_more, open_again, open_more, ordered_more}
use Rattle.span_registry_layers_store.proofs.Sweeps.{swept_all, swept_ordered}

-- a condition that doesn't refuse doesn't hold
when_none : {E : Type 0} (test : Bool) (refusal : E) → when test refusal ≡ None → test ≡ false
when_none true refusal none = cc
when_none false refusal none = refl

first_none : {E : Type 0} (a b : Option E) → first a b ≡ None → (a ≡ None) × (b ≡ None)
first_none None b none = (refl, none)
first_none (Some e) b none = cc

-- what is entered on the lanes of a sound registry is open
entry_open : (x : RegistryValue) → IsSound x → (id : ℕ) → is_entered x.lanes id ≡ true → is_open kin_in x.spans id ≡ true
entry_open x sound = entered_all (is_open kin_in x.spans) x.lanes sound.entries

known_open : (x : RegistryValue) (id : ℕ) → when (not (is_open kin_in x.spans id)) UnknownSpan ≡ None → is_open kin_in x.spans id ≡ true
known_open x id none = not-false (is_open kin_in x.spans id) (when_none (not (is_open kin_in x.spans id)) UnknownSpan none)

-- the parent of a new span is open
parent_listed : (x : RegistryValue) (lane : ℕ) (parent : Parent) (p : ℕ) → IsSound x → knows x (explicit_parent parent) ≡ true →
    under x lane parent ≡ Some p → is_open kin_in x.spans p ≡ true
parent_listed x lane Current p sound known is = entry_open x sound p (current_entered x.lanes lane p is)
parent_listed x lane Root p sound known is = cc
parent_listed x lane (Explicit id) p sound known is = let same : id ≡ p = cc in ap (is_open kin_in x.spans) (sym same) ∙ known

-- a new span whose parent is open
made_sound : (x : RegistryValue) (metadata : PlainMetadata) (parent : Option ℕ) (passed : List Bool) → IsSound x →
    ((p : ℕ) → parent ≡ Some p → is_open kin_in x.spans p ≡ true) → IsSound (with_span x metadata parent passed)
made_sound x metadata parent passed sound listed =
    let new : PlainSpan = record {
      kin = record { id = x.next_id; parent = parent; handles = 1 };
      metadata = metadata;
      passed = passed;
      slots = [];
    } in
    record {
      started = let low = sound.started in omega arith;
      ordered = ordered_more [] 0 x.next_id x.spans new sound.ordered sound.below sound.started refl (λ p is. inr (listed p is));
      below = below_more x.next_id x.spans new sound.below refl;
      all_open = all_stay_more x.lanes x.spans new refl sound.all_open;
      entries = entered_from (is_open kin_in (x.spans ++ new ∷ [])) x.lanes
          (λ id entry. open_more x.spans new id (entry_open x sound id entry));
    }

-- what a call that may be refused gives
gives_sound : {A : Type 0} (o : Option RequestError) (x left : RegistryValue) (answer : A) (r : Result A RequestError) (y : RegistryValue) →
    IsSound x → (o ≡ None → IsSound left) → GivesUnless o x answer left r y → IsSound y
gives_sound (Some refusal) x left answer r y sound acts gives = rw (gives.1) sound
gives_sound None x left answer (Ok given) y sound acts gives = rw (gives.1) (acts refl)
gives_sound None x left answer (Err e) y sound acts gives = rw (gives.1) sound

span_sound : (x : RegistryValue) → IsSound x → (metadata : PlainMetadata) (parent : Parent) (lane : ℕ) (passed : List Bool)
    (r : Result ℕ RequestError) (y : RegistryValue) → SpanGives x metadata parent lane passed r y → IsSound y
span_sound x sound metadata parent lane passed r y gives =
    gives_sound (span_refusal x parent) x (with_span x metadata (under x lane parent) passed) x.next_id r y sound
    (λ none.
    let parts = first_none (when (not (knows x (explicit_parent parent))) UnknownParent) (when (nat_lt most x.next_id) IdsSpent) none in
    made_sound x metadata (under x lane parent) passed sound
    (λ p is. parent_listed x lane parent p sound
    (not-false (knows x (explicit_parent parent)) (when_none (not (knows x (explicit_parent parent))) UnknownParent parts.0)) is))
    gives

-- an entry of an open span
entered_sound : (x : RegistryValue) (lane id : ℕ) → IsSound x → is_open kin_in x.spans id ≡ true → IsSound (with_entry x lane id)
entered_sound x lane id sound listed = record {
  started = sound.started;
  ordered = sound.ordered;
  below = sound.below;
  all_open = all_stay_entered x.lanes (pushed lane id x.lanes) (pushed_more x.lanes lane id) x.spans sound.all_open;
  entries = entered_from (is_open kin_in x.spans) (pushed lane id x.lanes)
      (λ other entry. elim (pushed_from x.lanes lane id other entry) [
        | inl was ↦ entry_open x sound other was
        | inr same ↦ ap (is_open kin_in x.spans) (sym same) ∙ listed
      ]);
}

-- an exit
left_sound : (x : RegistryValue) → IsSound x → (lane id : ℕ) → IsSound (swept (without_entry x lane id))
left_sound x sound lane id =
    let lanes : List (List ℕ) = removed lane id x.lanes in
    record {
      started = sound.started;
      ordered = swept_ordered lanes x.spans sound.ordered;
      below = swept_all (λ (s : PlainSpan). s.kin.id < x.next_id) lanes x.spans sound.below;
      all_open = open_again lanes x.spans;
      entries = entered_from (is_open kin_in (open_of kin_in lanes x.spans)) lanes
          (λ other entry.
          let was : is_entered x.lanes other ≡ true = elim (changed_entered x.lanes lane (without_last id) other entry) [
            | inl before ↦ before
            | inr member ↦ lane_entered x.lanes lane other (member_without id (lane_at x.lanes lane) other member)
          ] in
          entered_stays lanes x.spans other (entry_open x sound other was) entry);
    }

more_keeps : PreservesKinship one_more
more_keeps = record { same_id = λ s. refl; same_parent = λ s. refl }

less_keeps : PreservesKinship one_less
less_keeps = record { same_id = λ s. refl; same_parent = λ s. refl }

slots_keep : (places : List PlainPlace) → PreservesKinship (with_places places)
slots_keep places = record { same_id = λ s. refl; same_parent = λ s. refl }

-- a change of one span that leaves its id and its parent, and handles where there are some
changed_sound : (f : PlainSpan → PlainSpan) (k : PreservesKinship f) →
    ((s : PlainSpan) → nat_lt 0 s.kin.handles ≡ true → nat_lt 0 (f s).kin.handles ≡ true) → (x : RegistryValue) (id : ℕ) → IsSound x →
    IsSound (record x { spans = changed kin_in f x.spans id })
changed_sound f k held x id sound = record {
  started = sound.started;
  ordered = changed_ordered f k [] 0 x.spans id sound.ordered;
  below = changed_below f k x.next_id x.spans id sound.below;
  all_open = changed_all_stay f k held x.lanes x.spans id sound.all_open;
  entries = entered_from (is_open kin_in (changed kin_in f x.spans id)) x.lanes (λ other entry. changed_open f k x.spans id other ∙
      entry_open x sound other entry);
}

-- a handle less, and what closes then
given_sound : (x : RegistryValue) (id : ℕ) → IsSound x → IsSound (swept (without_handle x id))
given_sound x id sound =
    let spans : List PlainSpan = changed kin_in one_less x.spans id in
    record {
      started = sound.started;
      ordered = swept_ordered x.lanes spans (changed_ordered one_less less_keeps [] 0 x.spans id sound.ordered);
      below = swept_all (λ (s : PlainSpan). s.kin.id < x.next_id) x.lanes spans
          (changed_below one_less less_keeps x.next_id x.spans id sound.below);
      all_open = open_again x.lanes spans;
      entries = entered_from (is_open kin_in (open_of kin_in x.lanes spans)) x.lanes
          (λ other entry. entered_stays x.lanes spans other (changed_open one_less less_keeps x.spans id other ∙
          entry_open x sound other entry) entry);
    }

same_sound : (o : Option RequestError) (x y : RegistryValue) → IsSound x → IsSound y → IsSound (or_same o x y)
same_sound None x y sound done = done
same_sound (Some refusal) x y sound done = sound

filter_sound : (x : RegistryValue) → IsSound x → (r : Result FilterId TooManyFilters) (y : RegistryValue) → FilterGives x r y → IsSound y
filter_sound x sound (Ok filter) y gives =
    rw (gives.2) (record {
      started = sound.started;
      ordered = sound.ordered;
      below = sound.below;
      all_open = sound.all_open;
      entries =
          sound.entries;
    })
filter_sound x sound (Err refusal) y gives = rw (gives.1) sound

-- a call on slots
kept_sound : {R : Type 0} (x : RegistryValue) (id : ℕ) (gives : List PlainPlace → R → List PlainPlace → Type 0) (refuses : R → Type 0)
    (r : R) (o : Option PlainSpan) (y : RegistryValue) → IsSound x → ChangesSlots o x id gives refuses r y → IsSound y
kept_sound x id gives refuses r None y sound keeps = rw (keeps.1) sound
kept_sound x id gives refuses r (Some s) y sound keeps =
    rw (keeps.2) (changed_sound (with_places keeps.0) (slots_keep keeps.0) (λ s held. held) x id sound)

pub start_sound : StartsSound
unfolding open_of
start_sound = record { started = omega arith; ordered = tt; below = tt; all_open = refl; entries = tt }

pub stays_sound : StaysSound
stays_sound x sound = record {
  span = span_sound x sound;
  entry = λ lane id r y gives. gives_sound (open_refusal x id) x (with_entry x lane id) tt r y sound
      (λ none. entered_sound x lane id sound (known_open x id none)) gives;
  exit = left_sound x sound;
  handle = λ id. same_sound (clone_refusal x id) x (with_handle x id) sound
      (changed_sound one_more more_keeps (λ s held. grind (arith, nat_tests)) x id sound);
  close = λ id. same_sound (close_refusal x id) x (swept (without_handle x id)) sound (given_sound x id sound);
  filter = filter_sound x sound;
  inserted = λ id key t s r y keeps. kept_sound x id _ _ r (found kin_in x.spans id) y sound keeps;
  replaced = λ id key t s r y keeps. kept_sound x id _ _ r (found kin_in x.spans id) y sound keeps;
  removed = λ id key t r y keeps. kept_sound x id _ _ r (found kin_in x.spans id) y sound keeps;
}
