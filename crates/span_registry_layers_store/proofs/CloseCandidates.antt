-- What each call leaves of the note on which spans may not stay.
use Rattle.std.proofs.Common.{◌≡◌, ◌∙◌, ◌+◌, ◌++◌, ◌∷◌, [], ℕ, nat_lt, List, Bool, true, false, Option, Some, None, Result, refl, ap, sym}
use Rattle.std.proofs.Common.{subst, arith}
use Rattle.std.proofs.lemmas.Bool.{false≢true}
use Rattle.std.proofs.lemmas.Bool.Decides.{nat_tests}
use Rattle.tracing_core_fields.specs.requests.Refusals.{or_same}
use Rattle.tracing_core_fields.specs.declared.requests.refusal.RequestError.{RequestError}
use Rattle.tracing_core_fields.specs.PlainMetadata.{PlainMetadata}
use Rattle.span_registry_layers_store.specs.RegistryCalls.{ClosesFirst, clone_refusal, close_refusal, dropped, handle_given_up}
use Rattle.span_registry_layers_store.specs.RegistryCalls.{handle_taken}
use Rattle.span_registry_layers_store.specs.SlotCalls.{with_places, with_slots}
use Rattle.span_registry_layers_store.specs.Lanes.{pushed, removed}
use Rattle.span_registry_layers_store.specs.Registries.{PlainSpan, RegistryValue, kin_in, one_less, one_more, with_span}
use Rattle.span_registry_layers_store.specs.IdOrder.{Rises}
use Rattle.span_registry_layers_store.specs.CloseCandidates.{IsFirst, IsWhole, MayGo, OthersStay, after_close, at_most}
use Rattle.span_registry_layers_store.specs.Slots.{PlainPlace}
use Rattle.span_registry_layers_store.specs.Spans.{AllStay, StayBut, changed, keeps, parent_of}
use Rattle.span_registry_layers_store.specs.declared.close_candidates.CloseCandidates.{CloseCandidates}
use Rattle.span_registry_layers_store.specs.declared.close_candidates.CloseCandidates.TheVariants.{Nobody, One, Anybody}
use Rattle.span_registry_layers_store.proofs.ChangedSpan.{PreservesKinship, changed_below}
use Rattle.span_registry_layers_store.proofs.IdOrder.{forgotten_below, less_keeps, more_keeps, slots_keep}
use Rattle.span_registry_layers_store.proofs.ClosableSpans.{all_kept, all_stay, goes_first, none_closes, stay_after, stay_any, stay_entered}
use Rattle.span_registry_layers_store.proofs.ClosableSpans.{stay_exited, stay_given, stay_held, stay_more}
use Rattle.span_registry_layers_store.proofs.Sweeps.{below_more}

pub may_be : (u : CloseCandidates) (id : ℕ) → u ≡ One id → MayGo id u
may_be u id is = subst (λ v. MayGo id v) (sym is) refl

module _ (u : CloseCandidates) (x : RegistryValue) (whole : IsWhole u x) where
  pub nobody_goes : u ≡ Nobody → AllStay kin_in x.lanes x.spans
  nobody_goes is = none_closes x.lanes x.spans (subst (λ v. OthersStay v x.lanes x.spans) is whole.1)

  module _ (id : ℕ) (stays : Bool) (is : u ≡ One id) (rise : Rises kin_in 0 x.spans) (told : stays ≡ keeps kin_in x.lanes x.spans id) where
    but_one : StayBut kin_in (Some id) x.lanes x.spans
    but_one = subst (λ v. OthersStay v x.lanes x.spans) is whole.1

    one_kept : stays ≡ true → StayBut kin_in None x.lanes x.spans
    one_kept test = all_kept x.lanes 0 id x.spans rise but_one (sym told ∙ test)

    pub one_stays : stays ≡ true → AllStay kin_in x.lanes x.spans
    one_stays test = none_closes x.lanes x.spans (one_kept test)

    pub one_goes : stays ≡ false → ClosesFirst x.lanes x.spans id
    one_goes test = goes_first x.lanes 0 id x.spans rise but_one (sym told ∙ test)

    -- another one may go then
    pub other_loosened : (other : ℕ) → stays ≡ true → IsWhole (One other) x
    other_loosened other test = (whole.0, stay_any x.lanes (Some other) x.spans (one_kept test))

  -- one that is noted alone, and one that was found among all
  pub one_first : (id : ℕ) → u ≡ One id → IsFirst u x id
  one_first id is = record {
    may = may_be u id is;
    goes = λ rise kept. one_goes id (keeps kin_in x.lanes x.spans id) is rise refl kept;
    stay = λ rise kept. one_stays id (keeps kin_in x.lanes x.spans id) is rise refl kept;
  }

  pub any_first : (id : ℕ) → u ≡ Anybody → ClosesFirst x.lanes x.spans id × (keeps kin_in x.lanes x.spans id ≡ false) → IsFirst u x id
  any_first id is first = record {
    may = subst (λ v. MayGo id v) (sym is) tt;
    goes = λ rise kept. first.0;
    stay = λ rise kept. absurd (false≢true (sym first.1 ∙ kept));
  }

  pub first_loosened : (other : ℕ) → u ≡ Nobody → IsWhole (One other) x
  first_loosened other is = (whole.0, stay_any x.lanes (Some other) x.spans (subst (λ v. OthersStay v x.lanes x.spans) is whole.1))

  pub none_left : AllStay kin_in x.lanes x.spans → IsWhole Nobody x
  none_left stay = (whole.0, all_stay x.lanes x.spans stay.left)

-- without an entry of one that may go
exited : (u : CloseCandidates) (lanes : List (List ℕ)) (lane id : ℕ) (ss : List PlainSpan) → MayGo id u → OthersStay u lanes ss →
    OthersStay u (removed lane id lanes) ss
exited Nobody lanes lane id ss may stay = absurd may
exited (One other) lanes lane id ss may stay =
    subst (λ k. StayBut kin_in (Some k) (removed lane id lanes) ss) (sym may)
    (stay_exited lanes lane id ss (subst (λ k. StayBut kin_in (Some k) lanes ss) may stay))
exited Anybody lanes lane id ss may stay = tt

pub exited_whole : (u : CloseCandidates) (x : RegistryValue) (lane id : ℕ) (lanes : List (List ℕ)) → lanes ≡ removed lane id x.lanes →
    MayGo id u → IsWhole u x → IsWhole u (record x { lanes = lanes })
exited_whole u x lane id lanes is may whole =
    (whole.0, subst (λ ls. OthersStay u ls x.spans) (sym is) (exited u x.lanes lane id x.spans may whole.1))

-- with an entry more
entered : (u : CloseCandidates) (lanes : List (List ℕ)) (lane id : ℕ) (ss : List PlainSpan) → OthersStay u lanes ss →
    OthersStay u (pushed lane id lanes) ss
entered Nobody lanes lane id ss stay = stay_entered lanes lane id None ss stay
entered (One other) lanes lane id ss stay = stay_entered lanes lane id (Some other) ss stay
entered Anybody lanes lane id ss stay = tt

pub entered_whole : (u : CloseCandidates) (x : RegistryValue) (lane id : ℕ) (lanes : List (List ℕ)) → lanes ≡ pushed lane id x.lanes →
    IsWhole u x → IsWhole u (record x { lanes = lanes })
entered_whole u x lane id lanes is whole =
    (whole.0, subst (λ ls. OthersStay u ls x.spans) (sym is) (entered u x.lanes lane id x.spans whole.1))

pub same_whole : (u : CloseCandidates) (x : RegistryValue) (lanes : List (List ℕ)) → lanes ≡ x.lanes → IsWhole u x →
    IsWhole u (record x { lanes = lanes })
same_whole u x lanes is whole = (whole.0, subst (λ ls. OthersStay u ls x.spans) (sym is) whole.1)

-- with a span more
made : (u : CloseCandidates) (lanes : List (List ℕ)) (ss : List PlainSpan) (s : PlainSpan) → nat_lt 0 s.kin.handles ≡ true →
    OthersStay u lanes ss → OthersStay u lanes (ss ++ s ∷ [])
made Nobody lanes ss s handle stay = stay_more lanes None ss s handle stay
made (One other) lanes ss s handle stay = stay_more lanes (Some other) ss s handle stay
made Anybody lanes ss s handle stay = tt

with_made : (u : CloseCandidates) (x : RegistryValue) (m : PlainMetadata) (parent : Option ℕ) (passed : List Bool) → IsWhole u x →
    IsWhole u (with_span x m parent passed)
with_made u x m parent passed whole =
    let new : PlainSpan = record {
      kin = record { id = x.next_id; parent = parent; handles = 1 };
      metadata = m;
      passed = passed;
      slots =
          [];
    } in
    (below_more x.next_id x.spans new whole.0 refl, made u x.lanes x.spans new refl whole.1)

pub made_whole : (u v : CloseCandidates) (x y : RegistryValue) (m : PlainMetadata) (parent : Option ℕ) (passed : List Bool) → v ≡ u →
    y ≡ with_span x m parent passed → IsWhole u x → IsWhole v y
made_whole u v x y m parent passed same is whole =
    subst (λ w. IsWhole w y) (sym same) (subst (IsWhole u) (sym is) (with_made u x m parent passed whole))

pub unmade_whole : (u v : CloseCandidates) (x y : RegistryValue) → v ≡ u → y ≡ x → IsWhole u x → IsWhole v y
unmade_whole u v x y same is whole = subst (λ w. IsWhole w y) (sym same) (subst (IsWhole u) (sym is) whole)

-- with a span changed
held : (u : CloseCandidates) (lanes : List (List ℕ)) (f : PlainSpan → PlainSpan) (k : PreservesKinship f) →
    ((s : PlainSpan) → nat_lt 0 s.kin.handles ≡ true → nat_lt 0 (f s).kin.handles ≡ true) →
    (id : ℕ) (ss : List PlainSpan) → OthersStay u lanes ss → OthersStay u lanes (changed kin_in f ss id)
held Nobody lanes f k keeps id ss stay = stay_held lanes f k keeps None id ss stay
held (One other) lanes f k keeps id ss stay = stay_held lanes f k keeps (Some other) id ss stay
held Anybody lanes f k keeps id ss stay = tt

given : (u : CloseCandidates) (lanes : List (List ℕ)) (f : PlainSpan → PlainSpan) (k : PreservesKinship f) (id : ℕ) (ss : List PlainSpan) →
    MayGo id u → OthersStay u lanes ss → OthersStay u lanes (changed kin_in f ss id)
given Nobody lanes f k id ss may stay = absurd may
given (One other) lanes f k id ss may stay =
    subst (λ n. StayBut kin_in (Some n) lanes (changed kin_in f ss id)) (sym may)
    (stay_given lanes f k id ss (subst (λ n. StayBut kin_in (Some n) lanes ss) may stay))
given Anybody lanes f k id ss may stay = tt

pub lent_whole : (u : CloseCandidates) (x : RegistryValue) (id : ℕ) (w : List PlainPlace) → IsWhole u x → IsWhole u (with_slots x id w)
lent_whole u x id w whole = (
  changed_below (with_places w) (slots_keep w) x.next_id x.spans id whole.0,
  held u x.lanes (with_places w) (slots_keep w) (λ s handle. handle) id x.spans whole.1,
)

by_refusal : (o : Option RequestError) (u : CloseCandidates) (x : RegistryValue) (ss ts : List PlainSpan) → ts ≡ or_same o x.spans ss →
    IsWhole u x → IsWhole u (record x { spans = ss }) → IsWhole u (record x { spans = ts })
by_refusal None u x ss ts is whole done = subst (λ rs. IsWhole u (record x { spans = rs })) (sym is) done
by_refusal (Some refusal) u x ss ts is whole done = subst (λ rs. IsWhole u (record x { spans = rs })) (sym is) whole

abbrev spans_of : {A : Type 0} → A × List PlainSpan → List PlainSpan
spans_of p = p.1

one_more_held : (n : ℕ) → nat_lt 0 n ≡ true → nat_lt 0 (n + 1) ≡ true
one_more_held n some = grind (arith, nat_tests)

pub taken_whole : (u : CloseCandidates) (x : RegistryValue) (id : ℕ) (r : Result ℕ RequestError) (ts : List PlainSpan) →
    (r, ts) ≡ handle_taken x.spans id → IsWhole u x → IsWhole u (record x { spans = ts })
taken_whole u x id r ts gives whole =
    by_refusal (clone_refusal x id) u x (changed kin_in one_more x.spans id) ts (ap spans_of gives) whole (
      changed_below one_more more_keeps x.next_id x.spans id whole.0,
      held u x.lanes one_more more_keeps (λ s some. one_more_held s.kin.handles some) id x.spans whole.1,
    )

pub given_whole : (u : CloseCandidates) (x : RegistryValue) (id : ℕ) (r : Result (Unit {0}) RequestError) (ts : List PlainSpan) →
    (r, ts) ≡ handle_given_up x.spans id → MayGo id u → IsWhole u x → IsWhole u (record x { spans = ts })
given_whole u x id r ts gives may whole =
    by_refusal (close_refusal x id) u x (changed kin_in one_less x.spans id) ts (ap spans_of gives) whole
    (changed_below one_less less_keeps x.next_id x.spans id whole.0, given u x.lanes one_less less_keeps id x.spans may whole.1)

-- after a close
only : (parent : Option ℕ) (lanes : List (List ℕ)) (ss : List PlainSpan) → StayBut kin_in parent lanes ss →
    OthersStay (at_most parent) lanes ss
only None lanes ss stay = stay
only (Some id) lanes ss stay = stay

closed : (u : CloseCandidates) (lanes : List (List ℕ)) (id : ℕ) (ss : List PlainSpan) → MayGo id u → Rises kin_in 0 ss →
    OthersStay u lanes ss → OthersStay (after_close u (parent_of kin_in ss id)) lanes (dropped ss id)
closed Nobody lanes id ss may rise stay = absurd may
closed (One other) lanes id ss may rise stay = only (parent_of kin_in ss id) lanes (dropped ss id)
    (stay_after lanes 0 id ss rise (subst (λ n. StayBut kin_in (Some n) lanes ss) may stay))
closed Anybody lanes id ss may rise stay = tt

pub closed_whole : (u v : CloseCandidates) (x : RegistryValue) (id : ℕ) (parent : Option ℕ) (left : List PlainSpan) →
    v ≡ after_close u parent → parent ≡ parent_of kin_in x.spans id → left ≡ dropped x.spans id → MayGo id u → Rises kin_in 0 x.spans →
    IsWhole u x → IsWhole v (record x { spans = left })
closed_whole u v x id parent left is same gone may rise whole = (
  forgotten_below x left id gone whole.0,
  subst (λ w. OthersStay w x.lanes left) (sym (is ∙ ap (after_close u) same))
      (subst (λ ss. OthersStay (after_close u (parent_of kin_in x.spans id)) x.lanes ss) (sym gone)
      (closed u x.lanes id x.spans may rise whole.1)),
)
