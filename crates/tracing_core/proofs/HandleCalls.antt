-- A call of the subscriber at the index of a handle.
use Rattle.std.proofs.Common.{◌≡◌, ℕ, ◌<◌, ◌≤◌, List, length, get_or, set, Option, Some, None, refl, ap, sym, ◌∙◌, subst}
use Rattle.std.specs.Prelude.{slice_get}
use Rattle.std.specs.Borrow.{MutBor}
use Rattle.std.specs.Fn.{Once, FnOnceReturnsAtMut}
use Rattle.std.proofs.lemmas.Option.{slice_get_past, slice_get-get_or}
use Rattle.tracing_core_fields.specs.requests.Calls.{Call, ReplyTo}
use Rattle.tracing_core.specs.SubscriberChange.{ChangeGives, ChangeGivesAt}
use Rattle.tracing_core.specs.Commands.{becomes}
use Rattle.tracing_core.specs.HandleCalls.{CallGives, CallGivesAt}
use Rattle.tracing_core.specs.HandleSubscribers.{IsIndexOrEnd, living_of}
use Rattle.tracing_core_fields.specs.requests.NoReplies.{no_reply}
use Rattle.tracing_core.specs.TableRows.{KeptSubscriber}
use Rattle.tracing_core_fields.specs.declared.requests.subscriber.Subscriber.{Ghosts}

-- past the end, the handle leads to nobody
pub nobody_there : {S : Type 0} (dispatch : Option ℕ) (es : List (KeptSubscriber S)) (i : ℕ) → IsIndexOrEnd dispatch es i → length es ≤ i →
    living_of dispatch es ≡ None
nobody_there dispatch es i found past = sym found.0 ∙ slice_get_past es i past

module _ {S : Type 0} (g : Ghosts S) (c : Call) (dispatch : Option ℕ) (es : List (KeptSubscriber S)) (i : ℕ)
    (found : IsIndexOrEnd dispatch es i) where
  pub to_nobody : length es ≤ i → CallGives g c dispatch es (no_reply c) es
  to_nobody past =
      let none : living_of dispatch es ≡ None = sym found.0 ∙ slice_get_past es i past in
      subst (λ o. CallGivesAt g c dispatch es o (no_reply c) es) (sym none) (refl, refl)

  pub to_somebody : i < length es → (d : KeptSubscriber S) (reply : ReplyTo c) (z : S) → g.moves (get_or es i d).subscriber c reply z →
      CallGives g c dispatch es reply (set es i (becomes z (get_or es i d)))
  to_somebody inside d reply z moved =
      let e = get_or es i d in
      let there : slice_get es i ≡ Some e = slice_get-get_or es i d inside in
      subst (λ o. CallGivesAt g c dispatch es o reply (set es i (becomes z e))) (sym there ∙ found.0)
      (z, moved, sym (found.2 (becomes z) e there))

  -- the same of what is kept of it, before and after
  pub to_opened : i < length es → (d e f : KeptSubscriber S) (reply : ReplyTo c) → e ≡ get_or es i d → f ≡ becomes f.subscriber e →
      g.moves e.subscriber c reply f.subscriber → CallGives g c dispatch es reply (set es i f)
  to_opened inside d e f reply is rest moved =
      subst (λ x. CallGives g c dispatch es reply (set es i x)) (sym (rest ∙ ap (becomes f.subscriber) is))
      (to_somebody inside d reply f.subscriber (subst (λ (x : KeptSubscriber S). g.moves x.subscriber c reply f.subscriber) is moved))

-- a call of a closure at two loans is one at what they hold
pub met_at : {F T S : Type 0} (call : Once F (MutBor S × Unit {0}) (T × (MutBor S × Unit {0}))) (f : F) {p q : MutBor S} {answer : T} →
    call.post f (p, tt) (answer, (q, tt)) → FnOnceReturnsAtMut call f p.now answer q.now
met_at call f {p = p} {q = q} met = record { shown = p; shows = refl; left = q; met = met; leaves = refl }

module _ {S F T : Type 0} (call : Once F (MutBor S × Unit {0}) (T × (MutBor S × Unit {0}))) (f : F) (dispatch : Option ℕ)
    (es : List (KeptSubscriber S)) (i : ℕ) (found : IsIndexOrEnd dispatch es i) where
  pub changes_nobody : length es ≤ i → ChangeGives call f dispatch es None es
  changes_nobody past = subst (λ o. ChangeGivesAt call f dispatch es o None es) (sym (nobody_there dispatch es i found past)) (refl, refl)

  pub changes_somebody : i < length es → (d x y : KeptSubscriber S) (answer : T) → x ≡ get_or es i d → y ≡ becomes y.subscriber x →
      FnOnceReturnsAtMut call f x.subscriber answer y.subscriber → ChangeGives call f dispatch es (Some answer) (set es i y)
  changes_somebody inside d x y answer before rest met =
      let e = get_or es i d in
      let there : slice_get es i ≡ Some e = slice_get-get_or es i d inside in
      subst (λ o. ChangeGivesAt call f dispatch es o (Some answer) (set es i y)) (sym there ∙ found.0) (
        answer,
        y.subscriber,
        refl,
        subst (λ (z : KeptSubscriber S). FnOnceReturnsAtMut call f z.subscriber answer y.subscriber) before met,
        ap (λ (z : KeptSubscriber S). set es i z) (rest ∙ ap (becomes y.subscriber) before) ∙ sym (found.2 (becomes y.subscriber) e there),
      )
