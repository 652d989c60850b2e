-- What a gate and an event leave of the tally that a lane reaches.
use Rattle.std.proofs.Common.{◌≡◌, ℕ, Bool, true, false, List, [], ◌∷◌, Option, Some, None, refl, ap, sym, ◌∙◌, subst}
use Rattle.std.specs.Prelude.{if◌then◌else◌, Result, Ok}
use Rattle.std.specs.Option.{option_map}
use Rattle.tracing_core.specs.At.{At}
use Rattle.tracing_core.specs.Callsite.{Ghosts as SiteGhosts}
use Rattle.tracing_core.specs.Calls.{EventDispatched}
use Rattle.tracing_core.specs.Commands.{AnswerGives, AskGivesAt, GateGives, GateGivesAt, becomes, known, reached, callsite_with}
use Rattle.tracing_core.specs.TableRows.{KeptCallsite, KeptSubscriber}
use Rattle.tracing_core.specs.HandleCalls.{CallGives, CallGivesAt, HubGives}
use Rattle.tracing_core.specs.Handles.{changed, subscriber_with, is_of}
use Rattle.tracing_core.specs.PlainRequests.{PlainEvent}
use Rattle.tracing_core.specs.RequestError.{RequestError}
use Rattle.tracing_core.specs.Table.{Table}
use Rattle.uses.specs.Tallies.{counted}
use Rattle.uses.specs.contracts.hub.TallySubscriber.TheImpl.{ghosts}
use Rattle.uses.specs.declared.hub.Tally.{Tally}

abbrev Entries : Type 0
Entries = List (KeptSubscriber Tally)

if_either : {X : Type 0} (P : X → Type 0) (b : Bool) (x y : X) → (b ≡ true → P x) → (b ≡ false → P y) → P (if b then x else y)
if_either P true x y first second = first refl
if_either P false x y first second = second refl

head : (n : ℕ) (y : KeptSubscriber Tally) (ys : Entries) → is_of n y ≡ true → subscriber_with n (y ∷ ys) ≡ Some y
head n y ys here = ap (λ (b : Bool). if b then Some y else subscriber_with n ys) here

tail : (n : ℕ) (y : KeptSubscriber Tally) (ys : Entries) → is_of n y ≡ false → subscriber_with n (y ∷ ys) ≡ subscriber_with n ys
tail n y ys away = ap (λ (b : Bool). if b then Some y else subscriber_with n ys) away

-- the subscriber of a number, once another value stands there
own : (n : ℕ) (after : Tally) (es : Entries) (x : KeptSubscriber Tally) → subscriber_with n es ≡ Some x →
    subscriber_with n (changed n (becomes after) es) ≡ Some (becomes after x)
own n after [] x there = absurd (cc)
own n after (y ∷ ys) x there =
    if_either (λ xs. subscriber_with n xs ≡ Some (becomes after x)) (is_of n y) (becomes after y ∷ ys) (y ∷ changed n (becomes after) ys)
    (λ here. let first : Some y ≡ Some x = sym (head n y ys here) ∙ there in
    let found : y ≡ x = cc in
    head n (becomes after y) ys here ∙ ap (λ (e : KeptSubscriber Tally). Some (becomes after e)) found)
    (λ away. tail n y (changed n (becomes after) ys) away ∙ own n after ys x (sym (tail n y ys away) ∙ there))

-- the tally of the number lives there, and counted so many
abbrev pub Shows : ℕ → ℕ → Entries → Type 0
Shows n events es = (f : KeptSubscriber Tally) × (subscriber_with n es ≡ Some f) × (f.subscriber.events ≡ events)

pub shown : (n events : ℕ) (es : Entries) → Shows n events es → option_map (λ (f : KeptSubscriber Tally). f.subscriber.events)
    (subscriber_with n es) ≡ Some events
shown n events es shows = ap (option_map (λ (f : KeptSubscriber Tally). f.subscriber.events)) shows.1 ∙ ap Some shows.2

module _ {C : Type 0} (h : SiteGhosts C) (t u : Table Tally C) (place : At) (e : KeptSubscriber Tally)
    (reaches : reached t place.lane ≡ Some e.serial) (stands : subscriber_with e.serial t.subscribers ≡ Some e) where
  abbrev Same : Entries → Type 0
  Same es = Shows e.serial e.subscriber.events es

  still : (fs : Entries) → fs ≡ t.subscribers → Same fs
  still fs left = subst Same (sym left) (e, stands, refl)

  answered : (row : KeptCallsite C) (k : Option Bool) (answer : Bool) (fs : Entries) →
      AnswerGives ghosts h row place k (Some e.serial) t.subscribers answer fs → Same fs
  answered row (Some b) answer fs given = still fs given.1
  answered row None answer fs given =
      let asked : AskGivesAt ghosts (h.metadata_of row.callsite) place e.serial t.subscribers (Some e) answer fs =
      subst (λ o. AskGivesAt ghosts (h.metadata_of row.callsite) place e.serial t.subscribers o answer fs) stands given in
      subst Same (sym asked.3) (becomes asked.0 e, own e.serial asked.0 t.subscribers e stands, ap (λ (x : Tally). x.events) asked.2.1)

  looked : (o : Option (KeptCallsite C)) (result : Option Bool) → GateGivesAt ghosts h t o place result u → Same u.subscribers
  looked None result given = subst (λ (v : Table Tally C). Same v.subscribers) (sym given.1) (e, stands, refl)
  looked (Some row) result given =
      let k = known t.greatest row.level row.interest in
      answered row k given.0.0 u.subscribers (subst (λ o. AnswerGives ghosts h row place k o t.subscribers given.0.0 u.subscribers) reaches
      given.0.2)

  -- a gate changes no count
  pub gate_counts : (identifier : ℕ) (result : Option Bool) → GateGives ghosts h t identifier place result u → Same u.subscribers
  gate_counts identifier result given = looked (callsite_with identifier t.callsites) result given

  reached_still : (o : Option (KeptCallsite C)) (result : Option Bool) → GateGivesAt ghosts h t o place result u →
      reached u place.lane ≡ Some e.serial
  reached_still None result given = subst (λ (v : Table Tally C). reached v place.lane ≡ Some e.serial) (sym given.1) reaches
  reached_still (Some row) result given = subst (λ (v : Table Tally C). reached v place.lane ≡ Some e.serial) (sym given.1) reaches

  -- and then an event counts as one
  pub event_counts : (identifier : ℕ) (result : Option Bool) (event : PlainEvent) (reply : Result (Unit {0}) RequestError)
      (w : Table Tally C) → GateGives ghosts h t identifier place result u →
      HubGives ghosts (EventDispatched event place) (reached u place.lane) u reply w →
      (reply ≡ Ok tt) × Shows e.serial (counted e.subscriber.events) w.subscribers
  event_counts identifier result event reply w given handed =
      let before : Same u.subscribers = gate_counts identifier result given in
      let f : KeptSubscriber Tally = before.0 in
      let there : reached u place.lane ≡ Some e.serial = reached_still (callsite_with identifier t.callsites) result given in
      let taken : CallGives ghosts (EventDispatched event place) (Some e.serial) u.subscribers reply w.subscribers =
      subst (λ o. CallGives ghosts (EventDispatched event place) o u.subscribers reply w.subscribers) there handed.0 in
      let told : CallGivesAt ghosts (EventDispatched event place) (Some e.serial) u.subscribers (Some f) reply w.subscribers =
      subst (λ o. CallGivesAt ghosts (EventDispatched event place) (Some e.serial) u.subscribers o reply w.subscribers) before.1 taken in (
        told.1.0,
        subst (Shows e.serial (counted e.subscriber.events)) (sym told.2)
            (becomes told.0 f, own e.serial told.0 u.subscribers f before.1, ap (λ (x : Tally). x.events) told.1.1 ∙ ap counted before.2),
      )
