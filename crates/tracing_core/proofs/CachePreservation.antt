-- Which subscribers' caches stay valid after a command.
use Rattle.std.proofs.Common.{◌≡◌, ℕ, ◌+◌, ◌<◌, ◌≤◌, Bool, true, false, nat_le, List, [], ◌∷◌, ◌++◌, Option, Some, None, Result, Ok, Err}
use Rattle.std.proofs.Common.{refl, ap, sym, ◌∙◌, subst, arith, ◌⊎◌, inl, inr, length}
use Rattle.std.specs.Prelude.{if◌then◌else◌, ◌==◌, slice_get, OnOk, OnErr, IfOk}
use Rattle.std.specs.Borrow.{MutBor}
use Rattle.std.specs.Cmp.{unsigned_Decides}
use Rattle.std.specs.Fn.{Once}
use Rattle.tracing_core_fields.specs.PlainMetadata.{PlainMetadata}
use Rattle.tracing_core.specs.InterestsAndHints.{level_of}
use Rattle.tracing_core_fields.specs.requests.Calls.{Call, ReplyTo, Asked, CallsiteRegistered, DispatchRegistered}
use Rattle.tracing_core.specs.SubscriberChange.{AnswersAlike, ChangeGives, ChangeGivesAt, ChangesBy}
use Rattle.tracing_core.specs.Commands.{AskGives, AskGivesAt, AnswerGives, GateGives, GateGivesAt, AddGives, Registered}
use Rattle.tracing_core.specs.Commands.{RegisterGives, RegisterGivesAt, TakeGives, becomes, kept_alike, known, living, new_callsite}
use Rattle.tracing_core.specs.Commands.{reached, callsite_with}
use Rattle.tracing_core.specs.Defaults.{holding, letting_go, globally, global_refusal, locally, default_refusal, given_up, end_gives}
use Rattle.tracing_core.specs.Defaults.{end_gives_at, reset_gives, reset_gives_at, running}
use Rattle.tracing_core.specs.HandleCalls.{CallGives, CallGivesAt, HubGives}
use Rattle.tracing_core.specs.Handles.{subscriber_with, changed, without, is_of, held, given_back, given_back_at, hold_refusal, one_more}
use Rattle.tracing_core.specs.Handles.{one_less}
use Rattle.tracing_core_fields.specs.requests.Refusals.{or_same}
use Rattle.tracing_core_fields.specs.requests.Interests.{PlainInterest, Covers}
use Rattle.tracing_core.specs.CachePreservation.{PreservesCaches, PreservesLivingCaches, PreservesUnlentCaches, PreservesCachesBy}
use Rattle.tracing_core.specs.CachePreservation.{StaysRight}
use Rattle.tracing_core_fields.specs.requests.Lists.{Every}
use Rattle.tracing_core.specs.ValidCaches.{AnswersRight, CallsiteRight, HasValidCache, IsTrueCallsite, asked_anew}
use Rattle.tracing_core.specs.HandleSubscribers.{lent_to, given_as}
use Rattle.tracing_core.specs.CacheRefresh.{Formed}
use Rattle.tracing_core.specs.HubInvariant.{Ascends, IsSound, serials}
use Rattle.tracing_core_fields.specs.requests.Steady.{SameWord}
use Rattle.tracing_core.specs.Table.{Table, chosen}
use Rattle.tracing_core_moments.specs.declared.at.At.{At}
use Rattle.tracing_core_fields.specs.declared.requests.callsite.Callsite.{Ghosts as SiteGhosts}
use Rattle.tracing_core.specs.declared.guard.DefaultGuard.{DefaultGuard}
use Rattle.tracing_core.specs.declared.guard.WrongLane.{WrongLane}
use Rattle.tracing_core.specs.declared.refusal.AddError.{AddError}
use Rattle.tracing_core.specs.declared.refusal.AddError.TheVariants as add
use Rattle.tracing_core.specs.declared.refusal.RegisterError.{RegisterError}
use Rattle.tracing_core.specs.declared.refusal.RegisterError.TheVariants as registering
use Rattle.tracing_core.specs.declared.refusal.UnknownLane.{UnknownLane}
use Rattle.tracing_core.specs.TableRows.{KeptCallsite, KeptSubscriber}
use Rattle.tracing_core.specs.declared.hub.parts.Lane.{Lane}
use Rattle.tracing_core.specs.declared.hub.parts.Lane.TheVariants.{Ended, Running}
use Rattle.tracing_core.specs.declared.hub.parts.LaneDefault.{LaneDefault}
use Rattle.tracing_core_fields.specs.declared.requests.subscriber.Subscriber.{Ghosts}
use Rattle.tracing_core.proofs.GivenAnswers.{answers_append, answers_onward, gave_one, gives_heard, gives_keeps, right_onward, same_word}
use Rattle.tracing_core.proofs.SubscriberNumbers.{by_bool, if_either, changed_own, changed_other, without_own, without_other}
use Rattle.tracing_core.proofs.SubscriberNumbers.{serials_changed, ascends_without, absent_above, entry_appended, entry_last}
use Rattle.tracing_core.proofs.NumbersNeverReused.{below_next, later_added, later_alike, later_then, later_without}
use Rattle.tracing_core.proofs.CacheRefresh.{formed_right, formed_serials, formed_sound}
use Rattle.tracing_core.proofs.HubInvariant.{every_append, sound_alike, added_sound, asked_serials, registered_sound, row_true}
use Rattle.tracing_core.proofs.HubInvariant.{new_row_true}

-- the rest of the table is as it was
pub record Alike {S C : Type 0} (t u : Table S C) : Type 0 where
  pub next : u.next ≡ t.next
  pub callsites : u.callsites ≡ t.callsites
  pub greatest : u.greatest ≡ t.greatest

-- the subscribers are as they were, but for one that answers as it did
pub data Moved {S : Type 0} (g : Ghosts S) (es fs : List (KeptSubscriber S)) : Type 0 where
  Still : fs ≡ es → Moved g es fs
  By : (n : ℕ) (x : KeptSubscriber S) (after : S) → subscriber_with n es ≡ Some x → AnswersAlike g x.subscriber after →
      fs ≡ changed n (becomes after) es → Moved g es fs

module _ {S C : Type 0} (g : Ghosts S) (h : SiteGhosts C) where
  kept_moved : (t u : Table S C) (e f : KeptSubscriber S) → HasValidCache g h t e → subscriber_with f.serial u.subscribers ≡ Some f →
      f.lent ≡ false → f.interests ≡ e.interests → f.hint ≡ e.hint → g.steady f.subscriber →
      SameWord (g.says e.subscriber) (g.says f.subscriber) (g.hint e.subscriber) (g.hint f.subscriber) → Alike t u → HasValidCache g h u f
  kept_moved t u e f kept there unlent interests hint steady word alike =
      record {
        stands = there;
        unlent = unlent;
        steady = steady;
        callsites = subst (Every (IsTrueCallsite h)) (sym alike.callsites) kept.callsites;
        right = right_onward g h e.subscriber f.subscriber u.callsites word
            (subst (Every (CallsiteRight g h e.subscriber)) (sym alike.callsites) kept.right);
        below = subst (λ o. level_of o ≤ u.greatest) (sym word.same_hint)
            (subst (λ k. level_of (g.hint e.subscriber) ≤ k) (sym alike.greatest) kept.below);
        kept = answers_onward g h 0 e.subscriber f.subscriber e.interests f.interests u.callsites word
            (λ j after. ap (λ xs. slice_get xs j) interests)
            (subst (AnswersRight g h 0 e.subscriber e.interests) (sym alike.callsites) kept.kept);
        hint = λ top found. kept.hint top (sym hint ∙ found) ∙ sym word.same_hint;
      }

  -- nobody changed
  pub same_keeps : (t u : Table S C) → u.subscribers ≡ t.subscribers → Alike t u → PreservesCaches g h t u
  same_keeps t u same alike =
      record {
        sound = sound_alike h t u (ap (λ (es : List (KeptSubscriber S)). serials es) same) alike.next alike.callsites;
        later = λ sound. later_alike t u (ap (λ (es : List (KeptSubscriber S)). serials es) same) alike.next;
        right_of = λ e kept. (
          e,
          refl,
          kept_moved t u e e kept (subst (λ es. subscriber_with e.serial es ≡ Some e) (sym same) kept.stands)
              kept.unlent refl refl kept.steady (same_word g e.subscriber) alike,
        );
      }

  pub itself_keeps : (t : Table S C) → PreservesCaches g h t t
  itself_keeps t = same_keeps t t refl (record { next = refl; callsites = refl; greatest = refl })

  -- one changed, but for its number, and what is its subscriber, and whether it was lent
  pub counted_keeps : (n : ℕ) (change : KeptSubscriber S → KeptSubscriber S) (same : (x : KeptSubscriber S) →
      (change x).serial ≡ x.serial) → ((x : KeptSubscriber S) → (change x).lent ≡ x.lent) →
      ((x : KeptSubscriber S) → (change x).interests ≡ x.interests) → ((x : KeptSubscriber S) → (change x).hint ≡ x.hint) →
      ((x : KeptSubscriber S) → (change x).subscriber ≡ x.subscriber) → (t u : Table S C) → u.subscribers ≡ changed n change t.subscribers →
      Alike t u → PreservesCaches g h t u
  counted_keeps n change same lent interests hint kept_value t u left alike =
      record {
        sound = sound_alike h t u (ap (λ (es : List (KeptSubscriber S)). serials es) left ∙ serials_changed n change same t.subscribers)
            alike.next alike.callsites;
        later = λ sound. later_alike t u (ap (λ (es : List (KeptSubscriber S)). serials es) left ∙
            serials_changed n change same t.subscribers) alike.next;
        right_of =
            λ e kept. by_bool (e.serial == n)
            (λ here.
            let number : e.serial ≡ n = (unsigned_Decides e.serial n).0 here in
            let found : subscriber_with n t.subscribers ≡ Some e = subst (λ k. subscriber_with k t.subscribers ≡ Some e) number
            kept.stands in
            let own : subscriber_with n u.subscribers ≡ Some (change e) = subst (λ es. subscriber_with n es ≡ Some (change e)) (sym left)
            (changed_own n change same t.subscribers e found) in (
              change e,
              same e,
              kept_moved t u e (change e) kept (subst (λ k. subscriber_with k u.subscribers ≡ Some (change e)) (sym number ∙ sym (same e))
                  own) (lent e ∙ kept.unlent) (interests e) (hint e)
                  (subst g.steady (sym (kept_value e)) kept.steady)
                  (subst (λ x. SameWord (g.says e.subscriber) (g.says x) (g.hint e.subscriber) (g.hint x)) (sym (kept_value e))
                  (same_word g e.subscriber)) alike,
            ))
            (λ apart. (
              e,
              refl,
              kept_moved t u e e kept
                  (subst (λ es. subscriber_with e.serial es ≡ Some e) (sym left) (changed_other n change same e.serial t.subscribers apart ∙
                  kept.stands)) kept.unlent refl refl kept.steady (same_word g e.subscriber) alike,
            ));
      }

  pub held_keeps : (dispatch : Option ℕ) (t u : Table S C) → u.subscribers ≡ held dispatch t.subscribers → Alike t u →
      PreservesCaches g h t u
  held_keeps None t u left alike = same_keeps t u left alike
  held_keeps (Some n) t u left alike = counted_keeps n one_more (λ x. refl) (λ x. refl) (λ x. refl) (λ x. refl) (λ x. refl) t u left alike

  pub or_same_keeps : {B : Type 0} (refusal : Option B) (t v u : Table S C) → u ≡ or_same refusal t v → PreservesCaches g h t v →
      PreservesCaches g h t u
  or_same_keeps None t v u left keeps = subst (PreservesCaches g h t) (sym left) keeps
  or_same_keeps (Some e) t v u left keeps = subst (PreservesCaches g h t) (sym left) (itself_keeps t)

  -- cloning and upgrading
  pub hold_keeps : (t u : Table S C) (dispatch : Option ℕ) → u ≡ or_same (hold_refusal dispatch t.subscribers) t (holding t dispatch) →
      PreservesCaches g h t u
  hold_keeps t u dispatch left =
      or_same_keeps (hold_refusal dispatch t.subscribers) t (holding t dispatch) u left
      (held_keeps dispatch t (holding t dispatch) refl (record { next = refl; callsites = refl; greatest = refl }))

  pub global_keeps : (t u : Table S C) (dispatch : Option ℕ) → u ≡ or_same (global_refusal t dispatch) t (globally t dispatch) →
      PreservesCaches g h t u
  global_keeps t u dispatch left =
      or_same_keeps (global_refusal t dispatch) t (globally t dispatch) u left
      (held_keeps dispatch t (globally t dispatch) refl (record { next = refl; callsites = refl; greatest = refl }))

  pub default_keeps : (t u : Table S C) (lane : ℕ) (dispatch : Option ℕ) →
      u ≡ or_same (default_refusal t lane dispatch) t (locally t lane dispatch) → PreservesCaches g h t u
  default_keeps t u lane dispatch left =
      or_same_keeps (default_refusal t lane dispatch) t (locally t lane dispatch) u left
      (held_keeps dispatch t (locally t lane dispatch) refl (record { next = refl; callsites = refl; greatest = refl }))

  -- other lanes
  pub lanes_keep : {A E : Type 0} (r : Result A E) (t u : Table S C) (lanes : List Lane) (entered : List Bool) →
      OnOk r (u ≡ record t { lanes = lanes; entered = entered }) → OnErr r (u ≡ t) → PreservesCaches g h t u
  lanes_keep (Ok a) t u lanes entered ok err = subst (PreservesCaches g h t) (sym ok)
      (same_keeps t (record t { lanes = lanes; entered = entered }) refl (record { next = refl; callsites = refl; greatest = refl }))
  lanes_keep (Err e) t u lanes entered ok err = subst (PreservesCaches g h t) (sym err) (itself_keeps t)

  same_entry : (es : List (KeptSubscriber S)) (k : ℕ) (x f : KeptSubscriber S) → subscriber_with k es ≡ Some x →
      subscriber_with k es ≡ Some f → x ≡ f
  same_entry es k x f a b = let one : Some x ≡ Some f = sym a ∙ b in cc

  -- everyone includes those who live on
  pub living_from : (t u : Table S C) → PreservesCaches g h t u → PreservesLivingCaches g h t u
  living_from t u keeps = record { sound = keeps.sound; later = keeps.later; right_of = λ sound e kept. inr (keeps.right_of e kept) }

  -- and these include those who aren't lent
  others_from : (t u : Table S C) → PreservesCaches g h t u → PreservesUnlentCaches g h t u
  others_from t u keeps =
      record {
        sound = keeps.sound;
        right_of = λ sound e f kept there unlent.
            let a = keeps.right_of e kept in
            let same : a.0 ≡ f = same_entry u.subscribers e.serial a.0 f
            (subst (λ k. subscriber_with k u.subscribers ≡ Some a.0) a.1 a.2.stands) there in
            subst (HasValidCache g h u) same a.2;
      }

  gone_keeps : (n : ℕ) (t u : Table S C) → u.subscribers ≡ without n t.subscribers → Alike t u → PreservesLivingCaches g h t u
  gone_keeps n t u left alike =
      record {
        sound = λ sound. record {
          numbers = subst (λ k. Ascends 0 (serials u.subscribers) k) (sym alike.next)
              (subst (λ (es : List (KeptSubscriber S)). Ascends 0 (serials es) t.next) (sym left)
              (ascends_without n 0 t.next t.subscribers sound.numbers));
          apart = (sound_alike h t (record t { callsites = u.callsites }) refl refl alike.callsites sound).apart;
          sites = (sound_alike h t (record t { callsites = u.callsites }) refl refl alike.callsites sound).sites;
        };
        later = λ sound. later_without n t u left alike.next;
        right_of = λ sound e kept.
            by_bool (e.serial == n)
            (λ here.
            let number : e.serial ≡ n = (unsigned_Decides e.serial n).0 here in
            let gone : subscriber_with n u.subscribers ≡ None = subst (λ es. subscriber_with n es ≡ None) (sym left)
            (without_own n 0 t.next t.subscribers sound.numbers) in
            inl (subst (λ k. subscriber_with k u.subscribers ≡ None) (sym number) gone))
            (λ apart.
            let lives : subscriber_with e.serial u.subscribers ≡ Some e = subst (λ es. subscriber_with e.serial es ≡ Some e) (sym left)
            (without_other e.serial n t.subscribers apart ∙ kept.stands) in
            inr (e, refl, kept_moved t u e e kept lives kept.unlent refl refl kept.steady (same_word g e.subscriber) alike));
      }

  given_back_by : (b : Bool) (n : ℕ) (released : Option S) (t u : Table S C) →
      u.subscribers ≡ (if◌then◌else◌ {A = Option S × List (KeptSubscriber S)} b (released, without n t.subscribers)
      (None, changed n one_less t.subscribers)).1 → Alike t u → PreservesLivingCaches g h t u
  given_back_by true n released t u left alike = gone_keeps n t u left alike
  given_back_by false n released t u left alike =
      living_from t u (counted_keeps n one_less (λ x. refl) (λ x. refl) (λ x. refl) (λ x. refl) (λ x. refl) t u left alike)

  given_back_keeps_at : (n : ℕ) (o : Option (KeptSubscriber S)) (t u : Table S C) → u.subscribers ≡ (given_back_at n t.subscribers o).1 →
      Alike t u → PreservesLivingCaches g h t u
  given_back_keeps_at n None t u left alike = living_from t u (same_keeps t u left alike)
  given_back_keeps_at n (Some e) t u left alike = given_back_by (nat_le e.handles 1) n (Some e.subscriber) t u left alike

  -- a handle that is given back
  pub given_back_keeps : (dispatch : Option ℕ) (t u : Table S C) → u.subscribers ≡ (given_back dispatch t.subscribers).1 → Alike t u →
      PreservesLivingCaches g h t u
  given_back_keeps None t u left alike = living_from t u (same_keeps t u left alike)
  given_back_keeps (Some n) t u left alike = given_back_keeps_at n (subscriber_with n t.subscribers) t u left alike

  -- a handle that comes back
  pub release_keeps : (t u : Table S C) (dispatch : Option ℕ) → u ≡ record t { subscribers = (given_back dispatch t.subscribers).1 } →
      PreservesLivingCaches g h t u
  release_keeps t u dispatch left = subst (PreservesLivingCaches g h t) (sym left)
      (given_back_keeps dispatch t (letting_go t dispatch) refl (record { next = refl; callsites = refl; greatest = refl }))

  given_up_keeps : (t : Table S C) (lane : ℕ) (setting : LaneDefault) (value : Lane) →
      PreservesLivingCaches g h t (given_up t lane setting value).1
  given_up_keeps t lane setting value = given_back_keeps (chosen setting) t (given_up t lane setting value).1 refl
      (record { next = refl; callsites = refl; greatest = refl })

  pub itself_living : (t : Table S C) → PreservesLivingCaches g h t t
  itself_living t = living_from t t (itself_keeps t)

  end_keeps_at : (t : Table S C) (lane : ℕ) (o : Option LaneDefault) → PreservesLivingCaches g h t (end_gives_at t lane o).1
  end_keeps_at t lane None = itself_living t
  end_keeps_at t lane (Some setting) = given_up_keeps t lane setting Ended

  -- the end of a lane
  pub end_keeps : (t u : Table S C) (lane : ℕ) (r : Result (Option S) UnknownLane) →
      ◌≡◌ {A = Result (Option S) UnknownLane × Table S C} (r, u) (end_gives t lane) → PreservesLivingCaches g h t u
  end_keeps t u lane r left = subst (λ (p : Result (Option S) UnknownLane × Table S C). PreservesLivingCaches g h t p.1) (sym left)
      (end_keeps_at t lane (running (slice_get t.lanes lane)))

  reset_keeps_at : (t : Table S C) (lane : ℕ) (guard : DefaultGuard) (o : Option Lane) →
      PreservesLivingCaches g h t (reset_gives_at t lane guard o).1
  reset_keeps_at t lane guard None = itself_living t
  reset_keeps_at t lane guard (Some Ended) = given_up_keeps t lane guard.before Ended
  reset_keeps_at t lane guard (Some (Running present)) = given_up_keeps t lane present (Running guard.before)

  -- a guard that is spent
  pub reset_keeps : (t u : Table S C) (lane : ℕ) (guard : DefaultGuard) (r : Result (Option S) WrongLane) →
      ◌≡◌ {A = Result (Option S) WrongLane × Table S C} (r, u) (reset_gives t lane guard) → PreservesLivingCaches g h t u
  reset_keeps t u lane guard r left =
      subst (λ (p : Result (Option S) WrongLane × Table S C). PreservesLivingCaches g h t p.1) (sym left) (
      if_either (λ (p : Result (Option S) WrongLane × Table S C). PreservesLivingCaches g h t p.1) (guard.lane == lane)
      (reset_gives_at t lane guard (slice_get t.lanes lane)) (Err (record { 0 = guard }), t)
      (λ own. reset_keeps_at t lane guard (slice_get t.lanes lane)) (λ other. itself_living t)
      )

  lent_keeps_at : (n : ℕ) (w : S) (t : Table S C) →
      PreservesUnlentCaches g h t (record t { subscribers = changed n (given_as w) t.subscribers })
  lent_keeps_at n w t =
      let u : Table S C = record t { subscribers = changed n (given_as w) t.subscribers } in
      let alike : Alike t u = record { next = refl; callsites = refl; greatest = refl } in
      record {
        sound = sound_alike h t u (serials_changed n (given_as w) (λ x. refl) t.subscribers) refl refl;
        right_of = λ sound e f kept there unlent.
            by_bool (e.serial == n)
            (λ here.
            let number : e.serial ≡ n = (unsigned_Decides e.serial n).0 here in
            let found : subscriber_with n t.subscribers ≡ Some e = subst (λ k. subscriber_with k t.subscribers ≡ Some e) number
            kept.stands in
            let own : subscriber_with n u.subscribers ≡ Some (given_as w e) = changed_own n (given_as w) (λ x. refl) t.subscribers e
            found in
            let same : given_as w e ≡ f = same_entry u.subscribers n (given_as w e) f own
            (subst (λ k. subscriber_with k u.subscribers ≡ Some f) number there) in
            let lent : (given_as w e).lent ≡ f.lent = ap (λ (x : KeptSubscriber S). x.lent) same in
            absurd (cc))
            (λ apart.
            let lives : subscriber_with e.serial u.subscribers ≡ Some e = changed_other n (given_as w) (λ x. refl) e.serial t.subscribers
            apart ∙ kept.stands in
            subst (HasValidCache g h u) (same_entry u.subscribers e.serial e f lives there)
            (kept_moved t u e e kept lives kept.unlent refl refl kept.steady (same_word g e.subscriber) alike));
      }

  -- lending
  pub lent_keeps : (t : Table S C) (dispatch : Option ℕ) (w : S) →
      PreservesUnlentCaches g h t (record t { subscribers = lent_to dispatch w t.subscribers })
  lent_keeps t None w = others_from t t (itself_keeps t)
  lent_keeps t (Some n) w = lent_keeps_at n w t

  pub moved_keeps_by : (n : ℕ) (x : KeptSubscriber S) (after : S) (t u : Table S C) → subscriber_with n t.subscribers ≡ Some x →
      AnswersAlike g x.subscriber after → u.subscribers ≡ changed n (becomes after) t.subscribers → Alike t u → PreservesCaches g h t u
  moved_keeps_by n x after t u there moved left alike =
      record {
        sound = sound_alike h t u (ap (λ (es : List (KeptSubscriber S)). serials es) left ∙
            serials_changed n (becomes after) (λ y. refl) t.subscribers) alike.next alike.callsites;
        later = λ sound. later_alike t u (ap (λ (es : List (KeptSubscriber S)). serials es) left ∙
            serials_changed n (becomes after) (λ y. refl) t.subscribers) alike.next;
        right_of = λ e kept.
            by_bool (e.serial == n)
            (λ here.
            let number : e.serial ≡ n = (unsigned_Decides e.serial n).0 here in
            let found : subscriber_with n t.subscribers ≡ Some e = subst (λ k. subscriber_with k t.subscribers ≡ Some e) number
            kept.stands in
            let same : x ≡ e = same_entry t.subscribers n x e there found in
            let own : subscriber_with n u.subscribers ≡ Some (becomes after e) = subst (λ es. subscriber_with n es ≡ Some (becomes after e))
            (sym left) (changed_own n (becomes after) (λ y. refl) t.subscribers e found) in
            let word = subst (λ (d : KeptSubscriber S). AnswersAlike g d.subscriber after) same moved kept.steady in (
              becomes after e,
              refl,
              kept_moved t u e (becomes after e) kept (subst (λ k. subscriber_with k u.subscribers ≡ Some (becomes after e)) (sym number)
                  own) kept.unlent refl refl word.0 word.1 alike,
            ))
            (λ apart. (
              e,
              refl,
              kept_moved t u e e kept
                  (subst (λ es. subscriber_with e.serial es ≡ Some e) (sym left)
                  (changed_other n (becomes after) (λ y. refl) e.serial t.subscribers apart ∙ kept.stands)) kept.unlent refl refl kept.steady
                  (same_word g e.subscriber) alike,
            ));
      }

  moved_keeps : (t u : Table S C) → Moved g t.subscribers u.subscribers → Alike t u → PreservesCaches g h t u
  moved_keeps t u (Still same) alike = same_keeps t u same alike
  moved_keeps t u (By n x after there moved left) alike = moved_keeps_by n x after t u there moved left alike

  ask_moves_at : (m : PlainMetadata) (now : At) (n : ℕ) (es fs : List (KeptSubscriber S)) (o : Option (KeptSubscriber S)) (answer : Bool) →
      subscriber_with n es ≡ o → AskGivesAt g m now n es o answer fs → Moved g es fs
  ask_moves_at m now n es fs None answer there given = Still given.1
  ask_moves_at m now n es fs (Some x) answer there given = By n x given.0 there (g.stays x.subscriber (Asked m now) answer given.0 given.2)
      given.3

  ask_moves : (m : PlainMetadata) (now : At) (serial : Option ℕ) (es fs : List (KeptSubscriber S)) (answer : Bool) →
      AskGives g m now serial es answer fs → Moved g es fs
  ask_moves m now None es fs answer given = Still given.1
  ask_moves m now (Some n) es fs answer given = ask_moves_at m now n es fs (subscriber_with n es) answer refl given

  answer_moves : (row : KeptCallsite C) (now : At) (k : Option Bool) (serial : Option ℕ) (es fs : List (KeptSubscriber S)) (answer : Bool) →
      AnswerGives g h row now k serial es answer fs → Moved g es fs
  answer_moves row now k None es fs answer given = Still given.1
  answer_moves row now (Some b) (Some n) es fs answer given = Still given.1
  answer_moves row now None (Some n) es fs answer given = ask_moves (h.metadata_of row.callsite) now (Some n) es fs answer given

  call_moves_at : (c : Call) (n : ℕ) (es fs : List (KeptSubscriber S)) (o : Option (KeptSubscriber S)) (reply : ReplyTo c) →
      subscriber_with n es ≡ o → CallGivesAt g c (Some n) es o reply fs → Moved g es fs
  call_moves_at c n es fs None reply there given = Still given.1
  call_moves_at c n es fs (Some x) reply there given = By n x given.0 there (g.stays x.subscriber c reply given.0 given.1) given.2

  call_moves : (c : Call) (dispatch : Option ℕ) (es fs : List (KeptSubscriber S)) (reply : ReplyTo c) → CallGives g c dispatch es reply fs →
      Moved g es fs
  call_moves c None es fs reply given = Still given.1
  call_moves c (Some n) es fs reply given = call_moves_at c n es fs (subscriber_with n es) reply refl given

  alike_but_entries : (t u : Table S C) → u ≡ record t { subscribers = u.subscribers } → Alike t u
  alike_but_entries t u left =
      record {
        next = ap (λ (v : Table S C). v.next) left;
        callsites = ap (λ (v : Table S C). v.callsites) left;
        greatest = ap (λ (v : Table S C). v.greatest) left;
      }

  -- a request through a handle
  pub call_keeps : (c : Call) (dispatch : Option ℕ) (t u : Table S C) (reply : ReplyTo c) → HubGives g c dispatch t reply u →
      PreservesCaches g h t u
  call_keeps c dispatch t u reply given = moved_keeps t u (call_moves c dispatch t.subscribers u.subscribers reply given.0)
      (alike_but_entries t u given.1)

  change_moves_at : {F T : Type 0} (call : Once F (MutBor S × Unit {0}) (T × (MutBor S × Unit {0}))) (f : F) (n : ℕ)
      (es fs : List (KeptSubscriber S)) (o : Option (KeptSubscriber S)) (result : Option T) → ChangesBy call f (AnswersAlike g) →
      subscriber_with n es ≡ o → ChangeGivesAt call f (Some n) es o result fs → Moved g es fs
  change_moves_at call f n es fs None result alike there given = Still given.1
  change_moves_at call f n es fs (Some x) result alike there given = By n x given.1 there (alike x.subscriber given.1 given.0 given.3)
      given.4

  change_moves : {F T : Type 0} (call : Once F (MutBor S × Unit {0}) (T × (MutBor S × Unit {0}))) (f : F) (dispatch : Option ℕ)
      (es fs : List (KeptSubscriber S)) (result : Option T) → ChangesBy call f (AnswersAlike g) → ChangeGives call f dispatch es result fs →
      Moved g es fs
  change_moves call f None es fs result alike given = Still given.1
  change_moves call f (Some n) es fs result alike given = change_moves_at call f n es fs (subscriber_with n es) result alike refl given

  -- a closure that leaves a subscriber's answers as they are
  change_keeps : {F T : Type 0} (call : Once F (MutBor S × Unit {0}) (T × (MutBor S × Unit {0}))) (f : F) (dispatch : Option ℕ)
      (t u : Table S C) (result : Option T) → ChangesBy call f (AnswersAlike g) →
      ChangeGives call f dispatch t.subscribers result u.subscribers → u ≡ record t { subscribers = u.subscribers } →
      PreservesCaches g h t u
  change_keeps call f dispatch t u result alike given left =
      moved_keeps t u (change_moves call f dispatch t.subscribers u.subscribers result alike given) (alike_but_entries t u left)

  -- a question through a handle
  pub ask_keeps : (m : PlainMetadata) (now : At) (dispatch : Option ℕ) (t u : Table S C) (answer : Bool) →
      AskGives g m now dispatch t.subscribers answer u.subscribers → u ≡ record t { subscribers = u.subscribers } → PreservesCaches g h t u
  ask_keeps m now dispatch t u answer given left = moved_keeps t u (ask_moves m now dispatch t.subscribers u.subscribers answer given)
      (alike_but_entries t u left)

  -- what the subscribers give by the number of a handle is what the hub gives
  on_hub : (Gives : Option ℕ → List (KeptSubscriber S) → List (KeptSubscriber S) → Type 0) {serial dispatch : Option ℕ} {t v : Table S C}
      {es fs left : List (KeptSubscriber S)} → serial ≡ dispatch → v ≡ t → es ≡ v.subscribers → left ≡ fs → Gives serial es fs →
      Gives dispatch t.subscribers left
  on_hub Gives {serial} {dispatch} {t} {v} {es} {fs} {left} led view shown same given =
      subst (λ d. Gives d t.subscribers left) led (subst (λ xs. Gives serial xs left) (shown ∙ ap (λ (w : Table S C). w.subscribers) view)
      (subst (λ ys. Gives serial es ys) (sym same) given))

  with_entries : {t v : Table S C} (left : List (KeptSubscriber S)) → v ≡ t →
      ◌≡◌ {A = Table S C} (record v { subscribers = left }) (record t { subscribers = left })
  with_entries left view = ap (λ (w : Table S C). record w { subscribers = left }) view

  pub handed_keeps : (c : Call) (reply : ReplyTo c) {serial dispatch : Option ℕ} {t v : Table S C} {es fs left : List (KeptSubscriber S)} →
      serial ≡ dispatch → v ≡ t → es ≡ v.subscribers → left ≡ fs → CallGives g c serial es reply fs →
      PreservesCaches g h t (record v { subscribers = left })
  handed_keeps c reply {dispatch = dispatch} {t = t} {v = v} {left = left} led view shown same given =
      call_keeps c dispatch t (record v { subscribers = left }) reply
      (on_hub (λ d xs ys. CallGives g c d xs reply ys) led view shown same given, with_entries left view)

  pub changed_keeps : {F T : Type 0} (call : Once F (MutBor S × Unit {0}) (T × (MutBor S × Unit {0}))) (f : F) (result : Option T)
      {serial dispatch : Option ℕ} {t v : Table S C} {es fs left : List (KeptSubscriber S)} → ChangesBy call f (AnswersAlike g) →
      serial ≡ dispatch → v ≡ t → es ≡ v.subscribers → left ≡ fs → ChangeGives call f serial es result fs →
      PreservesCaches g h t (record v { subscribers = left })
  changed_keeps call f result {dispatch = dispatch} {t = t} {v = v} {left = left} alike led view shown same given =
      change_keeps call f dispatch t (record v { subscribers = left }) result alike
      (on_hub (λ d xs ys. ChangeGives call f d xs result ys) led view shown same given) (with_entries left view)

  pub asked_keeps : (m : PlainMetadata) (now : At) (answer : Bool) {serial dispatch : Option ℕ} {t v : Table S C}
      {es fs left : List (KeptSubscriber S)} → serial ≡ dispatch → v ≡ t → es ≡ v.subscribers → left ≡ fs →
      AskGives g m now serial es answer fs → PreservesCaches g h t (record v { subscribers = left })
  asked_keeps m now answer {dispatch = dispatch} {t = t} {v = v} {left = left} led view shown same given =
      ask_keeps m now dispatch t (record v { subscribers = left }) answer
      (on_hub (λ d xs ys. AskGives g m now d xs answer ys) led view shown same given) (with_entries left view)

  gate_moves_at : (t u : Table S C) (now : At) (o : Option (KeptCallsite C)) (result : Option Bool) → GateGivesAt g h t o now result u →
      Moved g t.subscribers u.subscribers × Alike t u
  gate_moves_at t u now None result given = (
    Still (ap (λ (v : Table S C). v.subscribers) given.1),
    record {
      next = ap (λ (v : Table S C). v.next) given.1;
      callsites = ap (λ (v : Table S C). v.callsites) given.1;
      greatest =
          ap (λ (v : Table S C). v.greatest) given.1;
    },
  )
  gate_moves_at t u now (Some row) result given = (
    answer_moves row now (known t.greatest row.level row.interest) (reached t now.lane) t.subscribers u.subscribers given.0.0 given.0.2,
    alike_but_entries t u given.1,
  )

  -- a gate
  pub gate_keeps_at : (t u : Table S C) (now : At) (o : Option (KeptCallsite C)) (result : Option Bool) → GateGivesAt g h t o now result u →
      PreservesCaches g h t u
  gate_keeps_at t u now o result given = let m = gate_moves_at t u now o result given in moved_keeps t u m.0 m.1

  pub gate_keeps : (t u : Table S C) (identifier : ℕ) (now : At) (result : Option Bool) → GateGives g h t identifier now result u →
      PreservesCaches g h t u
  gate_keeps t u identifier now result given = gate_keeps_at t u now (callsite_with identifier t.callsites) result given

  -- forming anew what is kept, whoever is asked
  pub form_keeps : (all : Bool) (t u : Table S C) → Formed g h all t u → PreservesCaches g h t u
  form_keeps all t u r =
      record {
        sound = formed_sound g h all t u r;
        later = λ sound. later_alike t u (formed_serials g h all t u r) (ap (λ (v : Table S C). v.next) r.rest);
        right_of = λ e kept. let a = formed_right g h all t u r e (inr (inr kept)) kept.stands kept.steady kept.callsites in
            (asked_anew a.0 a.1 a.2 e, refl, a.3);
      }

  with_new : Table S C → S → Table S C
  with_new t z = record t { subscribers = t.subscribers ++ living t.next z ∷ []; next = t.next + 1 }

  kept_with_new : (t : Table S C) (z : S) (e : KeptSubscriber S) → HasValidCache g h t e → HasValidCache g h (with_new t z) e
  unfolding with_new
  kept_with_new t z e kept =
      record {
        stands = entry_appended e.serial t.subscribers (living t.next z ∷ []) e kept.stands;
        unlent = kept.unlent;
        steady = kept.steady;
        callsites = kept.callsites;
        right = kept.right;
        below = kept.below;
        kept = kept.kept;
        hint = kept.hint;
      }

  -- a subscriber more
  pub add_keeps : (t u : Table S C) (s : S) (r : Result (Option ℕ) (AddError S)) → AddGives g h t s r u → PreservesCaches g h t u
  unfolding with_new
  add_keeps t u s (Ok dispatch) given =
      let z = given.1.0 in
      let v : Table S C = with_new t z in
      let asked : Formed g h false v u = given.1.2 in
      record {
        sound = λ sound. formed_sound g h false v u asked (added_sound h g t z sound);
        later = λ sound. later_added t u (living t.next z) refl (formed_serials g h false v u asked)
            (ap (λ (w : Table S C). w.next) asked.rest);
        right_of = λ e kept.
            let still : HasValidCache g h v e = kept_with_new t z e kept in
            let a = formed_right g h false v u asked e (inr (inr still)) still.stands kept.steady kept.callsites in
            (asked_anew a.0 a.1 a.2 e, refl, a.3);
      }
  add_keeps t u s (Err (add.NumbersSpent back)) given = subst (PreservesCaches g h t) (sym given.2) (itself_keeps t)
  add_keeps t u s (Err (add.OutOfMemory back)) given = subst (PreservesCaches g h t) (sym given.2) (itself_keeps t)

  -- and what is kept is right of it, if it is consistent
  pub added_kept : (t u : Table S C) (s : S) (dispatch : Option ℕ) → AddGives g h t s (Ok dispatch) u → IsSound h t → g.steady s →
      (f : KeptSubscriber S) × (dispatch ≡ Some f.serial) × HasValidCache g h u f
  unfolding with_new
  added_kept t u s dispatch given sound steady =
      let z = given.1.0 in
      let v : Table S C = with_new t z in
      let asked : Formed g h false v u = given.1.2 in
      let later = g.stays s (DispatchRegistered (Some t.next)) tt z given.1.1 steady in
      let is : is_of t.next (living t.next z) ≡ true = (unsigned_Decides t.next t.next).1 refl in
      let there : subscriber_with t.next v.subscribers ≡ Some (living t.next z) = entry_last t.next t.subscribers (living t.next z)
      (absent_above 0 t.next t.subscribers sound.numbers) is in
      let a = formed_right g h false v u asked (living t.next z) (inr (inl refl)) there later.0 sound.sites in
      (asked_anew a.0 a.1 a.2 (living t.next z), given.0, a.3)

  pub added_right : (t u : Table S C) (s : S) (r : Result (Option ℕ) (AddError S)) → AddGives g h t s r u →
      IfOk r (λ dispatch. IsSound h t → g.steady s → (f : KeptSubscriber S) × (dispatch ≡ Some f.serial) × HasValidCache g h u f)
  added_right t u s (Ok dispatch) given = λ sound steady. added_kept t u s dispatch given sound steady
  added_right t u s (Err e) given = tt

  -- and of those that were lent and keep theirs
  pub added_others : (t u : Table S C) (s : S) (r : Result (Option ℕ) (AddError S)) → AddGives g h t s r u →
      IfOk r (λ _. (e : KeptSubscriber S) → subscriber_with e.serial t.subscribers ≡ Some e → e.lent ≡ true → g.steady e.subscriber →
      Every (IsTrueCallsite h) t.callsites → (z : S) × (interests : List PlainInterest) × (hint : Option (Option ℕ)) ×
      HasValidCache g h u (asked_anew z interests hint e))
  unfolding with_new
  added_others t u s (Ok dispatch) given = λ e there lent steady sites.
      formed_right g h false (with_new t given.1.0) u given.1.2 e (inr (inl lent))
      (entry_appended e.serial t.subscribers (living t.next given.1.0 ∷ []) e there) steady sites
  added_others t u s (Err e) given = tt

  registered_kept : (t u : Table S C) (callsite : C) (interest : PlainInterest) (e : KeptSubscriber S) →
      Registered g h t callsite interest u → HasValidCache g h t e → StaysRight g h u e
  registered_kept t u callsite interest e r kept =
      let m = h.metadata_of callsite in
      let n = length t.callsites in
      let callsites : u.callsites ≡ t.callsites ++ r.row ∷ [] = ap (λ (v : Table S C). v.callsites) r.kept in
      let top : u.greatest ≡ t.greatest = ap (λ (v : Table S C). v.greatest) r.kept in
      let gave = gave_one g true m n e.serial None r.asked.0.0 t.subscribers u.subscribers e r.asked.0.1 kept.stands in
      let f = gave.0 in
      let own = gave.1 in
      let became = gives_heard g true m n own e f gave.3 in
      let serial : f.serial ≡ e.serial = ap (λ (d : KeptSubscriber S). d.serial) became in
      let hint : f.hint ≡ e.hint = ap (λ (d : KeptSubscriber S). d.hint) became in
      let stays = g.stays e.subscriber (CallsiteRegistered m) own f.subscriber gave.3.1 kept.steady in
      let said : g.says f.subscriber (h.metadata_of r.row.callsite) own =
      subst (λ x. g.says f.subscriber x own) (sym r.asked.1) (stays.1.onward m own gave.3.0) in
      let covers : Covers r.row.interest own = subst (λ k. Covers k own) (sym r.asked.0.2) gave.4 in (
        f,
        serial,
        record {
          stands = subst (λ k. subscriber_with k u.subscribers ≡ Some f) (sym serial) gave.2;
          unlent = ap (λ (d : KeptSubscriber S). d.lent) became ∙ kept.unlent;
          steady = stays.0;
          callsites = subst (Every (IsTrueCallsite h)) (sym callsites)
              (every_append (IsTrueCallsite h) t.callsites r.row kept.callsites
              (row_true h g true n t.subscribers u.subscribers (new_callsite h callsite) r.row r.asked (new_row_true h g callsite r.real)));
          right = subst (Every (CallsiteRight g h f.subscriber)) (sym callsites)
              (every_append (CallsiteRight g h f.subscriber) t.callsites r.row
              (right_onward g h e.subscriber f.subscriber t.callsites stays.1 kept.right) (own, said, covers));
          below = subst (λ o. level_of o ≤ u.greatest) (sym stays.1.same_hint)
              (subst (λ k. level_of (g.hint e.subscriber) ≤ k) (sym top) kept.below);
          kept = subst (AnswersRight g h 0 f.subscriber f.interests) (sym callsites)
              (answers_append g h 0 n e.subscriber f.subscriber e.interests f.interests t.callsites r.row own (omega arith) stays.1
              (gives_keeps g true m n own e f gave.3) kept.kept (said, covers));
          hint = λ o found. kept.hint o (sym hint ∙ found) ∙ sym stays.1.same_hint;
        },
      )

  -- a callsite more
  take_keeps : (t u : Table S C) (callsite : C) (r : Result PlainInterest (RegisterError C)) → TakeGives g h t callsite r u →
      PreservesCaches g h t u
  take_keeps t u callsite (Ok interest) given =
      record {
        sound = registered_sound h g t u callsite interest given;
        later = λ sound. later_alike t u (asked_serials h g true (h.metadata_of callsite) (length t.callsites) t.subscribers u.subscribers
            None given.asked.0.0 given.asked.0.1) (ap (λ (v : Table S C). v.next) given.kept);
        right_of = λ e kept. registered_kept t u callsite interest e given kept;
      }
  take_keeps t u callsite (Err (registering.Taken back)) given = absurd given
  take_keeps t u callsite (Err (registering.OutOfMemory back)) given = subst (PreservesCaches g h t) (sym given.1) (itself_keeps t)

  register_keeps_at : (t u : Table S C) (callsite : C) (o : Option (Option PlainInterest)) (r : Result PlainInterest (RegisterError C)) →
      RegisterGivesAt g h t callsite o r u → PreservesCaches g h t u
  register_keeps_at t u callsite None r given = take_keeps t u callsite r given
  register_keeps_at t u callsite (Some None) r given = subst (PreservesCaches g h t) (sym given.1) (itself_keeps t)
  register_keeps_at t u callsite (Some (Some interest)) r given = subst (PreservesCaches g h t) (sym given.1) (itself_keeps t)

  pub register_keeps : (t u : Table S C) (callsite : C) (r : Result PlainInterest (RegisterError C)) → RegisterGives g h t callsite r u →
      PreservesCaches g h t u
  register_keeps t u callsite r given =
      register_keeps_at t u callsite (kept_alike h (h.metadata_of callsite) (callsite_with (h.metadata_of callsite).callsite t.callsites)) r
      given

  -- one command after another
  pub keeps_then : (t v u : Table S C) → PreservesCaches g h t v → PreservesCaches g h v u → PreservesCaches g h t u
  keeps_then t v u a b =
      record {
        sound = λ sound. b.sound (a.sound sound);
        later = λ sound. later_then t v u (a.later sound) (b.later (a.sound sound));
        right_of = λ e kept. let x = a.right_of e kept in let y = b.right_of x.0 x.2 in (y.0, y.1 ∙ x.1, y.2);
      }

  lives_on : (u : Table S C) (e f : KeptSubscriber S) → f.serial ≡ e.serial → (subscriber_with f.serial u.subscribers ≡ None) ⊎
      StaysRight g h u f → (subscriber_with e.serial u.subscribers ≡ None) ⊎ StaysRight g h u e
  lives_on u e f same (inl gone) = inl (subst (λ n. subscriber_with n u.subscribers ≡ None) same gone)
  lives_on u e f same (inr right) = inr (right.0, right.1 ∙ same, right.2)

  goes_on : (t v u : Table S C) (e : KeptSubscriber S) → IsSound h t → PreservesLivingCaches g h t v → PreservesLivingCaches g h v u →
      HasValidCache g h t e → (subscriber_with e.serial v.subscribers ≡ None) ⊎ StaysRight g h v e →
      (subscriber_with e.serial u.subscribers ≡ None) ⊎ StaysRight g h u e
  goes_on t v u e sound a b kept (inl gone) =
      let below : e.serial < t.next = below_next e.serial 0 t.next t.subscribers e sound.numbers kept.stands in
      let onward : t.next ≤ v.next = (a.later sound).next in
      inl ((b.later (a.sound sound)).gone e.serial (omega arith) gone)
  goes_on t v u e sound a b kept (inr right) = lives_on u e right.0 right.1 (b.right_of (a.sound sound) right.0 right.2)

  pub living_then : (t v u : Table S C) → PreservesLivingCaches g h t v → PreservesLivingCaches g h v u → PreservesLivingCaches g h t u
  living_then t v u a b =
      record {
        sound = λ sound. b.sound (a.sound sound);
        later = λ sound. later_then t v u (a.later sound) (b.later (a.sound sound));
        right_of = λ sound e kept. goes_on t v u e sound a b kept (a.right_of sound e kept);
      }

  -- whatever may be given up
  pub living_by : (b : Bool) (t u : Table S C) → PreservesCachesBy g h b t u → PreservesLivingCaches g h t u
  living_by true t u keeps = keeps
  living_by false t u keeps = living_from t u keeps

  -- where nothing is given up
  pub keeps_by : (b : Bool) (t u : Table S C) → b ≡ false → PreservesCachesBy g h b t u → PreservesCaches g h t u
  keeps_by true t u none keeps = absurd (cc)
  keeps_by false t u none keeps = keeps
