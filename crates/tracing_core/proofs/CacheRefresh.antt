-- Which subscribers' caches are valid once what is kept was formed anew, whoever was asked.
use Rattle.std.proofs.Common.{◌≡◌, ℕ, ◌+◌, ◌<◌, ◌≤◌, Bool, true, false, max, List, [], ◌∷◌, Option, Some, None, refl, ap, sym, ◌∙◌, subst}
use Rattle.std.proofs.Common.{arith, ◌⊎◌, inl, inr}
use Rattle.std.specs.Prelude.{if◌then◌else◌, slice_get}
use Rattle.tracing_core_fields.specs.PlainMetadata.{PlainMetadata}
use Rattle.tracing_core.specs.InterestsAndHints.{Each, Gives, GivesHint, Joins, Keeps, Raises, RowAsked, heard, level_of}
use Rattle.tracing_core_fields.specs.requests.Interests.{settled, PlainInterest, Covers}
use Rattle.tracing_core_fields.specs.requests.Calls.{CallsiteRegistered, HintAsked}
use Rattle.tracing_core.specs.Handles.{subscriber_with, is_of}
use Rattle.tracing_core.specs.CachePreservation.{IsNever, IsOff}
use Rattle.tracing_core_fields.specs.requests.Lists.{Every}
use Rattle.tracing_core.specs.ValidCaches.{AnswersRight, CallsiteRight, HasValidCache, HintRight, IsTrueCallsite, asked_anew}
use Rattle.tracing_core.specs.CacheRefresh.{Formed}
use Rattle.tracing_core.specs.HubInvariant.{Ascends, AreDistinct, IsSound, serials}
use Rattle.tracing_core_fields.specs.requests.Steady.{SameWord}
use Rattle.tracing_core.specs.Table.{Table}
use Rattle.tracing_core_fields.specs.declared.requests.callsite.Callsite.{Ghosts as SiteGhosts}
use Rattle.tracing_core.specs.TableRows.{KeptCallsite, KeptSubscriber}
use Rattle.tracing_core_fields.specs.declared.requests.subscriber.Subscriber.{Ghosts}
use Rattle.tracing_core.proofs.GivenAnswers.{answers_onward, both_words, entry_head, entry_tail, gave_one, gives_heard, gives_keeps}
use Rattle.tracing_core.proofs.GivenAnswers.{kept_own, right_onward, same_word}
use Rattle.tracing_core.proofs.Callsites.{asked_identifiers}
use Rattle.tracing_core.proofs.HubInvariant.{asked_serials, row_true}
use Rattle.tracing_core.proofs.SubscriberNumbers.{each_serials}

module _ {S C : Type 0} (g : Ghosts S) (h : SiteGhosts C) (all : Bool) where
  abbrev Subscribers : Type 0
  Subscribers = List (KeptSubscriber S)

  abbrev Callsites : Type 0
  Callsites = List (KeptCallsite C)

  -- what it says now, and said before
  abbrev SaysTheSame : S → S → Type 0
  SaysTheSame x y = SameWord (g.says x) (g.says y) (g.hint x) (g.hint y)

  -- it is asked, or what it gives otherwise is right
  abbrev Ready : KeptSubscriber S → Type 0 → Type 0
  Ready e Right = (all ≡ true) ⊎ ((e.lent ≡ true) ⊎ Right)

  ready_map : (e f : KeptSubscriber S) (X Y : Type 0) → f.lent ≡ e.lent → (X → Y) → Ready e X → Ready f Y
  ready_map e f X Y same onward (inl asked) = inl asked
  ready_map e f X Y same onward (inr (inl lent)) = inr (inl (same ∙ lent))
  ready_map e f X Y same onward (inr (inr right)) = inr (inr (onward right))

  gives_stays : (b : Bool) (m : PlainMetadata) (i : ℕ) (k : PlainInterest) (e f : KeptSubscriber S) → g.steady e.subscriber →
      Gives g b m i k e f → g.steady f.subscriber × SaysTheSame e.subscriber f.subscriber
  gives_stays true m i k e f steady a = g.stays e.subscriber (CallsiteRegistered m) k f.subscriber a.1 steady
  gives_stays false m i k e f steady (inl a) = g.stays e.subscriber (CallsiteRegistered m) k f.subscriber a.1 steady
  gives_stays false m i k e f steady (inr a) = subst (λ (d : KeptSubscriber S). g.steady d.subscriber × SaysTheSame e.subscriber
      d.subscriber) (sym a.1) (steady, same_word g e.subscriber)

  said : (b : Bool) (m : PlainMetadata) (i : ℕ) (k : PlainInterest) (e f : KeptSubscriber S) → b ≡ all →
      Ready e ((own : PlainInterest) → slice_get e.interests i ≡ Some own → g.says e.subscriber m own) → Gives g b m i k e f →
      g.says e.subscriber m k
  said true m i k e f is ready a = a.0
  said false m i k e f is ready (inl a) = a.0
  said false m i k e f is (inl asked) (inr a) = let both : false ≡ true = is ∙ asked in absurd (cc)
  said false m i k e f is (inr (inl lent)) (inr a) = let both : false ≡ true = sym a.0 ∙ lent in absurd (cc)
  said false m i k e f is (inr (inr right)) (inr a) = right k a.2

  -- the subscriber after all gave their answers: what is kept of each callsite is right of it, and so are its kept answers
  abbrev Heard : ℕ → KeptSubscriber S → Callsites → Subscribers → Type 0
  Heard i e laters fs =
      (f : KeptSubscriber S) × (subscriber_with e.serial fs ≡ Some f) × (f ≡ heard f.subscriber f.interests e) × g.steady f.subscriber
      × SaysTheSame e.subscriber f.subscriber × Every (CallsiteRight g h f.subscriber) laters
      × AnswersRight g h i f.subscriber f.interests laters × ((j : ℕ) → j < i → slice_get f.interests j ≡ slice_get e.interests j)

  rows_heard : (i : ℕ) (e : KeptSubscriber S) (es : Subscribers) (last : ℕ × Subscribers) (callsites laters : Callsites) →
      Ready e (AnswersRight g h i e.subscriber e.interests callsites) → g.steady e.subscriber →
      Each (RowAsked g h all) (i, es) callsites laters last → subscriber_with e.serial es ≡ Some e → Heard i e laters last.1
  rows_heard i e es last [] [] ready steady each there = (
    e,
    subst (λ (p : ℕ × Subscribers). subscriber_with e.serial p.1 ≡ Some e) (sym each) there,
    refl,
    steady,
    same_word g e.subscriber,
    tt,
    tt,
    λ j before. refl,
  )
  rows_heard i e es last [] (later ∷ laters) ready steady each there = absurd each
  rows_heard i e es last (row ∷ callsites) [] ready steady each there = absurd each
  rows_heard i e es last (row ∷ callsites) (later ∷ laters) ready steady each there =
      let m = h.metadata_of row.callsite in
      let turn = each.1.1 in
      let gave = gave_one g all m i e.serial None turn.0.0 es each.0.1 e turn.0.1 there in
      let f = gave.0 in
      let own = gave.1 in
      let became : f ≡ heard f.subscriber f.interests e = gives_heard g all m i own e f gave.3 in
      let keeps : Keeps i own e.interests f.interests = gives_keeps g all m i own e f gave.3 in
      let stays = gives_stays all m i own e f steady gave.3 in
      let says = said all m i own e f refl (ready_map e e _ _ refl (λ right k found. (right.0 k found).0) ready) gave.3 in
      let serial : f.serial ≡ e.serial = ap (λ (d : KeptSubscriber S). d.serial) became in
      let lent : f.lent ≡ e.lent = ap (λ (d : KeptSubscriber S). d.lent) became in
      let onward = answers_onward g h (i + 1) e.subscriber f.subscriber e.interests f.interests callsites stays.1
      (λ j after. keeps.0 j (λ (same : j ≡ i). omega arith)) in
      let next : Each (RowAsked g h all) (i + 1, each.0.1) callsites laters last =
      subst (λ n. Each (RowAsked g h all) (n, each.0.1) callsites laters last) each.1.0 each.2 in
      let rest = rows_heard (i + 1) f each.0.1 last callsites laters (ready_map e f _ _ lent (λ right. onward right.1) ready) stays.0 next
      (subst (λ n. subscriber_with n each.0.1 ≡ Some f) (sym serial) gave.2) in
      let word = both_words g e.subscriber f.subscriber rest.0.subscriber stays.1 rest.4 in
      let right : g.says rest.0.subscriber (h.metadata_of later.callsite) own × Covers later.interest own = (
        subst (λ (n : PlainMetadata). g.says rest.0.subscriber n own) (sym turn.1) (word.onward m own says),
        subst (λ k. Covers k own) (sym turn.0.2) gave.4,
      ) in (
        rest.0,
        subst (λ n. subscriber_with n last.1 ≡ Some rest.0) serial rest.1,
        rest.2 ∙ ap (heard rest.0.subscriber rest.0.interests) became,
        rest.3,
        word,
        ((own, right.0, right.1), rest.5),
        (
          λ k found.
              let same : own ≡ k = kept_own g h (slice_get f.interests i) own k keeps.1 (sym (rest.7 i (omega arith)) ∙ found) in
              subst (λ (n : PlainInterest). g.says rest.0.subscriber (h.metadata_of later.callsite) n × Covers later.interest n) same right,
          rest.6,
        ),
        λ j before. rest.7 j (omega arith) ∙ keeps.0 j (λ (same : j ≡ i). omega arith),
      )

  -- whoever gives a hint keeps it, and counts as not lent
  hinted : (b : Bool) (top : Option ℕ) (e f : KeptSubscriber S) → GivesHint g b top e f →
      f ≡ asked_anew f.subscriber e.interests (Some top) e
  hinted true top e f a = a.2
  hinted false top e f (inl a) = a.2
  hinted false top e f (inr a) =
      let same : e ≡ asked_anew e.subscriber e.interests (Some top) e =
      ap (λ b. record e { lent = b }) a.0 ∙ ap (λ o. record e { lent = false; hint = o }) a.2 in
      subst (λ (d : KeptSubscriber S). d ≡ asked_anew d.subscriber e.interests (Some top) e) (sym a.1) same

  hint_stays : (b : Bool) (top : Option ℕ) (e f : KeptSubscriber S) → g.steady e.subscriber → GivesHint g b top e f →
      g.steady f.subscriber × SaysTheSame e.subscriber f.subscriber
  hint_stays true top e f steady a = g.stays e.subscriber HintAsked (g.hint e.subscriber) f.subscriber a.1 steady
  hint_stays false top e f steady (inl a) = g.stays e.subscriber HintAsked (g.hint e.subscriber) f.subscriber a.1 steady
  hint_stays false top e f steady (inr a) = subst (λ (d : KeptSubscriber S). g.steady d.subscriber × SaysTheSame e.subscriber d.subscriber)
      (sym a.1) (steady, same_word g e.subscriber)

  hint_told : (b : Bool) (top : Option ℕ) (e f : KeptSubscriber S) → b ≡ all → Ready e (HintRight g e.subscriber e.hint) →
      GivesHint g b top e f → top ≡ g.hint e.subscriber
  hint_told true top e f is ready a = a.0
  hint_told false top e f is ready (inl a) = a.0
  hint_told false top e f is (inl asked) (inr a) = let both : false ≡ true = is ∙ asked in absurd (cc)
  hint_told false top e f is (inr (inl lent)) (inr a) = let both : false ≡ true = sym a.0 ∙ lent in absurd (cc)
  hint_told false top e f is (inr (inr right)) (inr a) = right top a.2

  raises_grow : (before last : ℕ) (es fs : Subscribers) → Each (Raises g all) before es fs last → before ≤ last
  raises_grow before last [] [] e = omega arith
  raises_grow before last [] (y ∷ ys) e = absurd e
  raises_grow before last (x ∷ xs) [] e = absurd e
  raises_grow before last (x ∷ xs) (y ∷ ys) e =
      let more : e.0 ≤ last = raises_grow e.0 last xs ys e.2 in
      let top : e.0 ≡ max before (level_of e.1.0) = e.1.2 in
      omega arith

  -- it gave a hint, and the greatest level covers it
  abbrev GaveHint : ℕ → KeptSubscriber S → Subscribers → ℕ → Type 0
  GaveHint n e fs last = (f : KeptSubscriber S) × (top : Option ℕ) × (subscriber_with n fs ≡ Some f) × GivesHint g all top e f ×
      (level_of top ≤ last)

  hint_head : (b : Bool) (n before mid last : ℕ) (x y e : KeptSubscriber S) (xs ys : Subscribers) → is_of n x ≡ b →
      Raises g all before x y mid → Each (Raises g all) mid xs ys last → (if b then Some x else subscriber_with n xs) ≡ Some e →
      (subscriber_with n xs ≡ Some e → GaveHint n e ys last) → GaveHint n e (y ∷ ys) last
  hint_head true n before mid last x y e xs ys is r each there later =
      let same : x ≡ e = cc in
      let here : is_of n y ≡ true = ap (is_of n) (hinted all r.0 x y r.1) ∙ is in
      let more : mid ≤ last = raises_grow mid last xs ys each in
      let top : mid ≡ max before (level_of r.0) = r.2 in
      let below : level_of r.0 ≤ last = omega arith in
      (y, r.0, entry_head n y ys here, subst (λ (d : KeptSubscriber S). GivesHint g all r.0 d y) same r.1, below)
  hint_head false n before mid last x y e xs ys is r each there later =
      let w = later there in
      let away : is_of n y ≡ false = ap (is_of n) (hinted all r.0 x y r.1) ∙ is in
      (w.0, w.1, entry_tail n y ys away ∙ w.2, w.3, w.4)

  gave_hint : (n before last : ℕ) (es fs : Subscribers) (e : KeptSubscriber S) → Each (Raises g all) before es fs last →
      subscriber_with n es ≡ Some e → GaveHint n e fs last
  gave_hint n before last [] fs e each there = absurd (cc)
  gave_hint n before last (x ∷ xs) [] e each there = absurd each
  gave_hint n before last (x ∷ xs) (y ∷ ys) e each there =
      hint_head (is_of n x) n before each.0 last x y e xs ys refl each.1 each.2 there (λ w. gave_hint n each.0 last xs ys e each.2 w)

  hints_serials : (es fs : Subscribers) (k last : ℕ) → Each (Raises g all) k es fs last → serials fs ≡ serials es
  hints_serials es fs k last each =
      each_serials (Raises g all) (λ k j x y r. ap (λ (e : KeptSubscriber S). e.serial) (hinted all r.0 x y r.1)) k last es fs each

  rows_serials : (before after : ℕ × Subscribers) (callsites laters : Callsites) →
      Each (RowAsked g h all) before callsites laters after → serials after.1 ≡ serials before.1
  rows_serials before after [] [] each = ap (λ (p : ℕ × Subscribers). serials p.1) each
  rows_serials before after [] (later ∷ laters) each = absurd each
  rows_serials before after (row ∷ callsites) [] each = absurd each
  rows_serials before after (row ∷ callsites) (later ∷ laters) each = rows_serials each.0 after callsites laters each.2 ∙
      asked_serials h g all (h.metadata_of row.callsite) before.0 before.1 each.0.1 None each.1.1.0.0 each.1.1.0.1

  rows_true : (before after : ℕ × Subscribers) (callsites laters : Callsites) → Each (RowAsked g h all) before callsites laters after →
      Every (IsTrueCallsite h) callsites → Every (IsTrueCallsite h) laters
  rows_true before after [] [] each known = tt
  rows_true before after [] (later ∷ laters) each known = absurd each
  rows_true before after (row ∷ callsites) [] each known = absurd each
  rows_true before after (row ∷ callsites) (later ∷ laters) each known = (
    row_true h g all before.0 before.1 each.0.1 row later each.1.1 known.0,
    rows_true each.0 after callsites laters each.2 known.1,
  )

  module _ (t u : Table S C) (r : Formed g h all t u) where
    -- nobody came or went
    pub formed_serials : serials u.subscribers ≡ serials t.subscribers
    formed_serials = hints_serials r.asked u.subscribers 0 u.greatest r.hints ∙
        rows_serials (0, t.subscribers) (r.callsites.0, r.asked) t.callsites u.callsites r.callsites.1

    formed_true : Every (IsTrueCallsite h) t.callsites → Every (IsTrueCallsite h) u.callsites
    formed_true known = rows_true (0, t.subscribers) (r.callsites.0, r.asked) t.callsites u.callsites r.callsites.1 known

    pub formed_sound : IsSound h t → IsSound h u
    formed_sound sound =
        let next : u.next ≡ t.next = ap (λ (v : Table S C). v.next) r.rest in
        record {
          numbers = subst (λ n. Ascends 0 (serials u.subscribers) n) (sym next)
              (subst (λ ns. Ascends 0 ns t.next) (sym formed_serials) sound.numbers);
          apart = subst AreDistinct
              (sym (asked_identifiers g h all (0, t.subscribers) (r.callsites.0, r.asked) t.callsites u.callsites r.callsites.1)) sound.apart;
          sites = formed_true sound.sites;
        }

    -- whoever is asked, or of whom the cache is valid
    abbrev pub IsHeard : KeptSubscriber S → Type 0
    IsHeard x = (all ≡ true) ⊎ ((x.lent ≡ true) ⊎ HasValidCache g h t x)

    -- then what is kept is right of it, if it is consistent
    pub formed_right : (x : KeptSubscriber S) → IsHeard x → subscriber_with x.serial t.subscribers ≡ Some x → g.steady x.subscriber →
        Every (IsTrueCallsite h) t.callsites →
        (z : S) × (interests : List PlainInterest) × (hint : Option (Option ℕ)) × HasValidCache g h u (asked_anew z interests hint x)
    formed_right x heard there steady known =
        let a = rows_heard 0 x t.subscribers (r.callsites.0, r.asked) t.callsites u.callsites (ready_map x x _ _ refl (λ kept. kept.kept) heard)
        steady r.callsites.1 there in
        let e = a.0 in
        let b = gave_hint x.serial 0 u.greatest r.asked u.subscribers e r.hints a.1 in
        let f = b.0 in
        let lent : e.lent ≡ x.lent = ap (λ (d : KeptSubscriber S). d.lent) a.2 in
        let hint : e.hint ≡ x.hint = ap (λ (d : KeptSubscriber S). d.hint) a.2 in
        let ready : Ready e (HintRight g e.subscriber e.hint) = ready_map x e _ _ lent
        (λ kept top found. kept.hint top (sym hint ∙ found) ∙ sym a.4.same_hint) heard in
        let top : b.1 ≡ g.hint e.subscriber = hint_told all b.1 e f refl ready b.3 in
        let kept = hint_stays all b.1 e f a.3 b.3 in
        let is : f ≡ asked_anew f.subscriber e.interests (Some b.1) x =
        hinted all b.1 e f b.3 ∙ ap (asked_anew f.subscriber e.interests (Some b.1)) a.2 in
        let told : b.1 ≡ g.hint f.subscriber = top ∙ sym kept.1.same_hint in (
          f.subscriber,
          e.interests,
          Some b.1,
          record {
            stands = b.2 ∙ ap (λ (d : KeptSubscriber S). Some d) is;
            unlent = refl;
            steady = kept.0;
            callsites = formed_true known;
            right = right_onward g h e.subscriber f.subscriber u.callsites kept.1 a.5;
            below = subst (λ o. level_of o ≤ u.greatest) told b.4;
            kept = answers_onward g h 0 e.subscriber f.subscriber e.interests e.interests u.callsites kept.1 (λ j after. refl) a.6;
            hint = λ o found. let same : b.1 ≡ o = cc in sym same ∙ told;
          },
        )

  answers_nobody : (m : PlainMetadata) (i : ℕ) (es fs : Subscribers) (last : Option PlainInterest) → es ≡ [] →
      Each (Joins g all m i) None es fs last → (fs ≡ []) × (last ≡ None)
  answers_nobody m i [] [] last none each = (refl, each)
  answers_nobody m i [] (f ∷ fs) last none each = absurd each
  answers_nobody m i (e ∷ es) fs last none each = absurd (cc)

  rows_off : (before after : ℕ × Subscribers) (callsites laters : Callsites) → before.1 ≡ [] →
      Each (RowAsked g h all) before callsites laters after → (after.1 ≡ []) × Every IsNever laters
  rows_off before after [] [] none each = (ap (λ (p : ℕ × Subscribers). p.1) each ∙ none, tt)
  rows_off before after [] (later ∷ laters) none each = absurd each
  rows_off before after (row ∷ callsites) [] none each = absurd each
  rows_off before after (row ∷ callsites) (later ∷ laters) none each =
      let turn = each.1.1.0 in
      let nobody = answers_nobody (h.metadata_of row.callsite) before.0 before.1 each.0.1 turn.0 none turn.1 in
      let rest = rows_off each.0 after callsites laters nobody.0 each.2 in
      (rest.0, (turn.2 ∙ ap settled nobody.1, rest.1))

  hints_off : (es fs : Subscribers) (last : ℕ) → es ≡ [] → Each (Raises g all) 0 es fs last → last ≡ 0
  hints_off [] [] last none each = each
  hints_off [] (f ∷ fs) last none each = absurd each
  hints_off (e ∷ es) fs last none each = absurd (cc)

  -- where there is nobody, all is off
  pub formed_off : (t u : Table S C) → Formed g h all t u → t.subscribers ≡ [] → IsOff u
  formed_off t u r none =
      let callsites = rows_off (0, t.subscribers) (r.callsites.0, r.asked) t.callsites u.callsites none r.callsites.1 in
      (hints_off r.asked u.subscribers u.greatest callsites.0 r.hints, callsites.1)
