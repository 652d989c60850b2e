-- A stack of honest filters is consistent.
use Rattle.std.specs.Prelude.{◌≡◌, ◌⊎◌, ◌++◌, ℕ, Bool, true, false, if◌then◌else◌, List, [], ◌∷◌, map, Option, Some, None, refl}
use Rattle.std.specs.List.{list_any}
use Rattle.std.proofs.Common.{inl, inr, ap, sym, ◌∙◌, subst, arith, true≢false}
use Rattle.tracing_core_fields.specs.requests.Interests.{joined, PlainInterest, common, Covers}
use Rattle.tracing_core_moments.specs.declared.at.At.{At}
use Rattle.tracing_core_fields.specs.requests.Calls.{Call, ReplyTo, DispatchRegistered, CallsiteRegistered, Asked, HintAsked, SpanMade}
use Rattle.tracing_core_fields.specs.requests.Calls.{Recorded, FollowsRecorded, EventAsked, EventDispatched, Entered, Exited, Cloned}
use Rattle.tracing_core_fields.specs.requests.Calls.{Dropped, CloseTried, CurrentAsked}
use Rattle.tracing_core_fields.specs.declared.requests.interest.InterestInner.TheVariants.{Never, Sometimes, Always}
use Rattle.tracing_core_fields.specs.requests.Lists.{Every}
use Rattle.tracing_core_fields.specs.PlainMetadata.{PlainMetadata, is_same_metadata-decides}
use Rattle.tracing_core_fields.specs.requests.Steady.{Agrees, HintFits, InterestFits, SameWord}
use Rattle.span_registry_layers_store.specs.Registries.{RegistryValue}
use Rattle.span_registry_layers_layers.specs.Combined.{Either, Else, either_hint}
use Rattle.span_registry_layers_layers.specs.Honesty.{One}
use Rattle.span_registry_layers_layers.specs.declared.filter.Filter.{Ghosts}
use Rattle.span_registry_layers_layers.specs.declared.filtered.Filtered.{Filtered}
use Rattle.span_registry_layers_layers.specs.declared.layer.Layer.{Ghosts as LayerGhosts}
use Rattle.span_registry_layers.specs.CommonAnswers.{CommonInterest, InterestFrom, SomePasses, common_hint}
use Rattle.span_registry_layers.specs.Caches.{Refuses, all_below, all_never, by_hint, either_true, never_known}
use Rattle.span_registry_layers.specs.Moves.{Moves}
use Rattle.span_registry_layers.specs.OutputSlots.{EachBecomes, filters_of, view_of}
use Rattle.span_registry_layers.specs.InterestCache.{CachesInterestIf, PlainCachedInterest, is_of, is_refused_by, renewed}
use Rattle.span_registry_layers.specs.Stacks.{PassesCached, PassesUnless, Registers, StackValue, cleared, is_above, is_refused, with_hint}
use Rattle.span_registry_layers.specs.Steps.{PreservesFilters, Steps, clone_keeps, close_keeps, dispatch_keeps, enter_keeps, event_keeps}
use Rattle.span_registry_layers.specs.Steps.{exit_keeps, follows_keeps, keeps_same, keeps_word, question_keeps, record_keeps, span_keeps}
use Rattle.span_registry_layers.specs.Questions.{question_alike}
use Rattle.span_registry_layers.specs.CacheValidity.{HintOver, Knows, CacheIsValid, CacheIsValidFor}
use Rattle.span_registry_layers.specs.declared.output_slot.OutputSlot.{OutputSlot}

covers_self : (j : PlainInterest) → Covers j j
covers_self Never = refl
covers_self Sometimes = tt
covers_self Always = refl

covers_left : (f j k : PlainInterest) → Covers f (common j k) → Covers f j
covers_left Never Never k h = refl
covers_left Never Sometimes k h = absurd (cc)
covers_left Never Always Never h = absurd (cc)
covers_left Never Always Sometimes h = absurd (cc)
covers_left Never Always Always h = absurd (cc)
covers_left Sometimes j k h = tt
covers_left Always Never Never h = absurd (cc)
covers_left Always Never Sometimes h = absurd (cc)
covers_left Always Never Always h = absurd (cc)
covers_left Always Sometimes k h = absurd (cc)
covers_left Always Always k h = refl

common_swap : (j k : PlainInterest) → common j k ≡ common k j
common_swap Never Never = refl
common_swap Never Sometimes = refl
common_swap Never Always = refl
common_swap Sometimes Never = refl
common_swap Sometimes Sometimes = refl
common_swap Sometimes Always = refl
common_swap Always Never = refl
common_swap Always Sometimes = refl
common_swap Always Always = refl

abbrev or_common : Option PlainInterest → PlainInterest → PlainInterest
or_common None k = k
or_common (Some j) k = common j k

joined_is : (before : Option PlainInterest) (k : PlainInterest) → joined before k ≡ Some (or_common before k)
joined_is None k = refl
joined_is (Some j) k = refl

covers_last : (f k : PlainInterest) (before : Option PlainInterest) → Covers f (or_common before k) → Covers f k
covers_last f k None h = h
covers_last f k (Some j) h = covers_left f k j (rw common_swap at h)

over_joined : (h own : Option ℕ) → HintOver own (either_hint h own)
over_joined None own = tt
over_joined (Some a) None = tt
over_joined (Some a) (Some b) = omega arith

over_more : (h own x : Option ℕ) → HintOver own h → HintOver own (either_hint h x)
over_more None own x w = tt
over_more (Some a) own None w = tt
over_more (Some a) None (Some b) w = absurd w
over_more (Some a) (Some c) (Some b) w = omega arith

fits_own : (k j : PlainInterest) (p : Bool) → Covers k j → InterestFits j p → InterestFits k p
fits_own Never j p cv kf = rw cv at kf
fits_own Sometimes j p cv kf = tt
fits_own Always j p cv kf = rw cv at kf

below_where : (h : Option ℕ) (level : ℕ) (p : Bool) → (is_above h level ≡ true → p ≡ false) → HintFits h level p
below_where None level p f = tt
below_where (Some top) level p f = λ lt. f (grind arith)

-- nobody is there who always passes it
none_always : Always ≡ Never → ⊥
none_always e = absurd (cc)

first_passes : (p b : Bool) (Q : Bool → Type 0) → p ≡ true → Else Q p b → b ≡ true
first_passes true b Q e w = w
first_passes false b Q e w = absurd (true≢false (sym e))

else_one : (p a b : Bool) (Q : Bool → Type 0) → One Q → Else Q p a → Else Q p b → a ≡ b
else_one true a b Q one x y = x ∙ sym y
else_one false a b Q one x y = one a b x y

either_one : (P Q : Bool → Type 0) → One P → One Q → One (Either P Q)
either_one P Q f h a b x y = else_one x.0 a b Q h x.2 (subst (λ p. Else Q p b) (f y.0 x.0 y.1 x.1) y.2)

module _ {F : Type 0} (g : Ghosts F) where
  over_start : (fs : List F) (h own : Option ℕ) → HintOver own h → HintOver own (common_hint g h fs)
  over_start [] h own w = w
  over_start (f ∷ fs) h own w = over_start fs (either_hint h (g.hint f)) own (over_more h own (g.hint f) w)

  pub hints_over : (fs : List F) (h : Option ℕ) → Every (λ f. HintOver (g.hint f) (common_hint g h fs)) fs
  hints_over [] h = tt
  hints_over (f ∷ fs) h = (
    over_start fs (either_hint h (g.hint f)) (g.hint f) (over_joined h (g.hint f)),
    hints_over fs (either_hint h (g.hint f)),
  )

  pub word_hinted : {L : Type 0} (s : StackValue (Filtered L F)) → CacheIsValid g s →
      CacheIsValid g (with_hint (common_hint g (Some 0) (filters_of s.rows)) s)
  word_hinted s w = record { honest = w.honest; interests = w.interests; hints = hints_over (filters_of s.rows) (Some 0) }

  hint_step : (fs gs : List F) (h : Option ℕ) → Every (λ f. g.honest f) fs → EachBecomes (Steps g) fs gs →
      common_hint g h gs ≡ common_hint g h fs
  hint_step [] [] h w a = refl
  hint_step [] (y ∷ ys) h w a = absurd a
  hint_step (x ∷ xs) [] h w a = absurd a
  hint_step (x ∷ xs) (y ∷ ys) h w a = ap (λ own. common_hint g (either_hint h own) ys) (a.0 w.0).1.same_hint ∙
      hint_step xs ys (either_hint h (g.hint x)) w.1 a.1

  interest_step : (m : PlainMetadata) (fs gs : List F) (before : Option PlainInterest) (k : PlainInterest) → Every (λ f. g.honest f) fs →
      EachBecomes (Steps g) fs gs → InterestFrom g m before fs k → InterestFrom g m before gs k
  interest_step m [] [] before k w a n = n
  interest_step m [] (y ∷ ys) before k w a n = absurd a
  interest_step m (x ∷ xs) [] before k w a n = absurd a
  interest_step m (x ∷ xs) (y ∷ ys) before k w a n =
      (n.0, (a.0 w.0).1.onward m n.0 n.1, interest_step m xs ys (joined before n.0) k w.1 a.1 n.2)

  interest_back : (m : PlainMetadata) (fs gs : List F) (before : Option PlainInterest) (k : PlainInterest) → Every (λ f. g.honest f) fs →
      EachBecomes (Steps g) fs gs → InterestFrom g m before gs k → InterestFrom g m before fs k
  interest_back m [] [] before k w a n = n
  interest_back m [] (y ∷ ys) before k w a n = absurd a
  interest_back m (x ∷ xs) [] before k w a n = absurd a
  interest_back m (x ∷ xs) (y ∷ ys) before k w a n =
      (n.0, (a.0 w.0).1.back m n.0 n.1, interest_back m xs ys (joined before n.0) k w.1 a.1 n.2)

  covers_start : (m : PlainMetadata) (fs : List F) (j k : PlainInterest) → InterestFrom g m (Some j) fs k → Covers k j
  covers_start m [] j k w = subst (λ i. Covers i j) (sym w) (covers_self j)
  covers_start m (f ∷ fs) j k w = covers_left k j w.0 (covers_start m fs (common j w.0) k w.2)

  known_from : (m : PlainMetadata) (fs : List F) (before : Option PlainInterest) (k : PlainInterest) → InterestFrom g m before fs k →
      Every (Knows g m k) fs
  known_from m [] before k w = tt
  known_from m (f ∷ fs) before k w = (
    (
      w.0,
      w.1,
      covers_last k w.0 before
          (covers_start m fs (or_common before w.0) k (subst (λ j. InterestFrom g m j fs k) (joined_is before w.0) w.2)),
    ),
    known_from m fs (joined before w.0) k w.2,
  )

  all_known : (m : PlainMetadata) (fs : List F) (k : PlainInterest) → CommonInterest g m fs k → Every (Knows g m k) fs
  all_known m fs k w = known_from m fs None k w

  module _ {L : Type 0} where
    refused_by_all : (m : PlainMetadata) (at : At) (x : RegistryValue) (rows : List (OutputSlot (Filtered L F))) (b : Bool) →
        Every (Refuses g m) (filters_of rows) → SomePasses g m at x rows b → b ≡ false
    refused_by_all m at x [] b w given = given
    refused_by_all m at x (row ∷ rows) b w given =
        after_refusal given.0 b (w.0 (view_of at x row) given.0 given.1) (refused_by_all m at x rows b w.1) given.2
      where
        after_refusal : (p b : Bool) → p ≡ false → (SomePasses g m at x rows b → b ≡ false) → Else (SomePasses g m at x rows) p b →
            b ≡ false
        after_refusal true b e f given = absurd (true≢false e)
        after_refusal false b e f given = f given

    any_fits : (m : PlainMetadata) (at : At) (x : RegistryValue) (k : PlainInterest) (rows : List (OutputSlot (Filtered L F))) (b : Bool) →
        Every (λ f. g.honest f) (filters_of rows) → CommonInterest g m (filters_of rows) k → SomePasses g m at x rows b → InterestFits k b
    any_fits m at x Never rows b honest says given =
        refused_by_all m at x rows b (all_never g m (filters_of rows) honest (all_known m (filters_of rows) Never says)) given
    any_fits m at x Sometimes rows b honest says given = tt
    any_fits m at x Always [] b honest says given = absurd (none_always says)
    any_fits m at x Always (row ∷ rows) b honest says given =
        let known = (all_known m (filters_of (row ∷ rows)) Always says).0 in
        first_passes given.0 b (SomePasses g m at x rows)
        (fits_own Always known.0 given.0 known.2 ((g.fair row.output.filter honest.0).interest m (view_of at x row) given.0 known.0 given.1
        known.1)) given.2

    -- what is kept refuses nothing that every filter always passes
    not_refused : (m : PlainMetadata) (at : At) (x : RegistryValue) (h : Option ℕ) (interest_cache : List PlainCachedInterest)
        (rows : List (OutputSlot (Filtered L F))) → CacheIsValidFor g (filters_of rows) interest_cache h →
        CommonInterest g m (filters_of rows) Always →
        (is_above h m.level ≡ true) ⊎ (list_any (is_refused_by m) interest_cache ≡ true) → ⊥
    not_refused m at x h interest_cache [] w says e = none_always says
    not_refused m at x h interest_cache (row ∷ rows) w says (inl above) =
        let f = row.output.filter in
        let known = (all_known m (filters_of (row ∷ rows)) Always says).0 in
        let always : g.says f m Always = subst (g.says f m) known.2 known.1 in
        true≢false (by_hint (g.hint f) h m.level true ((g.firm f w.honest.0).below m (view_of at x row) always) w.hints.0 above)
    not_refused m at x h interest_cache (row ∷ rows) w says (inr never) =
        let f = row.output.filter in
        let known = (all_known m (filters_of (row ∷ rows)) Always says).0 in
        let kept = (never_known g m (filters_of (row ∷ rows)) interest_cache never w.interests).0 in
        none_always ((g.firm f w.honest.0).one m Always Never (subst (g.says f m) known.2 known.1) (subst (g.says f m) kept.2 kept.1))

    pub refused_fits : (s : StackValue (Filtered L F)) (m : PlainMetadata) (at : At) (k : PlainInterest) → CacheIsValid g s →
        is_refused s m ≡ true → CommonInterest g m (filters_of s.rows) k → InterestFits k false
    refused_fits s m at Never w e says = refl
    refused_fits s m at Sometimes w e says = tt
    refused_fits s m at Always w e says =
        absurd (not_refused m at s.registry s.hint s.interest_cache s.rows w says
        (either_true (is_above s.hint m.level) (list_any (is_refused_by m) s.interest_cache) e))

    passes_fits : (s : StackValue (Filtered L F)) (m : PlainMetadata) (at : At) (b : Bool) (k : PlainInterest) → CacheIsValid g s →
        (c : Bool) → is_refused s m ≡ c → PassesUnless g c s m at b → CommonInterest g m (filters_of s.rows) k → InterestFits k b
    passes_fits s m at b k w true e given says = subst (InterestFits k) (sym given) (refused_fits s m at k w e says)
    passes_fits s m at b k w false e given says = any_fits m at s.registry k s.rows b w.honest says given

    passes_refused : (s : StackValue (Filtered L F)) (m : PlainMetadata) (at : At) (b : Bool) → Every (Refuses g m) (filters_of s.rows) →
        (c : Bool) → PassesUnless g c s m at b → b ≡ false
    passes_refused s m at b w true given = given
    passes_refused s m at b w false given = refused_by_all m at s.registry s.rows b w given

    pub stack_fair : (s : StackValue (Filtered L F)) → CacheIsValid g s →
        Agrees (PassesCached g s) (λ m k. CommonInterest g m (filters_of s.rows) k) (common_hint g (Some 0) (filters_of s.rows))
    stack_fair s w =
        let fs = filters_of s.rows in
        record {
          interest = λ m at b k real a e. passes_fits s m at b k w (is_refused s m) refl a e;
          below = λ m at b real a.
              below_where (common_hint g (Some 0) fs) m.level b
              (λ above. passes_refused s m at b (all_below g m (common_hint g (Some 0) fs) fs above w.honest (hints_over fs (Some 0)))
              (is_refused s m) a);
        }

    some_one : (m : PlainMetadata) (at : At) (x : RegistryValue) (rows : List (OutputSlot (Filtered L F))) →
        Every (λ f. g.honest f) (filters_of rows) → One (SomePasses g m at x rows)
    some_one m at x [] w a b p q = p ∙ sym q
    some_one m at x (row ∷ rows) w a b p q =
        either_one (g.answers row.output.filter m (view_of at x row)) (SomePasses g m at x rows)
        ((g.single row.output.filter w.0).callsite m (view_of at x row)) (some_one m at x rows w.1) a b p q

    passes_one : (s : StackValue (Filtered L F)) (m : PlainMetadata) (at : At) → CacheIsValid g s → (c : Bool) →
        One (PassesUnless g c s m at)
    passes_one s m at w true a b p q = p ∙ sym q
    passes_one s m at w false a b p q = some_one m at s.registry s.rows w.honest a b p q

    -- asked twice in one place, it answers the same
    pub stack_single : (s : StackValue (Filtered L F)) (m : PlainMetadata) (at : At) (a b : Bool) → CacheIsValid g s →
        PassesCached g s m at a → PassesCached g s m at b → a ≡ b
    stack_single s m at a b w x y = passes_one s m at w (is_refused s m) a b x y

  -- an interest that is right is kept
  renewed_right : (b : Bool) (m : PlainMetadata) (k : PlainInterest) (fs : List F) (site : PlainCachedInterest) → is_of m site ≡ b →
      Every (Knows g m k) fs → Every (Knows g site.metadata site.interest) fs →
      Every (Knows g (renewed m k site).metadata (renewed m k site).interest) fs
  renewed_right true m k fs site e new old =
      subst (λ (c : PlainCachedInterest). Every (Knows g c.metadata c.interest) fs)
      (sym (ap (λ b. if b then record site { interest = k } else site) e))
      (subst (λ n. Every (Knows g n k) fs) (sym ((is_same_metadata-decides site.metadata m).0 e)) new)
  renewed_right false m k fs site e new old = subst (λ (c : PlainCachedInterest). Every (Knows g c.metadata c.interest) fs)
      (sym (ap (λ b. if b then record site { interest = k } else site) e)) old

  all_renewed : (m : PlainMetadata) (k : PlainInterest) (fs : List F) (interest_cache : List PlainCachedInterest) → Every (Knows g m k) fs →
      Every (λ site. Every (Knows g site.metadata site.interest) fs) interest_cache →
      Every (λ site. Every (Knows g site.metadata site.interest) fs) (map (renewed m k) interest_cache)
  all_renewed m k fs [] new w = tt
  all_renewed m k fs (site ∷ interest_cache) new w =
      (renewed_right (is_of m site) m k fs site refl new w.0, all_renewed m k fs interest_cache new w.1)

  every_append : {A : Type 0} (P : A → Type 0) (xs : List A) (x : A) → Every P xs → P x → Every P (xs ++ x ∷ [])
  every_append P [] x w p = (p, tt)
  every_append P (y ∷ ys) x w p = (w.0, every_append P ys x w.1 p)

  sites_kept : (b : Bool) (m : PlainMetadata) (k : PlainInterest) (fs : List F) (interest_cache later : List PlainCachedInterest) →
      CachesInterestIf b m k interest_cache later → Every (Knows g m k) fs → Every (λ site. Every (Knows g site.metadata site.interest) fs)
      interest_cache → Every (λ site. Every (Knows g site.metadata site.interest) fs) later
  sites_kept true m k fs interest_cache later e new w = subst (Every (λ site. Every (Knows g site.metadata site.interest) fs)) (sym e)
      (all_renewed m k fs interest_cache new w)
  sites_kept false m k fs interest_cache later (inl e) new w = subst (Every (λ site. Every (Knows g site.metadata site.interest) fs))
      (sym e) w
  sites_kept false m k fs interest_cache later (inr e) new w =
      subst (Every (λ site. Every (Knows g site.metadata site.interest) fs)) (sym e)
      (every_append (λ (site : PlainCachedInterest). Every (Knows g site.metadata site.interest) fs) interest_cache
      (record { metadata = m; interest = k }) w new)

  pub word_registered : {L : Type 0} (s t : StackValue (Filtered L F)) (m : PlainMetadata) (k : PlainInterest) →
      CommonInterest g m (filters_of s.rows) k → Registers m k s t → CacheIsValid g s → CacheIsValid g t
  word_registered s t m k says kept w =
      let fs = filters_of s.rows in
      subst (CacheIsValid g) (sym kept.1)
      (record {
        honest = w.honest;
        interests = sites_kept (list_any (is_of m) s.interest_cache) m k fs s.interest_cache t.interest_cache kept.0 (all_known m fs k says)
            w.interests;
        hints = w.hints;
      })

module _ {L F : Type 0} (g : Ghosts F) (h : LayerGhosts L) where
  abbrev SameWords : StackValue (Filtered L F) → StackValue (Filtered L F) → Type 0
  SameWords s t = SameWord (λ m k. CommonInterest g m (filters_of s.rows) k) (λ m k. CommonInterest g m (filters_of t.rows) k)
      (common_hint g (Some 0) (filters_of s.rows)) (common_hint g (Some 0) (filters_of t.rows))

  pub same_word : (s t : StackValue (Filtered L F)) → CacheIsValid g s → PreservesFilters g h s t →
      SameWord (λ m k. CommonInterest g m (filters_of s.rows) k) (λ m k. CommonInterest g m (filters_of t.rows) k)
      (common_hint g (Some 0) (filters_of s.rows)) (common_hint g (Some 0) (filters_of t.rows))
  same_word s t w k =
      record {
        onward = λ m j says. interest_step g m (filters_of s.rows) (filters_of t.rows) None j w.honest k.steps says;
        back = λ m j says. interest_back g m (filters_of s.rows) (filters_of t.rows) None j w.honest k.steps says;
        same_hint = hint_step g (filters_of s.rows) (filters_of t.rows) (Some 0) w.honest k.steps;
      }

  after_keeping : (s t : StackValue (Filtered L F)) → CacheIsValid g s → PreservesFilters g h s t → CacheIsValid g t × SameWords s t
  after_keeping s t w k = (keeps_word g h s t k w, same_word s t w k)

  same_filters : (s t : StackValue (Filtered L F)) → filters_of t.rows ≡ filters_of s.rows → SameWords s t
  same_filters s t e =
      record {
        onward = λ m k says. subst (λ fs. CommonInterest g m fs k) (sym e) says;
        back = λ m k says. subst (λ fs. CommonInterest g m fs k) e says;
        same_hint = ap (common_hint g (Some 0)) e;
      }

  pub stack_stays : (s : StackValue (Filtered L F)) (c : Call) (r : ReplyTo c) (t : StackValue (Filtered L F)) → Moves g h s c r t →
      CacheIsValid g s → CacheIsValid g t × SameWords s t
  stack_stays s (DispatchRegistered dispatch) r t m w = after_keeping s t w (dispatch_keeps g h dispatch s t m)
  stack_stays s (CallsiteRegistered n) r t m w =
      (word_registered g s t n r m.0 m.1 w, same_filters s t (ap (λ (v : StackValue (Filtered L F)). filters_of v.rows) m.1.1))
  stack_stays s (Asked n at) r t m w = after_keeping s t w (question_keeps g h (is_refused s n) n at s t m.0)
  stack_stays s HintAsked r t m w = (
    subst (CacheIsValid g) (sym (m.1 ∙ ap (λ hint. with_hint hint s) m.0)) (word_hinted g s w),
    same_filters s t (ap (λ (v : StackValue (Filtered L F)). filters_of v.rows) m.1),
  )
  stack_stays s (SpanMade a at) r t m w = after_keeping s t w (span_keeps g h a at s t r m)
  stack_stays s (Recorded id values at) r t m w = after_keeping s t w (record_keeps g h id values at s t r m)
  stack_stays s (FollowsRecorded id follows at) r t m w = after_keeping s t w (follows_keeps g h id follows at s t r m)
  stack_stays s (EventAsked e at) r t m w = after_keeping s t w (keeps_same g h s t m.1)
  stack_stays s (EventDispatched e at) r t m w = after_keeping s t w (event_keeps g h e at s t r m)
  stack_stays s (Entered id at) r t m w = after_keeping s t w (enter_keeps g h id at s t r m)
  stack_stays s (Exited id at) r t m w = after_keeping s t w (exit_keeps g h id at s t m)
  stack_stays s (Cloned id at) r t m w = after_keeping s t w (clone_keeps g h id s t r m)
  stack_stays s (Dropped id at) r t m w = after_keeping s t w (close_keeps g h id at s t m.0 m.1)
  stack_stays s (CloseTried id at) r t m w = after_keeping s t w (close_keeps g h id at s t r m)
  stack_stays s (CurrentAsked at) r t m w = after_keeping s t w (keeps_same g h s t m.1)

  pub asked_stays : (s : StackValue (Filtered L F)) (m : PlainMetadata) (at : At) (r : Bool) (t : StackValue (Filtered L F)) →
      Moves g h s (Asked m at) r t → cleared t ≡ cleared s
  asked_stays s m at r t w = question_alike g (is_refused s m) m at s t w.0
