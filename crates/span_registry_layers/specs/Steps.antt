-- What calls leave of the filters' word.
use Rattle.std.specs.Prelude.{◌≡◌, ◌&&◌, ◌++◌, ℕ, Bool, true, false, List, [], ◌∷◌, map, Option, Some, None, Result, Ok, Err, refl}
use Rattle.std.proofs.Common.{ap, sym, ◌∙◌, subst}
use Rattle.tracing_core_moments.specs.declared.at.At.{At}
use Rattle.tracing_core_fields.specs.requests.Interests.{PlainInterest}
use Rattle.tracing_core_fields.specs.requests.Lists.{Every}
use Rattle.tracing_core_fields.specs.PlainMetadata.{PlainMetadata}
use Rattle.tracing_core_fields.specs.requests.PlainRequests.{PlainAttributes, PlainEvent, PlainValues, explicit_parent}
use Rattle.tracing_core_fields.specs.declared.requests.refusal.RequestError.{RequestError}
use Rattle.tracing_core_fields.specs.requests.Steady.{SameWord}
use Rattle.span_registry_layers_store.specs.RegistryCalls.{close_refusal}
use Rattle.span_registry_layers_store.specs.declared.filter_map.FilterId.{FilterId}
use Rattle.span_registry_layers_store.specs.SlotIndependence.{ids_of}
use Rattle.span_registry_layers_store.specs.Registries.{RegistryValue, closing_in, knows, without_entry, without_handle}
use Rattle.span_registry_layers_layers.specs.FilterViews.{Closed, Entered, Exited, Hook, Recorded, SpanMade, View}
use Rattle.span_registry_layers_layers.specs.Notices.{Dispatched, Followed, Happened, Notice, Spanned}
use Rattle.span_registry_layers_layers.specs.Several.{EachInTurn}
use Rattle.span_registry_layers_layers.specs.declared.filter.Filter.{Ghosts}
use Rattle.span_registry_layers_layers.specs.declared.filtered.Filtered.{Filtered}
use Rattle.span_registry_layers_layers.specs.declared.layer.Layer.{Ghosts as LayerGhosts}
use Rattle.span_registry_layers.specs.Calls.{CloneGives, CloseGives, CloseUnless, Closes, EnterGives, ExitGives, FollowsGives, MakesSpan}
use Rattle.span_registry_layers.specs.Calls.{NewSpanUnless, RecordGives, SpanCached, SpanKnown, SpanUnless, SpanWhere, WhereTaken, over}
use Rattle.span_registry_layers.specs.OutputSlots.{AsksCallsite, AsksEventBy, EachBecomes, TellsEvent, TellsIf, filters_of, marked, numbers_of}
use Rattle.span_registry_layers.specs.OutputSlots.{view_of}
use Rattle.span_registry_layers.specs.InterestCache.{PlainCachedInterest}
use Rattle.span_registry_layers.specs.SpanNotices.{ClosesEach, HearsIf, TellsDispatch, TellsFollows, TellsMade, TellsSpan, sees}
use Rattle.span_registry_layers.specs.Stacks.{EventCached, EventUnless, MarksUnless, RowsBecome, RowsInTurn, StackValue, TellsUnless}
use Rattle.span_registry_layers.specs.Stacks.{WhereKnown}
use Rattle.span_registry_layers.specs.Stacks.{cleared, is_refused}
use Rattle.span_registry_layers.specs.CacheValidity.{HintOver, Knows, CacheIsValid, CacheIsValidFor}
use Rattle.span_registry_layers.specs.declared.output_slot.OutputSlot.{OutputSlot}

module _ {F : Type 0} (g : Ghosts F) where
  -- an honest filter stays one, and says what it said
  abbrev pub Steps : F → F → Type 0
  Steps f later = g.honest f → g.honest later × SameWord (g.says f) (g.says later) (g.hint f) (g.hint later)

  pub stays_put : (f later : F) → later ≡ f → Steps f later
  stays_put f later e = subst (Steps f) (sym e) (λ k. (k, record { onward = λ m j s. s; back = λ m j s. s; same_hint = refl }))

  then_steps : (a b c : F) → Steps a b → Steps b c → Steps a c
  then_steps a b c f k =
      λ good.
      let one = f good in
      let two = k one.0 in (
        two.0,
        record {
          onward = λ m j s. two.1.onward m j (one.1.onward m j s);
          back = λ m j s. one.1.back m j (two.1.back m j s);
          same_hint = two.1.same_hint ∙ one.1.same_hint;
        },
      )

  pub each_then : (xs ys zs : List F) → EachBecomes Steps xs ys → EachBecomes Steps ys zs → EachBecomes Steps xs zs
  each_then [] [] [] a b = tt
  each_then [] [] (z ∷ zs) a b = absurd b
  each_then [] (y ∷ ys) zs a b = absurd a
  each_then (x ∷ xs) [] zs a b = absurd a
  each_then (x ∷ xs) (y ∷ ys) [] a b = absurd b
  each_then (x ∷ xs) (y ∷ ys) (z ∷ zs) a b = (then_steps x y z a.0 b.0, each_then xs ys zs a.1 b.1)

  pub each_put : (xs : List F) → EachBecomes Steps xs xs
  each_put [] = tt
  each_put (x ∷ xs) = (stays_put x x refl, each_put xs)

  honest_step : (xs ys : List F) → EachBecomes Steps xs ys → Every (λ f. g.honest f) xs → Every (λ f. g.honest f) ys
  honest_step [] [] a w = tt
  honest_step [] (y ∷ ys) a w = absurd a
  honest_step (x ∷ xs) [] a w = absurd a
  honest_step (x ∷ xs) (y ∷ ys) a w = ((a.0 w.0).0, honest_step xs ys a.1 w.1)

  knows_step : (m : PlainMetadata) (k : PlainInterest) (xs ys : List F) → EachBecomes Steps xs ys → Every (λ f. g.honest f) xs →
      Every (Knows g m k) xs → Every (Knows g m k) ys
  knows_step m k [] [] a w n = tt
  knows_step m k [] (y ∷ ys) a w n = absurd a
  knows_step m k (x ∷ xs) [] a w n = absurd a
  knows_step m k (x ∷ xs) (y ∷ ys) a w n = ((n.0.0, (a.0 w.0).1.onward m n.0.0 n.0.1, n.0.2), knows_step m k xs ys a.1 w.1 n.1)

  sites_step : (interest_cache : List PlainCachedInterest) (xs ys : List F) → EachBecomes Steps xs ys → Every (λ f. g.honest f) xs →
      Every (λ site. Every (Knows g site.metadata site.interest) xs) interest_cache →
      Every (λ site. Every (Knows g site.metadata site.interest) ys) interest_cache
  sites_step [] xs ys a w n = tt
  sites_step (c ∷ cs) xs ys a w n = (knows_step c.metadata c.interest xs ys a w n.0, sites_step cs xs ys a w n.1)

  hints_step : (kept : Option ℕ) (xs ys : List F) → EachBecomes Steps xs ys → Every (λ f. g.honest f) xs →
      Every (λ f. HintOver (g.hint f) kept) xs → Every (λ f. HintOver (g.hint f) kept) ys
  hints_step kept [] [] a w n = tt
  hints_step kept [] (y ∷ ys) a w n = absurd a
  hints_step kept (x ∷ xs) [] a w n = absurd a
  hints_step kept (x ∷ xs) (y ∷ ys) a w n =
      (subst (λ own. HintOver own kept) (sym (a.0 w.0).1.same_hint) n.0, hints_step kept xs ys a.1 w.1 n.1)

  pub word_step : (interest_cache : List PlainCachedInterest) (kept : Option ℕ) (xs ys : List F) → EachBecomes Steps xs ys →
      CacheIsValidFor g xs interest_cache kept → CacheIsValidFor g ys interest_cache kept
  word_step interest_cache kept xs ys a w =
      record {
        honest = honest_step xs ys a w.honest;
        interests = sites_step interest_cache xs ys a w.honest w.interests;
        hints =
            hints_step kept xs ys a w.honest w.hints;
      }

module _ {L F : Type 0} (g : Ghosts F) (h : LayerGhosts L) where
  -- an output's key stays, and so do those that its layer writes under
  abbrev pub SameKeys : OutputSlot (Filtered L F) → OutputSlot (Filtered L F) → Type 0
  SameKeys row later = (later.key ≡ row.key) × ((key : ℕ) → h.keys later.output.layer key ≡ h.keys row.output.layer key)

  -- an output's filter steps, and the numbers of its filters stay, as its keys do
  abbrev pub Stepped : OutputSlot (Filtered L F) → OutputSlot (Filtered L F) → Type 0
  Stepped row later = Steps g row.output.filter later.output.filter × (later.id ≡ row.id) ×
      (h.numbers later.output.layer ≡ h.numbers row.output.layer) × SameKeys row later

  stepped_put : (row later : OutputSlot (Filtered L F)) → later.output.filter ≡ row.output.filter → later.id ≡ row.id →
      h.numbers later.output.layer ≡ h.numbers row.output.layer → SameKeys row later → Stepped row later
  stepped_put row later e n l k = (stays_put g row.output.filter later.output.filter e, n, l, k)

  -- each filter stays honest and says what it said, and what is kept stays
  pub record PreservesFilters (s t : StackValue (Filtered L F)) : Type 0 where
    pub steps : EachBecomes (Steps g) (filters_of s.rows) (filters_of t.rows)
    pub interest_cache : t.interest_cache ≡ s.interest_cache
    pub hint : t.hint ≡ s.hint
    pub numbers : numbers_of h t.rows ≡ numbers_of h s.rows
    pub keys : EachBecomes SameKeys s.rows t.rows

  pub keys_put : (rows : List (OutputSlot (Filtered L F))) → EachBecomes SameKeys rows rows
  keys_put [] = tt
  keys_put (row ∷ rows) = ((refl, λ key. refl), keys_put rows)

  keys_then : (rows more later : List (OutputSlot (Filtered L F))) → EachBecomes SameKeys rows more → EachBecomes SameKeys more later →
      EachBecomes SameKeys rows later
  keys_then [] [] [] a b = tt
  keys_then [] [] (l ∷ ls) a b = absurd b
  keys_then [] (m ∷ ms) later a b = absurd a
  keys_then (r ∷ rs) [] later a b = absurd a
  keys_then (r ∷ rs) (m ∷ ms) [] a b = absurd b
  keys_then (r ∷ rs) (m ∷ ms) (l ∷ ls) a b = ((b.0.0 ∙ a.0.0, λ key. b.0.1 key ∙ a.0.1 key), keys_then rs ms ls a.1 b.1)

  pub keeps_word : (s t : StackValue (Filtered L F)) → PreservesFilters s t → CacheIsValid g s → CacheIsValid g t
  keeps_word s t k w =
      subst (λ cs. CacheIsValidFor g (filters_of t.rows) cs t.hint) (sym k.interest_cache)
      (subst (λ kept. CacheIsValidFor g (filters_of t.rows) s.interest_cache kept) (sym k.hint)
      (word_step g s.interest_cache s.hint (filters_of s.rows) (filters_of t.rows) k.steps w))

  pub keeps_same : (s t : StackValue (Filtered L F)) → t ≡ s → PreservesFilters s t
  keeps_same s t e = subst (PreservesFilters s) (sym e)
      (record { steps = each_put g (filters_of s.rows); interest_cache = refl; hint = refl; numbers = refl; keys = keys_put s.rows })

  pub keeps_then : (s t u : StackValue (Filtered L F)) → PreservesFilters s t → PreservesFilters t u → PreservesFilters s u
  keeps_then s t u a b =
      record {
        steps = each_then g (filters_of s.rows) (filters_of t.rows) (filters_of u.rows) a.steps b.steps;
        interest_cache = b.interest_cache ∙ a.interest_cache;
        hint = b.hint ∙ a.hint;
        numbers = b.numbers ∙ a.numbers;
        keys = keys_then s.rows t.rows u.rows a.keys b.keys;
      }

  rows_put : (rows : List (OutputSlot (Filtered L F))) → EachBecomes (Steps g) (filters_of rows) (filters_of (map (marked false) rows))
  rows_put [] = tt
  rows_put (row ∷ rows) = (stays_put g row.output.filter row.output.filter refl, rows_put rows)

  same_numbers : (rows : List (OutputSlot (Filtered L F))) → numbers_of h (map (marked false) rows) ≡ numbers_of h rows
  same_numbers [] = refl
  same_numbers (row ∷ rows) = ap (λ (ns : List ℕ). row.id.index ∷ (h.numbers row.output.layer ++ ns)) (same_numbers rows)

  cleared_keys : (rows : List (OutputSlot (Filtered L F))) → EachBecomes SameKeys rows (map (marked false) rows)
  cleared_keys [] = tt
  cleared_keys (row ∷ rows) = ((refl, λ key. refl), cleared_keys rows)

  pub cleared_keeps : (s t : StackValue (Filtered L F)) → t ≡ cleared s → PreservesFilters s t
  cleared_keeps s t e = subst (PreservesFilters s) (sym e)
      (record { steps = rows_put s.rows; interest_cache = refl; hint = refl; numbers = same_numbers s.rows; keys = cleared_keys s.rows })

  each_steps : (R : OutputSlot (Filtered L F) → OutputSlot (Filtered L F) → Type 0) →
      ((row later : OutputSlot (Filtered L F)) → R row later → Stepped row later) →
      (rows later : List (OutputSlot (Filtered L F))) → EachBecomes R rows later →
      EachBecomes (Steps g) (filters_of rows) (filters_of later)
  each_steps R f [] [] w = tt
  each_steps R f [] (l ∷ ls) w = absurd w
  each_steps R f (r ∷ rs) [] w = absurd w
  each_steps R f (r ∷ rs) (l ∷ ls) w = ((f r l w.0).0, each_steps R f rs ls w.1)

  each_numbers : (R : OutputSlot (Filtered L F) → OutputSlot (Filtered L F) → Type 0) →
      ((row later : OutputSlot (Filtered L F)) → R row later → Stepped row later) → (rows later : List (OutputSlot (Filtered L F))) →
      EachBecomes R rows later → numbers_of h later ≡ numbers_of h rows
  each_numbers R f [] [] w = refl
  each_numbers R f [] (l ∷ ls) w = absurd w
  each_numbers R f (r ∷ rs) [] w = absurd w
  each_numbers R f (r ∷ rs) (l ∷ ls) w =
      ap (λ (id : FilterId). id.index ∷ (h.numbers l.output.layer ++ numbers_of h ls)) (f r l w.0).1
      ∙ ap (λ (ns : List ℕ). r.id.index ∷ (ns ++ numbers_of h ls)) (f r l w.0).2 ∙
      ap (λ (ns : List ℕ). r.id.index ∷ (h.numbers r.output.layer ++ ns)) (each_numbers R f rs ls w.1)

  each_keys : (R : OutputSlot (Filtered L F) → OutputSlot (Filtered L F) → Type 0) →
      ((row later : OutputSlot (Filtered L F)) → R row later → Stepped row later) → (rows later : List (OutputSlot (Filtered L F))) →
      EachBecomes R rows later → EachBecomes SameKeys rows later
  each_keys R f [] [] w = tt
  each_keys R f [] (l ∷ ls) w = absurd w
  each_keys R f (r ∷ rs) [] w = absurd w
  each_keys R f (r ∷ rs) (l ∷ ls) w = ((f r l w.0).3, each_keys R f rs ls w.1)

  dispatched_keep : (R : OutputSlot (Filtered L F) → OutputSlot (Filtered L F) → Type 0) →
      ((row later : OutputSlot (Filtered L F)) → R row later → Stepped row later) → (s t : StackValue (Filtered L F)) → RowsBecome R s t →
      PreservesFilters s t
  dispatched_keep R f s t w =
      record {
        steps = each_steps R f s.rows t.rows w.0;
        interest_cache = ap (λ (v : StackValue (Filtered L F)). v.interest_cache) w.1;
        hint = ap (λ (v : StackValue (Filtered L F)). v.hint) w.1;
        numbers = each_numbers R f s.rows t.rows w.0;
        keys =
            each_keys R f s.rows t.rows w.0;
      }

  turn_steps : (R : RegistryValue → OutputSlot (Filtered L F) → RegistryValue → OutputSlot (Filtered L F) → Type 0) →
      ((x : RegistryValue) (row : OutputSlot (Filtered L F)) (y : RegistryValue) (later : OutputSlot (Filtered L F)) → R x row y later →
      Stepped row later) →
      (x : RegistryValue) (rows : List (OutputSlot (Filtered L F))) (y : RegistryValue) (later : List (OutputSlot (Filtered L F))) →
      EachInTurn R x rows y later → EachBecomes Stepped rows later
  turn_steps R f x [] y [] w = tt
  turn_steps R f x [] y (l ∷ ls) w = absurd w
  turn_steps R f x (r ∷ rs) y [] w = absurd w
  turn_steps R f x (r ∷ rs) y (l ∷ ls) w = (f x r w.0 l w.1, turn_steps R f w.0 rs y ls w.2)

  pub rows_keep : (x : RegistryValue) (R : RegistryValue → OutputSlot (Filtered L F) → RegistryValue → OutputSlot (Filtered L F) → Type 0) →
      ((x : RegistryValue) (row : OutputSlot (Filtered L F)) (y : RegistryValue) (later : OutputSlot (Filtered L F)) → R x row y later →
      Stepped row later) → (s t : StackValue (Filtered L F)) → RowsInTurn R (over x s) t → PreservesFilters s t
  rows_keep x R f s t w =
      let each = turn_steps R f x s.rows t.registry t.rows w.0 in
      record {
        steps = each_steps Stepped (λ row later k. k) s.rows t.rows each;
        interest_cache = ap (λ (v : StackValue (Filtered L F)). v.interest_cache) w.1;
        hint = ap (λ (v : StackValue (Filtered L F)). v.hint) w.1;
        numbers = each_numbers Stepped (λ row later k. k) s.rows t.rows each;
        keys = each_keys Stepped (λ row later k. k) s.rows t.rows each;
      }

  told_if : (b : Bool) (layer : L) (n : View → RegistryValue → Notice) (v : View) (y : RegistryValue) (later : L) →
      (h.told layer (n v y) later → h.numbers later ≡ h.numbers layer) → TellsIf h b layer n v y later → h.numbers later ≡ h.numbers layer
  told_if true layer n v y later f w = f w
  told_if false layer n v y later f w = ap h.numbers w.0

  told_keys : (b : Bool) (layer : L) (n : View → RegistryValue → Notice) (v : View) (y : RegistryValue) (later : L) →
      TellsIf h b layer n v y later → (key : ℕ) → h.keys later key ≡ h.keys layer key
  told_keys true layer n v y later w key = h.keyed layer (n v y) later w key
  told_keys false layer n v y later w key = ap (λ (l : L). h.keys l key) w.0

  same_row : (row later : OutputSlot (Filtered L F)) → later ≡ row → SameKeys row later
  same_row row later e = (
    ap (λ (r : OutputSlot (Filtered L F)). r.key) e,
    λ key. ap (λ (r : OutputSlot (Filtered L F)). h.keys r.output.layer key) e,
  )

  hears_steps : (b : Bool) (id : ℕ) (call : View → Hook) (v : View) (row : OutputSlot (Filtered L F)) (y : RegistryValue)
      (later : OutputSlot (Filtered L F)) → HearsIf g h b id call v row y later → Stepped row later
  hears_steps true id call v row y later w = (
    subst (Steps g row.output.filter) (sym (ap (λ (r : OutputSlot (Filtered L F)). r.output.filter) w.1))
        (g.stays row.output.filter (call v)),
    ap (λ (r : OutputSlot (Filtered L F)). r.id) w.1,
    h.numbered row.output.layer (Spanned id call v y) later.output.layer w.0,
    (ap (λ (r : OutputSlot (Filtered L F)). r.key) w.1, h.keyed row.output.layer (Spanned id call v y) later.output.layer w.0),
  )
  hears_steps false id call v row y later w =
      stepped_put row later (ap (λ (r : OutputSlot (Filtered L F)). r.output.filter) w.0) (ap (λ (r : OutputSlot (Filtered L F)). r.id) w.0)
      (ap (λ (r : OutputSlot (Filtered L F)). h.numbers r.output.layer) w.0) (same_row row later w.0)

  span_steps : (call : View → Hook) (id : ℕ) (at : At) (x : RegistryValue) (row : OutputSlot (Filtered L F)) (y : RegistryValue)
      (later : OutputSlot (Filtered L F)) → TellsSpan g h call id at x row y later → Stepped row later
  span_steps call id at x row y later w = hears_steps (sees x id row) id call (view_of at x row) row y later w

  made_steps : (call : View → Hook) (id : ℕ) (at : At) (x : RegistryValue) (row : OutputSlot (Filtered L F)) (y : RegistryValue)
      (later : OutputSlot (Filtered L F)) → TellsMade g h call id at x row y later → Stepped row later
  made_steps call id at x row y later w = span_steps call id at x (marked (sees x id row) row) y later w

  follows_steps : (id follows : ℕ) (at : At) (x : RegistryValue) (row : OutputSlot (Filtered L F)) (y : RegistryValue)
      (later : OutputSlot (Filtered L F)) → TellsFollows g h id follows at x row y later → Stepped row later
  follows_steps id follows at x row y later w =
      let v = view_of at x row in
      stepped_put row later (ap (λ (r : OutputSlot (Filtered L F)). r.output.filter) w.1) (ap (λ (r : OutputSlot (Filtered L F)). r.id) w.1)
      (told_if (sees x id row && sees x follows row) row.output.layer (Followed id follows) v y later.output.layer
      (h.numbered row.output.layer (Followed id follows v y) later.output.layer) w.0) (
        ap (λ (r : OutputSlot (Filtered L F)). r.key) w.1,
        told_keys (sees x id row && sees x follows row) row.output.layer
            (Followed id follows) v y later.output.layer w.0,
      )

  dispatch_steps : (dispatch : Option ℕ) (row later : OutputSlot (Filtered L F)) → TellsDispatch g h dispatch row later → Stepped row later
  dispatch_steps dispatch row later w =
      stepped_put row later (ap (λ (r : OutputSlot (Filtered L F)). r.output.filter) w.1) (ap (λ (r : OutputSlot (Filtered L F)). r.id) w.1)
      (h.numbered row.output.layer (Dispatched dispatch) later.output.layer w.0)
      (ap (λ (r : OutputSlot (Filtered L F)). r.key) w.1, h.keyed row.output.layer (Dispatched dispatch) later.output.layer w.0)

  pub dispatch_keeps : (dispatch : Option ℕ) (s t : StackValue (Filtered L F)) → RowsBecome (TellsDispatch g h dispatch) s t →
      PreservesFilters s t
  dispatch_keeps dispatch s t w = dispatched_keep (TellsDispatch g h dispatch) (dispatch_steps dispatch) s t w

  taken_keeps : {A : Type 0} (s t : StackValue (Filtered L F)) (r : Result A RequestError) (leaves : StackValue (Filtered L F) → Type 0) →
      (leaves t → PreservesFilters s t) → WhereTaken r s leaves t → PreservesFilters s t
  taken_keeps s t (Ok done) leaves f w = f w
  taken_keeps s t (Err e) leaves f w = keeps_same s t w

  pub record_keeps : (id : ℕ) (values : PlainValues) (at : At) (s t : StackValue (Filtered L F)) (r : Result (Unit {0}) RequestError) →
      RecordGives g h id values at s r t → PreservesFilters s t
  record_keeps id values at s t r w =
      taken_keeps s t r (RowsInTurn (TellsSpan g h (Recorded id values) id at) s)
      (rows_keep s.registry (TellsSpan g h (Recorded id values) id at) (span_steps (Recorded id values) id at) s t) w.1

  pub follows_keeps : (id follows : ℕ) (at : At) (s t : StackValue (Filtered L F)) (r : Result (Unit {0}) RequestError) →
      FollowsGives g h id follows at s r t → PreservesFilters s t
  follows_keeps id follows at s t r w =
      taken_keeps s t r (RowsInTurn (TellsFollows g h id follows at) s)
      (rows_keep s.registry (TellsFollows g h id follows at) (follows_steps id follows at) s t) w.1

  pub enter_keeps : (id : ℕ) (at : At) (s t : StackValue (Filtered L F)) (r : Result (Unit {0}) RequestError) → EnterGives g h id at s r t →
      PreservesFilters s t
  enter_keeps id at s t r w =
      taken_keeps s t r (RowsInTurn (TellsSpan g h (Entered id) id at) (over w.0 s))
      (rows_keep w.0 (TellsSpan g h (Entered id) id at) (span_steps (Entered id) id at) s t) w.2

  -- each filter steps, and numbers and keys stay
  abbrev RowsStepped : List (OutputSlot (Filtered L F)) → List (OutputSlot (Filtered L F)) → Type 0
  RowsStepped rows later = EachBecomes (Steps g) (filters_of rows) (filters_of later) × (numbers_of h later ≡ numbers_of h rows) ×
      EachBecomes SameKeys rows later

  each_closes : (ids : List ℕ) (at : At) (x : RegistryValue) (rows : List (OutputSlot (Filtered L F))) (y : RegistryValue)
      (later : List (OutputSlot (Filtered L F))) → ClosesEach g h ids at x rows y later → RowsStepped rows later
  each_closes [] at x rows y later w = (
    subst (λ l. EachBecomes (Steps g) (filters_of rows) (filters_of l)) (sym w.1) (each_put g (filters_of rows)),
    ap (numbers_of h) w.1,
    subst (EachBecomes SameKeys rows) (sym w.1) (keys_put rows),
  )
  each_closes (id ∷ ids) at x rows y later (told, z, heard, gone) =
      let each = turn_steps (TellsSpan g h (Closed id) id at) (span_steps (Closed id) id at) x rows z told heard in
      let rest = each_closes ids at gone.0 told y later gone.2 in (
        each_then g (filters_of rows) (filters_of told) (filters_of later) (each_steps Stepped (λ row later k. k) rows told each) rest.0,
        rest.1 ∙ each_numbers Stepped (λ row later k. k) rows told each,
        keys_then rows told later (each_keys Stepped (λ row later k. k) rows told each) rest.2,
      )

  closes_keep : (at : At) (x : RegistryValue) (s t : StackValue (Filtered L F)) → Closes g h at (over x s) t → PreservesFilters s t
  closes_keep at x s t w =
      let each = each_closes (ids_of (closing_in x)) at x s.rows t.registry t.rows w.0 in
      record {
        steps = each.0;
        interest_cache = ap (λ (v : StackValue (Filtered L F)). v.interest_cache) w.3;
        hint = ap (λ (v : StackValue (Filtered L F)). v.hint) w.3;
        numbers = each.1;
        keys = each.2;
      }

  pub exit_keeps : (id : ℕ) (at : At) (s t : StackValue (Filtered L F)) → ExitGives g h id at s t → PreservesFilters s t
  exit_keeps id at s t w =
      let x = without_entry s.registry at.lane id in
      keeps_then s w.0 t (rows_keep x (TellsSpan g h (Exited id) id at) (span_steps (Exited id) id at) s w.0 w.1)
      (closes_keep at w.0.registry w.0 t w.2)

  pub close_keeps : (id : ℕ) (at : At) (s t : StackValue (Filtered L F)) (r : Bool) → CloseGives g h id at s r t → PreservesFilters s t
  close_keeps id at s t r w = unless (close_refusal s.registry id) w
    where
      unless : (refusal : Option RequestError) → CloseUnless g h refusal id at s r t → PreservesFilters s t
      unless None w = closes_keep at (without_handle s.registry id) s t w.1
      unless (Some refusal) w = keeps_same s t w.1

  pub clone_keeps : (id : ℕ) (s t : StackValue (Filtered L F)) (r : Result ℕ RequestError) → CloneGives id s r t → PreservesFilters s t
  clone_keeps id s t r w = subst (PreservesFilters s) (sym w.1)
      (record { steps = each_put g (filters_of s.rows); interest_cache = refl; hint = refl; numbers = refl; keys = keys_put s.rows })

  makes_keeps : (a : PlainAttributes) (at : At) (verdicts : List Bool) (s t : StackValue (Filtered L F))
      (r : Result (Option ℕ) RequestError) → MakesSpan g h a at verdicts s r t → PreservesFilters s t
  makes_keeps a at verdicts s t r (Ok id, x, taken, made) = rows_keep x (TellsMade g h (SpanMade a id) id at)
      (made_steps (SpanMade a id) id at) s t made.1
  makes_keeps a at verdicts s t r (Err e, x, taken, made) = keeps_same s t made.1

  event_steps : (e : PlainEvent) (at : At) (x : RegistryValue) (row : OutputSlot (Filtered L F)) (y : RegistryValue)
      (later : OutputSlot (Filtered L F)) → TellsEvent h e at x row y later → Stepped row later
  event_steps e at x row y later w =
      let v = view_of at x row in
      stepped_put row later (ap (λ (r : OutputSlot (Filtered L F)). r.output.filter) w.1) (ap (λ (r : OutputSlot (Filtered L F)). r.id) w.1)
      (told_if row.told row.output.layer (Happened e) v y later.output.layer
      (h.numbered row.output.layer (Happened e v y) later.output.layer) w.0)
      (ap (λ (r : OutputSlot (Filtered L F)). r.key) w.1, told_keys row.told row.output.layer (Happened e) v y later.output.layer w.0)

  asked_steps : (e : PlainEvent) (at : At) (x : RegistryValue) (row asked : OutputSlot (Filtered L F)) →
      AsksEventBy g g.answers e at x row asked → Stepped row asked
  asked_steps e at x row asked w =
      stepped_put row asked (ap (λ (r : OutputSlot (Filtered L F)). r.output.filter) w.2) (ap (λ (r : OutputSlot (Filtered L F)). r.id) w.2)
      (ap (λ (r : OutputSlot (Filtered L F)). h.numbers r.output.layer) w.2)
      (ap (λ (r : OutputSlot (Filtered L F)). r.key) w.2, λ key. ap (λ (r : OutputSlot (Filtered L F)). h.keys r.output.layer key) w.2)

  question_steps : (m : PlainMetadata) (at : At) (x : RegistryValue) (row asked : OutputSlot (Filtered L F)) →
      AsksCallsite g.answers m at x row asked → Stepped row asked
  question_steps m at x row asked w =
      stepped_put row asked (ap (λ (r : OutputSlot (Filtered L F)). r.output.filter) w.1) (ap (λ (r : OutputSlot (Filtered L F)). r.id) w.1)
      (ap (λ (r : OutputSlot (Filtered L F)). h.numbers r.output.layer) w.1)
      (ap (λ (r : OutputSlot (Filtered L F)). r.key) w.1, λ key. ap (λ (r : OutputSlot (Filtered L F)). h.keys r.output.layer key) w.1)

  pub question_keeps : (b : Bool) (m : PlainMetadata) (at : At) (s t : StackValue (Filtered L F)) → MarksUnless g b m at s t →
      PreservesFilters s t
  question_keeps true m at s t w = cleared_keeps s t w
  question_keeps false m at s t w =
      dispatched_keep (AsksCallsite g.answers m at s.registry) (question_steps m at s.registry) s t w

  pub event_unless_keeps : (b : Bool) (e : PlainEvent) (at : At) (s t : StackValue (Filtered L F)) (r : Result (Unit {0}) RequestError) →
      EventUnless g h b e at s r t → PreservesFilters s t
  event_unless_keeps b e at s t r w = known (knows s.registry (explicit_parent e.parent)) b w
    where
      known : (k b : Bool) → WhereKnown k s (TellsUnless g h b e at s) r t → PreservesFilters s t
      known true true w = cleared_keeps s t w.1
      known true false (done, (asked, marks, told)) =
          keeps_then s asked t (dispatched_keep (AsksEventBy g g.answers e at s.registry) (asked_steps e at s.registry) s asked marks)
          (rows_keep asked.registry (TellsEvent h e at) (event_steps e at) asked t told)
      known false b w = keeps_same s t w.1

  pub event_keeps : (e : PlainEvent) (at : At) (s t : StackValue (Filtered L F)) (r : Result (Unit {0}) RequestError) →
      EventCached g h e at s r t → PreservesFilters s t
  event_keeps e at s t r w = event_unless_keeps (is_refused s e.metadata) e at s t r w

  span_where : (b : Bool) (a : PlainAttributes) (at : At) (verdicts : List Bool) (s t : StackValue (Filtered L F))
      (r : Result (Option ℕ) RequestError) → SpanWhere g h b a at verdicts s r t → PreservesFilters s t
  span_where true a at verdicts s t r w = makes_keeps a at verdicts s t r w
  span_where false a at verdicts s t r w = cleared_keeps s t w.1

  pub span_unless_keeps : (b : Bool) (a : PlainAttributes) (at : At) (s t : StackValue (Filtered L F))
      (r : Result (Option ℕ) RequestError) → NewSpanUnless g h b a at s r t → PreservesFilters s t
  span_unless_keeps b a at s t r w = known (knows s.registry (explicit_parent a.parent)) b w
    where
      known : (k b : Bool) → SpanKnown g h k s (SpanUnless g h b a at s) r t → PreservesFilters s t
      known true true w = cleared_keeps s t w.1
      known true false w = span_where w.1 a at w.0 s t r w.3
      known false b w = keeps_same s t w.1

  pub span_keeps : (a : PlainAttributes) (at : At) (s t : StackValue (Filtered L F)) (r : Result (Option ℕ) RequestError) →
      SpanCached g h a at s r t → PreservesFilters s t
  span_keeps a at s t r w = span_unless_keeps (is_refused s a.metadata) a at s t r w
