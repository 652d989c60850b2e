-- Why what holds of every stack does.
use Rattle.std.proofs.Common.{◌≡◌, ◌<◌, ◌==◌, ◌++◌, ◌||◌, ℕ, zero, suc, Bool, true, false, List, [], ◌∷◌, length, map, Option, Some, None}
use Rattle.std.proofs.Common.{Result, Ok, refl, sym, ap, ◌∙◌, subst, arith, inl, inr, true≢false, slice_get, slice_set}
use Rattle.std.proofs.lemmas.Bool.Decides.{nat_tests}
use Rattle.std.proofs.lemmas.List.Folds.{list_any-append}
use Rattle.tracing_core_moments.specs.declared.at.At.{At}
use Rattle.tracing_core_fields.specs.requests.Calls.{DispatchRegistered, CallsiteRegistered, Asked, HintAsked, SpanMade, Recorded}
use Rattle.tracing_core_fields.specs.requests.Calls.{FollowsRecorded, EventAsked, EventDispatched, Entered, Exited, Cloned, Dropped}
use Rattle.tracing_core_fields.specs.requests.Calls.{CloseTried, CurrentAsked}
use Rattle.tracing_core_fields.specs.requests.Lists.{Every}
use Rattle.tracing_core_fields.specs.PlainMetadata.{PlainMetadata}
use Rattle.tracing_core_fields.specs.requests.PlainRequests.{PlainAttributes, PlainEvent, explicit_parent}
use Rattle.tracing_core_fields.specs.declared.requests.refusal.RequestError.{RequestError}
use Rattle.span_registry_layers_store.specs.Registries.{RegistryValue, knows}
use Rattle.span_registry_layers_store.specs.Spans.{is_member}
use Rattle.span_registry_layers_store.specs.Verdicts.{all_pass, or_passes, passes_at}
use Rattle.span_registry_layers_layers.specs.Combined.{Else, Then}
use Rattle.span_registry_layers_layers.specs.Honesty.{One}
use Rattle.span_registry_layers_layers.specs.FilterNumbers.{AreNumbers, SameBut, SameOf}
use Rattle.span_registry_layers_layers.proofs.FilterNumbers.{numbers_first, numbers_second, same_first, same_self}
use Rattle.span_registry_layers_layers.specs.Several.{EachInTurn}
use Rattle.span_registry_layers_layers.specs.declared.filter.Filter.{Ghosts}
use Rattle.span_registry_layers_layers.specs.declared.filtered.Filtered.{Filtered}
use Rattle.span_registry_layers_layers.specs.declared.layer.Layer.{Ghosts as LayerGhosts}
use Rattle.span_registry_layers.specs.CommonAnswers.{AsksFrom, AsksRow, SomePassesBy}
use Rattle.span_registry_layers.specs.Calls.{SpanAfresh, SpanKnown}
use Rattle.span_registry_layers.specs.Numbers.{DroppedSpanTellsNobody, DroppedTellsNobody, NumbersStay, RowSaid, VerdictsAreOwn}
use Rattle.span_registry_layers.specs.OutputSlots.{Afresh, AsksEventBy, EachBecomes, Fresh, TellsEvent, filters_of, marked, numbers_of}
use Rattle.span_registry_layers.specs.OutputSlots.{view_of, with_layer, with_marks}
use Rattle.span_registry_layers.specs.Stacks.{PassesAsked, RowsInTurn, StackValue, TellsAfresh, WhereKnown, cleared, is_refused}
use Rattle.span_registry_layers.specs.Steps.{clone_keeps, close_keeps, dispatch_keeps, enter_keeps, event_keeps, exit_keeps, follows_keeps}
use Rattle.span_registry_layers.specs.Steps.{question_keeps, record_keeps, span_keeps}
use Rattle.span_registry_layers.specs.declared.output_slot.OutputSlot.{OutputSlot}

apart : (m n : ℕ) → (m == n) ≡ false → m ≡ n → ⊥
apart m n h e = grind (arith, nat_tests, h, e)

other_kept : (p : List Bool) (n i : ℕ) (b : Bool) → (n ≡ i → ⊥) → slice_get (slice_set p n b) i ≡ slice_get p i
other_kept [] n i b h = refl
other_kept (x ∷ xs) zero zero b h = absurd (h refl)
other_kept (x ∷ xs) zero (suc i) b h = refl
other_kept (x ∷ xs) (suc n) zero b h = refl
other_kept (x ∷ xs) (suc n) (suc i) b h = other_kept xs n i b (λ e. h (ap suc e))

own_put : (p : List Bool) (n : ℕ) (b : Bool) → n < length p → slice_get (slice_set p n b) n ≡ Some b
own_put [] n b h = absurd (omega arith)
own_put (x ∷ xs) zero b h = refl
own_put (x ∷ xs) (suc n) b h = own_put xs n b (omega arith)

as_long : (p : List Bool) (n : ℕ) (b : Bool) → length (slice_set p n b) ≡ length p
as_long [] n b = refl
as_long (x ∷ xs) zero b = refl
as_long (x ∷ xs) (suc n) b = ap suc (as_long xs n b)

neither : (a b : Bool) → (a || b) ≡ false → (a ≡ false) × (b ≡ false)
neither true b e = absurd (cc)
neither false b e = (refl, e)

no_member : (xs ys : List ℕ) (n : ℕ) → is_member (xs ++ ys) n ≡ false → (is_member xs n ≡ false) × (is_member ys n ≡ false)
no_member xs ys n e = neither (is_member xs n) (is_member ys n) (sym (list_any-append (λ x. x == n) xs ys) ∙ e)

module _ {L F : Type 0} (g : Ghosts F) (h : LayerGhosts L) (m : PlainMetadata) (at : At) (x : RegistryValue) where
  -- other filters' answers stay
  others_stay : (rows : List (OutputSlot (Filtered L F))) (p : List Bool) (some : Bool) (verdicts : List Bool) (result : Bool) →
      AsksFrom g h m at x p some rows verdicts result → SameBut (numbers_of h rows) p verdicts
  others_stay [] p some verdicts result asked n e = ap (λ v. passes_at v n) asked.0
  others_stay (row ∷ rows) p some verdicts result asked n e =
      let b = asked.0 in
      let apart_own = neither (row.id.index == n) (is_member (h.numbers row.output.layer ++ numbers_of h rows) n) e in
      let parts = no_member (h.numbers row.output.layer) (numbers_of h rows) n apart_own.1 in
      others_stay rows asked.1 (some || b) verdicts result asked.3 n parts.1
      ∙ asked.2.1.1 n parts.0 ∙ ap or_passes (other_kept p row.id.index n b (apart row.id.index n apart_own.0))

  long : (rows : List (OutputSlot (Filtered L F))) (p : List Bool) (row : OutputSlot (Filtered L F)) (next : List Bool) (b : Bool) →
      length p ≡ 64 → AsksRow g h m at x row p next b → length next ≡ 64
  long rows p row next b e asked = asked.1.0 ∙ as_long p row.id.index b ∙ e

  own_verdicts : (rows : List (OutputSlot (Filtered L F))) (p : List Bool) (some : Bool) (verdicts : List Bool) (result : Bool) →
      AsksFrom g h m at x p some rows verdicts result → length p ≡ 64 → AreNumbers 64 (numbers_of h rows) →
      Every (RowSaid g h m at x verdicts) rows
  own_verdicts [] p some verdicts result asked e w = tt
  own_verdicts (row ∷ rows) p some verdicts result asked e w =
      let b = asked.0 in
      let next = asked.1 in
      let layer = row.output.layer in
      let own = row.id.index in
      let v = view_of at x row in
      let apart_own = no_member (h.numbers layer) (numbers_of h rows) own w.1 in
      let later = others_stay rows next (some || b) verdicts result asked.3 in
      let below = w.0 in
      let put : slice_get (slice_set p own b) own ≡ Some b = own_put p own b (subst (λ n. own < n) (sym e) below) in
      let said : passes_at verdicts own ≡ b = later own apart_own.1 ∙ asked.2.1.1 own apart_own.0 ∙ ap or_passes put in
      let size : length (slice_set p own b) ≡ 64 = as_long p own b ∙ e in
      let numbers : AreNumbers (length (slice_set p own b)) (h.numbers layer) = subst (λ n. AreNumbers n (h.numbers layer)) (sym size)
      (numbers_first 64 (h.numbers layer) (numbers_of h rows) w.2) in
      let same : SameOf (h.numbers layer) next verdicts = same_first 64 (h.numbers layer) (numbers_of h rows) next verdicts verdicts w.2
      later (same_self (h.numbers layer ++ numbers_of h rows) verdicts) in
      let heard = asked.2.1.2 in (
        (
          subst (g.answers row.output.filter m v) (sym said) asked.2.0,
          (heard.0, subst (λ (answer : Bool). h.kept layer m v answer verdicts heard.0) (sym said) (heard.1 verdicts numbers same)),
        ),
        own_verdicts rows next (some || b) verdicts result asked.3 (long rows p row next b e asked.2)
            (numbers_second 64 (h.numbers layer) (numbers_of h rows) w.2),
      )

fresh_one : (P : Bool → Type 0) → One P → One (Fresh P)
fresh_one P one a b (inl x) (inl y) = one a b x y
fresh_one P one a b (inl x) (inr y) = y.1 a x ∙ sym y.0
fresh_one P one a b (inr x) (inl y) = x.0 ∙ sym (x.1 b y)
fresh_one P one a b (inr x) (inr y) = x.0 ∙ sym y.0

-- where nobody passes, nobody did so far
refused_here : (p : Bool) (Q : Bool → Type 0) → Else Q p false → (p ≡ false) × Q false
refused_here true Q w = absurd (true≢false (sym w))
refused_here false Q w = (refl, w)

module _ {L F : Type 0} (g : Ghosts F) (h : LayerGhosts L) where
  pub verdicts_own : VerdictsAreOwn g h
  verdicts_own m at s verdicts some w asked = own_verdicts g h m at s.registry s.rows all_pass false verdicts some asked refl w

  -- where nothing but the rows counts, equal stacks have equal numbers
  numbers_alike : (s t : StackValue (Filtered L F)) → t ≡ s → numbers_of h t.rows ≡ numbers_of h s.rows
  numbers_alike s t e = ap (λ (v : StackValue (Filtered L F)). numbers_of h v.rows) e

  pub numbers_same : NumbersStay g h
  numbers_same s (DispatchRegistered dispatch) r t m = (dispatch_keeps g h dispatch s t m).numbers
  numbers_same s (CallsiteRegistered n) r t m = numbers_alike (record s { interest_cache = t.interest_cache }) t m.1.1
  numbers_same s (Asked n at) r t m = (question_keeps g h (is_refused s n) n at s t m.0).numbers
  numbers_same s HintAsked r t m = numbers_alike (record s { hint = r }) t m.1
  numbers_same s (SpanMade a at) r t m = (span_keeps g h a at s t r m).numbers
  numbers_same s (Recorded id values at) r t m = (record_keeps g h id values at s t r m).numbers
  numbers_same s (FollowsRecorded id follows at) r t m = (follows_keeps g h id follows at s t r m).numbers
  numbers_same s (EventAsked e at) r t m = numbers_alike s t m.1
  numbers_same s (EventDispatched e at) r t m = (event_keeps g h e at s t r m).numbers
  numbers_same s (Entered id at) r t m = (enter_keeps g h id at s t r m).numbers
  numbers_same s (Exited id at) r t m = (exit_keeps g h id at s t m).numbers
  numbers_same s (Cloned id at) r t m = (clone_keeps g h id s t r m).numbers
  numbers_same s (Dropped id at) r t m = (close_keeps g h id at s t m.0 m.1).numbers
  numbers_same s (CloseTried id at) r t m = (close_keeps g h id at s t r m).numbers
  numbers_same s (CurrentAsked at) r t m = numbers_alike s t m.1

  -- a filter that is asked again answers as another such answer did
  asked_as : (e : PlainEvent) (at : At) (x : RegistryValue) (row asked : OutputSlot (Filtered L F)) → g.honest row.output.filter →
      AsksEventBy g (Afresh g) e at x row asked → Afresh g row.output.filter e.metadata (view_of at x row) false → asked ≡ marked false row
  asked_as e at x row asked honest w quiet =
      let P = g.answers row.output.filter e.metadata (view_of at x row) in
      let passed : asked.passed ≡ false = fresh_one P ((g.single row.output.filter honest).callsite e.metadata (view_of at x row))
      asked.passed false w.0 quiet in
      let told : asked.told ≡ false = subst (λ b. Then (g.event_answers row.output.filter e (view_of at x row)) b asked.told) passed w.1 in
      w.2 ∙ ap (λ b. with_marks b asked.told row) passed ∙ ap (λ b. with_marks false b row) told

  all_unasked : (e : PlainEvent) (at : At) (x : RegistryValue) (rows asked : List (OutputSlot (Filtered L F))) →
      Every (λ f. g.honest f) (filters_of rows) → SomePassesBy (Afresh g) e.metadata at x rows false →
      EachBecomes (AsksEventBy g (Afresh g) e at x) rows asked → asked ≡ map (marked false) rows
  all_unasked e at x [] [] honest quiet w = refl
  all_unasked e at x [] (l ∷ ls) honest quiet w = absurd w
  all_unasked e at x (r ∷ rs) [] honest quiet w = absurd w
  all_unasked e at x (r ∷ rs) (l ∷ ls) honest quiet w =
      let refused = refused_here quiet.0 (SomePassesBy (Afresh g) e.metadata at x rs) quiet.2 in
      let first = asked_as e at x r l honest.0 w.0 (subst (Afresh g r.output.filter e.metadata (view_of at x r)) refused.0 quiet.1) in
      ap (λ row. row ∷ ls) first ∙ ap (λ rows. marked false r ∷ rows) (all_unasked e at x rs ls honest.1 refused.1 w.1)

  all_untold : (e : PlainEvent) (at : At) (x : RegistryValue) (rows : List (OutputSlot (Filtered L F))) (y : RegistryValue)
      (later : List (OutputSlot (Filtered L F))) → EachInTurn (TellsEvent h e at) x (map (marked false) rows) y later →
      (later ≡ map (marked false) rows) × (y ≡ x)
  all_untold e at x [] y [] told = (refl, told)
  all_untold e at x [] y (l ∷ ls) told = absurd told
  all_untold e at x (r ∷ rs) y [] told = absurd told
  all_untold e at x (r ∷ rs) y (l ∷ ls) (z, told, rest) =
      let later = all_untold e at x rs y ls (subst (λ (q : RegistryValue). EachInTurn (TellsEvent h e at) q (map (marked false) rs) y ls)
      told.0.1 rest) in (
        ap (λ row. row ∷ ls) (told.1 ∙ ap (λ layer. with_layer layer (marked false r)) told.0.0) ∙
            ap (λ rows. marked false r ∷ rows) later.0,
        later.1,
      )

  tells_nobody : (b : Bool) (e : PlainEvent) (at : At) (s t : StackValue (Filtered L F)) → Every (λ f. g.honest f) (filters_of s.rows) →
      PassesAsked g s e.metadata at false → WhereKnown b s (TellsAfresh g h e at s) (Ok tt) t → t ≡ cleared s
  tells_nobody true e at s t honest quiet (done, (asked, marks, told)) =
      let same : asked ≡ cleared s = marks.1 ∙ ap (λ (rows : List (OutputSlot (Filtered L F))). record s { rows = rows })
      (all_unasked e at s.registry s.rows asked.rows honest quiet marks.0) in
      let heard = subst (λ q. RowsInTurn (TellsEvent h e at) q t) same told in
      let all = all_untold e at s.registry s.rows t.registry t.rows heard.0 in
      heard.1 ∙ ap (λ (rows : List (OutputSlot (Filtered L F))). record s { registry = t.registry; rows = rows }) all.0 ∙
      ap (λ (x : RegistryValue). record s { registry = x; rows = map (marked false) s.rows }) all.1
  tells_nobody false e at s t honest quiet given = absurd (cc)

  pub nobody_told : DroppedTellsNobody g h
  nobody_told e at s t honest quiet given = tells_nobody (knows s.registry (explicit_parent e.parent)) e at s t honest quiet given

  -- where no filter passes it, none is found that does
  none_found : (m : PlainMetadata) (at : At) (x : RegistryValue) (rows : List (OutputSlot (Filtered L F))) (p : List Bool) (some : Bool)
      (verdicts : List Bool) (result : Bool) → Every (λ f. g.honest f) (filters_of rows) →
      SomePassesBy (Afresh g) m at x rows false → AsksFrom g h m at x p some rows verdicts result → some ≡ false → result ≡ false
  none_found m at x [] p some verdicts result honest quiet asked e = asked.1 ∙ e
  none_found m at x (row ∷ rows) p some verdicts result honest quiet asked e =
      let refused = refused_here quiet.0 (SomePassesBy (Afresh g) m at x rows) quiet.2 in
      let P = g.answers row.output.filter m (view_of at x row) in
      let same : asked.0 ≡ quiet.0 = fresh_one P ((g.single row.output.filter honest.0).callsite m (view_of at x row)) asked.0 quiet.0
      (inl asked.2.0) quiet.1 in
      none_found m at x rows asked.1 (some || asked.0) verdicts result honest.1 refused.1 asked.3 (ap (λ b. b || asked.0) e ∙ same ∙
      refused.0)

  is_dropped : (a : PlainAttributes) (at : At) (s : StackValue (Filtered L F)) (r : Result (Option ℕ) RequestError)
      (t : StackValue (Filtered L F)) → Every (λ f. g.honest f) (filters_of s.rows) → PassesAsked g s a.metadata at false →
      SpanAfresh g h a at s r t →
      (r ≡ Ok None) × (t ≡ cleared s)
  is_dropped a at s r t honest quiet (inl w) = (w.1, w.2)
  is_dropped a at s r t honest quiet (inr w) =
      absurd (true≢false (none_found a.metadata at s.registry s.rows all_pass false w.0 true honest quiet w.1 refl))

  pub span_dropped : DroppedSpanTellsNobody g h
  span_dropped a at s r t honest quiet known given =
      is_dropped a at s r t honest quiet (subst (λ k. SpanKnown g h k s (SpanAfresh g h a at s) r t) known given)
